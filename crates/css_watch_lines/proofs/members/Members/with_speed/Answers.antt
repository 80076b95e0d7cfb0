use Rattle.std.proofs.Common.{◌∙◌, ap, sym, subst, w32, rules}
use Rattle.std.proofs.lemmas.Int.{to_z-of_z}
use Rattle.css_watch_lines.specs.Lines.{signed}
use Rattle.css_watch_lines.specs.Writable.{IsWritable}
use Rattle.css_watch_lines.proofs.Writable.{signed_writable}
use Rattle.css_watch_lines.proofs.members.Members.with_speed.Goals as goal

pub with_value-requires-clause-value : goal.with_value-requires-clause-value
with_value-requires-clause-value c =
    subst IsWritable (sym (c.from-value.ensures ∙ ap signed (to_z-of_z w32 c.args.speed (search rules))))
    (signed_writable c.args.speed (search rules))
