use Rattle.std.proofs.Common.{sym, subst}
use Rattle.css_watch_lines.specs.Writable.{IsWritable}
use Rattle.css_watch_lines.proofs.Writable.{between_writable}
use Rattle.css_watch_lines.proofs.members.Members.with_between.Goals as goal

pub with_value-requires-clause-value : goal.with_value-requires-clause-value
with_value-requires-clause-value c =
    subst IsWritable (sym c.in_ok-value.ensures.value)
    (between_writable c.args.between.now c.in_ok-value.ensures.above c.in_ok-value.ensures.below)
