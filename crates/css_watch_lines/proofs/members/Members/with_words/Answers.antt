use Rattle.std.proofs.Common.{sym, subst}
use Rattle.css_watch_lines.specs.Writable.{IsWritable}
use Rattle.css_watch_lines.proofs.Writable.{words_writable}
use Rattle.css_watch_lines.proofs.members.Members.with_words.Goals as goal

pub with_value-requires-clause-value : goal.with_value-requires-clause-value
with_value-requires-clause-value c = subst IsWritable (sym c.in_ok-value.ensures) (words_writable c.args.words.now)
