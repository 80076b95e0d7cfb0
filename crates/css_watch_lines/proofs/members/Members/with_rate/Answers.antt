use Rattle.std.proofs.Common.{sym, subst}
use Rattle.css_watch_lines.specs.Writable.{IsWritable}
use Rattle.css_watch_lines.proofs.Writable.{rate_writable}
use Rattle.css_watch_lines.proofs.members.Members.with_rate.Goals as goal

pub with_value-requires-clause-value : goal.with_value-requires-clause-value
with_value-requires-clause-value c =
    subst IsWritable (sym c.in_ok-value.ensures.value) (rate_writable c.args.rate c.in_ok-value.ensures.in_range)
