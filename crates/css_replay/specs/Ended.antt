-- How a replay ends, as a status, and what it does to its devices.
use Rattle.std.specs.Prelude.{ℕ}
use Rattle.css_lines.specs.declared.reader.Refusal.{Refusal}
use Rattle.css_lines.specs.declared.reader.Refusal.TheVariants.{Refused}
use Rattle.css_lines.specs.declared.reader.Refusal.TheVariants as refusals
use Rattle.css_schedule.specs.declared.fault.LineWhy.TheVariants.{Long, Form, Absent, Player}
use Rattle.css_status.specs.Devices.{SourceUse, SinkUse}
use Rattle.css_status.specs.Ended.{OverLines}
use Rattle.css_status.specs.declared.status.Status.{Status}
use Rattle.css_status.specs.declared.status.Status.TheVariants.{BadLine, Broken}
use Rattle.css_replay.specs.declared.reader.Cause.{Cause}
use Rattle.css_replay.specs.declared.reader.Cause.TheVariants as causes
use Rattle.css_replay.specs.Headline.{Promised}
use Rattle.css_replay.specs.Replayed.{replayed}

-- the status of a replay that refused a line
abbrev pub replay_refused : ℕ → Refusal Cause → Status
replay_refused line refusals.Long = BadLine line Long
replay_refused line (Refused causes.Form) = BadLine line Form
replay_refused line (Refused causes.Absent) = BadLine line Absent
replay_refused line (Refused (causes.Player fault)) = BadLine line (Player fault)
replay_refused line (Refused (causes.Broken earlier excess)) = Broken line earlier excess

-- It is a run over the lines of a schedule. Whatever the source, what the sink gained keeps the promise of `Headline`:
-- each interval of ticks contains the position that the last control timestamp received assigns to the value that its line
-- gives the television's wall clock, and comes from the narrowest accepted response; lacking a response or usable
-- timestamp the cause is printed. Once told, the companion's state of the content is one that the television published.
pub record ByReplay (source : SourceUse) (sink : SinkUse) (result : Status) : Type 0 where
  pub lines : OverLines replayed replay_refused source sink result
  pub promise : Promised source.left_old source.left_new sink.holds_old sink.holds_new
