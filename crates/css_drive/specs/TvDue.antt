-- Which call a television's run has to make next: a function of what its calls did so far.
use Rattle.std.specs.Prelude.{ℕ, ◌+◌, nat_lt, List, [], ◌∷◌, filter, if◌then◌else◌, Option, Some, None}
use Rattle.css_model.specs.declared.Why.TheVariants as why
use Rattle.css_model.specs.History.{History}
use Rattle.css_tv.specs.declared.event.TvOut.{TvOut}
use Rattle.css_tv.specs.declared.event.TvOut.TheVariants as out
use Rattle.css_tv.specs.declared.fault.TvFault.{TvFault}
use Rattle.css_tv.specs.declared.fault.TvFault.TheVariants as fault
use Rattle.css_schedule.specs.declared.fault.LineWhy.TheVariants as line_why
use Rattle.css_schedule.specs.declared.line.ScriptLine.{ScriptLine}
use Rattle.css_drive.specs.Proper.{Due, Listen, Now, Accept, SendDatagram, TakeDatagram, TakeText, SendText, HangUp}
use Rattle.css_drive.specs.Proper.{Ends}
use Rattle.css_drive.specs.TvProgress.{Place, Begins, Listens, Turned, Taken, Received, Answers, Served, Asked, Over}
use Rattle.css_drive.specs.TvProgress.{Progress, is_over, goes_on, open_after, addresses_in, progress_of}
pub use Rattle.css_drive.specs.TvProgress.{TvRun}
use Rattle.css_drive.specs.declared.driven.Driven.{Driven}
use Rattle.css_drive.specs.declared.driven.Driven.TheVariants as driven
use Rattle.css_drive.specs.declared.turns.Turns.{Turns}
use Rattle.css_drive.specs.declared.tv_config.TvDrive.{TvDrive}

-- the run of a configuration with a script
abbrev pub run_of : TvDrive → List ScriptLine → TvRun
run_of drive script = record {
  config = drive.tv;
  limit = drive.limit;
  relative = drive.relative;
  script = script;
}

-- those of the peers that come after the last one
abbrev pub above : Option ℕ → List ℕ → List ℕ
above None peers = peers
above (Some last) peers = filter (λ peer. nat_lt last peer) peers

-- ---- the steps of a turn, the last first: what is due from there on
-- the open sessions are hung up in order of peer, and the run is done
abbrev pub from_hang_ups : List ℕ → Due
from_hang_ups [] = Ends driven.Done
from_hang_ups (peer ∷ peers) = HangUp peer

-- the next turn, if there is one
abbrev pub from_end : Turns → List ℕ → Due
from_end turns live = if goes_on turns then Now why.Turn else from_hang_ups live

-- each open session is asked for a text in order of peer
abbrev pub from_texts : Turns → List ℕ → List ℕ → Due
from_texts turns live [] = from_end turns live
from_texts turns live (peer ∷ peers) = TakeText peer

-- a datagram is taken unless the turn is the last by its time
abbrev pub due_at : TvRun → List ℕ → Turns → Place → Due
due_at run live turns Begins = Listen run.config.host run.config.port
due_at run live turns Listens = from_end turns live
due_at run live turns (Turned reading) = if is_over turns then from_hang_ups live else TakeDatagram
due_at run live turns (Taken peer bytes) = Now why.Take
due_at run live turns (Received peer ticket) = Now why.Give
due_at run live turns (Answers peer []) = Accept
due_at run live turns (Answers peer (datagram ∷ datagrams)) = SendDatagram peer datagram
due_at run live turns Served = Accept
due_at run live turns (Asked last) = from_texts turns live (above last live)
due_at run live turns (Over last) = from_hang_ups (above (Some last) live)

-- what a step has the television do is done first, in order
abbrev pub unless_owed : List TvOut → Due → Due
unless_owed [] rest = rest
unless_owed (out.Say peer text ∷ owed) rest = SendText peer text
unless_owed (out.HangUp peer ∷ owed) rest = HangUp peer

-- how a run ends whose line after so many is refused
abbrev pub bad_line : ℕ → TvFault → Driven
bad_line before (fault.Player player_fault) = driven.BadLine (before + 1) (line_why.Player player_fault)
bad_line before fault.Memory = driven.Memory

-- a line that the player refuses ends the run at once
abbrev pub unless_refused : ℕ → Option TvFault → Due → Due
unless_refused before None rest = rest
unless_refused before (Some fault) rest = Ends (bad_line before fault)

abbrev pub due_for : TvRun → Progress → Due
due_for run p = unless_refused p.carried p.refused (unless_owed p.owed
    (due_at run (open_after (addresses_in run.config) p.events) p.turns p.place))

-- what is due after a history
abbrev pub due : TvRun → History → Due
due run h = due_for run (progress_of run h)
