-- What a relay comes to: its visits, one after another.
use Rattle.std.specs.Prelude.{◌≡◌, ◌⊎◌, ℕ, false, List, [], ◌∷◌, ◌++◌, length, ⊤, ◌||◌, is_some, Option, Some, None}
use Rattle.std.specs.Option.{option_to_list}
use Rattle.std.specs.Str.{IsUtf8}
use Rattle.css_model.specs.Explains.{IsLawful}
use Rattle.css_model.specs.History.{History, HungUp, Listening}
use Rattle.css_outside.specs.Outsides.{Counts, with_entries}
use Rattle.css_drive.specs.CompanionStanding.{IsFault}
use Rattle.css_drive.specs.TvRan.{AreNumbered}
use Rattle.css_drive.specs.Ends.{MayEnd, CountsNetFault, CountsDialFaults}
use Rattle.css_drive.specs.Visits.{AreFollowed, Visit, Visiting, begun_after, entries_of, last_entries, most_visits}
use Rattle.css_drive.specs.Visits.{why}
use Rattle.css_drive.specs.declared.driven.Driven.{Driven}
use Rattle.css_drive.specs.declared.driven.Driven.TheVariants as driven
use Rattle.css_drive_relay.specs.Due.{due, IsProperRelay}
use Rattle.css_drive_relay.specs.Places.{Facts, progress_of}
use Rattle.css_drive_relay.specs.declared.begun.Begun.{Begun}
use Rattle.css_drive_relay.specs.declared.config.RelayRun.{RelayRun}
use Rattle.css_drive_relay.specs.declared.plan.Plan.{Plan}

-- the texts of a run's configuration are UTF-8
pub record IsWritable (run : RelayRun) : Type 0 where
  pub selector : IsUtf8 run.companion.selector
  pub stem : IsUtf8 run.companion.stem
  pub host : IsUtf8 run.host

-- ---- a visit
-- what a visit is to do that follows these
abbrev pub plan_of : RelayRun → Begun → Plan
plan_of run begun = record { run = run; begun = begun }

-- no visit was begun
abbrev pub nothing_begun : Begun
nothing_begun = record { turns = 0; first = None; turn = None; reached = false }

-- The calls of a visit's run are these, the newest first, and each was due. The requests among them are lawful, each
-- peer that was accepted has a greater number than those before it, and the run ended where it may.
pub record IsVisit (plan : Plan) (visit : Visit) : Type 0 where
  pub proper : IsProperRelay plan visit.history
  pub lawful : IsLawful visit.history
  pub numbered : AreNumbered visit.history
  pub ends : MayEnd (due plan visit.history) visit.ended

-- how far a visit came
abbrev pub facts_after : Plan → Visit → Facts
facts_after plan visit = (progress_of plan visit.history).facts

-- the hang-ups of these sessions, in their order
abbrev pub hung_all : List ℕ → History
hung_all [] = []
hung_all (peer ∷ peers) = hung_all peers ++ HungUp peer ∷ []

-- those of the sessions that are open: the accepted ones in the order in which they came, and then the television's
abbrev pub hang_ups : Facts → History
hang_ups f = hung_all (f.peers ++ option_to_list f.television)

-- what goes over to the visit that follows this one
abbrev pub begun_by : Plan → Facts → Begun
begun_by plan f =
    record { turns = f.turns; first = f.first; turn = f.turn; reached = plan.begun.reached || is_some f.cii }

-- ---- visits
-- What visits are to a relay: the plan of each is its configuration and what went before.
abbrev pub visits_of : RelayRun → Visiting Begun
visits_of run = record {
  first = nothing_begun;
  is_visit = λ begun visit. IsVisit (plan_of run begun) visit;
  parting = λ begun visit. (facts_after (plan_of run begun) visit).parting;
  hang_ups = λ begun visit. hang_ups (facts_after (plan_of run begun) visit);
  next = λ begun visit. begun_by (plan_of run begun) (facts_after (plan_of run begun) visit);
}

-- No other visit follows, and the open sessions were hung up.
pub record IsOver (plan : Plan) (visit : Visit) (ended : Driven) : Type 0 where
  pub no_cause : why visit.ended (facts_after plan visit).parting ≡ None
  pub ended_so : ended ≡ visit.ended
  pub hangs : visit.hung ≡ hang_ups (facts_after plan visit)

-- A fault ended the relay: that of the visit's run, or one that came as the open sessions were hung up.
pub record IsBroken (plan : Plan) (visit : Visit) (ended : Driven) : Type 0 where
  pub fault : IsFault ended
  pub left : History
  pub hangs : hang_ups (facts_after plan visit) ≡ left ++ visit.hung

-- the last visit
pub record IsLast (plan : Plan) (visit : Visit) (ended : Driven) : Type 0 where
  pub visited : IsVisit plan visit
  pub ends : IsOver plan visit ended ⊎ IsBroken plan visit ended

-- How a relay ends whose visits but for the last were followed by others: with the last, or after so many, in each of
-- which CSS-CII was dialled.
abbrev pub IsEnd : RelayRun → List Visit → Option Visit → Driven → Type 0
IsEnd run visits (Some last) ended = IsLast (plan_of run (begun_after (visits_of run) visits)) last ended
IsEnd run visits None ended = (length visits ≡ most_visits) × (ended ≡ driven.Done)

-- It listened, and its calls since are those of its visits.
pub record HasStayed (run : RelayRun) (start told : Option History) (ended : Driven) : Type 0 where
  pub visits : List Visit
  pub followed : AreFollowed (visits_of run) visits
  pub last : Option Visit
  pub is_end : IsEnd run visits last ended
  pub grew : told
      ≡ with_entries ((last_entries last ++ entries_of visits) ++ Listening run.host run.port ∷ []) start

-- It can't have listened, for a fault.
pub record NeverListened (start told : Option History) (ended : Driven) : Type 0 where
  pub told_so : told ≡ start
  pub fault : IsFault ended

abbrev pub RelayRan : RelayRun → Option History → Option History → Driven → Type 0
RelayRan run start told ended = HasStayed run start told ended ⊎ NeverListened start told ended

-- ---- counts
-- a relay's end: no text, datagram or closing of the television is one
abbrev pub IsRelayEnd : Driven → Type 0
IsRelayEnd driven.Done = ⊤
IsRelayEnd (driven.Unreachable turns) = ⊤
IsRelayEnd ended = IsFault ended

-- What the relay counted: faults of calls other than dials at `NetFault` alone, and a failed dial where every dial of
-- CSS-CII failed.
pub record CountsRelayRun (before now : Counts) (ended : Driven) : Type 0 where
  pub faults : CountsNetFault before.faults now.faults ended
  pub dials : CountsDialFaults before.dial_faults now.dial_faults ended
  pub kind : IsRelayEnd ended
