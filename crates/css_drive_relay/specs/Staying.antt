-- How single visits come to what a relay comes to.
use Rattle.std.specs.Prelude.{◌≡◌, ◌≤◌, ℕ, List, ◌++◌, length, Option, IfSome, false, ⊤}
use Rattle.css_outside.specs.Faults.{HasRisen}
use Rattle.css_outside.specs.Outsides.{Counts, with_entries}
use Rattle.css_drive.specs.CompanionStanding.{Shown, IsFault}
use Rattle.css_drive.specs.Ends.{CountsNetFault}
use Rattle.css_drive.specs.Visits.{AreFollowed, IsFollowed, Visit, begun_after, entries_of, last_entries}
use Rattle.css_drive.specs.declared.driven.Driven.{Driven}
use Rattle.css_drive.specs.declared.driven.Driven.TheVariants as driven
use Rattle.css_drive_relay.specs.Ran.{IsEnd, IsLast, IsRelayEnd, begun_by, facts_after, visits_of}
use Rattle.css_drive_relay.specs.declared.begun.Begun.{Begun}
use Rattle.css_drive_relay.specs.declared.config.RelayRun.{RelayRun}
use Rattle.css_drive_relay.specs.declared.plan.Plan.{Plan}
use Rattle.css_drive_relay.specs.declared.visits.Visited.{Visited}
use Rattle.css_drive_relay.specs.declared.visits.Visited.TheVariants as visited

-- ---- a visit
-- another one follows, to which this goes over
pub record GoesOn (plan : Plan) (start now : Shown) (next : Begun) : Type 0 where
  pub visit : Visit
  pub followed : IsFollowed (visits_of plan.run) plan.begun visit
  pub next_so : next ≡ begun_by plan (facts_after plan visit)
  pub told : now.told ≡ with_entries (visit.hung ++ visit.history) start.told
  pub faults : now.counts.faults ≡ start.counts.faults

-- none does
pub record IsDone (plan : Plan) (start now : Shown) (ended : Driven) : Type 0 where
  pub visit : Visit
  pub last : IsLast plan visit ended
  pub told : now.told ≡ with_entries (visit.hung ++ visit.history) start.told
  pub faults : CountsNetFault start.counts.faults now.counts.faults ended
  pub kind : IsRelayEnd ended

abbrev pub Makes : Plan → Shown → Shown → Visited → Type 0
Makes plan start now (visited.Next next) = GoesOn plan start now next
Makes plan start now (visited.Over ended) = IsDone plan start now ended

-- ---- turns and dials
-- one has a first turn only where it has turns
abbrev pub HasTurns : Begun → Type 0
HasTurns begun = IfSome begun.first (λ _. 1 ≤ begun.turns)

-- it holds of what goes over to the next visit
abbrev pub Begins : (Begun → Type 0) → Visited → Type 0
Begins P (visited.Next next) = P next
Begins P (visited.Over ended) = ⊤

abbrev pub BeginsBy : Begun → Visited → Type 0
BeginsBy begun result = Begins (λ next. next ≡ begun) result

-- a relay is unreachable only where the run of its last visit is
abbrev pub EndsBy : Driven → Visited → Type 0
EndsBy ended (visited.Next next) = IsFault ended → ⊥
EndsBy ended (visited.Over (driven.Unreachable turns)) = ended ≡ driven.Unreachable turns
EndsBy ended (visited.Over last) = ⊤

-- Where no dial of CSS-CII succeeded in the turns so far, one failed.
abbrev pub HasTriedBy : Counts → Counts → Begun → Type 0
HasTriedBy before now begun = 1 ≤ begun.turns → begun.reached ≡ false → HasRisen before.dial_faults now.dial_faults

abbrev pub CountsTries : Counts → Counts → Visited → Type 0
CountsTries before now (visited.Next next) = HasTriedBy before now next
CountsTries before now (visited.Over (driven.Unreachable turns)) = HasRisen before.dial_faults now.dial_faults
CountsTries before now (visited.Over ended) = ⊤

-- ---- all visits
-- each of the visits so far is followed by another one, which comes next
pub record SoFar (run : RelayRun) (begun : Begun) (start now : Shown) (count : ℕ) : Type 0 where
  pub visits : List Visit
  pub followed : AreFollowed (visits_of run) visits
  pub begun_so : begun ≡ begun_after (visits_of run) visits
  pub told : now.told ≡ with_entries (entries_of visits) start.told
  pub faults : now.counts.faults ≡ start.counts.faults
  pub counted : length visits ≡ count

-- the visits were made, to the last of them
pub record Stays (run : RelayRun) (start now : Shown) (ended : Driven) : Type 0 where
  pub visits : List Visit
  pub followed : AreFollowed (visits_of run) visits
  pub last : Option Visit
  pub is_end : IsEnd run visits last ended
  pub told : now.told ≡ with_entries (last_entries last ++ entries_of visits) start.told
  pub faults : CountsNetFault start.counts.faults now.counts.faults ended
  pub kind : IsRelayEnd ended
