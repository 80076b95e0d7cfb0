-- What a companion tells at a line is what the lines before it tell; and what it may be asked.
use Rattle.std.proofs.Common.{◌≡◌, ℕ, ℤ, arith, List, refl, ap, sym, ◌∙◌, Option, Some, None}
use Rattle.css_num.specs.Spans.{Interval}
use Rattle.css_span.specs.WallSpans.{wall_span}
use Rattle.css_companion.specs.Meanings.{report_after, assigned_after}
use Rattle.css_companion.specs.Standing as companions
use Rattle.css_companion.specs.declared.report.Report.{Report}
use Rattle.css_meaning.specs.Verdicts.{local_of}
use Rattle.css_world.specs.declared.lane.Lane.{Lane}
use Rattle.css_world.specs.Asked.{MayBeAsked}
use Rattle.css_world.specs.Standing.{World, Kept, IsReady, StandsFor}
use Rattle.css_world.proofs.Names.{Local, History, accepted_answers, Setup, Numbered, history_of, stored, IsCompanionOf}
use Rattle.css_world.proofs.Names.{span_at, report_at, assigned_at}
use Rattle.css_world.proofs.Numbers.{stored_within, stored_there}

-- the span that it tells of the wall clock
pub span_told : (world : Kept) (lines : List Numbered) (who : ℕ) (lane : Lane) (reading : ℕ) (told : Option Interval)
    → IsReady world lines → stored world.lanes who ≡ Some lane
    → ((history : History) → companions.StandsFor lane.companion history
    → told ≡ wall_span (companions.own_of lane.companion) reading
    (accepted_answers (companions.own_of lane.companion) history))
    → told ≡ span_at who world.header lines reading
span_told world lines who lane reading told ready found tells =
    let history = history_of who world.header lines in
    let is = ready.are.lanes who lane found in
    tells history (ready.ends.lanes who lane found).companion
    ∙ ap (λ (own : Local). wall_span own reading (accepted_answers own history)) is.own

-- its report
pub report_told : (world : Kept) (lines : List Numbered) (who : ℕ) (lane : Lane) (reading : ℕ) (told : Report)
    → IsReady world lines → stored world.lanes who ≡ Some lane
    → ((history : History) → companions.StandsFor lane.companion history
    → told ≡ report_after (companions.own_of lane.companion) lane.companion.setup.selector history reading)
    → told ≡ report_at who world.header lines reading
report_told world lines who lane reading told ready found tells =
    let history = history_of who world.header lines in
    let is = ready.are.lanes who lane found in
    tells history (ready.ends.lanes who lane found).companion
    ∙ ap (λ (own : Local). report_after own lane.companion.setup.selector history reading) is.own
    ∙ ap (λ (setup : Setup). report_after (local_of who world.header) setup.selector history reading) is.setup

-- the position that it assigns to a value of the wall clock
pub position_told : (world : Kept) (lines : List Numbered) (who : ℕ) (lane : Lane) (wall : ℕ) (told : Option ℤ)
    → IsReady world lines → stored world.lanes who ≡ Some lane
    → ((history : History) → companions.StandsFor lane.companion history
    → told ≡ assigned_after lane.companion.setup.selector history wall)
    → told ≡ assigned_at who world.header lines wall
position_told world lines who lane wall told ready found tells =
    let history = history_of who world.header lines in
    let is = ready.are.lanes who lane found in
    tells history (ready.ends.lanes who lane found).companion
    ∙ ap (λ (setup : Setup). assigned_after setup.selector history wall) is.setup

-- ---- what it may be asked
-- a companion of the world may be asked from the least next reading of its clock on
pub may_be_asked : (world : World) (lines : List Numbered) (who : ℕ) (lane : Lane) → StandsFor world lines
    → stored world.ends.lanes.list.items who ≡ Some lane → MayBeAsked world lines who lane.companion
may_be_asked world lines who lane stands found =
    let are = stands.ready.are in
    let is = are.lanes who lane found in
    let within = stored_within world.ends.lanes.list.items who lane found in record {
      number = record { first = within.0; within = omega (arith, within.1, are.count) };
      lane = lane;
      is = found;
      same = refl;
      own = is.own;
      setup = is.setup;
      floor = is.floor;
    }

-- where no lane has the number, no companion has it
pub none_asked : (world : World) (lines : List Numbered) (who : ℕ) → StandsFor world lines
    → stored world.ends.lanes.list.items who ≡ None → IsCompanionOf world.header who → ⊥
none_asked world lines who stands none number =
    let there = stored_there world.ends.lanes.list.items who number.first
    (omega (arith, number.within, stands.ready.are.count)) in
    let same : Some there.0 ≡ None = sym there.1 ∙ none in
    cc
