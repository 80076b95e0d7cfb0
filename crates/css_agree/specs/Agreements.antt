-- What answers say together of the wall clock, and what is promised of it.
use Rattle.std.specs.Prelude.{ℕ, pos, ◌≡◌, ◌≤◌, ◌≤ℤ◌, ◌<ℤ◌, ⊤, [], All, Contains}
use Rattle.css_num.specs.Spans.{Interval, Covers}
use Rattle.css_model.specs.Numbers.{max_error}
use Rattle.css_model.specs.WallClock.{Answer, Local, lo, hi, scaled_width}
use Rattle.css_model.specs.World.{World, Errors, IsWorldFor, Reads}
use Rattle.css_model.specs.Truth.{Exchange, IsTimed}
use Rattle.css_span.specs.Frontiers.{Answers}
use Rattle.css_agree.specs.declared.agreed.Agreed.{Agreed}
use Rattle.css_agree.specs.declared.agreed.Agreed.TheVariants.{Nothing, Within, Disagree}

-- this answer has the greatest lower end at the reading of the spans of all answers added
pub record HasGreatestLow (own : Local) (reading : ℕ) (added : Answers) (answer : Answer) : Type 0 where
  pub is_among : Contains added answer
  pub greatest : All (λ other. lo own other reading ≤ℤ lo own answer reading) added

-- this answer has the least upper end at the reading of the spans of all answers added
pub record HasLeastHigh (own : Local) (reading : ℕ) (added : Answers) (answer : Answer) : Type 0 where
  pub is_among : Contains added answer
  pub least : All (λ other. hi own answer reading ≤ℤ hi own other reading) added

-- the span lies in the answer's span at the reading
pub record LiesIn (own : Local) (reading : ℕ) (span : Interval) (answer : Answer) : Type 0 where
  pub low : lo own answer reading ≤ℤ span.lo
  pub high : span.hi ≤ℤ hi own answer reading

-- The span goes from the greatest lower end to the least upper end. So it lies in the span of each answer added.
pub record IsShared (own : Local) (reading : ℕ) (added : Answers) (span : Interval) : Type 0 where
  pub low : Answer
  pub high : Answer
  pub greatest_low : HasGreatestLow own reading added low
  pub least_high : HasLeastHigh own reading added high
  pub lower_end : span.lo ≡ lo own low reading
  pub upper_end : span.hi ≡ hi own high reading
  pub ordered : span.lo ≤ℤ span.hi
  pub lies_in_each : All (LiesIn own reading span) added

-- the greatest lower end is that of `low`, the least upper end is that of `high`, and the first is above the second
pub record Contradict (own : Local) (reading : ℕ) (added : Answers) (low high : Answer) : Type 0 where
  pub greatest_low : HasGreatestLow own reading added low
  pub least_high : HasLeastHigh own reading added high
  pub apart : hi own high reading <ℤ lo own low reading

-- what the answers added say at the reading
abbrev pub AgreesAt : Local → ℕ → Answers → Agreed → Type 0
AgreesAt own reading added Nothing = added ≡ []
AgreesAt own reading added (Within span) = IsShared own reading added span
AgreesAt own reading added (Disagree low high) = Contradict own reading added low high

-- ---- truth
-- At moment i of the world companion `who`, which has slept so often, reads its clock. The answer tells of an exchange
-- of the world that landed before, with no sleep since its request. It declares no less than the television's error.
pub record IsTruthful (errors : Errors) (world : World) (who : ℕ) (own : Local) (sleeps i : ℕ) (answer : Answer)
    : Type 0 where
  pub exchange : Exchange
  pub timed : IsTimed world who own answer exchange sleeps
  pub landed : exchange.landed ≤ i
  pub declared : errors.tv ≤ answer.error

-- The span contains the wall clock in every world that makes all answers added truthful.
abbrev pub IsTrueOf : Local → ℕ → Answers → Interval → Type 0
IsTrueOf own reading added span = (errors : Errors) (world : World) (who sleeps i : ℕ)
    → IsWorldFor errors world who own → Reads world who i own.precision reading sleeps
    → All (IsTruthful errors world who own sleeps i) added
    → Covers span (pos (world i).wall)

-- No world makes both answers truthful.
abbrev pub CantBothBeTrue : Local → ℕ → Answer → Answer → Type 0
CantBothBeTrue own reading low high = (errors : Errors) (world : World) (who sleeps i : ℕ)
    → IsWorldFor errors world who own → Reads world who i own.precision reading sleeps
    → IsTruthful errors world who own sleeps i low → IsTruthful errors world who own sleeps i high
    → ⊥

-- what is promised of it in worlds
abbrev pub TellsTruth : Local → ℕ → Answers → Agreed → Type 0
TellsTruth own reading added Nothing = ⊤
TellsTruth own reading added (Within span) = IsTrueOf own reading added span
TellsTruth own reading added (Disagree low high) = CantBothBeTrue own reading low high

-- what answers declare is in range
abbrev pub DeclareInRange : Answers → Type 0
DeclareInRange = All (λ answer. answer.error ≤ max_error)

-- The span that answers share contains the wall clock.
abbrev pub AgreementIsTrue : Type 0
AgreementIsTrue = (own : Local) (reading : ℕ) (added : Answers) (span : Interval)
    → DeclareInRange added → IsShared own reading added span → IsTrueOf own reading added span

-- Of two answers that contradict each other one isn't true.
abbrev pub ContradictionIsFalse : Type 0
ContradictionIsFalse = (own : Local) (reading : ℕ) (added : Answers) (low high : Answer)
    → DeclareInRange added → Contradict own reading added low high → CantBothBeTrue own reading low high

-- The answers that are named are possible still: their spans have two ends in order.
abbrev pub ArePossible : Local → ℕ → Agreed → Type 0
ArePossible own reading Nothing = ⊤
ArePossible own reading (Within span) = ⊤
ArePossible own reading (Disagree low high) =
    (pos 0 ≤ℤ scaled_width own low reading) × (pos 0 ≤ℤ scaled_width own high reading)
