-- What answers say together is true in every world that makes them truthful.
use Rattle.std.proofs.Common.{◌≡◌, ℕ, ◌≤◌, arith}
use Rattle.std.specs.Prelude.{Contains}
use Rattle.std.proofs.lemmas.Int.{ints}
use Rattle.std.proofs.lemmas.List.Elements.{All-contains, All-weaker}
use Rattle.css_model.specs.Numbers.{max_error}
use Rattle.css_num.specs.Spans.{Interval}
use Rattle.css_model.specs.WallClock.{Answer, Local, lo, hi}
use Rattle.css_model.specs.World.{World, Errors, IsWorldFor, Reads}
use Rattle.css_model.specs.Truth as truth
use Rattle.css_model.proofs.Truth.{spans_are_true}
use Rattle.css_span.specs.Frontiers.{Answers, IsPossible}
use Rattle.css_agree.specs.Agreements.{IsTruthful, IsTrueOf, DeclareInRange, AgreementIsTrue, ContradictionIsFalse}
use Rattle.css_agree.specs.Keeping.{Kept, StandsFor}

-- the span of a truthful answer contains the wall clock
pub contains : (errors : Errors) (world : World) (who : ℕ) (own : Local) (sleeps i reading : ℕ) (answer : Answer)
    → IsWorldFor errors world who own → Reads world who i own.precision reading sleeps → answer.error ≤ max_error
    → IsTruthful errors world who own sleeps i answer → truth.Contains own answer reading (world i).wall
contains errors world who own sleeps i reading answer for reads most told =
    spans_are_true errors world who own answer told.exchange sleeps i reading
    for told.declared most told.timed told.landed reads

-- a span from the lower end of an answer to the upper end of another is true in worlds that make both truthful
pub between_ends : (own : Local) (reading : ℕ) (added : Answers) (span : Interval) (low high : Answer)
    → DeclareInRange added → Contains added low → Contains added high → span.lo ≡ lo own low reading
    → span.hi ≡ hi own high reading → IsTrueOf own reading added span
between_ends own reading added span low high most is_low is_high lower_end upper_end errors world who sleeps i for reads
    told =
    let P = IsTruthful errors world who own sleeps i in
    let low_contains : truth.Contains own low reading (world i).wall =
    contains errors world who own sleeps i reading low for reads
    (All-contains (λ a. a.error ≤ max_error) added low most is_low) (All-contains P added low told is_low) in
    let high_contains : truth.Contains own high reading (world i).wall =
    contains errors world who own sleeps i reading high for reads
    (All-contains (λ a. a.error ≤ max_error) added high most is_high) (All-contains P added high told is_high) in
    record {
      low = omega (arith, ints, lower_end, low_contains.low);
      high = omega (arith, ints, upper_end, high_contains.high);
    }

pub agreement_is_true : AgreementIsTrue
agreement_is_true own reading added span most shared =
    between_ends own reading added span shared.low shared.high most shared.greatest_low.is_among
    shared.least_high.is_among shared.lower_end shared.upper_end

pub contradiction_is_false : ContradictionIsFalse
contradiction_is_false own reading added low high most apart errors world who sleeps i for reads low_told high_told =
    let low_contains : truth.Contains own low reading (world i).wall =
    contains errors world who own sleeps i reading low for reads
    (All-contains (λ a. a.error ≤ max_error) added low most apart.greatest_low.is_among) low_told in
    let high_contains : truth.Contains own high reading (world i).wall =
    contains errors world who own sleeps i reading high for reads
    (All-contains (λ a. a.error ≤ max_error) added high most apart.least_high.is_among) high_told in
    omega (arith, ints, low_contains.low, high_contains.high, apart.apart)

-- what was added is in range
pub added-in_range : (kept : Kept) (added : Answers) → StandsFor kept added → DeclareInRange added
added-in_range kept added stands =
    All-weaker (IsPossible kept.local kept.floor) (λ a. a.error ≤ max_error) (λ a h. h.ranges.error)
    added stands.possible
