-- Whether answers contradict each other at a reading.
use Rattle.std.specs.Prelude.{ℕ, ◌≡◌, ◌↔◌, Bool, true, false, int_lt, [], ◌∷◌, All, Result, Ok, Err, pos, ⊤}
use Rattle.css_model.specs.WallClock.{Answer, Local, scaled_width}
use Rattle.css_model.specs.World.{World, Errors, IsWorldFor, Reads}
use Rattle.css_span.specs.Frontiers.{Answers}
use Rattle.css_agree.specs.Agreements.{Contradict, DeclareInRange, IsTruthful}
use Rattle.css_agree.specs.Printed.{greatest_low, least_high}

-- whether the greatest lower end of the spans of all answers added is above the least upper end, at the reading
abbrev pub disagree : Local → ℕ → Answers → Bool
disagree own reading [] = false
disagree own reading (first ∷ others) =
    int_lt (least_high own reading first others) (greatest_low own reading first others)

-- whether an answer that was just accepted, if one was, contradicts those before it at its landing
abbrev pub contradicts : {Refusal : Type 0} → Local → ℕ → Result Answer Refusal → Answers → Bool
contradicts own reading (Ok answer) answers = disagree own reading (answer ∷ answers)
contradicts own reading (Err refusal) answers = false

-- an answer that was just accepted, if one was, is possible at its landing
abbrev pub IsPossibleAt : {Refusal : Type 0} → Local → ℕ → Result Answer Refusal → Type 0
IsPossibleAt own reading (Ok answer) = int_lt (scaled_width own answer reading) (pos 0) ≡ false
IsPossibleAt own reading (Err refusal) = ⊤

-- Answers disagree exactly where two of them contradict each other.
abbrev pub DisagreementIsContradiction : Type 0
DisagreementIsContradiction = (own : Local) (reading : ℕ) (added : Answers)
    → (disagree own reading added ≡ true)
    ↔ ((low : Answer) × (high : Answer) × Contradict own reading added low high)

-- No world that keeps the oscillators' errors makes answers that disagree all truthful.
abbrev pub DisagreementIsFalse : Type 0
DisagreementIsFalse = (own : Local) (reading : ℕ) (added : Answers)
    → DeclareInRange added → disagree own reading added ≡ true
    → (errors : Errors) (world : World) (who sleeps i : ℕ)
    → IsWorldFor errors world who own → Reads world who i own.precision reading sleeps
    → All (IsTruthful errors world who own sleeps i) added
    → ⊥
