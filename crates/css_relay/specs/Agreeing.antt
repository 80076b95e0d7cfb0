-- How a relay notices answers that contradict each other.
use Rattle.std.specs.Prelude.{◌≡◌, ◌⊎◌, ℕ, [], Bool, Result}
use Rattle.css_agree.specs.Disagreements.{contradicts}
use Rattle.css_agree.specs.Keeping.{Kept, StandsFor}
use Rattle.css_client.specs.Landings.{with_judged}
use Rattle.css_client.specs.declared.landing.Landing.{Landing}
use Rattle.css_model.specs.History.{History, accepted_answers}
use Rattle.css_model.specs.WallClock.{Answer, Local}
use Rattle.css_span.specs.Frontiers.{Answers}

-- an agreement by the relay's own clock is exactly that of these answers
pub record Holds (own : Local) (agree : Kept) (answers : Answers) : Type 0 where
  pub local : agree.local ≡ own
  pub stands : StandsFor agree answers

-- An agreement is that of these answers, by the relay's own clock. Where there is none of them, what it keeps counts
-- for nothing.
pub record IsAgreementOf (own : Local) (agree : Kept) (answers : Answers) : Type 0 where
  pub local : agree.local ≡ own
  pub stands : (answers ≡ []) ⊎ StandsFor agree answers

-- It is that of the answers that were accepted since the last sleep.
abbrev pub Agrees : Local → Kept → History → Type 0
Agrees own agree history = IsAgreementOf own agree (accepted_answers own history)

-- An answer that was just accepted, if one was, was added, and whether it contradicts the others was told.
pub record Compares (own : Local) (reading : ℕ) (judged : Result Answer Landing) (answers : Answers) (agree : Kept)
    (told : Bool) : Type 0 where
  pub told_so : told ≡ contradicts own reading judged answers
  pub agrees : IsAgreementOf own agree (with_judged judged answers)
