-- How a relay's agreement goes on.
use Rattle.std.proofs.Common.{◌≡◌, ◌∙◌, sym, subst, refl, ℕ, List, [], ◌∷◌, Bool, true, false, cond, Result, Ok, Err}
use Rattle.std.proofs.Common.{inl, inr}
use Rattle.std.proofs.Common.{arith, ap, suc}
use Rattle.std.specs.Prelude.{◌⊎◌, int_lt, pos}
use Rattle.css_agree.specs.Disagreements.{IsPossibleAt, disagree}
use Rattle.css_agree.specs.Keeping.{Adds, Kept, StandsFor}
use Rattle.css_client.specs.Landings.{awaited_of, judged_answer, judged_by, judged_of}
use Rattle.css_client.specs.declared.landing.Landing.{Landing}
use Rattle.css_client.specs.declared.landing.Landing.TheVariants as landings
use Rattle.css_model.specs.History.{History, landed_answers, times_of}
use Rattle.css_model.specs.WallClock.{Answer, Local, scaled_width}
use Rattle.css_model.specs.declared.Message.{Message}
use Rattle.css_relay.specs.Agreeing.{Compares, Holds, IsAgreementOf}
use Rattle.css_span.specs.Frontiers.{Answers, declares, error_count}

-- ---- what is judged possible is possible
answer_possible : (own : Local) (reading : ℕ) (answer : Answer)
    → IsPossibleAt own reading (judged_answer own reading answer)
answer_possible own reading answer = by (int_lt (scaled_width own answer reading) (pos 0)) refl
  where
    by : (b : Bool) → int_lt (scaled_width own answer reading) (pos 0) ≡ b → IsPossibleAt own reading (cond b (Err
        (landings.Impossible (scaled_width own answer reading))) (Ok answer))
    by true e = tt
    by false e = e

by_possible : (own : Local) (history : History) (reading : ℕ) (awaited : Result Message Landing)
    → IsPossibleAt own reading (judged_by own history reading awaited)
by_possible own history reading (Err refusal) = tt
by_possible own history reading (Ok message) =
    answer_possible own reading (times_of (record { message = message; reading = reading }) (landed_answers history))

pub judged_possible : (own : Local) (history : History) (reading : ℕ) (bytes : List ℕ)
    → IsPossibleAt own reading (judged_of own history reading bytes)
judged_possible own history reading bytes = by_possible own history reading (awaited_of history bytes)

-- ---- a comparison
-- nothing was accepted
pub refused : {own : Local} {reading : ℕ} {answers : Answers} {agree : Kept} (judged : Result Answer Landing)
    {refusal : Landing} → judged ≡ Err refusal → Holds own agree answers
    → Compares own reading judged answers agree false
refused {own} {reading} {answers} {agree} judged {refusal} e h =
    subst (λ (x : Result Answer Landing). Compares own reading x answers agree false) (sym e)
    (record { told_so = refl; agrees = record { local = h.local; stands = inr h.stands } })

-- an answer was
pub added : {own : Local} {reading : ℕ} {answers : Answers} {old new : Kept} {told : Bool}
    (judged : Result Answer Landing) {answer : Answer} → judged ≡ Ok answer → Holds own old answers
    → Adds old new answer reading
    → ((added : Answers) → StandsFor new added → told ≡ disagree new.local reading added)
    → Compares own reading judged answers new told
added {own} {reading} {answers} {old} {new} {told} judged {answer} e h adds tells =
    let s : StandsFor new (answer ∷ answers) = adds.stands answers h.stands in
    let l : new.local ≡ own = adds.local ∙ h.local in
    subst (λ (x : Result Answer Landing). Compares own reading x answers new told) (sym e)
    (record {
      told_so = tells (answer ∷ answers) s ∙ ap (λ x. disagree x reading (answer ∷ answers)) l;
      agrees = record { local = l; stands = inr s };
    })

-- ---- answers of before a sleep
none_counted : (answers : Answers) → error_count answers ≡ 0 → answers ≡ []
none_counted [] e = refl
none_counted (answer ∷ older) e = by (none_counted older) (declares answer.error older) refl e
  where
    by : (error_count older ≡ 0 → older ≡ []) → (b : Bool) → declares answer.error older ≡ b
        → cond b (error_count older) (suc (error_count older)) ≡ 0 → answer ∷ older ≡ []
    by ih true d e = let none = ap (λ xs. declares answer.error xs) (ih e) in absurd (let f = sym d ∙ none in cc)
    by ih false d e = absurd (omega (arith, e))

-- none was accepted since a sleep
pub forgot : {own : Local} {agree new : Kept} {answers : Answers} → error_count answers ≡ 0
    → IsAgreementOf own agree answers → new.local ≡ agree.local → StandsFor new [] → Holds own new answers
forgot {new = new} {answers} none a same s = record {
  local = same ∙ a.local;
  stands = subst (λ (xs : Answers). StandsFor new xs) (sym (none_counted answers none)) s;
}

-- some were
pub counts : {own : Local} {agree : Kept} {answers : Answers} → (error_count answers ≡ 0 → ⊥)
    → IsAgreementOf own agree answers → Holds own agree answers
counts {agree = agree} {answers} some a = record { local = a.local; stands = by a.stands }
  where
    by : (answers ≡ []) ⊎ StandsFor agree answers → StandsFor agree answers
    by (inl e) = absurd (some (ap error_count e))
    by (inr s) = s
