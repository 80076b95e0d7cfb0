-- What an observer of a visit makes of a landing.
use Rattle.std.proofs.Common.{◌≡◌, ◌∙◌, ap, sym, subst, refl, ℕ, pos, List, ◌∷◌, Option, Some, None, Result}
use Rattle.std.proofs.Common.{Ok, Err, Bool, true, false, cond}
use Rattle.std.specs.Prelude.{IfOk, int_lt}
use Rattle.css_agree.specs.Keeping.{Kept, StandsFor}
use Rattle.css_client.specs.Landings.{awaited_of, judged_answer, judged_by, judged_of, with_judged}
use Rattle.css_client.specs.declared.landing.Landing.{Landing}
use Rattle.css_client.specs.declared.landing.Landing.TheVariants as landings
use Rattle.css_companion.specs.Standing as companions
use Rattle.css_companion.specs.Standing.{Companion, own_of}
use Rattle.css_drive.specs.CompanionStanding.{Knows}
use Rattle.css_drive.specs.Notes as notes
use Rattle.css_model.specs.History.{History, landed_answers, times_of}
use Rattle.css_model.specs.WallClock.{Answer, Local, scaled_width}
use Rattle.css_model.specs.declared.Message.{Message}
use Rattle.css_num.specs.declared.memory.Memory.{Memory}
use Rattle.css_outside.specs.Bytes.{AppendsPrefix}
use Rattle.css_outside.specs.declared.fault.OutFault.TheVariants as fault
use Rattle.css_outside.specs.declared.fault.OutFault.{OutFault}
use Rattle.css_span.specs.Frontiers.{Answers}
use Rattle.css_watch_lines.specs.declared.known.Between.{Between}
use Rattle.css_watch.specs.Progress.{after_landing, between_at, judged}
use Rattle.css_watch.specs.Telling.{landing_line, lines_by, parting_at, slept_lines, text_of}
use Rattle.css_watch.specs.Watching.{Accepts, IsOf, IsPossibleAt, IsStep, Says, parted_by}
use Rattle.css_drive.specs.declared.parting.Parting.{Parting}
use Rattle.css_watch.specs.declared.plan.Plan.{Plan}
use Rattle.css_watch.specs.declared.progress.Progress.{Progress}
use Rattle.css_watch.proofs.Telling.{no_prefix}

-- ---- what is judged possible is possible
answer_possible : (own : Local) (reading : ℕ) (answer : Answer) → IsPossibleAt own reading (judged_answer own
    reading answer)
answer_possible own reading answer = by (int_lt (scaled_width own answer reading) (pos 0)) refl
  where
    by : (b : Bool) → int_lt (scaled_width own answer reading) (pos 0) ≡ b → IsPossibleAt own reading (cond b (Err
        (landings.Impossible (scaled_width own answer reading))) (Ok answer))
    by true e = tt
    by false e = e

by_possible : (own : Local) (history : History) (reading : ℕ) (awaited : Result Message Landing)
    → IsPossibleAt own reading (judged_by own history reading awaited)
by_possible own history reading (Err refusal) = tt
by_possible own history reading (Ok message) =
    answer_possible own reading (times_of (record { message = message; reading = reading }) (landed_answers history))

judged_possible : (own : Local) (history : History) (reading : ℕ) (bytes : List ℕ)
    → IsPossibleAt own reading (judged_of own history reading bytes)
judged_possible own history reading bytes = by_possible own history reading (awaited_of history bytes)

-- ---- a landing
-- what the companion judges is what the plan's clock judges
judged_so : (plan : Plan) (reading : ℕ) (bytes : List ℕ) (history : History) (companion : Companion)
    (result : Result Answer Landing) → Knows plan.run.companion companion history
    → ((history : History) → companions.StandsFor companion history
    → result ≡ judged_of (own_of companion) history reading bytes)
    → result ≡ judged plan history reading bytes
judged_so plan reading bytes history companion result k judges =
    judges history k.stands ∙ ap (λ x. judged_of x history reading bytes) k.local

pub step_of : (plan : Plan) (reading : ℕ) (bytes : List ℕ) (history : History) (companion : Companion)
    (answers : Answers) (was is : Progress) (old new : Kept) (over : Option OutFault) (parting : Option Parting)
    (held holds : Option (List ℕ)) (before now : ℕ) (result : Result Answer Landing) (text : Result (List ℕ) Memory)
    (between : Option Between) (accepted : Kept) → Knows plan.run.companion companion history → IsOf plan old answers
    → ((history : History) → companions.StandsFor companion history
    → result ≡ judged_of (own_of companion) history reading bytes)
    → IfOk text (λ x. x ≡ text_of (landing_line plan.run.companion.local reading bytes result ∷
    slept_lines reading was))
    → ((answers : Answers) → StandsFor old answers → IsPossibleAt old.local reading result
    → Accepts old.local reading result answers accepted between)
    → is ≡ after_landing result between was → new ≡ accepted
    → ((bytes : List ℕ) → IfOk text (λ x. x ≡ bytes)
    → Says over parting (parted_by between) held holds before now bytes)
    → IsStep plan (notes.Landed reading bytes) history answers was is new over parting held holds before now
step_of plan reading bytes history companion answers was is old new over parting held holds before now result text
    between accepted k of judges said accepts went same says =
    let own = plan.run.companion.local in
    let e : result ≡ judged plan history reading bytes = judged_so plan reading bytes history companion result k judges
    in
    let P : Result Answer Landing → Type 0 = λ x. IsPossibleAt own reading x in
    let L : Local → Type 0 = λ x. IsPossibleAt x reading result in
    let A : Local → Type 0 = λ x. Accepts x reading result answers accepted between in
    let a : Accepts own reading result answers accepted between =
    subst A of.local (accepts answers of.stands (subst L (sym of.local) (subst P (sym e) (judged_possible own history
    reading bytes))))
    in
    let N : Kept → Type 0 = λ x. IsOf plan x (with_judged (judged plan history reading bytes) answers) in
    let J : Result Answer Landing → Type 0 = λ x. IsOf plan accepted (with_judged x answers) in
    let W : Option Parting → Type 0 = λ x. Says over parting x held holds before now (text_of (landing_line own reading
    bytes (judged plan history reading bytes) ∷ slept_lines reading was)) in
    let T : Result Answer Landing → Type 0 = λ x. Says over parting (parted_by between) held holds before now (text_of
    (landing_line own reading bytes x ∷ slept_lines reading was)) in
    record {
      says = subst W (a.parting_so ∙ ap (λ x. parting_at own reading x answers) e)
          (subst T e (says (text_of (landing_line own reading bytes result ∷ slept_lines reading was)) said));
      progress_so = λ none. went ∙ ap (λ x. after_landing result x was) a.between_so
          ∙ ap (λ x. after_landing x (between_at own reading x answers) was) e;
      agree_so = λ none. subst N (sym same) (subst J e (record { local = a.local; stands = a.stands }));
    }

-- memory ran out
pub failed_of : (plan : Plan) (reading : ℕ) (bytes : List ℕ) (history : History) (answers : Answers)
    (was is : Progress) (new : Kept) (over : Option OutFault) (parting : Option Parting) (held holds : Option (List ℕ))
    (before now : ℕ) → over ≡ Some fault.Memory → parting ≡ None → holds ≡ held → now ≡ before
    → IsStep plan (notes.Landed reading bytes) history answers was is new over parting held holds before now
failed_of plan reading bytes history answers was is new over parting held holds before now o p h n =
    let P : Option (List ℕ) → Type 0 = λ x. AppendsPrefix held x (text_of (lines_by plan (notes.Landed reading bytes)
    history was answers)) in
    record {
      says = record {
        cause = Some fault.Memory;
        over_so = o;
        parting_so = p;
        wrote = (subst P (sym h) (no_prefix held _), n);
      };
      progress_so = λ none. absurd (cc);
      agree_so = λ none. absurd (cc);
    }
