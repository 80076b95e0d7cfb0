-- A visit that ends by a disagreement has answers that can't all be true.
use Rattle.std.proofs.Common.{◌≡◌, ◌∙◌, ◌≤◌, ℕ, ap, sym, subst, refl, List, [], ◌∷◌, ◌++◌, Bool, true, false, cond, All}
use Rattle.std.proofs.Common.{Option, Some, None, Result, Ok, Err}
use Rattle.std.proofs.lemmas.List.Elements.{All-cons, All-head, All-tail, All-nil}
use Rattle.std.specs.Option.{option_to_list}
use Rattle.css_agree.proofs.Disagreements.{disagreement_is_false, told}
use Rattle.css_agree.proofs.Told.{agrees_so}
use Rattle.css_agree.proofs.Truth.{contradiction_is_false}
use Rattle.css_agree.specs.Agreements.{AgreesAt, DeclareInRange}
use Rattle.css_agree.specs.Disagreements.{disagree}
use Rattle.css_agree.specs.Told.{agreed_of}
use Rattle.css_agree.specs.declared.agreed.Agreed.{Agreed}
use Rattle.css_agree.specs.declared.agreed.Agreed.TheVariants.{Nothing, Within, Disagree}
use Rattle.css_client.proofs.Judging.{landings_are_judged}
use Rattle.css_client.specs.Landings.{judged_of, with_judged}
use Rattle.css_client.specs.declared.landing.Landing.{Landing}
use Rattle.css_model.proofs.Landings.{landed_answer-is}
use Rattle.css_model.specs.History.{Clock, Entry, History, LandedAnswer, Took, accepted_answers, is_possible, is_sleep}
use Rattle.css_model.specs.History.{landed_answer, landed_answers, possible_answer, possible_answers, times_of}
use Rattle.css_model.specs.Numbers.{max_error}
use Rattle.css_model.specs.WallClock.{Answer, IsLocal, Local}
use Rattle.css_model.specs.declared.Why.TheVariants as why
use Rattle.css_span.specs.Frontiers.{Answers}
use Rattle.css_watch.specs.Progress.{between_at, between_in}
use Rattle.css_watch.specs.Telling.{parting_at}
use Rattle.css_drive.specs.declared.parting.Parting.TheVariants as parting
use Rattle.css_watch_laws.specs.Promises.{AreApart, DisagreementsAreFalse, TwoAreNamed}
use Rattle.css_watch_lines.specs.declared.known.Between.{Between}

-- ---- what answers declare
-- an answer that landed declares an error in its range
abbrev IsDeclared : LandedAnswer → Type 0
IsDeclared landed = landed.message.error ≤ max_error

landed_in : (entry : Entry) (older : History) (landed : Option LandedAnswer) (rest : List LandedAnswer)
    → landed_answer entry older ≡ landed → All IsDeclared rest → All IsDeclared (option_to_list landed ++ rest)
landed_in entry older None rest e a = a
landed_in entry older (Some landed) rest e a =
    All-cons IsDeclared landed rest (landed_answer-is entry older landed e).error a

all_landed : (history : History) → All IsDeclared (landed_answers history)
all_landed [] = All-nil IsDeclared
all_landed (entry ∷ older) =
    by (is_sleep entry) (landed_in entry older (landed_answer entry older) (landed_answers older) refl
    (all_landed older))
  where
    by : (b : Bool) → All IsDeclared (option_to_list (landed_answer entry older) ++ landed_answers older)
        → All IsDeclared (cond b [] (option_to_list (landed_answer entry older) ++ landed_answers older))
    by true a = All-nil IsDeclared
    by false a = a

possible_in : (own : Local) (landed : LandedAnswer) (older : List LandedAnswer) (rest : List Answer)
    → landed.message.error ≤ max_error → DeclareInRange rest
    → DeclareInRange (option_to_list (possible_answer own landed older) ++ rest)
possible_in own landed older rest e a = by (is_possible own landed older)
  where
    by : (b : Bool) → DeclareInRange (option_to_list (cond b (Some (times_of landed older)) None) ++ rest)
    by true = All-cons (λ answer. answer.error ≤ max_error) (times_of landed older) rest e a
    by false = a

all_possible : (own : Local) (landed : List LandedAnswer) → All IsDeclared landed
    → DeclareInRange (possible_answers own landed)
all_possible own [] a = All-nil (λ answer. answer.error ≤ max_error)
all_possible own (landed ∷ older) a =
    possible_in own landed older (possible_answers own older) (All-head IsDeclared landed older a)
    (all_possible own older (All-tail IsDeclared landed older a))

-- and so does each that is accepted
pub accepted_declare : (own : Local) (history : History) → DeclareInRange (accepted_answers own history)
accepted_declare own history = all_possible own (landed_answers history) (all_landed history)

-- ---- the disagreement
parted : (own : Local) (reading : ℕ) (judged : Result Answer Landing) (answers : Answers)
    → parting_at own reading judged answers ≡ Some parting.Disagree
    → disagree own reading (with_judged judged answers) ≡ true
parted own reading (Err refusal) answers e = absurd (cc)
parted own reading (Ok answer) answers e = by (disagree own reading (answer ∷ answers)) refl e
  where
    by : (b : Bool) → disagree own reading (answer ∷ answers) ≡ b
        → cond b (Some parting.Disagree) None ≡ Some parting.Disagree → disagree own reading (answer ∷ answers) ≡ true
    by true d e = d
    by false d e = absurd (cc)

pub disagreements_are_false : DisagreementsAreFalse
disagreements_are_false plan progress history peer reading bytes parts errors world who sleeps i for reads truthful =
    let own = plan.run.companion.local in
    let accepted = (landings_are_judged own history peer reading bytes).accepted in
    let P : Answers → Type 0 = λ x. disagree own reading x ≡ true in
    disagreement_is_false own reading (accepted_answers own (Clock why.Land reading ∷ Took peer bytes ∷ history))
    (accepted_declare own (Clock why.Land reading ∷ Took peer bytes ∷ history))
    (subst P (sym accepted) (parted own reading (judged_of own (Took peer bytes ∷ history) reading bytes)
    (accepted_answers own history) parts)) errors world who sleeps i for reads truthful

-- ---- the two that are named
named : (own : Local) (reading : ℕ) (judged : Result Answer Landing) (answers : Answers) → IsLocal own
    → DeclareInRange (with_judged judged answers) → parting_at own reading judged answers ≡ Some parting.Disagree
    → (between : Between) × (between_at own reading judged answers ≡ Some between)
    × AreApart own reading (with_judged judged answers) between
named own reading (Err refusal) answers local most e = absurd (cc)
named own reading (Ok answer) answers local most e =
    by (agreed_of own reading (answer ∷ answers)) refl (agrees_so own reading (answer ∷ answers) local)
  where
    disagreeing : disagree own reading (answer ∷ answers) ≡ true
    disagreeing = parted own reading (Ok answer) answers e

    by : (agreed : Agreed) → agreed_of own reading (answer ∷ answers) ≡ agreed
        → AgreesAt own reading (answer ∷ answers) agreed
        → (between : Between) × (between_in (agreed_of own reading (answer ∷ answers)) ≡ Some between)
        × AreApart own reading (answer ∷ answers) between
    by Nothing is h =
        let not = told own reading (answer ∷ answers) Nothing h ∙ disagreeing in
        absurd (cc)
    by (Within span) is h =
        let not = told own reading (answer ∷ answers) (Within span) h ∙ disagreeing in
        absurd (cc)
    by (Disagree low high) is h = (
      record { above = low; below = high },
      ap between_in is,
      record {
        above_is = h.greatest_low.is_among;
        below_is = h.least_high.is_among;
        apart = h.apart;
        is_false = contradiction_is_false own reading (answer ∷ answers) low high most h;
      },
    )

pub two_are_named : TwoAreNamed
two_are_named plan progress history peer reading bytes local parts =
    let own = plan.run.companion.local in
    let accepted = (landings_are_judged own history peer reading bytes).accepted in
    let found =
    named own reading (judged_of own (Took peer bytes ∷ history) reading bytes) (accepted_answers own history) local
    (subst DeclareInRange accepted (accepted_declare own (Clock why.Land reading ∷ Took peer bytes ∷ history))) parts in
    let P : Answers → Type 0 = λ x. AreApart own reading x found.0 in
    (found.0, found.1, subst P (sym accepted) found.2)
