-- How a companion's agreement goes on, and why answers that disagree aren't all true.
use Rattle.std.proofs.Common.{◌≡◌, ◌≢◌, ◌∙◌, ℕ, sym, subst, refl, ap, inl, inr, List, ◌∷◌, Bool, true, false, cond}
use Rattle.std.proofs.Common.{Result, Ok, Err, Option, Some, None, arith}
use Rattle.std.specs.Prelude.{◌||◌, ◌⊎◌, nat_le, nat_lt}
use Rattle.css_agree.proofs.Disagreements.{disagreement_is_false}
use Rattle.css_agree.proofs.Truth.{added-in_range}
use Rattle.css_agree.specs.Disagreements.{contradicts, disagree}
use Rattle.css_agree.specs.Keeping.{Adds, Kept, StandsFor}
use Rattle.css_client.proofs.Judging.{landings_are_judged}
use Rattle.css_client.specs.Landings.{judged_of, landing_of, with_judged}
use Rattle.css_client.specs.declared.landing.Landing.{Landing}
use Rattle.css_client.specs.declared.landing.Landing.TheVariants as landings
use Rattle.css_companion.specs.Standing.{Companion, own_of}
use Rattle.css_companion_c.specs.Codes.{Answers, at_reading, landing_code, DONE, DISAGREE}
use Rattle.css_companion_c.specs.Noticing.{Agrees, AreNotAllTrue, Notices, Tells, accepted, contradicted, is_answer_to}
use Rattle.css_companion_c.specs.Noticing.{noticed_code}
use Rattle.css_companion_c.specs.declared.follower.Follower.{Follower}
use Rattle.css_model.specs.History.{Clock, History, Took, accepted_answers}
use Rattle.css_model.specs.WallClock.{Answer, Local}
use Rattle.css_model.specs.declared.TheConstants.{LIMIT}
use Rattle.css_model.specs.declared.Why.TheVariants as why
use Rattle.css_span.specs.Frontiers.{Answers as Answering}

-- ---- a datagram that lands
-- the answers that are accepted then
accepted_then : (c : Companion) (h : History) (peer reading : ℕ) (bytes : List ℕ) (judged : Result Answer Landing)
    → judged_of (own_of c) h reading bytes ≡ judged
    → accepted c (Clock why.Land reading ∷ Took peer bytes ∷ h) ≡ with_judged judged (accepted c h)
accepted_then c h peer reading bytes judged e =
    (landings_are_judged (own_of c) h peer reading bytes).accepted ∙ ap (λ j. with_judged j (accepted c h)) e

-- whether the answer that was added contradicts those before it
pub told_by : (follower : Follower) (h : History) (reading : ℕ) (bytes : List ℕ) (answer : Answer) (agree : Kept)
    (told : Bool) → Tells follower h reading bytes answer → Adds follower.agree agree answer reading
    → ((added : Answering) → StandsFor agree added → told ≡ disagree agree.local reading added)
    → contradicted follower.companion h reading bytes ≡ told
told_by follower h reading bytes answer agree told tells adds says =
    let answers = accepted follower.companion h in
    let own = own_of follower.companion in
    ap (λ j. contradicts own reading j answers) tells.judged
    ∙ ap (λ o. disagree o reading (answer ∷ answers)) (sym (adds.local ∙ tells.agrees.local))
    ∙ sym (says (answer ∷ answers) (adds.stands answers tells.agrees.stands))

-- and what is noted then
pub notices_by : (old new : Follower) (h : History) (peer reading : ℕ) (bytes : List ℕ) (answer : Answer)
    (told : Bool) → Tells old h reading bytes answer → Adds old.agree new.agree answer reading
    → contradicted old.companion h reading bytes ≡ told → own_of new.companion ≡ own_of old.companion
    → new.disagrees ≡ (old.disagrees || told) → new.asked ≡ old.asked
    → new.answered ≡ (old.answered || is_answer_to {Refusal = Landing} old.asked (Ok answer))
    → new.fault ≡ old.fault → Notices peer reading bytes old new h
notices_by old new h peer reading bytes answer told tells adds said same noted asked answered refused = record {
  agrees = record {
    local = adds.local ∙ tells.agrees.local ∙ sym same;
    stands =
        subst (λ (xs : Answering). StandsFor new.agree xs)
        (sym (ap (λ o. accepted_answers o (Clock why.Land reading ∷ Took peer bytes ∷ h)) same
        ∙ accepted_then old.companion h peer reading bytes (Ok answer) tells.judged))
        (adds.stands (accepted old.companion h) tells.agrees.stands);
  };
  noted = noted ∙ ap (λ t. old.disagrees || t) (sym said);
  asked = asked;
  answered = answered ∙ ap (λ j. old.answered || is_answer_to old.asked j) (sym tells.judged);
  refused = refused;
}

-- and where none is accepted
pub or_false : (b : Bool) → b ≡ (b || false)
or_false true = refl
or_false false = refl

pub or_true : (b : Bool) → true ≡ (b || true)
or_true true = refl
or_true false = refl

none_answers : (asked : Option ℕ) (refusal : Landing) → is_answer_to {Refusal = Landing} asked (Err refusal) ≡ false
none_answers (Some asked) refusal = refl
none_answers None refusal = refl

pub not_contradicted : (c : Companion) (h : History) (reading : ℕ) (bytes : List ℕ) (refusal : Landing)
    → judged_of (own_of c) h reading bytes ≡ Err refusal → contradicted c h reading bytes ≡ false
not_contradicted c h reading bytes refusal e = ap (λ j. contradicts (own_of c) reading j (accepted c h)) e

pub refused_by : (old : Follower) (new : Companion) (h : History) (peer reading : ℕ) (bytes : List ℕ)
    (refusal : Landing) → judged_of (own_of old.companion) h reading bytes ≡ Err refusal → Agrees old h
    → own_of new ≡ own_of old.companion → Notices peer reading bytes old (record old { companion = new }) h
refused_by old new h peer reading bytes refusal e agrees same = record {
  agrees = record {
    local = agrees.local ∙ sym same;
    stands =
        subst (λ (xs : Answering). StandsFor old.agree xs)
        (sym (ap (λ o. accepted_answers o (Clock why.Land reading ∷ Took peer bytes ∷ h)) same
        ∙ accepted_then old.companion h peer reading bytes (Err refusal) e))
        agrees.stands;
  };
  noted =
      or_false old.disagrees
      ∙ ap (λ t. old.disagrees || t) (sym (not_contradicted old.companion h reading bytes refusal e));
  asked = refl;
  answered =
      or_false old.answered ∙ ap (λ t. old.answered || t) (sym (none_answers old.asked refusal))
      ∙ ap (λ j. old.answered || is_answer_to old.asked j) (sym e);
  refused = refl;
}

-- ---- answers that disagree
-- no datagram's own code is that of a disagreement
landing_agrees : (l : Landing) → landing_code l ≢ DISAGREE
landing_agrees (landings.Undecodable reason) e = absurd (omega (arith, e))
landing_agrees landings.NotAnAnswer e = absurd (omega (arith, e))
landing_agrees landings.Unasked e = absurd (omega (arith, e))
landing_agrees (landings.Impossible width) e = absurd (omega (arith, e))
landing_agrees landings.Accepted e = absurd (omega (arith, e))

-- so the tests let the call through
let_through : (a b : Bool) (code : ℕ) → Answers (cond a 2 (cond b 3 0)) code DISAGREE → code ≡ DISAGREE
let_through true b code h = absurd (omega (arith, h.0 (λ e. absurd (omega (arith, e)))))
let_through false true code h = absurd (omega (arith, h.0 (λ e. absurd (omega (arith, e)))))
let_through false false code h = by (h.1 refl)
  where
    by : (DISAGREE ≡ 1) ⊎ (DISAGREE ≡ code) → code ≡ DISAGREE
    by (inl e) = absurd (omega (arith, e))
    by (inr e) = sym e

told_so : (t : Bool) (l : Landing) → cond t DISAGREE (landing_code l) ≡ DISAGREE → t ≡ true
told_so true l e = refl
told_so false l e = absurd (landing_agrees l e)

disagreeing : (own : Local) (reading : ℕ) (judged : Result Answer Landing) (answers : Answering)
    → contradicts own reading judged answers ≡ true → disagree own reading (with_judged judged answers) ≡ true
disagreeing own reading (Ok answer) answers e = e
disagreeing own reading (Err refusal) answers e = absurd (cc)

pub untrue : (old new : Follower) (h : History) (peer reading : ℕ) (bytes : List ℕ)
    → own_of new.companion ≡ own_of old.companion
    → Answers (at_reading old.companion reading DONE) (noticed_code old.companion h reading bytes) DISAGREE
    → Notices peer reading bytes old new h
    → AreNotAllTrue (own_of old.companion) reading (accepted old.companion (Clock why.Land reading ∷ Took peer bytes ∷
    h))
untrue old new h peer reading bytes same code noticed =
    let own = own_of old.companion in
    let now : Answering = accepted old.companion (Clock why.Land reading ∷ Took peer bytes ∷ h) in
    let told = told_so (contradicted old.companion h reading bytes) (landing_of own h reading bytes)
    (let_through (nat_le LIMIT reading) (nat_lt reading old.companion.client.floor) _ code) in
    let stands : StandsFor new.agree now =
    subst (λ (o : Local). StandsFor new.agree (accepted_answers o (Clock why.Land reading ∷ Took peer bytes ∷ h))) same
    noticed.agrees.stands in
    disagreement_is_false own reading now (added-in_range new.agree now stands)
    (subst (λ (xs : Answering). disagree own reading xs ≡ true)
    (sym (accepted_then old.companion h peer reading bytes _ refl))
    (disagreeing own reading (judged_of own h reading bytes) (accepted old.companion h) told))
