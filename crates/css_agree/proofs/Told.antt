-- What is told of answers, as a function of them, is what they say together.
use Rattle.std.proofs.Common.{◌≡◌, ◌∙◌, ℕ, ℤ, ap, ap₂, refl, subst, sym, List, Bool, true, false}
use Rattle.std.specs.Prelude.{◌≤ℤ◌, ◌<ℤ◌, if◌then◌else◌, Option, Some, None, reverse}
use Rattle.css_num.specs.Spans.{Interval}
use Rattle.css_model.specs.WallClock.{Answer, Local, IsLocal, lo, hi}
use Rattle.css_span.specs.Frontiers.{Answers}
use Rattle.css_agree.specs.declared.agreed.Agreed.{Agreed}
use Rattle.css_agree.specs.declared.agreed.Agreed.TheVariants.{Within, Disagree}
use Rattle.css_agree.specs.declared.best.Best.{Best}
use Rattle.css_agree.specs.Agreements.{AgreesAt, TellsTruth}
use Rattle.css_agree.specs.Bests.{best_of, bests_of}
use Rattle.css_agree.specs.Disagreements.{disagree}
use Rattle.css_agree.specs.Keeping.{Kept, StandsFor}
use Rattle.css_agree.specs.Told.{agreed_of, told_by}
use Rattle.css_agree.proofs.Disagreements.{is_disagreement, less, not_less, told}
use Rattle.css_agree.proofs.Shared.{best-low, best-high, nothing-added}
use Rattle.css_agree.proofs.Shown.{said, true_of}
use Rattle.css_agree.proofs.Standing.{bests-hold}
use Rattle.css_agree.proofs.Truth.{added-in_range}

-- ---- what is told
pub agrees_so : (own : Local) (r : ℕ) (added : Answers) → IsLocal own → AgreesAt own r added (agreed_of own r added)
unfolding agreed_of
agrees_so own r added local = by (best_of own r (reverse (bests_of own r added))) refl
  where
    by : (o : Option Best) → best_of own r (reverse (bests_of own r added)) ≡ o
        → AgreesAt own r added (told_by own r o)
    by None e = nothing-added own r (bests_of own r added) added (bests-hold own r added) e
    by (Some best) e =
        said own r added best (best-low own r (bests_of own r added) added best (bests-hold own r added) e)
        (best-high own r (bests_of own r added) added best local (bests-hold own r added) e)

-- it is told by what is kept
pub agreed_is : (kept : Kept) (r : ℕ) (added : Answers) (found : Option Best) → StandsFor kept added
    → best_of kept.local r (reverse kept.bests) ≡ found → told_by kept.local r found ≡ agreed_of kept.local r added
unfolding agreed_of
agreed_is kept r added found stands e =
    ap (told_by kept.local r) (sym e ∙ ap (λ (xs : List Best). best_of kept.local r (reverse xs)) (stands.exact r))

pub in_order : (own : Local) (r : ℕ) (best : Best) (span : Interval) → span.lo ≡ lo own best.low r
    → span.hi ≡ hi own best.high r → lo own best.low r ≤ℤ hi own best.high r → Within span ≡ told_by own r (Some best)
in_order own r best span low high order =
    ap₂ (λ (l h : ℤ). Within (record { lo = l; hi = h })) low high
    ∙ sym (ap (λ (t : Bool). if t then Disagree best.low best.high
    else Within (record { lo = lo own best.low r; hi = hi own best.high r }))
    (not_less (hi own best.high r) (lo own best.low r) order))

pub out_of_order : (own : Local) (r : ℕ) (best : Best) → hi own best.high r <ℤ lo own best.low r
    → Disagree best.low best.high ≡ told_by own r (Some best)
out_of_order own r best order =
    sym (ap (λ (t : Bool). if t then Disagree best.low best.high
    else Within (record { lo = lo own best.low r; hi = hi own best.high r }))
    (less (hi own best.high r) (lo own best.low r) order))

pub told_agrees : (own : Local) (r : ℕ) (added : Answers) (agreed : Agreed) → IsLocal own
    → agreed ≡ agreed_of own r added → AgreesAt own r added agreed
told_agrees own r added agreed local is = subst (AgreesAt own r added) (sym is) (agrees_so own r added local)

pub told_true : (kept : Kept) (r : ℕ) (added : Answers) (agreed : Agreed) → IsLocal kept.local → StandsFor kept added
    → agreed ≡ agreed_of kept.local r added → TellsTruth kept.local r added agreed
told_true kept r added agreed local stands is =
    true_of kept.local r added agreed (added-in_range kept added stands)
    (told_agrees kept.local r added agreed local is)

-- whether the answers disagree, by the best of what is kept
pub disagreement-found : (kept : Kept) (r : ℕ) (added : Answers) (found : Option Best) → IsLocal kept.local
    → StandsFor kept added → best_of kept.local r (reverse kept.bests) ≡ found
    → is_disagreement (told_by kept.local r found) ≡ disagree kept.local r added
disagreement-found kept r added found local stands e =
    told kept.local r added (told_by kept.local r found)
    (told_agrees kept.local r added (told_by kept.local r found) local (agreed_is kept r added found stands e))

pub apart-tells : (t : Bool) (low high : Answer) (span : Interval)
    → is_disagreement (if t then Disagree low high else Within span) ≡ t
apart-tells true low high span = refl
apart-tells false low high span = refl
