-- A header with one companion more.
use Rattle.std.proofs.Common.{◌≡◌, List, [], ◌∷◌, ◌++◌, subst, sym}
use Rattle.std.specs.Prelude.{Result, Ok, Err, OnOk}
use Rattle.std.specs.List.{All}
use Rattle.std.proofs.lemmas.List.Elements.{All-nil, All-cons, All-append}
use Rattle.css_schedule.specs.declared.header.CompanionLine.{CompanionLine}
use Rattle.css_schedule.specs.declared.header.Header.{Header}
use Rattle.css_schedule.specs.Headers.{with_companion}
use Rattle.css_schedule.specs.Ranges.{IsCompanion, IsPrintableCompanion, IsGoodCompanion}
use Rattle.css_schedule.specs.Ranges.{IsGoodHeader}

-- what holds of each and of one more holds of all
one_more : (In : CompanionLine → Type 0) (list : List CompanionLine) (companion : CompanionLine) → All In list
    → In companion → All In (list ++ companion ∷ [])
one_more In list companion all one = All-append In list (companion ∷ []) all (All-cons In companion [] one (All-nil In))

-- it is as good as it was
pub more_companions : (header : Header) (companion : CompanionLine) → IsGoodHeader header → IsGoodCompanion companion
    → IsGoodHeader (with_companion header companion)
more_companions header companion h c = (
  record {
    tv_error = h.0.tv_error;
    tv_precision = h.0.tv_precision;
    companions = one_more IsCompanion header.companions companion h.0.companions c.0;
  },
  record {
    tv_error = h.1.tv_error;
    least = h.1.least;
    greatest = h.1.greatest;
    companions = one_more IsPrintableCompanion header.companions companion h.1.companions c.1;
  },
)

-- a header with these companions in place of its own
abbrev pub with_list : Header → List CompanionLine → Header
with_list header companions = record {
  follow = header.follow;
  tv_error = header.tv_error;
  tv_precision = header.tv_precision;
  companions = companions;
}

-- so it is where a call added one
pub added_companion : {T E : Type 0} (result : Result T E) (header : Header) (companion : CompanionLine)
    (new : List CompanionLine)
    → OnOk result (new ≡ header.companions ++ companion ∷ [])
    → OnOk result (IsGoodHeader header → IsGoodCompanion companion → IsGoodHeader (with_list header new))
added_companion (Ok x) header companion new e = λ h good.
    subst (λ (list : List CompanionLine). IsGoodHeader (with_list header list)) (sym e)
    (more_companions header companion h good)
added_companion (Err x) header companion new e = tt
