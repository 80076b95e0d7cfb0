-- Whether the best at each end are apart says whether the answers contradict each other.
use Rattle.std.proofs.Common.{◌∙◌, ap, sym, subst}
use Rattle.std.specs.Prelude.{None, Some, int_lt}
use Rattle.css_model.specs.WallClock.{IsLocal, lo, hi}
use Rattle.css_agree.specs.Keeping.{Kept}
use Rattle.css_agree.proofs.Shared.{found-is}
use Rattle.css_agree.proofs.Told.{apart-tells, disagreement-found}
use Rattle.css_agree.proofs.agree.Agree.contradicts.Goals as goal

pub returns-in-None : goal.returns-in-None
returns-in-None c = record {
  value = λ added stands.
      disagreement-found c.args.self.now c.args.reading added None
      (subst (λ (k : Kept). IsLocal k.local) c.self.view_is c.self.invariant.local) stands
      (found-is c.args.reading _ c.args.self.now _ None c.self.view_is c.deref.ensures.value c.in-None.ensures);
}

pub returns-in-Some : goal.returns-in-Some
returns-in-Some c = record {
  value = λ added stands.
      let r = c.args.reading in
      let best = c.in-Some.best in
      c.are_apart.ensures
      ∙ ap (λ (k : Kept). int_lt (hi k.local best.high r) (lo k.local best.low r)) c.self.view_is
      ∙ sym (apart-tells _ best.low best.high _)
      ∙ disagreement-found c.args.self.now r added (Some best)
      (subst (λ (k : Kept). IsLocal k.local) c.self.view_is c.self.invariant.local) stands
      (found-is r _ c.args.self.now _ (Some best) c.self.view_is c.deref.ensures.value c.in-Some.ensures);
}
