-- The floor is now the reading, at which each kept answer is possible.
use Rattle.std.proofs.Common.{◌≤◌, sym, ap, subst, refl, arith}
use Rattle.std.specs.Prelude.{reverse}
use Rattle.css_span.specs.Frontiers.{Frontier, StandsFor}
use Rattle.css_span.proofs.Standing.{possible-later}
use Rattle.css_span.proofs.estimate.Estimate.accept.Goals as goal

risen : (c : goal.After-self-1) → c.self.inside.floor ≤ c.args.reading
risen c = subst (λ (f : Frontier). f.floor ≤ c.args.reading) (sym c.self.view_is) c.requires.floor

pub invariant_of-self-2 : goal.invariant_of-self-2
invariant_of-self-2 c = record {
  local = c.self.invariant.local;
  floor = omega arith;
  kept =
      c.in_ok-keep.ensures.ok.possible
      (possible-later c.self.inside.local c.self.inside.floor c.args.reading (reverse c.self.inside.kept.items)
      c.self.invariant.local (risen c) c.self.invariant.kept);
}

pub returns-clause-ok : goal.returns-clause-ok
returns-clause-ok c = record {
  local = ap (λ (f : Frontier). f.local) c.self.view_is;
  floor = refl;
  stands = λ accepted stands.
      c.in_ok-keep.ensures.ok.stands c.self.inside.floor accepted (risen c) c.self.invariant.local
      (subst (λ (f : Frontier). StandsFor f accepted) (sym c.self.view_is) stands);
}
