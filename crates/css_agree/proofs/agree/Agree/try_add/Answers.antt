-- The floor is now the greater of the old one and the reading, and each kept answer is possible there.
use Rattle.std.proofs.Common.{◌∙◌, sym, ap, subst, arith, List}
use Rattle.std.specs.Prelude.{max}
use Rattle.std.proofs.lemmas.Int.{ints}
use Rattle.css_span.specs.Frontiers.{IsPossible}
use Rattle.css_agree.specs.Keeping.{Kept, StandsFor, IsKept}
use Rattle.css_agree.specs.declared.best.Best.{Best}
use Rattle.css_agree.proofs.Standing.{stands-with, possible-with, one-later}
use Rattle.css_agree.proofs.agree.Agree.try_add.Goals as goal

possible : (c : goal.After-self-1) → IsPossible c.self.inside.local c.max-self-inside.result c.args.answer
possible c =
    one-later c.self.inside.local c.args.reading c.max-self-inside.result c.args.answer c.self.invariant.local
    (omega (arith, c.max-self-inside.ensures))
    (record { ranges = c.keep.ensures.ranges; wide = omega (arith, ints, c.scaled_width-width.ensures) })

pub invariant_of-self-2 : goal.invariant_of-self-2
invariant_of-self-2 c =
    let own = c.self.inside.local in
    let grown = c.in_ok-replaced.ensures.ok in
    record {
      local = c.self.invariant.local;
      floor = omega (arith, c.max-self-inside.ensures, c.self.invariant.floor);
      possible = rw grown (possible-with own c.self.inside.floor c.args.reading c.max-self-inside.result c.args.answer
          c.self.inside.kept.items c.self.invariant.local (omega (arith, c.max-self-inside.ensures)) (possible c)
          c.self.invariant.possible);
    }

pub returns-clause-ok : goal.returns-clause-ok
returns-clause-ok c =
    let own = c.self.inside.local in
    let grown = c.in_ok-replaced.ensures.ok in
    record {
      local = ap (λ (k : Kept). k.local) c.self.view_is;
      floor = c.max-self-inside.ensures ∙ ap (λ (k : Kept). max k.floor c.args.reading) c.self.view_is;
      stands = λ added stands.
          rw grown (stands-with own c.self.inside.floor c.args.reading c.max-self-inside.result c.args.answer
          c.self.inside.kept.items added c.self.invariant.local (omega (arith, c.max-self-inside.ensures)) (possible c)
          (subst (λ (k : Kept). StandsFor k added) (sym c.self.view_is) stands));
    }

pub returns-clause-undone : goal.returns-clause-undone
returns-clause-undone c =
    let undone = c.in_ok-replaced.ensures.undone in
    let own = c.self.inside.local in
    let floor = c.self.inside.floor in
    let back =
    ap (λ (xs : List Best). record { local = own; bests = xs; floor = floor }) undone.back ∙ c.self.view_is in
    record {
      can = record {
        place = undone.place;
        valid = subst IsKept (sym back) (subst IsKept c.self.view_is c.self.invariant);
      };
      back = back;
    }
