-- The ends of two answers of one declared error move alike.
use Rattle.std.proofs.Common.{◌≡◌, ℕ, ◌+◌, ◌-◌, ◌*◌, arith, sym, subst}
use Rattle.std.proofs.lemmas.Int.{ints}
use borrow.Author.Differences.{up, down}
use Rattle.css_model.specs.declared.TheConstants.{F}
use Rattle.css_model.specs.WallClock.{Answer, Local, lower, upper}
use Rattle.css_model.proofs.Division.{differences}
use Rattle.css_agree.specs.Bests.{EndsMoveAlike}

-- the lower end as a difference of two naturals, where e is the answer's error
abbrev pub LowerIs : Local → Answer → ℕ → ℕ → Type 0
LowerIs own a e r =
    up (lower own a r) + ((a.precision + 1) * (F + own.error) + (F - e) * (a.t4 + 2 * own.precision + 1))
    ≡ down (lower own a r) + (a.t3 * (F + own.error) + (F - e) * r)

pub lower_is : (own : Local) (a : Answer) (r : ℕ) → LowerIs own a a.error r
unfolding lower
lower_is own a r = omega (arith, ints, differences)

-- the upper end likewise
abbrev pub UpperIs : Local → Answer → ℕ → ℕ → Type 0
UpperIs own a e r =
    up (upper own a r) + (F + e) * a.t1
    ≡ down (upper own a r) + ((a.t2 + a.precision + 1) * (F - own.error) + (F + e) * (r + 2 * own.precision + 1))

pub upper_is : (own : Local) (a : Answer) (r : ℕ) → UpperIs own a a.error r
unfolding upper
upper_is own a r = omega (arith, ints, differences)

pub ends_move_alike : EndsMoveAlike
ends_move_alike own a b same = record {
  lows = λ r s h.
      let at_r : LowerIs own b a.error r = subst (λ (n : ℕ). LowerIs own b n r) (sym same) (lower_is own b r) in
      let at_s : LowerIs own b a.error s = subst (λ (n : ℕ). LowerIs own b n s) (sym same) (lower_is own b s) in
      omega (arith, ints, h, lower_is own a r, lower_is own a s);
  highs = λ r s h.
      let at_r : UpperIs own b a.error r = subst (λ (n : ℕ). UpperIs own b n r) (sym same) (upper_is own b r) in
      let at_s : UpperIs own b a.error s = subst (λ (n : ℕ). UpperIs own b n s) (sym same) (upper_is own b s) in
      omega (arith, ints, h, upper_is own a r, upper_is own a s);
}
