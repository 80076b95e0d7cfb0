use Rattle.std.proofs.Common.{◌≡◌, ◌≢◌, ◌∙◌, ℕ, ℤ, sym, ap, subst, inl, inr, arith}
use Rattle.std.specs.Prelude.{◌-◌, ◌⊎◌}
use Rattle.std.proofs.Math.Facts.{to_z-of_z}
use Rattle.css_model.specs.declared.TheConstants.{LIMIT}
use Rattle.css_companion.specs.Standing.{Companion}
use Rattle.css_companion_c.specs.Codes.{DONE, NEVER, searched, Searches}
use Rattle.css_companion_c.specs.When.{IsShownWithin, IsNeverShown, IsLeast, LooksAt}
use Rattle.css_companion_c.specs.declared.when.Readings.{Readings}
use Rattle.css_companion_c.proofs.when.first_look.Goals as goal

looks : (tick : ℤ) (companion : Companion) (code from to : ℕ) → Searches (searched companion) code
    → (code ≢ DONE → from ≡ LIMIT - 1) → (code ≡ DONE → IsShownWithin tick from to companion)
    → (code ≡ DONE → IsLeast tick from to companion) → (code ≡ NEVER → IsNeverShown tick companion)
    → LooksAt tick from companion
looks tick companion code from to s kept within least never =
    (λ no. kept (λ e. no (sym (s.0 no) ∙ e)), λ yes. by (s.1 yes))
  where
    by : (code ≡ DONE) ⊎ (code ≡ NEVER)
        → ((x : ℕ) × IsShownWithin tick from x companion × IsLeast tick from x companion)
        ⊎ ((from ≡ LIMIT - 1) × IsNeverShown tick companion)
    by (inl done) = inl (to, within done, least done)
    by (inr e) = inr (kept (λ d. absurd (omega (arith, d, e))), never e)

pub returns : goal.returns
returns c =
    let found = c.found.ensures in
    subst (λ (t : ℤ). LooksAt t c.found.new.out.from c.args.companion.now) (to_z-of_z c.ranges.tick)
    (looks _ c.args.companion.now c.found.result c.found.new.out.from c.found.new.out.to found.code
    (λ no. ap (λ (r : Readings). r.from) (found.kept no)) found.truth found.least found.never)
