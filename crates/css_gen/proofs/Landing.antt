-- The datagrams that answer a companion's requests, from the last take on.
use Rattle.std.proofs.Common.{◌≡◌, ℕ, suc, zero, ◌+◌, ◌-◌, ◌*◌, ◌<◌, ◌≤◌, arith, ap, sym, ◌∙◌, refl, List, ◌∷◌, length}
use Rattle.std.proofs.Common.{Bool, ne_eqb, eq-eqb, if◌then◌else◌, slice_index}
use Rattle.css_gen.specs.Crowd.{datagrams}

-- where the last take is the companion's, its answer makes two more
pub own-last : (who : ℕ) (askers : List ℕ) (take : ℕ) → 0 < take → slice_index askers (take - 1) ≡ who
    → datagrams who askers take ≡ (2 * take) ∷ (2 * take - 1) ∷ datagrams who askers (take - 1)
unfolding datagrams
own-last who askers zero some own = absurd (omega arith)
own-last who askers (suc before) some own =
    let same : suc before - 1 ≡ before = omega arith in
    let older = datagrams who askers before in
    let is = eq-eqb (slice_index askers before) who (ap (slice_index askers) (sym same) ∙ own) in
    let newest : 2 * before + 2 ≡ 2 * suc before = omega arith in
    let second : 2 * before + 1 ≡ 2 * suc before - 1 = omega arith in
    ap (λ (b : Bool). if b then (2 * before + 2) ∷ (2 * before + 1) ∷ older else older) is
    ∙ ap (λ (n : ℕ). n ∷ (2 * before + 1) ∷ older) newest
    ∙ ap (λ (n : ℕ). (2 * suc before) ∷ n ∷ older) second
    ∙ ap (λ (n : ℕ). (2 * suc before) ∷ (2 * suc before - 1) ∷ datagrams who askers n) (sym same)

-- where it is another's, it makes none
pub other-last : (who : ℕ) (askers : List ℕ) (take : ℕ) → 0 < take → (slice_index askers (take - 1) ≡ who → ⊥)
    → datagrams who askers take ≡ datagrams who askers (take - 1)
unfolding datagrams
other-last who askers zero some other = absurd (omega arith)
other-last who askers (suc before) some other =
    let same : suc before - 1 ≡ before = omega arith in
    let older = datagrams who askers before in
    let is = ne_eqb (slice_index askers before) who (λ e. other (ap (slice_index askers) same ∙ e)) in
    ap (λ (b : Bool). if b then (2 * before + 2) ∷ (2 * before + 1) ∷ older else older) is
    ∙ ap (datagrams who askers) (sym same)

-- so there are two more
pub own-length : (who : ℕ) (askers : List ℕ) (take : ℕ) → 0 < take → slice_index askers (take - 1) ≡ who
    → length (datagrams who askers take) ≡ length (datagrams who askers (take - 1)) + 2
own-length who askers take some own =
    let older = datagrams who askers (take - 1) in
    let two : length ((2 * take) ∷ (2 * take - 1) ∷ older) ≡ length older + 2 = omega arith in
    ap length (own-last who askers take some own) ∙ two

-- the newest two
pub own-newest : (who : ℕ) (askers : List ℕ) (take before : ℕ) → 0 < take → slice_index askers (take - 1) ≡ who
    → before < 2 → 2 * take - before ≡ slice_index (datagrams who askers take) before
own-newest who askers take zero some own few =
    let same : 2 * take - 0 ≡ 2 * take = omega arith in
    same ∙ sym (ap (λ (list : List ℕ). slice_index list 0) (own-last who askers take some own))
own-newest who askers take (suc zero) some own few =
    sym (ap (λ (list : List ℕ). slice_index list 1) (own-last who askers take some own))
own-newest who askers take (suc (suc before)) some own few = absurd (omega arith)

-- and the older ones
pub own-older : (who : ℕ) (askers : List ℕ) (take before : ℕ) → 0 < take → slice_index askers (take - 1) ≡ who
    → 2 ≤ before
    → slice_index (datagrams who askers take) before ≡ slice_index (datagrams who askers (take - 1)) (before - 2)
own-older who askers take zero some own many = absurd (omega arith)
own-older who askers take (suc zero) some own many = absurd (omega arith)
own-older who askers take (suc (suc before)) some own many =
    let older = datagrams who askers (take - 1) in
    let same : suc (suc before) - 2 ≡ before = omega arith in
    ap (λ (list : List ℕ). slice_index list (suc (suc before))) (own-last who askers take some own)
    ∙ ap (slice_index older) (sym same)

-- before the first take there is none
pub none-made : (who : ℕ) (askers : List ℕ) (take : ℕ) → take ≤ 0 → length (datagrams who askers take) ≡ 0
unfolding datagrams
none-made who askers zero none = refl
none-made who askers (suc take) none = absurd (omega arith)
