-- Where words are cut.
use Rattle.std.proofs.Common.{◌≡◌, ℕ, zero, suc, ◌≤◌, ◌<◌, List, length, take, true, false, cond, ap, sym, subst, ◌∙◌}
use Rattle.std.proofs.Common.{refl, arith}
use Rattle.std.proofs.Math.Logic.{⊎_elim}
use Rattle.std.proofs.lemmas.Bool.{cases_lt, lt-ltb, le-ltb, le-leb, lt-leb}
use Rattle.std.specs.Prelude.{nat_lt}
use Rattle.std.specs.Fmt.{is_char_start}
use Rattle.std.specs.Fmt.Cut.{floor_char_boundary}
use Rattle.std.specs.Str.{IsCharBoundary}
use Rattle.css_watch_lines.specs.Fronts.{cut}

-- the last place up to i where a character begins
pub record IsLast (bs : List ℕ) (i kept : ℕ) : Type 0 where
  pub bound : kept ≤ i
  pub boundary : IsCharBoundary bs kept
  pub nearest : (j : ℕ) → kept < j → j ≤ i → IsCharBoundary bs j → ⊥

starts : (b : ℕ) → (128 ≤ b → 192 ≤ b) → is_char_start b ≡ true
starts b h = ⊎_elim (λ low. rw (lt-ltb b 128 low) refl) (λ high. rw (le-ltb b 128 high, le-leb 192 b (h high)) refl)
    (cases_lt b 128)

continues : (b : ℕ) → ((128 ≤ b → 192 ≤ b) → ⊥) → is_char_start b ≡ false
continues b h = ⊎_elim (λ low. absurd (h (λ high. omega arith)))
    (λ high. ⊎_elim (λ mid. rw (le-ltb b 128 high, lt-leb 192 b mid) refl) (λ top. absurd (h (λ _. top)))
    (cases_lt b 192)) (cases_lt b 128)

-- is where words are cut
last_is : (bs : List ℕ) (i kept : ℕ) → i < length bs → IsLast bs i kept → floor_char_boundary bs i ≡ kept
unfolding floor_char_boundary
last_is bs zero kept within last = let low = last.bound in omega (arith, low)
last_is bs (suc i) kept within last = ⊎_elim
    (λ below. ap (λ t. cond t (suc i) (floor_char_boundary bs i))
    (continues _ (λ h. last.nearest (suc i) below (omega arith) (omega (arith, within), λ _. h)))
    ∙ last_is bs i kept (omega (arith, within)) (record {
      bound = omega (arith, below);
      boundary = last.boundary;
      nearest = λ j p q. last.nearest j p (omega (arith, q));
    }))
    (λ above. let low = last.bound in let same : kept ≡ suc i = omega (arith, low, above) in
    ap (λ t. cond t (suc i) (floor_char_boundary bs i)) (starts _ ((subst (IsCharBoundary bs) same last.boundary).1
    within)) ∙ sym same)
    (cases_lt kept (suc i))

-- so words that are cut there are cut right
pub cut_is : (words : List ℕ) (kept : ℕ) → 1000 < length words → IsLast words 1000 kept → take kept words ≡ cut words
cut_is words kept long last = rw (lt-ltb 1000 (length words) long, last_is words 1000 kept long last) refl
