-- Which companion each datagram is for: each answer makes two, for the companion whose request was taken.
use Rattle.std.proofs.Common.{◌≡◌, ℕ, suc, zero, ◌+◌, ◌-◌, ◌*◌, ◌<◌, ◌≤◌, arith, ap, ◌∙◌, refl, Bool, true, false, List}
use Rattle.std.proofs.Common.{[], ◌∷◌, ◌++◌, length, All, nat_lt, Some, ◌==◌, if◌then◌else◌, reverse, slice_index}
use Rattle.std.proofs.lemmas.Bool.{eq-eqb, ne_eqb, eqb-true, ltb-true}
use Rattle.std.proofs.Math.ListN.{get_or-append}
use Rattle.std.proofs.Math.Seq.{get_or-append_seam}
use Rattle.css_gen.specs.Crowd.{datagrams}
use Rattle.css_survey.proofs.Names.{eqb-false, ltb-false, nat_tests, All-nil, All-cons, All-weaker, length-append}
use Rattle.css_survey.proofs.Names.{length-reverse, reverse-append, reverse-reverse, numbered}

-- ---- items by number
-- the number of an item is one more than its place where the oldest stands first
numbered-placed : (items : List ℕ) (place : ℕ) → place < length items
    → numbered (suc place) items ≡ Some (slice_index (reverse items) place)
numbered-placed [] place below = absurd (omega (arith, below))
numbered-placed (item ∷ older) place below = by (place == length older) refl (numbered-placed older place)
  where
    by : (b : Bool) → (place == length older) ≡ b
        → (place < length older → numbered (suc place) older ≡ Some (slice_index (reverse older) place))
        → numbered (suc place) (item ∷ older) ≡ Some (slice_index (reverse (item ∷ older)) place)
    by true e next =
        let is = eqb-true place (length older) e in
        let last : place ≡ length (reverse older) = omega (arith, is, length-reverse older) in
        simp (eq-eqb (suc place) (suc (length older)) (ap suc is))
        (simp (reverse-append (item ∷ []) older, last, get_or-append_seam (reverse older) item [] 0))
    by false e next =
        let within : place < length older = omega (arith, below, eqb-false place (length older) e) in
        let apart = ne_eqb (suc place) (suc (length older)) (λ same. omega (arith, same, within)) in
        simp (
          apart,
          next within,
          reverse-append (item ∷ []) older,
          get_or-append (reverse older) (item ∷ []) 0 place (omega (arith, length-reverse older, within)),
        )

pub numbered-reverse : (items : List ℕ) (number : ℕ) → 1 ≤ number → number ≤ length items
    → numbered number (reverse items) ≡ Some (slice_index items (number - 1))
numbered-reverse items zero low high = absurd (omega (arith, low))
numbered-reverse items (suc place) low high =
    let same : place ≡ suc place - 1 = omega arith in
    numbered-placed (reverse items) place (omega (arith, length-reverse items, high))
    ∙ ap (λ (l : List ℕ). Some (slice_index l place)) (reverse-reverse items)
    ∙ ap (λ (n : ℕ). Some (slice_index items n)) same

-- what stands at the end is the newest
pub reverse-more : (items : List ℕ) (item : ℕ) → reverse (items ++ item ∷ []) ≡ item ∷ reverse items
reverse-more items item = reverse-append items (item ∷ [])

pub length-more : (items : List ℕ) (item : ℕ) → length (items ++ item ∷ []) ≡ length items + 1
length-more items item = length-append items (item ∷ [])

-- ---- datagrams
-- The companions that the datagrams of so many answers are for, the newest first: each answer makes two.
unfoldable pub made_of : (askers : List ℕ) → (answers : ℕ) → List ℕ
made_of askers zero = []
made_of askers (suc before) = slice_index askers before ∷ slice_index askers before ∷ made_of askers before

made_of-length : (askers : List ℕ) (answers : ℕ) → length (made_of askers answers) ≡ 2 * answers
unfolding made_of
made_of-length askers zero = refl
made_of-length askers (suc before) = omega (arith, made_of-length askers before)

-- a later take changes none of them
pub made_of-more : (askers more : List ℕ) (answers : ℕ) → answers ≤ length askers
    → made_of (askers ++ more) answers ≡ made_of askers answers
unfolding made_of
made_of-more askers more zero within = refl
made_of-more askers more (suc before) within =
    ap (λ (who : ℕ). who ∷ who ∷ made_of (askers ++ more) before) (get_or-append askers more 0 before within)
    ∙ ap (λ (older : List ℕ). slice_index askers before ∷ slice_index askers before ∷ older)
    (made_of-more askers more before (omega (arith, within)))

-- a datagram of so many answers, which is for that companion
pub record IsFor (who : ℕ) (askers : List ℕ) (answers number : ℕ) : Type 0 where
  pub high : number ≤ 2 * answers
  pub is : numbered number (made_of askers answers) ≡ Some who

-- it is after one answer more
for-older : (who : ℕ) (askers : List ℕ) (before number : ℕ) → IsFor who askers before number
    → IsFor who askers (suc before) number
unfolding made_of
for-older who askers before number h =
    let high = h.high in
    let apart : (number == suc (length (made_of askers before))) ≡ false =
    grind (arith, nat_tests, made_of-length askers before) in
    let apart' : (number == suc (suc (length (made_of askers before)))) ≡ false =
    grind (arith, nat_tests, made_of-length askers before) in
    record { high = omega arith; is = simp (apart, apart', h.is) }

-- the two datagrams of the last answer are for who asked
for-last : (who : ℕ) (askers : List ℕ) (before number : ℕ) → slice_index askers before ≡ who
    → 2 * before < number → number ≤ 2 * before + 2 → IsFor who askers (suc before) number
unfolding made_of
for-last who askers before number asked low high =
    record { high = omega arith; is = grind (arith, nat_tests, made_of-length askers before) }

-- each datagram that answers a companion's requests is for it
pub datagrams-for : (who : ℕ) (askers : List ℕ) (answers : ℕ)
    → All (IsFor who askers answers) (datagrams who askers answers)
unfolding datagrams
datagrams-for who askers zero = All-nil (IsFor who askers zero)
datagrams-for who askers (suc before) =
    by (slice_index askers before == who) refl (All-weaker (IsFor who askers before) (IsFor who askers (suc before))
    (for-older who askers before) (datagrams who askers before) (datagrams-for who askers before))
  where
    older : List ℕ
    older = datagrams who askers before

    For : ℕ → Type 0
    For = IsFor who askers (suc before)

    by : (b : Bool) → (slice_index askers before == who) ≡ b → All For older
        → All For (if b then (2 * before + 2) ∷ (2 * before + 1) ∷ older else older)
    by true e all =
        let last = for-last who askers before in
        let own = eqb-true (slice_index askers before) who e in
        All-cons For (2 * before + 2) ((2 * before + 1) ∷ older) (last (2 * before + 2) own (omega arith) (omega arith))
        (All-cons For (2 * before + 1) older (last (2 * before + 1) own (omega arith) (omega arith)) all)
    by false e all = all

-- where one companion asked for all of them, each is for it
pub all-for : (who : ℕ) (askers : List ℕ) (answers number : ℕ)
    → ((i : ℕ) → i < answers → slice_index askers i ≡ who) → 1 ≤ number → number ≤ 2 * answers
    → IsFor who askers answers number
all-for who askers zero number each low high = absurd (omega (arith, low, high))
all-for who askers (suc before) number each low high =
    by (nat_lt (2 * before) number) refl
    (all-for who askers before number (λ i below. each i (omega (arith, below))) low)
  where
    by : (b : Bool) → nat_lt (2 * before) number ≡ b → (number ≤ 2 * before → IsFor who askers before number)
        → IsFor who askers (suc before) number
    by true e next =
        for-last who askers before number (each before (omega arith)) (ltb-true (2 * before) number e)
        (omega (arith, high))
    by false e next = for-older who askers before number (next (ltb-false (2 * before) number e))
