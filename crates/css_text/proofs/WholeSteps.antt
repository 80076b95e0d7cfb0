-- what the loop over a text has passed
use Rattle.std.proofs.Common.{◌≡◌, ℕ, ◌+◌, ◌-◌, ◌^◌, ◌<◌, ◌≤◌, List, [], ◌∷◌, ◌++◌, length, get_or, take, drop, true}
use Rattle.std.proofs.Common.{false, refl, ap, ◌∙◌, arith, append_assoc, add-one, drop-cons, length-drop, subst}
use Rattle.std.proofs.Common.{zero-add}
use Rattle.std.proofs.lemmas.List.{take_more, get_or-drop, drop_all}
use Rattle.std.specs.Prelude.{min, slice_range}
use Rattle.json.specs.Word.{after_number}
use Rattle.css_text.specs.Numerals.{rewritten, is_odd}
use Rattle.css_text.specs.WholeTexts.{whole_from, odd_from, whole_text, odd_count, place_after, run_after, is_in_run}
use Rattle.css_text.specs.WholeTexts.{settled, odd_at}
use Rattle.std.specs.Int.{from_bool}
use Rattle.css_text.specs.declared.whole_text.Place.{Place}

-- the greatest count
abbrev pub top : ℕ
top = 2 ^ 32 - 1

-- up to `i`: the text is written up to `copied`, all bytes up to `start` stay as they are, and there a run begins that
-- is still to come
pub record Passed (bytes text : List ℕ) (odd : ℕ) (place : Place) (copied start i : ℕ) : Type 0 where
  pub copied_first : copied ≤ start
  pub ordered : start ≤ i
  pub within : i ≤ length bytes
  pub written : (text ++ slice_range bytes copied start)
      ++ whole_from place (slice_range bytes start i) (drop i bytes) ≡ whole_text bytes
  pub counted : min (odd + odd_from place (slice_range bytes start i) (drop i bytes)) top ≡ min (odd_count bytes) top
  pub small : odd ≤ top

-- the text from the next byte on
pub whole_step : (p : Place) (run bytes : List ℕ) (i : ℕ) → i < length bytes
    → whole_from p run (drop i bytes) ≡ settled p run (get_or bytes i 0)
    ++ whole_from (place_after p (get_or bytes i 0)) (run_after p run (get_or bytes i 0)) (drop (i + 1) bytes)
unfolding whole_from
whole_step p run bytes i h = rw (add-one, drop-cons bytes i 0)

-- the count from the next byte on
pub odd_step : (p : Place) (run bytes : List ℕ) (i : ℕ) → i < length bytes
    → odd_from p run (drop i bytes) ≡ odd_at p run (get_or bytes i 0)
    + odd_from (place_after p (get_or bytes i 0)) (run_after p run (get_or bytes i 0)) (drop (i + 1) bytes)
unfolding odd_from
odd_step p run bytes i h = rw (add-one, drop-cons bytes i 0)

-- a number less itself
sub_self : (n : ℕ) → n - n ≡ 0
sub_self n = omega arith

-- a count that stays at its greatest value
min_again : (odd odd' one after all before : ℕ) → odd' ≡ min (odd + one) top → before ≡ one + after
    → min (odd + before) top ≡ min all top → min (odd' + after) top ≡ min all top
min_again odd odd' one after all before a b c = omega arith

-- a run with one byte more
run_more : (bytes : List ℕ) (start i : ℕ) → start ≤ i → i < length bytes
    → slice_range bytes start (i + 1) ≡ slice_range bytes start i ++ get_or bytes i 0 ∷ []
run_more bytes start i le lt =
    let count : i + 1 - start ≡ (i - start) + 1 = omega arith in
    let there : i - start < length (drop start bytes) = simp length-drop (omega arith) in
    let at : start + (i - start) ≡ i = omega arith in
    let item : get_or (drop start bytes) (i - start) 0 ≡ get_or bytes i 0 =
    get_or-drop start bytes (i - start) 0 ∙ ap (λ k. get_or bytes k 0) at in
    ap (λ k. take k (drop start bytes)) count ∙ take_more (drop start bytes) (i - start) 0 there ∙ ap (λ b.
    take (i - start) (drop start bytes) ++ b ∷ []) item

-- a run of one byte
run_one : (bytes : List ℕ) (i : ℕ) → i < length bytes → slice_range bytes i (i + 1) ≡ get_or bytes i 0 ∷ []
run_one bytes i lt =
    run_more bytes i i (omega arith) lt ∙ ap (λ n. take n (drop i bytes) ++ get_or bytes i 0 ∷ []) (sub_self i)

-- an empty run
run_none : (bytes : List ℕ) (i : ℕ) → slice_range bytes i i ≡ []
run_none bytes i = ap (λ n. take n (drop i bytes)) (sub_self i)

-- nothing stands for an empty run, and it isn't odd
empty_run : (rewritten [] ≡ []) × (is_odd [] ≡ false)
unfolding rewritten is_odd after_number
empty_run = (refl, refl)

-- the byte goes into the run
pub goes_on : (bytes text : List ℕ) (odd : ℕ) (p : Place) (copied start i b : ℕ) → is_in_run p b ≡ true
    → b ≡ get_or bytes i 0 → i < length bytes
    → Passed bytes text odd p copied start i → Passed bytes text odd (place_after p b) copied start (i + 1)
goes_on bytes text odd p copied start i b in_run is lt h =
    let run = slice_range bytes start i in
    let more = run_more bytes start i h.ordered lt in
    let here : is_in_run p (get_or bytes i 0) ≡ true = subst (λ x. is_in_run p x ≡ true) is in_run in
    let whole : whole_from p run (drop i bytes) ≡ whole_from (place_after p b) (slice_range bytes start (i + 1))
    (drop (i + 1) bytes) =
    whole_step p run bytes i lt ∙ rw (here, is, more) refl in
    let odds : odd_from p run (drop i bytes) ≡ odd_from (place_after p b) (slice_range bytes start (i + 1))
    (drop (i + 1) bytes) =
    odd_step p run bytes i lt ∙ rw (here, is, more) (zero-add _) in
    record {
      copied_first = h.copied_first;
      ordered = omega arith;
      within = omega arith;
      written = subst (λ t. (text ++ slice_range bytes copied start) ++ t ≡ whole_text bytes) whole h.written;
      counted = subst (λ n. min (odd + n) top ≡ min (odd_count bytes) top) odds h.counted;
      small = h.small;
    }

-- the byte ends the run, which is written
pub settles : (bytes text text' : List ℕ) (odd odd' : ℕ) (p : Place) (copied start i b : ℕ) → is_in_run p b ≡ false
    → b ≡ get_or bytes i 0 → i < length bytes
    → text' ≡ (text ++ slice_range bytes copied start) ++ rewritten (slice_range bytes start i)
    → odd' ≡ min (odd + from_bool (is_odd (slice_range bytes start i))) top
    → Passed bytes text odd p copied start i → Passed bytes text' odd' (place_after p b) i (i + 1) (i + 1)
settles bytes text text' odd odd' p copied start i b ends is lt text_is odd_is h =
    let run = slice_range bytes start i in
    let rest = whole_from (place_after p b) [] (drop (i + 1) bytes) in
    let here : is_in_run p (get_or bytes i 0) ≡ false = subst (λ x. is_in_run p x ≡ false) is ends in
    let whole : whole_from p run (drop i bytes) ≡ (rewritten run ++ get_or bytes i 0 ∷ []) ++ rest =
    whole_step p run bytes i lt ∙ rw (here, is) refl in
    let odds : odd_from p run (drop i bytes) ≡ from_bool (is_odd run)
    + odd_from (place_after p b) [] (drop (i + 1) bytes) =
    odd_step p run bytes i lt ∙ rw (here, is) refl in
    let text_now : (text' ++ slice_range bytes i (i + 1)) ++ rest ≡ (text ++ slice_range bytes copied start)
    ++ whole_from p run (drop i bytes) =
    rw (text_is, run_one bytes i lt, whole) (simp append_assoc) in
    record {
      copied_first = omega arith;
      ordered = omega arith;
      within = omega arith;
      written = rw (run_none bytes (i + 1)) (text_now ∙ h.written);
      counted = rw (run_none bytes (i + 1)) (min_again _ _ _ _ _ _ odd_is odds h.counted);
      small = omega arith;
    }

-- the byte stays as it is, behind no run
pub passes : (bytes text : List ℕ) (odd : ℕ) (p : Place) (copied start i b : ℕ) → is_in_run p b ≡ false
    → b ≡ get_or bytes i 0 → i < length bytes → i ≤ start
    → Passed bytes text odd p copied start i → Passed bytes text odd (place_after p b) copied (i + 1) (i + 1)
passes bytes text odd p copied start i b ends is lt late h =
    let same : start ≡ i = omega arith in
    let front = slice_range bytes copied i in
    let rest = whole_from (place_after p b) [] (drop (i + 1) bytes) in
    let here : is_in_run p (get_or bytes i 0) ≡ false = subst (λ x. is_in_run p x ≡ false) is ends in
    let whole : whole_from p [] (drop i bytes) ≡ get_or bytes i 0 ∷ rest =
    whole_step p [] bytes i lt ∙ rw (here, is, empty_run.0) refl in
    let odds : odd_from p [] (drop i bytes) ≡ odd_from (place_after p b) [] (drop (i + 1) bytes) =
    odd_step p [] bytes i lt ∙ rw (here, is, empty_run.1) (zero-add _) in
    let written = rw (same, run_none bytes i, whole) at h.written in
    let counted = rw (same, run_none bytes i, odds) at h.counted in
    let text_now : (text ++ slice_range bytes copied (i + 1)) ++ rest ≡ (text ++ front) ++ get_or bytes i 0 ∷ rest =
    rw (run_more bytes copied i (omega arith) lt) (simp append_assoc) in
    record {
      copied_first = omega arith;
      ordered = omega arith;
      within = omega arith;
      written = rw (run_none bytes (i + 1)) (text_now ∙ written);
      counted = rw (run_none bytes (i + 1)) counted;
      small = h.small;
    }

-- the last run is settled at the end
pub at_end : (bytes text : List ℕ) (odd : ℕ) (p : Place) (copied start i : ℕ) → length bytes ≤ i
    → Passed bytes text odd p copied start i
    → ((text ++ slice_range bytes copied start)
    ++ rewritten (slice_range bytes start (length bytes)) ≡ whole_text bytes)
    × (min (odd + from_bool (is_odd (slice_range bytes start (length bytes)))) top ≡ min (odd_count bytes) top)
unfolding whole_from odd_from
at_end bytes text odd p copied start i past h =
    let last : i ≡ length bytes = omega arith in
    let nothing : drop i bytes ≡ [] = drop_all i bytes past in
    let written = rw (nothing, last) at h.written in
    let counted = rw (nothing, last) at h.counted in
    (written, counted)
