-- Bytes cut into lines, part after part.
use Rattle.std.proofs.Common.{◌≡◌, ℕ, suc, ◌+◌, ◌-◌, ◌<◌, Bool, true, false, cond, List, [], ◌∷◌, ◌++◌, length}
use Rattle.std.proofs.Common.{sym, ◌∙◌, ap, refl, arith, append_assoc, append-nil, take, drop, get_or}
use Rattle.std.specs.List.{slice_split, All}
use Rattle.std.proofs.Math.Seq.{take-length}
use Rattle.std.proofs.lemmas.Bool.{eqb-true}
use Rattle.std.proofs.lemmas.List.{length-append, length-drop, length-take, get_or-take, drop_more, take-append-drop}
use Rattle.std.proofs.lemmas.List.Sums.{sum_by-cons}
use Rattle.std.proofs.lemmas.List.Elements.{All-nil, All-head, All-tail, All-push, All-from_get_or}
use Rattle.std.proofs.lemmas.List.Splits.{slice_split_none, slice_split_at}
use Rattle.memchr.specs.Find.{Nowhere, NoneBefore, Passes, is_byte}
use Rattle.css_lines.specs.Lines.{is_feed, all_but_last, last_of, unless_empty, whole_lines, last_part}
use Rattle.css_lines.specs.Meaning.{offset}
use Rattle.css_lines.specs.Progress.{HasNoFeed, IsCut}

-- the whole lines of bytes that come after this part of a line
abbrev pub whole_from : List ℕ → List ℕ → List (List ℕ)
whole_from part [] = []
whole_from part (b ∷ bs) = cond (is_feed b) (part ∷ whole_from [] bs) (whole_from (part ++ b ∷ []) bs)

-- the part of a line that is then left
abbrev pub last_from : List ℕ → List ℕ → List ℕ
last_from part [] = part
last_from part (b ∷ bs) = cond (is_feed b) (last_from [] bs) (last_from (part ++ b ∷ []) bs)

-- more bytes give more lines
pub whole_from-append : (part xs ys : List ℕ)
    → whole_from part (xs ++ ys) ≡ whole_from part xs ++ whole_from (last_from part xs) ys
whole_from-append part [] ys = refl
whole_from-append part (b ∷ xs) ys =
    elim (is_feed b) as (λ v. cond v (part ∷ whole_from [] (xs ++ ys)) (whole_from (part ++ b ∷ []) (xs ++ ys))
    ≡ cond v (part ∷ whole_from [] xs) (whole_from (part ++ b ∷ []) xs)
    ++ whole_from (cond v (last_from [] xs) (last_from (part ++ b ∷ []) xs)) ys)
    [ true ↦ ap (λ l. part ∷ l) (whole_from-append [] xs ys) | false ↦ whole_from-append (part ++ b ∷ []) xs ys ]

-- more bytes go on from the part that is left
pub last_from-append : (part xs ys : List ℕ) → last_from part (xs ++ ys) ≡ last_from (last_from part xs) ys
last_from-append part [] ys = refl
last_from-append part (b ∷ xs) ys =
    elim (is_feed b) as (λ v. cond v (last_from [] (xs ++ ys)) (last_from (part ++ b ∷ []) (xs ++ ys))
    ≡ last_from (cond v (last_from [] xs) (last_from (part ++ b ∷ []) xs)) ys)
    [ true ↦ last_from-append [] xs ys | false ↦ last_from-append (part ++ b ∷ []) xs ys ]

-- one byte more, which is a line feed or not
split_at : (b : ℕ) (v : Bool) → is_feed b ≡ v → (part bytes : List ℕ) → All (λ x. is_feed x ≡ false) part
    → slice_split is_feed bytes ≡ whole_from [] bytes ++ last_from [] bytes ∷ []
    → (is_feed b ≡ false → slice_split is_feed ((part ++ b ∷ []) ++ bytes) ≡ whole_from (part ++ b ∷ []) bytes
    ++ last_from (part ++ b ∷ []) bytes ∷ [])
    → slice_split is_feed (part ++ b ∷ bytes) ≡ cond v (part ∷ whole_from [] bytes)
    (whole_from (part ++ b ∷ []) bytes) ++ cond v (last_from [] bytes) (last_from (part ++ b ∷ []) bytes) ∷ []
split_at b true e part bytes free after longer = slice_split_at is_feed part b bytes free e ∙ ap (λ l. part ∷ l) after
split_at b false e part bytes free after longer =
    ap (slice_split is_feed) (sym (append_assoc part (b ∷ []) bytes)) ∙ longer e

-- no line feed stands in a part, so the parts of std's `slice_split` are these lines and what is left
pub split_from : (part bytes : List ℕ) → All (λ x. is_feed x ≡ false) part
    → slice_split is_feed (part ++ bytes) ≡ whole_from part bytes ++ last_from part bytes ∷ []
split_from part [] free = ap (slice_split is_feed) (append-nil part) ∙ slice_split_none is_feed part free
split_from part (b ∷ bytes) free =
    split_at b (is_feed b) refl part bytes free
    (split_from [] bytes (All-nil (λ x. is_feed x ≡ false)))
    (λ e. split_from (part ++ b ∷ []) bytes (All-push (λ x. is_feed x ≡ false) part b free e))

-- without the last part
all_but_last_push : (xs : List (List ℕ)) (x : List ℕ) → all_but_last (xs ++ x ∷ []) ≡ xs
all_but_last_push [] x = refl
all_but_last_push (y ∷ []) x = refl
all_but_last_push (y ∷ z ∷ xs) x = ap (λ l. y ∷ l) (all_but_last_push (z ∷ xs) x)

-- the last part
last_of_push : (xs : List (List ℕ)) (x : List ℕ) → last_of (xs ++ x ∷ []) ≡ x
last_of_push [] x = refl
last_of_push (y ∷ []) x = refl
last_of_push (y ∷ z ∷ xs) x = last_of_push (z ∷ xs) x

-- the parts between line feeds
parts : (bytes : List ℕ) → slice_split is_feed bytes ≡ whole_from [] bytes ++ last_from [] bytes ∷ []
parts bytes = split_from [] bytes (All-nil (λ x. is_feed x ≡ false))

-- the whole lines, byte after byte
pub whole_lines_is : (bytes : List ℕ) → whole_lines bytes ≡ whole_from [] bytes
unfolding whole_lines
whole_lines_is bytes = ap all_but_last (parts bytes) ∙ all_but_last_push (whole_from [] bytes) (last_from [] bytes)

-- the part that is left, byte after byte
pub last_part_is : (bytes : List ℕ) → last_part bytes ≡ last_from [] bytes
unfolding last_part
last_part_is bytes = ap last_of (parts bytes) ∙ last_of_push (whole_from [] bytes) (last_from [] bytes)

-- the lines and the part that is left, where more bytes follow
pub whole_lines-append : (read rest : List ℕ)
    → whole_lines (read ++ rest) ≡ whole_lines read ++ whole_from (last_part read) rest
whole_lines-append read rest = whole_lines_is (read ++ rest) ∙ whole_from-append [] read rest
    ∙ ap (λ l. l ++ whole_from (last_from [] read) rest) (sym (whole_lines_is read))
    ∙ ap (λ l. whole_lines read ++ whole_from l rest) (sym (last_part_is read))

-- the part that is left, where more bytes follow
pub last_part-append : (read rest : List ℕ) → last_part (read ++ rest) ≡ last_from (last_part read) rest
last_part-append read rest =
    last_part_is (read ++ rest) ∙ last_from-append [] read rest ∙ ap (λ l. last_from l rest) (sym (last_part_is read))

-- one byte more
pub whole_lines_feed : (read : List ℕ) (b : ℕ) → is_feed b ≡ true
    → whole_lines (read ++ b ∷ []) ≡ whole_lines read ++ last_part read ∷ []
whole_lines_feed read b e =
    whole_lines_is (read ++ b ∷ []) ∙ whole_from-append [] read (b ∷ [])
    ∙ ap (λ v. whole_from [] read ++ cond v (last_from [] read ∷ []) []) e
    ∙ ap (λ l. l ++ last_from [] read ∷ []) (sym (whole_lines_is read))
    ∙ ap (λ l. whole_lines read ++ l ∷ []) (sym (last_part_is read))

-- bytes without a line feed go on with the line
pub whole_from-free : (part bytes rest : List ℕ) → HasNoFeed bytes
    → whole_from part (bytes ++ rest) ≡ whole_from (part ++ bytes) rest
whole_from-free part [] rest free = ap (λ l. whole_from l rest) (sym (append-nil part))
whole_from-free part (b ∷ bytes) rest free =
    let other = All-head (λ x. is_feed x ≡ false) b bytes free in
    let more = All-tail (λ x. is_feed x ≡ false) b bytes free in
    ap (λ v. cond v (part ∷ whole_from [] (bytes ++ rest)) (whole_from (part ++ b ∷ []) (bytes ++ rest))) other
    ∙ whole_from-free (part ++ b ∷ []) bytes rest more ∙ ap (λ l. whole_from l rest) (append_assoc part (b ∷ []) bytes)

-- bytes without a line feed are a part of the line
pub last_from-free : (part bytes rest : List ℕ) → HasNoFeed bytes
    → last_from part (bytes ++ rest) ≡ last_from (part ++ bytes) rest
last_from-free part [] rest free = ap (λ l. last_from l rest) (sym (append-nil part))
last_from-free part (b ∷ bytes) rest free =
    let other = All-head (λ x. is_feed x ≡ false) b bytes free in
    let more = All-tail (λ x. is_feed x ≡ false) b bytes free in
    ap (λ v. cond v (last_from [] (bytes ++ rest)) (last_from (part ++ b ∷ []) (bytes ++ rest))) other
    ∙ last_from-free (part ++ b ∷ []) bytes rest more ∙ ap (λ l. last_from l rest) (append_assoc part (b ∷ []) bytes)

-- bytes without a line feed end no line
pub whole_lines_free : (read bytes : List ℕ) → HasNoFeed bytes → whole_lines (read ++ bytes) ≡ whole_lines read
whole_lines_free read bytes free =
    whole_lines-append read bytes
    ∙ ap (λ l. whole_lines read ++ l) (ap (whole_from (last_part read)) (sym (append-nil bytes))
    ∙ whole_from-free (last_part read) bytes [] free)
    ∙ append-nil (whole_lines read)

-- after a line feed nothing is left
pub last_part_feed : (read : List ℕ) (b : ℕ) → is_feed b ≡ true → last_part (read ++ b ∷ []) ≡ []
last_part_feed read b e = last_part_is (read ++ b ∷ []) ∙ last_from-append [] read (b ∷ [])
    ∙ ap (λ v. cond v [] (last_from [] read ++ b ∷ [])) e

-- bytes without a line feed are bytes of the line
pub last_part_free : (read bytes : List ℕ) → HasNoFeed bytes → last_part (read ++ bytes) ≡ last_part read ++ bytes
last_part_free read bytes free =
    last_part-append read bytes ∙ ap (last_from (last_part read)) (sym (append-nil bytes))
    ∙ last_from-free (last_part read) bytes [] free

-- the bytes of the lines, with their line feeds, and of the part are all
length_from : (part bytes : List ℕ)
    → offset (whole_from part bytes) + length (last_from part bytes) ≡ length part + length bytes
length_from part [] = omega arith
length_from part (b ∷ bytes) =
    let after = length_from [] bytes in
    let longer = length_from (part ++ b ∷ []) bytes in
    elim (is_feed b) as (λ v. offset (cond v (part ∷ whole_from [] bytes) (whole_from (part ++ b ∷ []) bytes)) + length
    (cond v (last_from [] bytes) (last_from (part ++ b ∷ []) bytes)) ≡ length part + suc (length bytes)) [
      | true ↦ omega (arith, sum_by-cons (λ (l : List ℕ). length l + 1) part (whole_from [] bytes), after)
      | false ↦ omega (arith, longer, length-append part (b ∷ []))
    ]

-- the bytes of the whole lines and of the part that is left are all
pub length_read : (read : List ℕ) → offset (whole_lines read) + length (last_part read) ≡ length read
length_read read = ap (λ l. offset l + length (last_part read)) (whole_lines_is read)
    ∙ ap (λ (l : List ℕ). offset (whole_from [] read) + length l) (last_part_is read)
    ∙ length_from [] read ∙ (omega arith)

-- a part with a byte is a line
pub unless_empty_some : (part : List ℕ) → 0 < length part → unless_empty part ≡ part ∷ []
unless_empty_some [] some = absurd (omega arith)
unless_empty_some (b ∷ bs) some = refl

-- a byte that is not found to be a line feed is none
no_feed_here : (byte : ℕ) → ¬ (is_byte 10 byte ≡ true) → is_feed byte ≡ false
no_feed_here byte other =
    elim (is_feed byte) as (λ v. ¬ (v ≡ true) → v ≡ false) [ true ↦ (λ h. absurd (h refl)) | false ↦ (λ h. refl) ] other

-- where no line feed is found, the bytes have none
pub no_feed : (bytes : List ℕ) → Nowhere (Passes (is_byte 10) bytes) 0 (length bytes) → HasNoFeed bytes
no_feed bytes nowhere = All-from_get_or (λ b. is_feed b ≡ false) bytes 0
    (λ k below. no_feed_here (get_or bytes k 0) (nowhere k (omega arith) below))

-- a line feed that is found ends the bytes before it
pub cut_at : (bytes : List ℕ) (feed : ℕ) → NoneBefore (Passes (is_byte 10) bytes) 0 (length bytes) feed
    → Passes (is_byte 10) bytes feed
    → IsCut bytes (take feed bytes) (take (length bytes - (feed + 1)) (drop (feed + 1) bytes))
cut_at bytes feed first found =
    let rest : take (length bytes - (feed + 1)) (drop (feed + 1) bytes) ≡ drop (feed + 1) bytes =
    ap (λ k. take k (drop (feed + 1) bytes)) (sym (length-drop (feed + 1) bytes))
    ∙ take-length (drop (feed + 1) bytes) in
    record {
      whole =
          sym (take-append-drop feed bytes) ∙ ap (λ l. take feed bytes ++ l) (drop_more bytes feed 0 first.high)
          ∙ ap (λ b. take feed bytes ++ b ∷ drop (feed + 1) bytes) (eqb-true (get_or bytes feed 0) 10 found)
          ∙ ap (λ l. take feed bytes ++ 10 ∷ l) (sym rest);
      free = All-from_get_or (λ b. is_feed b ≡ false) (take feed bytes) 0
          (λ k below. let within : k < feed = omega (arith, below, length-take feed bytes) in
          ap is_feed (get_or-take feed bytes k 0 within)
          ∙ no_feed_here (get_or bytes k 0) (first.before k (omega arith) within));
    }
