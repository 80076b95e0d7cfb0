-- Words with a space between two of them, and lines with a line feed, are cut apart again.
use Rattle.std.proofs.Common.{◌≡◌, ℕ, suc, ◌*◌, ◌+◌, ◌-◌, ◌^◌, ◌<◌, arith, ap, subst, refl, sym, ◌∙◌, Bool, true, false}
use Rattle.std.proofs.Common.{List, [], ◌∷◌, ◌++◌, length, append_assoc, ne_eqb}
use Rattle.std.specs.Prelude.{if◌then◌else◌, ◌==◌, not, ℤ, pos, negsuc, nat_le, unsigned_abs}
use Rattle.std.specs.Prelude.{Some, None, decimal}
use Rattle.std.specs.Char.{is_ascii_digit}
use Rattle.std.specs.Fmt.{signed_decimal}
use Rattle.std.specs.List.{All, list_all, slice_split}
use Rattle.std.proofs.lemmas.Bool.Decides.{nat_tests}
use Rattle.std.proofs.lemmas.List.{append-nil}
use Rattle.std.proofs.lemmas.List.Elements.{All-nil, All-cons, All-append}
use Rattle.std.proofs.lemmas.List.Splits.{slice_split_none, slice_split_at}
use Rattle.css_num.specs.Words.{digits_after, has_leading_zero, number_of}
use Rattle.css_num.proofs.Numerals.{number_of-decimal, then_some}
use Rattle.css_schedule.proofs.Graphic.{both}
use Rattle.css_schedule.specs.Words.{is_space, is_feed, is_graphic, is_word, words_of, lines_of}
use Rattle.css_schedule.specs.Words.{with_words}

-- ---- parts with a byte between two of them
-- the byte stands nowhere in it
abbrev pub Free : (ℕ → Bool) → List ℕ → Type 0
Free p part = All (λ byte. p byte ≡ false) part

-- nor in any of these
abbrev pub AllFree : (ℕ → Bool) → List (List ℕ) → Type 0
AllFree p [] = Unit {0}
AllFree p (part ∷ parts) = Free p part × AllFree p parts

-- parts with that byte before each
abbrev pub between : ℕ → List (List ℕ) → List ℕ
between byte [] = []
between byte (part ∷ parts) = byte ∷ (part ++ between byte parts)

-- they are cut apart again
cut-between : (p : ℕ → Bool) (byte : ℕ) (part : List ℕ) (parts : List (List ℕ)) → p byte ≡ true → Free p part
    → AllFree p parts → slice_split p (part ++ between byte parts) ≡ part ∷ parts
cut-between p byte part [] is free rest = ap (slice_split p) (append-nil part) ∙ slice_split_none p part free
cut-between p byte part (next ∷ parts) is free rest =
    slice_split_at p part byte (next ++ between byte parts) free is
    ∙ ap (λ l. part ∷ l) (cut-between p byte next parts is rest.0 rest.1)

-- ---- words
-- neither a space nor a line feed
pub record IsInWord (byte : ℕ) : Type 0 where
  no_space : is_space byte ≡ false
  no_feed : is_feed byte ≡ false

-- none of them stands in a word
abbrev pub Solid : List ℕ → Type 0
Solid word = All IsInWord word

-- nor in any of these
abbrev pub AllSolid : List (List ℕ) → Type 0
AllSolid [] = Unit {0}
AllSolid (word ∷ words) = Solid word × AllSolid words

spaces_free : (words : List (List ℕ)) → AllSolid words → AllFree is_space words
spaces_free [] h = tt
spaces_free (word ∷ words) h = (λ k d below. (h.0 k d below).no_space, spaces_free words h.1)

-- words with a space before each
abbrev spaced : List (List ℕ) → List ℕ
spaced words = between 32 words

-- a text with words after it ends with these
with_words-spaced : (text : List ℕ) (words : List (List ℕ)) → with_words text words ≡ text ++ spaced words
with_words-spaced text [] = sym (append-nil text)
with_words-spaced text (word ∷ words) =
    with_words-spaced (text ++ 32 ∷ word) words ∙ append_assoc text (32 ∷ word) (spaced words)

-- the words after a text that is one word
pub words_of-with_words : (word : List ℕ) (words : List (List ℕ)) → Solid word → AllSolid words
    → words_of (with_words word words) ≡ word ∷ words
words_of-with_words word words solid rest =
    ap words_of (with_words-spaced word words)
    ∙ cut-between is_space 32 word words refl (λ k d below. (solid k d below).no_space) (spaces_free words rest)

-- more words after words
pub with_words-more : (text : List ℕ) (words more : List (List ℕ))
    → with_words (with_words text words) more ≡ with_words text (words ++ more)
with_words-more text [] more = refl
with_words-more text (word ∷ words) more = with_words-more (text ++ 32 ∷ word) words more

-- what stands before a text stands before it with its words too
pub with_words-after : (before text : List ℕ) (words : List (List ℕ))
    → with_words (before ++ text) words ≡ before ++ with_words text words
with_words-after before text words =
    with_words-spaced (before ++ text) words ∙ append_assoc before text (spaced words)
    ∙ ap (λ t. before ++ t) (sym (with_words-spaced text words))

-- ---- lines
spaced-free : (words : List (List ℕ)) → AllSolid words → Free is_feed (spaced words)
spaced-free [] h = All-nil (λ byte. is_feed byte ≡ false)
spaced-free (word ∷ words) h =
    All-cons (λ byte. is_feed byte ≡ false) 32 (word ++ spaced words) refl
    (All-append (λ byte. is_feed byte ≡ false) word (spaced words) (λ k d below. (h.0 k d below).no_feed)
    (spaced-free words h.1))

-- no line feed stands in words
pub line-free : (word : List ℕ) (words : List (List ℕ)) → Solid word → AllSolid words
    → Free is_feed (with_words word words)
line-free word words solid rest =
    subst (Free is_feed) (sym (with_words-spaced word words))
    (All-append (λ byte. is_feed byte ≡ false) word (spaced words) (λ k d below. (solid k d below).no_feed)
    (spaced-free words rest))

-- lines are cut apart
pub lines_of-between : (line : List ℕ) (lines : List (List ℕ)) → Free is_feed line → AllFree is_feed lines
    → lines_of (line ++ between 10 lines) ≡ line ∷ lines
lines_of-between line lines free rest = cut-between is_feed 10 line lines refl free rest

-- ---- which words are solid
-- a graphic byte stands in a word
graphic_in_word : (byte : ℕ) → is_graphic byte ≡ true → IsInWord byte
graphic_in_word byte h = by (both (nat_le 33 byte) (nat_le byte 126) h).0
  where
    apart : (other : ℕ) → nat_le 33 other ≡ false → nat_le 33 byte ≡ true → (byte == other) ≡ false
    apart other small low =
        ne_eqb byte other (λ e. absurd (let both_ways : false ≡ true =
        sym small ∙ subst (λ b. nat_le 33 b ≡ true) e low in cc))

    by : nat_le 33 byte ≡ true → IsInWord byte
    by low = record { no_space = apart 32 refl low; no_feed = apart 10 refl low }

-- graphic bytes are solid
pub graphic-solid : (word : List ℕ) → list_all is_graphic word ≡ true → Solid word
graphic-solid [] h = All-nil IsInWord
graphic-solid (byte ∷ bytes) h =
    let parts = both (is_graphic byte) (list_all is_graphic bytes) h in
    All-cons IsInWord byte bytes (graphic_in_word byte parts.0) (graphic-solid bytes parts.1)

-- so is a word
pub word-solid : (word : List ℕ) → is_word word ≡ true → Solid word
word-solid word h = graphic-solid word (both (not (length word == 0)) (list_all is_graphic word) h).1

-- a digit stands in a word
digit_no_space : (byte : ℕ) → is_ascii_digit byte ≡ true → is_space byte ≡ false
digit_no_space byte digit = grind (arith, nat_tests)

digit_no_feed : (byte : ℕ) → is_ascii_digit byte ≡ true → is_feed byte ≡ false
digit_no_feed byte digit = grind (arith, nat_tests)

digit_in_word : (byte : ℕ) → is_ascii_digit byte ≡ true → IsInWord byte
digit_in_word byte digit = record { no_space = digit_no_space byte digit; no_feed = digit_no_feed byte digit }

digits-solid : (number n : ℕ) (bytes : List ℕ) → digits_after number bytes ≡ Some n → Solid bytes
digits-solid number n [] is = All-nil IsInWord
digits-solid number n (b ∷ bytes) is =
    let parts = then_some (is_ascii_digit b) (digits_after (number * 10 + (b - 48)) bytes) n is in
    All-cons IsInWord b bytes (digit_in_word b parts.0)
    (digits-solid (number * 10 + (b - 48)) n bytes parts.1)

-- so is a number
number-solid : (word : List ℕ) (number : ℕ) → number_of word ≡ Some number → Solid word
number-solid [] number e = absurd (cc)
number-solid (byte ∷ bytes) number e = by (has_leading_zero (byte ∷ bytes)) e
  where
    by : (b : Bool) → (if b then None else digits_after 0 (byte ∷ bytes)) ≡ Some number → Solid (byte ∷ bytes)
    by true p = absurd (cc)
    by false p = digits-solid 0 number (byte ∷ bytes) p

pub decimal-solid : (number : ℕ) → number < 2 ^ 64 → Solid (decimal number)
decimal-solid number small = number-solid (decimal number) number (number_of-decimal number small)

pub signed-solid : (number : ℤ) → unsigned_abs number < 10 ^ 18 → Solid (signed_decimal number)
signed-solid (pos n) small = decimal-solid n (omega (arith, small))
signed-solid (negsuc n) small =
    All-cons IsInWord 45 (decimal (suc n)) (record { no_space = refl; no_feed = refl })
    (decimal-solid (suc n) (omega (arith, small)))
