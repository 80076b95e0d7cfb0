-- What a line and a header of version 1 become is read as the same line and as the same header, has no line feed, and
-- is little longer.
use Rattle.std.proofs.Common.{◌≡◌, ℕ, ◌+◌, ◌*◌, ◌≤◌, arith, ap, sym, ◌∙◌, refl, false, List, [], ◌∷◌, ◌++◌, length}
use Rattle.std.proofs.Common.{append_assoc, Ok, codes}
use Rattle.css_schedule.specs.Lines as lines
use Rattle.css_schedule.specs.Lines.{line_of_words, line_of, line_in}
use Rattle.css_schedule.specs.Headers.{companion_of_words, header_of_words, numbered_of_words}
use Rattle.css_laws.proofs.Names.{position_or_len, length-append, All-nil, All-cons, All-append, All-take, All-drop}
use Rattle.css_laws.proofs.Names.{slice_split_at, is_feed, HasNoFeed, ok-range, CompanionLine, Header, One, Two, Line}
use Rattle.css_laws.proofs.Names.{is_space, words_of, header_of, companion_of, with_companion, first_word, other_words}
use Rattle.css_laws.proofs.Names.{later_words, three_words, fed, line_turned, header_turned}
use Rattle.css_laws.proofs.Cuts.{cut-words, cut-size}
use Rattle.css_laws.proofs.Read.{AreLine, line-words}
use Rattle.css_laws.proofs.ReadHeaders.{AreHeader, AreStart, header-words, has-byte}
use Rattle.css_laws.proofs.Runs.{free-by, joined}

-- ---- line feeds
-- where no line feed stands in a text, none stands in its words
first-free : (text : List ℕ) → HasNoFeed text → HasNoFeed (first_word text)
first-free text free = All-take (λ byte. is_feed byte ≡ false) (position_or_len is_space text) text free

others-free : (text : List ℕ) → HasNoFeed text → HasNoFeed (other_words text)
others-free text free = All-drop (λ byte. is_feed byte ≡ false) (position_or_len is_space text + 1) text free

later-free : (text : List ℕ) → HasNoFeed text → HasNoFeed (later_words text)
later-free text free = others-free (other_words text) (others-free text free)

-- nor in a text and another one
both-free : (a b : List ℕ) → HasNoFeed a → HasNoFeed b → HasNoFeed (a ++ b)
both-free a b = All-append (λ byte. is_feed byte ≡ false) a b

space-free : (b : List ℕ) → HasNoFeed b → HasNoFeed (32 ∷ b)
space-free b = All-cons (λ byte. is_feed byte ≡ false) 32 b refl

one-free : (b : List ℕ) → HasNoFeed b → HasNoFeed (32 ∷ 49 ∷ b)
one-free b free = space-free (49 ∷ b) (All-cons (λ byte. is_feed byte ≡ false) 49 b refl free)

-- ---- lines
-- what becomes of a line
pub record IsTurned (text : List ℕ) (line : Line) : Type 0 where
  pub back : line_in 2 1 (line_turned text) ≡ Ok line
  pub free : HasNoFeed (line_turned text)
  pub size : length (line_turned text) ≡ length text + 2
  pub least : 3 ≤ length text

pub line-turned : (text : List ℕ) (line : Line) → HasNoFeed text → line_of text ≡ Ok line → IsTurned text line
line-turned text line free e =
    let is : AreLine (words_of text) line =
    ok-range (AreLine (words_of text)) (line_of_words (words_of text)) line (line-words (words_of text)) e in
    let a = first_word text in
    let b = first_word (other_words text) in
    let rest = later_words text in
    let one = cut-words text is.t is.w (is.l ∷ is.name ∷ is.operands) is.are in
    let two = cut-words (other_words text) is.w is.l (is.name ∷ is.operands) one.rest in
    let three = cut-words rest is.l is.name is.operands two.rest in
    let last = 32 ∷ 49 ∷ 32 ∷ rest in
    let words : words_of (line_turned text) ≡ a ∷ b ∷ codes "1" ∷ words_of rest =
    slice_split_at is_space a 32 (b ++ last) one.free refl
    ∙ ap (λ (w : List (List ℕ)). a ∷ w) (slice_split_at is_space b 32 (49 ∷ 32 ∷ rest) two.free refl) in
    let same : a ∷ b ∷ codes "1" ∷ words_of rest ≡ is.t ∷ is.w ∷ codes "1" ∷ is.l ∷ is.name ∷ is.operands =
    cc (one.first, two.first, two.rest) in
    let sizes_one = cut-size text is.t _ one in
    let sizes_two = cut-size (other_words text) is.w _ two in
    let sizes_three = cut-size rest is.l _ three in
    record {
      back = ap (lines.second_of_words 1) (words ∙ same) ∙ is.second;
      free = both-free a (32 ∷ (b ++ last)) (first-free text free) (space-free (b ++ last)
          (both-free b last (first-free (other_words text) (others-free text free))
          (one-free (32 ∷ rest) (space-free rest (later-free text free)))));
      size = omega (arith, sizes_one, sizes_two, length-append a (32 ∷ (b ++ last)), length-append b last);
      least = omega (arith, sizes_one, sizes_two, sizes_three);
    }

-- ---- headers
-- the two lines that a header becomes
abbrev pub start_line : List ℕ → List ℕ
start_line text = codes "css-schedule 2 " ++ (three_words (later_words text) ++ codes " 1")

abbrev pub companion_line : List ℕ → List ℕ
companion_line text = codes "companion 1 " ++ other_words (later_words (later_words text))

pub header-lines : (text : List ℕ) → fed (header_turned text) ≡ joined (start_line text ∷ companion_line text ∷ [])
header-lines text =
    by (three_words (later_words text)) (other_words (later_words (later_words text)))
  where
    by : (a b : List ℕ) → (codes "css-schedule 2 " ++ a ++ (codes " 1" ++ 10 ∷ codes "companion 1 ") ++ b) ++ 10 ∷ []
        ≡ joined ((codes "css-schedule 2 " ++ (a ++ codes " 1")) ∷ (codes "companion 1 " ++ b) ∷ [])
    by a b = simp append_assoc

-- what becomes of a header
pub record IsOpened (text : List ℕ) (header : Header) : Type 0 where
  pub bare : Header
  pub companion : CompanionLine
  pub start : header_of (start_line text) ≡ Ok (Two bare 1)
  pub next : companion_of 1 (companion_line text) ≡ Ok companion
  pub alone : bare.companions ≡ []
  pub whole : with_companion bare companion ≡ header
  pub first : HasNoFeed (start_line text)
  pub second : HasNoFeed (companion_line text)
  pub first_fits : length (start_line text) ≤ length text
  pub second_fits : length (companion_line text) ≤ length text
  pub twice : length (start_line text) + length (companion_line text) + 2 ≤ 2 * length text

pub header-turned : (text : List ℕ) (header : Header) → HasNoFeed text → header_of text ≡ Ok (One header)
    → IsOpened text header
header-turned text header free e =
    let is : AreHeader (words_of text) header =
    ok-range (AreStart (words_of text)) (header_of_words (words_of text)) (One header) (header-words (words_of text))
    e in
    let words = later_words text in
    let a = first_word words in
    let b = first_word (other_words words) in
    let c = first_word (later_words words) in
    let rest = other_words (later_words words) in
    let name = cut-words text (codes "css-schedule") (codes "1") (is.mode ∷ is.error ∷ is.precision ∷ is.rest) is.are in
    let version = cut-words (other_words text) (codes "1") is.mode (is.error ∷ is.precision ∷ is.rest) name.rest in
    let mode = cut-words words is.mode is.error (is.precision ∷ is.rest) version.rest in
    let error = cut-words (other_words words) is.error is.precision is.rest mode.rest in
    let precision = cut-words (later_words words) is.precision is.some.word is.some.more
    (error.rest ∙ ap (λ (r : List (List ℕ)). is.precision ∷ r) is.some.are) in
    let own : words_of rest ≡ is.rest = precision.rest ∙ sym is.some.are in
    let some : 1 ≤ length rest = has-byte rest is.companion (ap companion_of_words own ∙ is.own) in
    let apart : three_words words ++ codes " 1" ≡ a ++ 32 ∷ (b ++ 32 ∷ (c ++ 32 ∷ codes "1")) = simp append_assoc in
    let cut : words_of (three_words words ++ codes " 1") ≡ a ∷ b ∷ c ∷ codes "1" ∷ [] =
    ap words_of apart
    ∙ slice_split_at is_space a 32 (b ++ 32 ∷ (c ++ 32 ∷ codes "1")) mode.free refl
    ∙ ap (λ (w : List (List ℕ)). a ∷ w) (slice_split_at is_space b 32 (c ++ 32 ∷ codes "1") error.free refl
    ∙ ap (λ (w : List (List ℕ)). b ∷ w) (slice_split_at is_space c 32 (codes "1") precision.free refl)) in
    let same : a ∷ b ∷ c ∷ codes "1" ∷ [] ≡ is.mode ∷ is.error ∷ is.precision ∷ codes "1" ∷ [] =
    cc (mode.first, error.first, precision.first) in
    let free_words = later-free text free in
    let free_later = later-free words free_words in
    let front = first-free words free_words in
    let sizes_name = cut-size text _ _ name in
    let sizes_version = cut-size (other_words text) _ _ version in
    let sizes_mode = cut-size words _ _ mode in
    let sizes_error = cut-size (other_words words) _ _ error in
    let sizes_precision = cut-size (later_words words) _ _ precision in
    let named = ap (λ (l : List ℕ). length l) name.first in
    let numbered = ap (λ (l : List ℕ). length l) version.first in
    let three : length (three_words words) ≡ length a + (length b + (length c + 1) + 1) =
    omega (arith, length-append a (32 ∷ (b ++ 32 ∷ c)), length-append b (32 ∷ c)) in
    let first : length (start_line text) ≡ 15 + (length (three_words words) + 2) =
    omega (arith, length-append (three_words words) (codes " 1")) in
    let second : length (companion_line text) ≡ 12 + length rest = omega arith in
    record {
      bare = is.bare;
      companion = is.companion;
      start = ap (λ (w : List (List ℕ)). header_of_words (codes "css-schedule" ∷ codes "2" ∷ w)) (cut ∙ same) ∙
          is.start;
      next = ap (λ (w : List (List ℕ)). numbered_of_words 1 (codes "companion" ∷ codes "1" ∷ w))
          own ∙ is.next;
      alone = is.alone;
      whole = is.whole;
      first = both-free (codes "css-schedule 2 ") (three_words words ++ codes " 1")
          (free-by (codes "css-schedule 2 ") refl) (both-free (three_words words) (codes " 1")
          (both-free a (32 ∷ (b ++ 32 ∷ c)) front
          (space-free (b ++ 32 ∷ c) (both-free b (32 ∷ c) (first-free (other_words words)
          (others-free words free_words))
          (space-free c (first-free (later_words words) free_later)))))
          (one-free [] (All-nil (λ byte. is_feed byte ≡ false))));
      second = both-free (codes "companion 1 ") rest (free-by (codes "companion 1 ") refl)
          (others-free (later_words words) free_later);
      first_fits = omega (arith, first, three);
      second_fits = omega (arith, second);
      twice = omega (arith, first, three, second);
    }
