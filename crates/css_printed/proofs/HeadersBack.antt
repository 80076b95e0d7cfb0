-- Headers that are printed are read back.
use Rattle.std.proofs.Common.{◌≡◌, ℕ, suc, ◌+◌, ◌^◌, ◌<◌, ◌≤◌, arith, ap, subst, refl, sym, ◌∙◌, Bool, true, false}
use Rattle.std.proofs.Common.{List, [], ◌∷◌, ◌++◌, length, append_assoc, ne_eqb}
use Rattle.std.specs.Prelude.{if◌then◌else◌, ◌==◌, ◌||◌, ◌&&◌, not, ℤ, pos, negsuc, ◌≤ℤ◌, unsigned_abs}
use Rattle.std.specs.Prelude.{Result, Ok, Err, bytes_eq, codes, decimal}
use Rattle.std.specs.Fmt.{signed_decimal}
use Rattle.std.specs.List.{All}
use Rattle.std.proofs.lemmas.Bool.{eq-eqb}
use Rattle.std.proofs.lemmas.Int.{ints}
use Rattle.std.proofs.lemmas.List.{append-nil}
use Rattle.std.proofs.lemmas.List.Elements.{All-head, All-tail}
use Rattle.css_model.specs.Numbers.{max_error, max_local_error, max_local_precision}
use Rattle.css_schedule.proofs.Graphic.{both}
use Rattle.css_printed.proofs.NumbersBack.{good, up_to-back, signed-back, text-back}
use Rattle.css_printed.proofs.Spaced.{Solid, AllSolid, AllFree, between, words_of-with_words, with_words-after}
use Rattle.css_printed.proofs.Spaced.{line-free, lines_of-between, graphic-solid, word-solid, decimal-solid}
use Rattle.css_printed.proofs.Spaced.{signed-solid}
use Rattle.css_schedule.specs.declared.header.CompanionLine.{CompanionLine}
use Rattle.css_schedule.specs.declared.header.Header.{Header}
use Rattle.css_schedule.specs.declared.header.Start.{Start}
use Rattle.css_schedule.specs.declared.header.Start.TheVariants.{One, Two}
use Rattle.css_schedule.specs.declared.fault.LineFault.{LineFault}
use Rattle.css_schedule.specs.declared.fault.LineFault.TheVariants.{Form}
use Rattle.css_schedule.specs.Words.{is_word, is_feed, after_word, lines_of, ◌>>=◌}
use Rattle.css_schedule.specs.Headers.{max_companions, stem_of, mode_at, declared_at, local_at, companion_of_words}
use Rattle.css_schedule.specs.Headers.{count_at, header_with, first_of_words, second_of_words, start_of}
use Rattle.css_schedule.specs.Headers.{header_of_words, header_of, after_number, numbered_of_words, companion_of}
use Rattle.css_schedule.specs.Headers.{with_companion, with_lines, started, whole_header_in, whole_header_of}
use Rattle.css_schedule.specs.Words.{with_words, stem_word}
use Rattle.css_printed.specs.Printed.{mode_word, companion_words, first_words, declared_words}
use Rattle.css_printed.specs.Printed.{header_words, header_text, second_words, with_companions, second_text}
use Rattle.css_printed.specs.Printed.{header_text_in}
use Rattle.css_schedule.specs.Ranges.{is_stem, IsPrintableCompanion, IsPrintable, IsCount, FitsFirst}

-- ---- parts of a header
mode-back : (follow : Bool) (rest : List (List ℕ)) → mode_at (mode_word follow ∷ rest) ≡ Ok (follow, rest)
unfolding mode_at
mode-back true rest = refl
mode-back false rest = refl

mode-solid : (follow : Bool) → Solid (mode_word follow)
mode-solid true = graphic-solid (codes "follow") refl
mode-solid false = graphic-solid (codes "plain") refl

-- a precision has at most 3 digits
precision-small : (precision : ℤ) → negsuc 127 ≤ℤ precision → precision ≤ℤ pos 30 → unsigned_abs precision < 10 ^ 3
precision-small (pos n) low high = omega (arith, ints)
precision-small (negsuc n) low high = omega (arith, ints)

-- the word that stands for a stem is a word, and stands for it
stem_word-back : (stem : List ℕ) → is_stem stem ≡ true
    → (is_word (stem_word stem) ≡ true) × (stem_of (stem_word stem) ≡ stem)
stem_word-back [] h = (refl, refl)
stem_word-back (byte ∷ bytes) h =
    let stem = byte ∷ bytes in
    let some : (length stem == 0) ≡ false = ne_eqb (length stem) 0 (λ e. omega arith) in
    let other = not (bytes_eq stem (codes "-")) in
    let tests = both (is_word stem) other (ap (λ b. b || (is_word stem && other)) (sym some) ∙ h) in
    let same : stem_word stem ≡ stem = ap (λ b. if b then codes "-" else stem) some in
    let stands = ap (λ b. if b then [] else stem) (not_yes (bytes_eq stem (codes "-")) tests.1) in
    (ap is_word same ∙ tests.0, ap stem_of same ∙ stands)
  where
    not_yes : (b : Bool) → not b ≡ true → b ≡ false
    not_yes true p = absurd (cc)
    not_yes false p = refl

-- what a header says of the television, with these companions
abbrev same_tv : Header → List CompanionLine → Header
same_tv header companions = header_with
    (record { follow = header.follow; tv_error = header.tv_error; tv_precision = header.tv_precision }) companions

declared-back : (header : Header) (rest : List (List ℕ)) → IsPrintable header
    → declared_at (declared_words header rest)
    ≡ Ok (record { follow = header.follow; tv_error = header.tv_error; tv_precision = header.tv_precision }, rest)
unfolding declared_at
declared-back header rest h =
    let small = precision-small header.tv_precision h.least h.greatest in
    rw (
      mode-back header.follow (decimal header.tv_error ∷ signed_decimal header.tv_precision ∷ rest),
      up_to-back max_error header.tv_error (signed_decimal header.tv_precision ∷ rest) (omega arith) h.tv_error,
      signed-back (negsuc 127) (pos 30) header.tv_precision rest small h.least h.greatest,
    ) refl

declared-solid : (header : Header) (rest : List (List ℕ)) → IsPrintable header → AllSolid rest
    → AllSolid (declared_words header rest)
declared-solid header rest h solid =
    let small = precision-small header.tv_precision h.least h.greatest in (
      mode-solid header.follow,
      (
        decimal-solid header.tv_error (omega (arith, h.tv_error)),
        (signed-solid header.tv_precision (omega (arith, small)), solid),
      ),
    )

companion-back : (companion : CompanionLine) → IsPrintableCompanion companion
    → companion_of_words (companion_words companion) ≡ Ok companion
unfolding companion_of_words local_at
companion-back companion own =
    let stem = stem_word-back companion.stem own.stem in
    let last = stem_word companion.stem ∷ [] in
    let wanted = companion.selector ∷ last in
    let error = companion.local.error in
    let precision = companion.local.precision in
    rw (
      up_to-back max_local_error error (decimal precision ∷ wanted) (omega arith) own.local.error,
      up_to-back max_local_precision precision wanted (omega arith) own.local.precision,
      text-back companion.selector last own.selector,
      text-back (stem_word companion.stem) [] stem.0,
      stem.1,
    ) refl

companion-solid : (companion : CompanionLine) → IsPrintableCompanion companion → AllSolid (companion_words companion)
companion-solid companion h = (
  decimal-solid companion.local.error (omega (arith, h.local.error)),
  (
    decimal-solid companion.local.precision (omega (arith, h.local.precision)),
    (
      word-solid companion.selector h.selector,
      (word-solid (stem_word companion.stem) (stem_word-back companion.stem h.stem).0, tt),
    ),
  ),
)

-- ---- version 1
first-back : (header : Header) (companion : CompanionLine) → IsPrintable header → IsPrintableCompanion companion
    → header_of_words (codes "css-schedule" ∷ codes "1" ∷ declared_words header (companion_words companion))
    ≡ Ok (One (same_tv header (companion ∷ [])))
unfolding header_of_words after_word start_of first_of_words
first-back header companion h own =
    rw (declared-back header (companion_words companion) h, companion-back companion own) refl

-- the words of a header with one companion are solid
first-solid : (header : Header) (companion : CompanionLine) → IsPrintable header → IsPrintableCompanion companion
    → AllSolid (codes "1" ∷ declared_words header (companion_words companion))
first-solid header companion h own = (
  graphic-solid (codes "1") refl,
  declared-solid header (companion_words companion) h (companion-solid companion own),
)

-- its text is read back
one-back : (header : Header) (companion : CompanionLine) → IsPrintable header → IsPrintableCompanion companion
    → header.companions ≡ companion ∷ []
    → header_of (header_text header) ≡ Ok (One header)
one-back header companion h own alone =
    let words = codes "1" ∷ declared_words header (companion_words companion) in
    let same : header_words header ≡ words =
    ap (λ list. codes "1" ∷ declared_words header (first_words list)) alone in
    ap (λ w. header_of (with_words (codes "css-schedule") w)) same
    ∙ ap header_of_words (words_of-with_words (codes "css-schedule") words (graphic-solid (codes "css-schedule") refl)
    (first-solid header companion h own))
    ∙ first-back header companion h own
    ∙ ap (λ (list : List CompanionLine). good (One (same_tv header list))) (sym alone)

-- the one companion of a header
only_one : (header : Header) → length header.companions ≡ 1 → IsPrintable header
    → (companion : CompanionLine) × (header.companions ≡ companion ∷ []) × IsPrintableCompanion companion
only_one header one h = by header.companions refl one
  where
    by : (list : List CompanionLine) → header.companions ≡ list → length list ≡ 1
        → (companion : CompanionLine) × (header.companions ≡ companion ∷ []) × IsPrintableCompanion companion
    by [] e none = absurd (omega arith)
    by (companion ∷ []) e one =
        let all : All IsPrintableCompanion (companion ∷ []) = subst (All IsPrintableCompanion) e h.companions in
        (companion, e, All-head IsPrintableCompanion companion [] all)
    by (companion ∷ other ∷ more) e many = absurd (omega arith)

pub header_text-back : (header : Header) → length header.companions ≡ 1 → IsPrintable header
    → header_of (header_text header) ≡ Ok (One header)
header_text-back header one h =
    let only = only_one header one h in
    one-back header only.0 h only.2 only.1

-- it is one line
header_text-lines : (header : Header) → length header.companions ≡ 1 → IsPrintable header
    → lines_of (header_text header) ≡ header_text header ∷ []
header_text-lines header one h =
    let only = only_one header one h in
    let words = codes "1" ∷ declared_words header (companion_words only.0) in
    let same : header_text header ≡ with_words (codes "css-schedule") words =
    ap (λ list. with_words (codes "css-schedule") (codes "1" ∷ declared_words header (first_words list))) only.1 in
    let free = line-free (codes "css-schedule") words (graphic-solid (codes "css-schedule") refl)
    (first-solid header only.0 h only.2) in
    ap lines_of (same ∙ sym (append-nil (with_words (codes "css-schedule") words)))
    ∙ lines_of-between (with_words (codes "css-schedule") words) [] free tt
    ∙ ap (λ t. t ∷ []) (sym same)

-- ---- the lines of companions
-- the line of the companion with this number
abbrev companion_line : ℕ → CompanionLine → List ℕ
companion_line number companion = with_words (codes "companion") (decimal number ∷ companion_words companion)

abbrev companion_lines : ℕ → List CompanionLine → List (List ℕ)
companion_lines number [] = []
companion_lines number (companion ∷ companions) =
    companion_line number companion ∷ companion_lines (suc number) companions

-- a header's text is these lines after the first one
with_companions-between : (text : List ℕ) (number : ℕ) (companions : List CompanionLine)
    → with_companions text number companions ≡ text ++ between 10 (companion_lines number companions)
with_companions-between text number [] = sym (append-nil text)
with_companions-between text number (companion ∷ companions) =
    let words = decimal number ∷ companion_words companion in
    let line = companion_line number companion in
    let rest = between 10 (companion_lines (suc number) companions) in
    let here : with_words (text ++ 10 ∷ codes "companion") words ≡ text ++ 10 ∷ line =
    with_words-after text (10 ∷ codes "companion") words
    ∙ ap (λ t. text ++ t) (with_words-after (10 ∷ []) (codes "companion") words) in
    ap (λ t. with_companions t (suc number) companions) here
    ∙ with_companions-between (text ++ 10 ∷ line) (suc number) companions
    ∙ append_assoc text (10 ∷ line) rest

number-solid : (number : ℕ) → number ≤ max_companions → Solid (decimal number)
number-solid number few = decimal-solid number (omega (arith, few))

numbered-solid : (number : ℕ) (companion : CompanionLine) → number ≤ max_companions → IsPrintableCompanion companion
    → AllSolid (decimal number ∷ companion_words companion)
numbered-solid number companion few own = (number-solid number few, companion-solid companion own)

-- no line feed stands in them
companion_lines-free : (number : ℕ) (companions : List CompanionLine) → number + length companions ≤ max_companions + 1
    → All IsPrintableCompanion companions → AllFree is_feed (companion_lines number companions)
companion_lines-free number [] few all = tt
companion_lines-free number (companion ∷ companions) few all =
    let words = decimal number ∷ companion_words companion in (
      line-free (codes "companion") words (graphic-solid (codes "companion") refl) (numbered-solid number companion
          (omega (arith, few)) (All-head IsPrintableCompanion companion companions all)),
      companion_lines-free (suc number) companions (omega (arith, few))
          (All-tail IsPrintableCompanion companion companions all),
    )

numbered-back : (number : ℕ) (companion : CompanionLine) → number ≤ max_companions → IsPrintableCompanion companion
    → numbered_of_words number (codes "companion" ∷ decimal number ∷ companion_words companion) ≡ Ok companion
unfolding numbered_of_words after_word after_number
numbered-back number companion few own =
    rw (
      up_to-back max_companions number (companion_words companion) (omega arith) few,
      eq-eqb number number refl,
      companion-back companion own,
    ) refl

-- each is read back
companion_line-back : (number : ℕ) (companion : CompanionLine) → number ≤ max_companions
    → IsPrintableCompanion companion
    → companion_of number (companion_line number companion) ≡ Ok companion
companion_line-back number companion few own =
    ap (numbered_of_words number) (words_of-with_words (codes "companion") (decimal number ∷ companion_words companion)
    (graphic-solid (codes "companion") refl) (numbered-solid number companion few own))
    ∙ numbered-back number companion few own

-- a header with all of these companions
abbrev with_all : Header → List CompanionLine → Header
with_all header companions = record {
  follow = header.follow;
  tv_error = header.tv_error;
  tv_precision = header.tv_precision;
  companions = header.companions ++ companions;
}

-- so they are all added to the header
with_lines-back : (number : ℕ) (header : Header) (companions : List CompanionLine)
    → number + length companions ≤ max_companions + 1 → All IsPrintableCompanion companions
    → with_lines number header (companion_lines number companions) ≡ Ok (with_all header companions)
with_lines-back number header [] few all =
    ap (λ (list : List CompanionLine). good (with_all (same_tv header []) list))
    (sym (append-nil header.companions))
with_lines-back number header (companion ∷ companions) few all =
    let own = All-head IsPrintableCompanion companion companions all in
    let rest = All-tail IsPrintableCompanion companion companions all in
    let lines = companion_lines (suc number) companions in
    ap (λ (r : Result CompanionLine LineFault).
    r >>= λ c. with_lines (suc number) (with_companion header c) lines)
    (companion_line-back number companion (omega (arith, few)) own)
    ∙ with_lines-back (suc number) (with_companion header companion) companions (omega (arith, few)) rest
    ∙ ap (λ (list : List CompanionLine). good (with_all (same_tv header []) list))
    (append_assoc header.companions (companion ∷ []) companions)

-- ---- version 2
-- a header without its companions
abbrev bare : Header → Header
bare header = same_tv header []

-- the words of line 1 are read back
second-back : (header : Header) → IsPrintable header → IsCount (length header.companions)
    → header_of_words (codes "css-schedule" ∷ second_words header) ≡ Ok (Two (bare header) (length header.companions))
unfolding header_of_words after_word start_of second_of_words count_at
second-back header h count =
    let few = length header.companions in
    rw (
      declared-back header (decimal few ∷ []) h,
      up_to-back max_companions few [] (omega arith) count.high,
      ne_eqb few 0 (λ e. omega (arith, count.low)),
    ) refl

second-solid : (header : Header) → IsPrintable header → IsCount (length header.companions)
    → AllSolid (second_words header)
second-solid header h count = (
  graphic-solid (codes "2") refl,
  declared-solid header (decimal (length header.companions) ∷ []) h
      (number-solid (length header.companions) count.high, tt),
)

-- as many lines as companions
companion_lines-length : (number : ℕ) (companions : List CompanionLine)
    → length (companion_lines number companions) ≡ length companions
companion_lines-length number [] = refl
companion_lines-length number (companion ∷ companions) = ap suc (companion_lines-length (suc number) companions)

-- the text is cut into its lines
second_text-lines : (header : Header) → IsPrintable header → IsCount (length header.companions)
    → lines_of (second_text header)
    ≡ with_words (codes "css-schedule") (second_words header) ∷ companion_lines 1 header.companions
second_text-lines header h count =
    let line = with_words (codes "css-schedule") (second_words header) in
    let lines = companion_lines 1 header.companions in
    let high = count.high in
    ap lines_of (with_companions-between line 1 header.companions)
    ∙ lines_of-between line lines (line-free (codes "css-schedule") (second_words header)
    (graphic-solid (codes "css-schedule") refl) (second-solid header h count))
    (companion_lines-free 1 header.companions (omega (arith, high)) h.companions)

-- and they are read back
started-back : (header : Header) → IsPrintable header → IsCount (length header.companions)
    → started (Two (bare header) (length header.companions)) (companion_lines 1 header.companions) ≡ Ok header
started-back header h count =
    let lines = companion_lines 1 header.companions in
    let high = count.high in
    let all = eq-eqb (length lines) (length header.companions) (companion_lines-length 1 header.companions) in
    ap (λ b. if b then with_lines 1 (bare header) lines else Err Form) all
    ∙ with_lines-back 1 (bare header) header.companions (omega (arith, high)) h.companions

second_text-back : (header : Header) → IsPrintable header → IsCount (length header.companions)
    → whole_header_of (second_text header) ≡ Ok header
second_text-back header h count =
    let words = second_words header in
    let lines = companion_lines 1 header.companions in
    ap whole_header_in (second_text-lines header h count)
    ∙ ap (λ w. header_of_words w >>= λ start. started start lines)
    (words_of-with_words (codes "css-schedule") words (graphic-solid (codes "css-schedule") refl)
    (second-solid header h count))
    ∙ ap (λ (r : Result Start LineFault). r >>= λ start. started start lines) (second-back header h count)
    ∙ started-back header h count

-- ---- both versions
first_text-back : (header : Header) → IsPrintable header → length header.companions ≡ 1
    → whole_header_of (header_text header) ≡ Ok header
first_text-back header h one =
    ap whole_header_in (header_text-lines header one h)
    ∙ ap (λ (r : Result Start LineFault). r >>= λ start. started start []) (header_text-back header one h)

-- what a call writes is read back, where it writes the text
pub header_back_in : (version : ℕ) (header : Header) (text : List ℕ)
    → FitsFirst (version == 1) (length header.companions) → IsPrintable header
    → text ≡ header_text_in version header → whole_header_of text ≡ Ok header
header_back_in version header text fits h e = by (version == 1) fits e
  where
    by : (b : Bool) → FitsFirst b (length header.companions)
        → text ≡ (if b then header_text header else second_text header)
        → whole_header_of text ≡ Ok header
    by true one e = ap whole_header_of e ∙ first_text-back header h one
    by false count e = ap whole_header_of e ∙ second_text-back header h count

-- in version 1 as its one line
pub header_back : (version : ℕ) (header : Header) (text : List ℕ)
    → FitsFirst (version == 1) (length header.companions) → IsPrintable header
    → text ≡ header_text_in version header → version ≡ 1 → header_of text ≡ Ok (One header)
header_back version header text fits h e first =
    let same : text ≡ header_text header = subst (λ (v : ℕ). text ≡ header_text_in v header) first e in
    ap header_of same
    ∙ header_text-back header (subst (λ (v : ℕ). FitsFirst (v == 1) (length header.companions)) first fits) h
