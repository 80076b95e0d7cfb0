-- The headers that are read, and the companions, are in their ranges.
use Rattle.std.proofs.Common.{◌≡◌, ℕ, ◌+◌, ◌<◌, ◌≤◌, arith, ap, refl, Bool, true, false, List, [], ◌∷◌}
use Rattle.std.specs.Prelude.{if◌then◌else◌, ◌==◌, ◌||◌, ◌&&◌, not, length, ℤ, pos, negsuc, ◌≤ℤ◌}
use Rattle.std.specs.Prelude.{Result, Ok, Err, IfOk, bytes_eq, codes}
use Rattle.std.proofs.lemmas.Bool.{eqb-false}
use Rattle.std.proofs.lemmas.List.Elements.{All-nil, All-cons}
use Rattle.css_num.specs.Gives.{GivesBy}
use Rattle.css_model.specs.Numbers.{max_error, max_local_error, max_local_precision}
use Rattle.css_model.specs.WallClock.{IsLocal}
use Rattle.css_schedule.proofs.Graphic.{stem-utf8}
use Rattle.css_schedule.proofs.Steps.{Front, First, Gets, pass, after, after_whole, either, where_false, ok-range}
use Rattle.css_schedule.proofs.Steps.{answer-range, number-range, signed-range, text-range}
use Rattle.css_schedule.specs.declared.fault.LineFault.{LineFault}
use Rattle.css_schedule.specs.declared.fault.LineFault.TheVariants.{Memory}
use Rattle.css_schedule.specs.declared.header.CompanionLine.{CompanionLine}
use Rattle.css_schedule.specs.declared.header.Header.{Header}
use Rattle.css_schedule.specs.declared.header.Start.{Start}
use Rattle.css_schedule.specs.declared.header.Start.TheVariants.{One, Two}
use Rattle.css_schedule.specs.declared.opening.Declared.{Declared}
use Rattle.css_schedule.specs.Words.{is_word, words_of, word_at, number_at, after_word, all_read}
use Rattle.css_schedule.specs.Headers.{mode_at, declared_at, local_at, local_of, stem_of, companion_of_words, count_at}
use Rattle.css_schedule.specs.Headers.{first_of_words, second_of_words, start_of, header_of_words, header_of}
use Rattle.css_schedule.specs.Headers.{after_number, numbered_of_words, companion_of, max_companions}
use Rattle.css_schedule.specs.Ranges.{IsCompanion, IsHeader, is_stem, IsPrintableCompanion, IsPrintable, IsStart}
use Rattle.css_schedule.specs.Ranges.{IsCount, IsText, IsGoodCompanion, IsGoodHeader}

-- what a whole header of version 1 declares is in range
pub record IsReadHeader (header : Header) : Type 0 where
  pub tv : IsHeader header
  pub printable : IsPrintable header
  pub least : negsuc 127 ≤ℤ header.tv_precision
  pub companion : CompanionLine
  pub alone : header.companions ≡ companion ∷ []
  pub local : IsLocal companion.local

-- the numbers that a television declares are in range
record AreInRange (declared : Declared) : Type 0 where
  of_tv : declared.tv_error ≤ max_error
  least : negsuc 127 ≤ℤ declared.tv_precision
  greatest : declared.tv_precision ≤ℤ pos 30

-- a number that may reach its bound
abbrev IsUpTo : ℕ → ℕ → Type 0
IsUpTo most number = number ≤ most

up_to-range : (most : ℕ) (words : List (List ℕ)) → Gets (IsUpTo most) (number_at (most + 1) words)
up_to-range most words = weaker (number_at (most + 1) words) (number-range (most + 1) words)
  where
    weaker : (read : Result (Front ℕ) LineFault) → Gets (λ n. n < most + 1) read → Gets (IsUpTo most) read
    weaker (Ok front) h = omega (arith, h)
    weaker (Err fault) h = tt

-- the television's precision, as the base-2 logarithm of seconds
abbrev IsPrecision : ℤ → Type 0
IsPrecision number = (negsuc 127 ≤ℤ number) × (number ≤ℤ pos 30)

declared-range : (words : List (List ℕ)) → Gets AreInRange (declared_at words)
unfolding declared_at
declared-range words =
    pass (First AreInRange) (mode_at words) _ (λ follow.
    after (IsUpTo max_error) (First AreInRange) _ _ (up_to-range max_error follow.1) (λ tv_error rest a.
    after IsPrecision (First AreInRange) _ _ (signed-range 3 (negsuc 127) (pos 30) rest) (λ tv_precision end b.
    record { of_tv = a; least = b.0; greatest = b.1 })))

-- so are those of a companion's clock
abbrev IsOwn : ℕ × ℕ → Type 0
IsOwn declared = IsLocal (local_of declared)

local-range : (words : List (List ℕ)) → Gets IsOwn (local_at words)
unfolding local_at
local-range words =
    after (IsUpTo max_local_error) (First IsOwn) _ _ (up_to-range max_local_error words) (λ error rest c.
    after (IsUpTo max_local_precision) (First IsOwn) _ _ (up_to-range max_local_precision rest) (λ precision end d.
    record { error = c; precision = d }))

-- whatever else holds, a truth does
or_true : (a b : Bool) → b ≡ true → (a || b) ≡ true
or_true true b h = refl
or_true false b h = h

-- two truths
and_true : (a b : Bool) → a ≡ true → b ≡ true → (a && b) ≡ true
and_true true b p q = q
and_true false b p q = absurd (cc)

-- the stem that a word stands for is a stem
stem-range : (word : List ℕ) → is_word word ≡ true → is_stem (stem_of word) ≡ true
stem-range word h = by (bytes_eq word (codes "-")) refl
  where
    by : (b : Bool) → bytes_eq word (codes "-") ≡ b → is_stem (if b then [] else word) ≡ true
    by true p = refl
    by false p =
        let other = and_true (is_word word) (not (bytes_eq word (codes "-"))) h (ap not p) in
        or_true (length word == 0) (is_word word && not (bytes_eq word (codes "-"))) other

-- the companion at a line's end
companion-range : (words : List (List ℕ)) → IfOk (companion_of_words words) IsGoodCompanion
unfolding companion_of_words
companion-range words =
    after IsOwn IsGoodCompanion _ _ (local-range words) (λ local after_local own.
    after IsText IsGoodCompanion _ _ (text-range after_local) (λ selector after_selector wanted.
    after IsText IsGoodCompanion _ _ (text-range after_selector) (λ stem end begun.
    pass IsGoodCompanion (all_read end) _ (λ done. (
      record { selector = wanted.utf8; stem = stem-utf8 stem begun.utf8 },
      record { local = own; selector = wanted.word; stem = stem-range stem begun.word },
    )))))

-- a companion is in range where its whole line is read
numbered-range : (number : ℕ) (words : List (List ℕ)) → IfOk (numbered_of_words number words) IsGoodCompanion
unfolding numbered_of_words
numbered-range number words =
    pass IsGoodCompanion (after_word (codes "companion") words) _ (λ name.
    pass IsGoodCompanion (after_number number name) _ (λ rest. companion-range rest))

-- so is one that a call answers
pub companion_in_range : (number : ℕ) (bytes : List ℕ) (answer : Result CompanionLine LineFault)
    → GivesBy (λ companion. companion) Memory answer (companion_of number bytes) → IfOk answer IsGoodCompanion
companion_in_range number bytes answer e =
    answer-range IsGoodCompanion answer (companion_of number bytes) (numbered-range number (words_of bytes)) e

-- how many companions there are
count-range : (words : List (List ℕ)) → Gets IsCount (count_at words)
unfolding count_at
count-range words =
    after (IsUpTo max_companions) (First IsCount) _ _ (up_to-range max_companions words) (λ count rest small.
    where_false (First IsCount) (count == 0) _ (λ some.
    record { low = positive count (eqb-false count 0 some); high = small }))
  where
    positive : (n : ℕ) → (n ≡ 0 → ⊥) → 1 ≤ n
    positive n apart = omega arith

-- a start is in range
abbrev IsReadStart : Start → Type 0
IsReadStart (One header) = IsReadHeader header
IsReadStart (Two header companions) = IsGoodHeader header × (header.companions ≡ []) × IsCount companions

first-range : (words : List (List ℕ)) → IfOk (first_of_words words) IsReadStart
unfolding first_of_words
first-range words =
    after AreInRange IsReadStart _ _ (declared-range words) (λ declared rest known.
    after_whole IsGoodCompanion IsReadStart (companion_of_words rest) _ (companion-range rest) (λ companion good.
    record {
      tv = record {
        tv_error = known.of_tv;
        tv_precision = known.greatest;
        companions = All-cons IsCompanion _ [] good.0 (All-nil IsCompanion);
      };
      printable = record {
        tv_error = known.of_tv;
        least = known.least;
        greatest = known.greatest;
        companions = All-cons IsPrintableCompanion _ [] good.1 (All-nil IsPrintableCompanion);
      };
      least = known.least;
      companion = companion;
      alone = refl;
      local = good.1.local;
    }))

second_start-range : (words : List (List ℕ)) → IfOk (second_of_words words) IsReadStart
unfolding second_of_words
second_start-range words =
    after AreInRange IsReadStart _ _ (declared-range words) (λ declared rest known.
    after IsCount IsReadStart _ _ (count-range rest) (λ count end few.
    pass IsReadStart (all_read end) _ (λ done. (
      (
        record {
          tv_error = known.of_tv;
          tv_precision = known.greatest;
          companions = All-nil IsCompanion;
        },
        record {
          tv_error = known.of_tv;
          least = known.least;
          greatest = known.greatest;
          companions = All-nil IsPrintableCompanion;
        },
      ),
      refl,
      few,
    ))))

start-range : (version : List ℕ) (words : List (List ℕ)) → IfOk (start_of version words) IsReadStart
unfolding start_of
start-range version words =
    either IsReadStart (bytes_eq version (codes "1")) _ _ (first-range words)
    (either IsReadStart (bytes_eq version (codes "2")) _ _ (second_start-range words) tt)

header-range : (words : List (List ℕ)) → IfOk (header_of_words words) IsReadStart
unfolding header_of_words
header-range words =
    pass IsReadStart (after_word (codes "css-schedule") words) _ (λ name.
    pass IsReadStart (word_at name) _ (λ version. start-range version.0 version.1))

-- every header that is read is in range
pub headers_are_in_range : (bytes : List ℕ) (header : Header) → header_of bytes ≡ Ok (One header) → IsReadHeader header
headers_are_in_range bytes header e =
    ok-range IsReadStart (header_of bytes) (One header) (header-range (words_of bytes)) e

-- what is known of a start that is read
known_start : (start : Start) → IsReadStart start → IsStart start
known_start (One header) h = (h.tv, ap length h.alone, h.printable)
known_start (Two header companions) h = h

-- the start that a call answers is in range
pub start_in_range : (bytes : List ℕ) (answer : Result Start LineFault)
    → GivesBy (λ start. start) Memory answer (header_of bytes) → IfOk answer IsStart
start_in_range bytes answer e =
    known answer (answer-range IsReadStart answer (header_of bytes) (header-range (words_of bytes)) e)
  where
    known : (answer : Result Start LineFault) → IfOk answer IsReadStart → IfOk answer IsStart
    known (Ok start) h = known_start start h
    known (Err fault) h = tt
