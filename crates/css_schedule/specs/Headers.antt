-- The header of a schedule, as words.
use Rattle.std.specs.Prelude.{ℕ, suc, ◌+◌, ◌==◌, pos, negsuc, if◌then◌else◌, Bool, true, false, List, [], ◌∷◌, ◌++◌}
use Rattle.std.specs.Prelude.{length, Result, Ok, Err, codes, bytes_eq}
use Rattle.css_model.specs.Numbers.{max_error, max_local_error, max_local_precision}
use Rattle.css_model.specs.WallClock.{Local}
use Rattle.css_schedule.specs.declared.fault.LineFault.{LineFault}
use Rattle.css_schedule.specs.declared.fault.LineFault.TheVariants.{Form}
use Rattle.css_schedule.specs.declared.opening.Declared.{Declared}
use Rattle.css_schedule.specs.declared.header.CompanionLine.{CompanionLine}
use Rattle.css_schedule.specs.declared.header.Header.{Header}
use Rattle.css_schedule.specs.declared.header.Start.{Start}
use Rattle.css_schedule.specs.declared.header.Start.TheVariants.{One, Two}
use Rattle.css_schedule.specs.Words.{At, ◌>>=◌, number_at, signed_at, text_at, after_word, word_at, all_read, words_of}
use Rattle.css_schedule.specs.Words.{lines_of}

-- a schedule of version 2 has at most so many companions
abbrev pub max_companions : ℕ
max_companions = 16

-- `-` stands for the empty stem
abbrev pub stem_of : List ℕ → List ℕ
stem_of word = if bytes_eq word (codes "-") then [] else word

-- ---- what the ends declare
-- whether the television promises follow-ups, by the word for it
abbrev pub mode_of : List ℕ → Result Bool LineFault
mode_of word =
    if bytes_eq word (codes "plain") then Ok false
    else if bytes_eq word (codes "follow") then Ok true
    else Err Form

-- `MODE`
unfoldable pub mode_at : At Bool
mode_at words = do
  word ← word_at words
  follow ← mode_of word.0
  Ok (follow, word.1)

-- `MODE EW KW`: whether the television promises follow-ups, its error and its precision
unfoldable pub declared_at : At Declared
declared_at words = do
  follow ← mode_at words
  tv_error ← number_at (max_error + 1) follow.1
  tv_precision ← signed_at 3 (negsuc 127) (pos 30) tv_error.1
  Ok (record { follow = follow.0; tv_error = tv_error.0; tv_precision = tv_precision.0 }, tv_precision.1)

-- `EL PL`: a companion's error and precision
unfoldable pub local_at : At (ℕ × ℕ)
local_at words = do
  error ← number_at (max_local_error + 1) words
  precision ← number_at (max_local_precision + 1) error.1
  Ok ((error.0, precision.0), precision.1)

-- a clock with these
abbrev pub local_of : ℕ × ℕ → Local
local_of declared = record { error = declared.0; precision = declared.1 }

-- a companion with this clock, this selector, and the stem that a word stands for
abbrev pub companion_with : Local → List ℕ → List ℕ → CompanionLine
companion_with local selector word = record { local = local; selector = selector; stem = stem_of word }

-- `EL PL SELECTOR STEM`, and no word after it
unfoldable pub companion_of_words : List (List ℕ) → Result CompanionLine LineFault
companion_of_words words = do
  local ← local_at words
  selector ← text_at local.1
  stem ← text_at selector.1
  end ← all_read stem.1
  Ok (companion_with (local_of local.0) selector.0 stem.0)

-- `COUNT`: how many companions there are
unfoldable pub count_at : At ℕ
count_at words = do
  count ← number_at (max_companions + 1) words
  if count.0 == 0 then Err Form else Ok count

-- ---- line 1
-- the header of a television and these companions
abbrev pub header_with : Declared → List CompanionLine → Header
header_with declared companions = record {
  follow = declared.follow;
  tv_error = declared.tv_error;
  tv_precision = declared.tv_precision;
  companions = companions;
}

-- version 1: `MODE EW KW EL PL SELECTOR STEM`
unfoldable pub first_of_words : List (List ℕ) → Result Start LineFault
first_of_words words = do
  declared ← declared_at words
  companion ← companion_of_words declared.1
  Ok (One (header_with declared.0 (companion ∷ [])))

-- version 2: `MODE EW KW COUNT`
unfoldable pub second_of_words : List (List ℕ) → Result Start LineFault
second_of_words words = do
  declared ← declared_at words
  count ← count_at declared.1
  end ← all_read count.1
  Ok (Two (header_with declared.0 []) count.0)

-- the start of a version, by the word for it
unfoldable pub start_of : List ℕ → List (List ℕ) → Result Start LineFault
start_of version words =
    if bytes_eq version (codes "1") then first_of_words words
    else if bytes_eq version (codes "2") then second_of_words words
    else Err Form

-- `css-schedule 1 MODE EW KW EL PL SELECTOR STEM` or `css-schedule 2 MODE EW KW COUNT`
unfoldable pub header_of_words : List (List ℕ) → Result Start LineFault
header_of_words words = do
  name ← after_word (codes "css-schedule") words
  version ← word_at name
  start_of version.0 version.1

-- the header that bytes are, or that they are none
abbrev pub header_of : List ℕ → Result Start LineFault
header_of bytes = header_of_words (words_of bytes)

-- ---- lines of companions
-- the words after this number, which is at most that of the last companion
unfoldable pub after_number : ℕ → List (List ℕ) → Result (List (List ℕ)) LineFault
after_number number words = do
  read ← number_at (max_companions + 1) words
  if read.0 == number then Ok read.1 else Err Form

-- `companion K EL PL SELECTOR STEM`, with this number for K
unfoldable pub numbered_of_words : ℕ → List (List ℕ) → Result CompanionLine LineFault
numbered_of_words number words = do
  name ← after_word (codes "companion") words
  rest ← after_number number name
  companion_of_words rest

-- the companion of that number that bytes are, or that they are none
abbrev pub companion_of : ℕ → List ℕ → Result CompanionLine LineFault
companion_of number bytes = numbered_of_words number (words_of bytes)

-- a header with one companion more
abbrev pub with_companion : Header → CompanionLine → Header
with_companion header companion = record {
  follow = header.follow;
  tv_error = header.tv_error;
  tv_precision = header.tv_precision;
  companions = header.companions ++ companion ∷ [];
}

-- a header with the companions of these lines, the first of which has that number
abbrev pub with_lines : ℕ → Header → List (List ℕ) → Result Header LineFault
with_lines number header [] = Ok header
with_lines number header (line ∷ lines) =
    companion_of number line >>= λ companion. with_lines (suc number) (with_companion header companion) lines

-- the whole header that starts so and goes on with these lines
abbrev pub started : Start → List (List ℕ) → Result Header LineFault
started (One header) [] = Ok header
started (One header) (line ∷ lines) = Err Form
started (Two header companions) lines = if length lines == companions then with_lines 1 header lines else Err Form

-- the whole header that lines are, or that they are none
abbrev pub whole_header_in : List (List ℕ) → Result Header LineFault
whole_header_in [] = Err Form
whole_header_in (first ∷ lines) = header_of first >>= λ start. started start lines

-- the whole header that bytes are: line 1 and, in version 2, the lines of its companions
abbrev pub whole_header_of : List ℕ → Result Header LineFault
whole_header_of bytes = whole_header_in (lines_of bytes)
