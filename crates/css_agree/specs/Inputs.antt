-- The lines of answers, as words.
use Rattle.std.specs.Prelude.{ℕ, ◌+◌, ◌≤◌, pos, negsuc, if◌then◌else◌, List, Result, Ok, Err, codes, bytes_eq}
use Rattle.css_model.specs.declared.TheConstants.{LIMIT}
use Rattle.css_model.specs.Numbers.{max_error, max_local_error, max_local_precision, precision_ns}
use Rattle.css_model.specs.WallClock.{Answer, Local}
use Rattle.css_schedule.specs.declared.fault.LineFault.{LineFault}
use Rattle.css_schedule.specs.declared.fault.LineFault.TheVariants.{Form}
use Rattle.css_schedule.specs.Words.{At, ◌>>=◌, word_at, number_at, signed_at, after_word, all_read, words_of}
use Rattle.css_agree.specs.declared.input.AnswerLine.{AnswerLine}
use Rattle.css_agree.specs.declared.input.AnswerLine.TheVariants as lines

-- the companion's reading at a line
abbrev pub reading_of : AnswerLine → ℕ
reading_of (lines.Answer answer) = answer.t4
reading_of (lines.At reading) = reading

-- a time in nanoseconds: below 2^32 seconds
abbrev pub time_at : At ℕ
time_at words = number_at LIMIT words

-- what an answer declares is in range
pub record IsDeclared (p e : ℕ) : Type 0 where
  pub precision : p ≤ precision_ns (pos 30)
  pub error : e ≤ max_error

-- `K E`: the precision, by its exponent, and the error
unfoldable pub declared_at : At (ℕ × ℕ)
declared_at words = do
  exponent ← signed_at 3 (negsuc 127) (pos 30) words
  error ← number_at (max_error + 1) exponent.1
  Ok ((precision_ns exponent.0, error.0), error.1)

-- the answer with these times, and what it declares
abbrev pub answer_with : ℕ → ℕ → ℕ → ℕ → ℕ × ℕ → Answer
answer_with t1 t2 t3 t4 declared =
    record { t1 = t1; t2 = t2; t3 = t3; t4 = t4; precision = declared.0; error = declared.1 }

-- `T1 T2 T3 T4 K E` of `answer`
unfoldable pub answer_of : List (List ℕ) → Result AnswerLine LineFault
answer_of words = do
  t1 ← time_at words
  t2 ← time_at t1.1
  t3 ← time_at t2.1
  t4 ← time_at t3.1
  declared ← declared_at t4.1
  end ← all_read declared.1
  Ok (lines.Answer (answer_with t1.0 t2.0 t3.0 t4.0 declared.0))

-- `R` of `at`
unfoldable pub question_of : List (List ℕ) → Result AnswerLine LineFault
question_of words = do
  reading ← time_at words
  end ← all_read reading.1
  Ok (lines.At reading.0)

-- the line with this name and these words after it
unfoldable pub named : List ℕ → List (List ℕ) → Result AnswerLine LineFault
named name words =
    if bytes_eq name (codes "answer") then answer_of words
    else if bytes_eq name (codes "at") then question_of words
    else Err Form

-- a line after the header
unfoldable pub line_of_words : List (List ℕ) → Result AnswerLine LineFault
line_of_words words = do
  name ← word_at words
  named name.0 name.1

-- the line that bytes are, or that they are none
abbrev pub line_of : List ℕ → Result AnswerLine LineFault
line_of bytes = line_of_words (words_of bytes)

-- `css-agree 1 EL PL`: the error and precision of the companion's clock
unfoldable pub local_of_words : List (List ℕ) → Result Local LineFault
local_of_words words = do
  name ← after_word (codes "css-agree") words
  version ← after_word (codes "1") name
  error ← number_at (max_local_error + 1) version
  precision ← number_at (max_local_precision + 1) error.1
  end ← all_read precision.1
  Ok (record { error = error.0; precision = precision.0 })

-- the header that bytes are, or that they are none
abbrev pub local_of : List ℕ → Result Local LineFault
local_of bytes = local_of_words (words_of bytes)
