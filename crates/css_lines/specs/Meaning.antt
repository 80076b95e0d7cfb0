-- What becomes of lines: what is printed for them, and which of them is refused.
use Rattle.std.specs.Prelude.{◌≡◌, ℕ, ◌+◌, ◌≤◌, ◌<◌, ◌||◌, Bool, nat_lt, if◌then◌else◌, List, []}
use Rattle.std.specs.Prelude.{◌∷◌, ◌++◌, length, sum_by, Option, Some, None, Result, Ok, Err}
use Rattle.css_lines.specs.declared.reader.Refusal.{Refusal}
use Rattle.css_lines.specs.declared.reader.Refusal.TheVariants.{Long, Refused}
use Rattle.css_lines.specs.Lines.{whole_lines, last_part}

-- What a reader of lines makes of them. Each is said after the lines before.
pub record Meaning (Cause : Type 0) : Type 0 where
  -- the greatest number of bytes of the line, without its line feed
  pub longest_line : List (List ℕ) → ℕ
  -- the greatest number of bytes of the whole input, with its line feeds, as far as it is known there
  pub longest_input : List (List ℕ) → ℕ
  -- what is printed for the line, or why it is refused
  pub line : List (List ℕ) → List ℕ → Result (List ℕ) Cause
  -- what is printed where no line follows, or why that is refused
  pub finish : List (List ℕ) → Result (List ℕ) Cause

-- what is printed, and the number of the line that is refused, if one is, and why
pub record Outcome (Cause : Type 0) : Type 0 where
  pub printed : List ℕ
  pub verdict : Option (ℕ × Refusal Cause)

-- this was printed, and nothing is refused
abbrev pub accepted : {Cause : Type 0} → List ℕ → Outcome Cause
accepted printed = record { printed = printed; verdict = None }

-- this was printed, and then the line of that number was refused
abbrev pub refused_at : {Cause : Type 0} → List ℕ → ℕ → Refusal Cause → Outcome Cause
refused_at printed number why = record { printed = printed; verdict = Some (number, why) }

-- an outcome that comes after this was printed, if nothing was refused
abbrev pub followed_from : {Cause : Type 0} → List ℕ → Option (ℕ × Refusal Cause) → Outcome Cause → Outcome Cause
followed_from printed None next = record { printed = printed ++ next.printed; verdict = next.verdict }
followed_from printed (Some verdict) next = record { printed = printed; verdict = Some verdict }

-- one outcome after another: nothing comes after a refusal
abbrev pub followed_by : {Cause : Type 0} → Outcome Cause → Outcome Cause → Outcome Cause
followed_by first next = followed_from first.printed first.verdict next

-- the number of bytes of these lines, each with its line feed
abbrev pub offset : List (List ℕ) → ℕ
offset before = sum_by (λ line. length line + 1) before

-- the line has too many bytes, or the input has, up to the line's end
abbrev pub is_long : {Cause : Type 0} → Meaning Cause → List (List ℕ) → List ℕ → ℕ → Bool
is_long meaning before line end =
    nat_lt (meaning.longest_line before) (length line) || nat_lt (meaning.longest_input before) end

-- what a reader of lines answers, as an outcome of the line of that number
abbrev pub reader_outcome : {Cause : Type 0} → ℕ → Result (List ℕ) Cause → Outcome Cause
reader_outcome number (Ok printed) = accepted printed
reader_outcome number (Err cause) = refused_at [] number (Refused cause)

-- what becomes of a line which ends after so many bytes of the input
abbrev pub line_outcome : {Cause : Type 0} → Meaning Cause → List (List ℕ) → List ℕ → ℕ → Outcome Cause
line_outcome meaning before line end =
    if is_long meaning before line end then refused_at [] (length before + 1) Long
    else reader_outcome (length before + 1) (meaning.line before line)

-- what becomes of lines that have their line feeds, which stand in the lines that they end
abbrev pub outcome_from : {Cause : Type 0} → Meaning Cause → List (List ℕ) → List (List ℕ) → Outcome Cause
outcome_from meaning before [] = accepted []
outcome_from meaning before (line ∷ lines) =
    followed_by (line_outcome meaning before line (offset before + length line + 1))
    (outcome_from meaning (before ++ line ∷ []) lines)

-- what becomes of the end of the input
abbrev pub finish_outcome : {Cause : Type 0} → Meaning Cause → List (List ℕ) → Outcome Cause
finish_outcome meaning before = reader_outcome (length before + 1) (meaning.finish before)

-- what becomes of the end of the input, where this stands after the last line feed
abbrev pub end_outcome : {Cause : Type 0} → Meaning Cause → List (List ℕ) → List ℕ → Outcome Cause
end_outcome meaning before [] = finish_outcome meaning before
end_outcome meaning before (byte ∷ bytes) =
    let line = byte ∷ bytes in
    followed_by (line_outcome meaning before line (offset before + length line))
    (finish_outcome meaning (before ++ line ∷ []))

-- what becomes of the lines whose line feeds stand in these bytes
unfoldable pub outcome_so_far : {Cause : Type 0} → Meaning Cause → List ℕ → Outcome Cause
outcome_so_far meaning read = outcome_from meaning [] (whole_lines read)

-- what becomes of an input of these bytes
unfoldable pub outcome : {Cause : Type 0} → Meaning Cause → List ℕ → Outcome Cause
outcome meaning bytes = followed_by (outcome_from meaning [] (whole_lines bytes))
    (end_outcome meaning (whole_lines bytes) (last_part bytes))

-- No line of these bytes is refused as yet: each whole one is accepted, and what stands after the last line feed is
-- neither too long for a line nor beyond the longest input.
pub record IsSound {Cause : Type 0} (meaning : Meaning Cause) (read : List ℕ) : Type 0 where
  pub accepted : (outcome_so_far meaning read).verdict ≡ None
  pub short : length (last_part read) ≤ meaning.longest_line (whole_lines read)
  pub within : 0 < length (last_part read) → length read ≤ meaning.longest_input (whole_lines read)
