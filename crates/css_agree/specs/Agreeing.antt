-- What is made of lines of answers.
use Rattle.std.specs.Prelude.{ℕ, pos, suc, ◌+◌, ◌-◌, nat_lt, int_lt, if◌then◌else◌, List, [], ◌∷◌, length}
use Rattle.std.specs.Prelude.{Result, Ok, Err}
use Rattle.css_model.specs.WallClock.{Answer, Local, scaled_width}
use Rattle.css_span.specs.Frontiers.{Answers}
use Rattle.css_lines.specs.Meaning.{Meaning}
use Rattle.css_schedule.specs.declared.fault.LineFault.{LineFault}
use Rattle.css_agree.specs.declared.input.AnswerLine.{AnswerLine}
use Rattle.css_agree.specs.declared.input.AnswerLine.TheVariants as lines
use Rattle.css_agree.specs.declared.reader.Cause.{Cause}
use Rattle.css_agree.specs.declared.reader.Cause.TheVariants.{Form, Broken}
use Rattle.css_agree.specs.Inputs.{reading_of, line_of, local_of}
use Rattle.css_agree.specs.Printed.{added_text, at_text}
use Rattle.css_agree.specs.Verdicts.{verdict}

-- a line and its number
pub record Numbered : Type 0 where
  pub number : ℕ
  pub line : AnswerLine

-- lines, the newest first, with one more of that number, if it was read
abbrev pub with_line : ℕ → List Numbered → Result AnswerLine LineFault → List Numbered
with_line number older (Ok line) = record { number = number; line = line } ∷ older
with_line number older (Err fault) = older

-- lines with those of texts, the first of which has that number
abbrev pub lines_after : ℕ → List Numbered → List (List ℕ) → List Numbered
lines_after number older [] = older
lines_after number older (text ∷ texts) = lines_after (suc number) (with_line number older (line_of text)) texts

-- the lines after the header, which is line 1; the newest stands first
abbrev pub lines_in : List (List ℕ) → List Numbered
lines_in texts = lines_after 2 [] texts

-- answers with one more, which is left out where it is impossible at its landing
abbrev pub with_answer : Local → Answer → Answers → Answers
with_answer own answer others =
    if int_lt (scaled_width own answer answer.t4) (pos 0) then others else answer ∷ others

-- the answers that a line leaves
abbrev pub after_line : Local → AnswerLine → Answers → Answers
after_line own (lines.Answer answer) others = with_answer own answer others
after_line own (lines.At reading) others = others

-- the answers of lines, but for the impossible ones; the newest stands first
abbrev pub answers_in : Local → List Numbered → Answers
answers_in own [] = []
answers_in own (now ∷ older) = after_line own now.line (answers_in own older)

-- what is printed for a line after others
abbrev pub line_text : Local → ℕ → AnswerLine → Answers → List ℕ
line_text own number (lines.Answer answer) others = added_text number (verdict own answer.t4 answer)
line_text own number (lines.At reading) others = at_text own number reading others

-- a reading isn't below the last one, of the line of that number
abbrev pub in_order : ℕ → ℕ → ℕ → List ℕ → Result (List ℕ) Cause
in_order earlier last reading printed =
    if nat_lt reading last then Err (Broken earlier (pos (last - reading))) else Ok printed

-- what is printed for a line, or why it is refused: its reading is below that of the line before
abbrev pub line_meant : Local → List Numbered → ℕ → AnswerLine → Result (List ℕ) Cause
line_meant own [] number line = Ok (line_text own number line [])
line_meant own (last ∷ older) number line =
    in_order last.number (reading_of last.line) (reading_of line)
    (line_text own number line (answers_in own (last ∷ older)))

-- a line that is read is carried out
abbrev pub read_meant : Local → List Numbered → ℕ → Result AnswerLine LineFault → Result (List ℕ) Cause
read_meant own older number (Ok line) = line_meant own older number line
read_meant own older number (Err fault) = Err Form

-- a line is carried out where the header was read
abbrev pub meant_after : Result Local LineFault → List Numbered → ℕ → Result AnswerLine LineFault
    → Result (List ℕ) Cause
meant_after (Ok own) older number line = read_meant own older number line
meant_after (Err fault) older number line = Err Form

-- nothing is printed for a header
abbrev pub opened : Result Local LineFault → Result (List ℕ) Cause
opened (Ok own) = Ok []
opened (Err fault) = Err Form

-- the first line is the header; each other one is carried out after those before it
abbrev pub text_meant : List (List ℕ) → List ℕ → Result (List ℕ) Cause
text_meant [] text = opened (local_of text)
text_meant (first ∷ texts) text =
    meant_after (local_of first) (lines_in texts) (length (first ∷ texts) + 1) (line_of text)

-- an input without a header is refused
abbrev pub finish_meant : List (List ℕ) → Result (List ℕ) Cause
finish_meant [] = Err Form
finish_meant (first ∷ texts) = Ok []

-- what is made of lines of answers: each has at most 4,096 bytes, and all have at most 67,108,864
abbrev pub agreeing : Meaning Cause
agreeing = record {
  longest_line = λ before. 4096;
  longest_input = λ before. 67108864;
  line = text_meant;
  finish = finish_meant;
}
