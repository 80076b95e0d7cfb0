-- What is made of lines of answers where the two that contradict each other are named.
use Rattle.std.specs.Prelude.{ℕ, pos, ◌+◌, ◌++◌, int_lt, if◌then◌else◌, List, [], ◌∷◌, length, map, codes, decimal}
use Rattle.std.specs.Prelude.{Option, Some, Result, Ok, Err}
use Rattle.css_model.specs.WallClock.{Local, scaled_width}
use Rattle.css_model.specs.WallClock as wall_clock
use Rattle.css_span.specs.Frontiers.{Answers}
use Rattle.css_lines.specs.Meaning.{Meaning}
use Rattle.css_schedule.specs.declared.fault.LineFault.{LineFault}
use Rattle.css_agree.specs.declared.input.AnswerLine.{AnswerLine}
use Rattle.css_agree.specs.declared.input.AnswerLine.TheVariants as lines
use Rattle.css_agree.specs.declared.named.End.TheVariants.{Low, High}
use Rattle.css_agree.specs.declared.named.Named.{Named}
use Rattle.css_agree.specs.declared.reader.Cause.{Cause}
use Rattle.css_agree.specs.Agreeing.{Numbered, agreeing, lines_in, text_meant}
use Rattle.css_agree.specs.Disagreements.{disagree}
use Rattle.css_agree.specs.Inputs.{line_of, local_of}
use Rattle.css_agree.specs.Named.{number_of_best}

-- answers with one more, of the line of that number, which is left out where it is impossible at its landing
abbrev pub with_named : Local → ℕ → wall_clock.Answer → List Named → List Named
with_named own number answer others =
    if int_lt (scaled_width own answer answer.t4) (pos 0) then others
    else record { number = number; answer = answer } ∷ others

-- the answers that a line leaves
abbrev pub named_after : Local → ℕ → AnswerLine → List Named → List Named
named_after own number (lines.Answer answer) others = with_named own number answer others
named_after own number (lines.At reading) others = others

-- the answers of lines, but for the impossible ones, with their lines' numbers; the newest stands first
abbrev pub named_in : Local → List Numbered → List Named
named_in own [] = []
named_in own (now ∷ older) = named_after own now.number now.line (named_in own older)

-- the answers alone
abbrev pub answers_of : List Named → Answers
answers_of named = map (λ one. one.answer) named

-- `N between A B`
abbrev pub between_line : ℕ → ℕ → ℕ → List ℕ
between_line number low high =
    decimal number ++ codes " between " ++ decimal low ++ codes " " ++ decimal high ++ codes "\n"

-- the line of two numbers, if there are two
abbrev pub numbers_text : ℕ → Option ℕ → Option ℕ → List ℕ
numbers_text number (Some low) (Some high) = between_line number low high
numbers_text number low high = []

-- Where the answers disagree at the reading, two are named: the first line that has the greatest lower end, and the
-- first that has the least upper end, before the ends are rounded.
abbrev pub between_text : Local → ℕ → ℕ → List Named → List ℕ
between_text own number reading named =
    if disagree own reading (answers_of named)
    then numbers_text number (number_of_best Low own reading named) (number_of_best High own reading named)
    else []

-- what is printed behind the text of a line
abbrev pub line_names : Local → ℕ → AnswerLine → List Named → List ℕ
line_names own number (lines.Answer answer) named = []
line_names own number (lines.At reading) named = between_text own number reading named

-- so it is of a line that is read
abbrev pub read_names : Local → List Numbered → ℕ → Result AnswerLine LineFault → List ℕ
read_names own older number (Ok line) = line_names own number line (named_in own older)
read_names own older number (Err fault) = []

-- and where the header was read
abbrev pub names_after : Result Local LineFault → List Numbered → ℕ → Result AnswerLine LineFault → List ℕ
names_after (Ok own) older number line = read_names own older number line
names_after (Err fault) older number line = []

-- nothing is printed behind the header
abbrev pub names_meant : List (List ℕ) → List ℕ → List ℕ
names_meant [] text = []
names_meant (first ∷ texts) text =
    names_after (local_of first) (lines_in texts) (length (first ∷ texts) + 1) (line_of text)

-- what is printed, and more behind it
abbrev pub followed : Result (List ℕ) Cause → List ℕ → Result (List ℕ) Cause
followed (Ok printed) more = Ok (printed ++ more)
followed (Err cause) more = Err cause

-- what is made of lines of answers: the same as without names, and behind each line its names
abbrev pub naming : Meaning Cause
naming = record {
  longest_line = agreeing.longest_line;
  longest_input = agreeing.longest_input;
  line = λ before text. followed (text_meant before text) (names_meant before text);
  finish = agreeing.finish;
}
