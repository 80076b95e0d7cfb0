-- What the lines of a schedule of version 1 become in version 2.
use Rattle.std.specs.Prelude.{ℕ, List, [], ◌∷◌, ◌++◌, Result, Ok, Err, codes}
use Rattle.std.specs.List.{before_first, after_first}
use Rattle.css_lines.specs.Meaning.{Meaning}
use Rattle.css_schedule.specs.declared.fault.LineFault.{LineFault}
use Rattle.css_schedule.specs.declared.header.Start.{Start}
use Rattle.css_schedule.specs.declared.header.Start.TheVariants.{One, Two}
use Rattle.css_schedule.specs.declared.line.Line.{Line}
use Rattle.css_schedule.specs.Words.{is_space}
use Rattle.css_schedule.specs.Headers.{header_of}
use Rattle.css_schedule.specs.Lines.{line_of}
use Rattle.css_migrate.specs.declared.migrate.NoLine.{NoLine}

-- the first word of a text, and the words after it
abbrev pub first_word : List ℕ → List ℕ
first_word text = before_first is_space text

abbrev pub other_words : List ℕ → List ℕ
other_words text = after_first is_space text

-- a text and a line feed
abbrev pub fed : List ℕ → List ℕ
fed text = text ++ 10 ∷ []

-- the words behind the first two
abbrev pub later_words : List ℕ → List ℕ
later_words text = other_words (other_words text)

-- `T W REST` becomes `T W 1 REST`
abbrev pub line_turned : List ℕ → List ℕ
line_turned text = first_word text ++ 32 ∷ (first_word (other_words text) ++ (codes " 1 " ++ later_words text))

-- the first three words
abbrev pub three_words : List ℕ → List ℕ
three_words text = first_word text ++ 32 ∷ (first_word (other_words text) ++ 32 ∷ first_word (later_words text))

-- `MODE EW KW REST` becomes the two lines `css-schedule 2 MODE EW KW 1` and `companion 1 REST`
abbrev pub two_lines : List ℕ → List ℕ
two_lines text = codes "css-schedule 2 " ++ three_words text ++ (codes " 1" ++ 10 ∷ codes "companion 1 ")
    ++ other_words (later_words text)

-- `css-schedule 1 MODE EW KW REST` becomes these
abbrev pub header_turned : List ℕ → List ℕ
header_turned text = two_lines (later_words text)

-- line 1, where it is a header of version 1; a header of version 2 is none
abbrev pub header_becomes : List ℕ → Result Start LineFault → Result (List ℕ) NoLine
header_becomes text (Ok (One header)) = Ok (fed (header_turned text))
header_becomes text (Ok (Two header companions)) = Err (record {})
header_becomes text (Err fault) = Err (record {})

-- each other line, where it is one of version 1
abbrev pub line_becomes : List ℕ → Result Line LineFault → Result (List ℕ) NoLine
line_becomes text (Ok line) = Ok (fed (line_turned text))
line_becomes text (Err fault) = Err (record {})

-- what a line becomes after those before it
abbrev pub text_becomes : List (List ℕ) → List ℕ → Result (List ℕ) NoLine
text_becomes [] text = header_becomes text (header_of text)
text_becomes (first ∷ texts) text = line_becomes text (line_of text)

-- an input without a header is refused
abbrev pub end_becomes : List (List ℕ) → Result (List ℕ) NoLine
end_becomes [] = Err (record {})
end_becomes (first ∷ texts) = Ok []

-- what becomes of the lines of an input: each has at most 4,096 bytes, and all have at most 67,108,864
abbrev pub migrated : Meaning NoLine
migrated = record {
  longest_line = λ before. 4096;
  longest_input = λ before. 67108864;
  line = text_becomes;
  finish = end_becomes;
}
