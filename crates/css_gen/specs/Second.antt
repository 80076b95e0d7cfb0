-- The lines of a generated schedule of several companions, which is of version 2: its header, a line for each
-- companion, what opens it at true time 0, and what was drawn.
use Rattle.std.specs.Prelude.{ℕ, ◌+◌, ◌-◌, ◌*◌, ◌/◌, ◌%◌, ◌==◌, nat_lt, nat_le, if◌then◌else◌, List, [], ◌∷◌}
use Rattle.std.specs.Prelude.{codes, decimal}
use Rattle.css_schedule.specs.declared.line.Line.{Line}
use Rattle.css_schedule.specs.Words.{with_words}
use Rattle.css_printed.specs.Printed.{declared_words, companion_words, line_text_in}
use Rattle.css_gen.specs.Opening.{header, companion, opening_verb}
use Rattle.css_gen.specs.Crowd.{next_line_of, next_crowd, crowd_after}
use Rattle.css_gen.specs.declared.crowd.Crowd.{Crowd}

-- ---- the first lines
-- line 1
abbrev pub second_header_text : (companions : ℕ) → List ℕ
second_header_text companions =
    with_words (codes "css-schedule") (codes "2" ∷ declared_words header (decimal companions ∷ []))

-- the line of the companion of that number
abbrev pub companion_text : (who : ℕ) → List ℕ
companion_text who = with_words (codes "companion") (decimal who ∷ companion_words companion)

-- So many lines open the schedule. Three of them are the television's alone, and each companion has five more.
abbrev pub openings : (companions : ℕ) → ℕ
openings companions = companions + 4 + 5 * companions

-- a schedule has at least these lines; with one companion it is of version 1
abbrev pub least_lines : (companions : ℕ) → ℕ
least_lines companions = if companions == 1 then 9 else openings companions

-- At true time 0 each clock shows one second.
abbrev pub clock_line : (who l number : ℕ) → Line
clock_line who l number = record { t = 0; w = 1000000000; who = who; l = l; verb = opening_verb number }

-- The line of that place, where the first one after those of the companions has the place 2. What the television does
-- is at the places 2 to 4, and five lines of each companion follow: its sessions are opened.
abbrev pub line_placed : (place : ℕ) → Line
line_placed place =
    if nat_lt place 5 then clock_line 0 0 place else clock_line (place / 5) 1000000000 (5 + place % 5)

-- ---- the lines by their numbers
-- the line of that number, after those of the companions, where the drawn lines have come to this crowd
abbrev pub second_line_from : Crowd → (number : ℕ) → Line
second_line_from crowd number =
    if nat_le number (openings crowd.companions) then line_placed (number - crowd.companions) else next_line_of crowd

-- the text of the line of that number, without its line feed
abbrev pub second_text_from : Crowd → (number : ℕ) → List ℕ
second_text_from crowd number =
    if number == 1 then second_header_text crowd.companions
    else if nat_le number (crowd.companions + 1) then companion_text (number - 1)
    else line_text_in 2 (second_line_from crowd number)

-- the crowd after that line
abbrev pub crowd_from : Crowd → (number : ℕ) → Crowd
crowd_from crowd number = if nat_le number (openings crowd.companions) then crowd else next_crowd crowd

-- the crowd of a seed before the line of that number
abbrev pub crowd_before : (seed companions number : ℕ) → Crowd
crowd_before seed companions number = crowd_after seed companions (number - (openings companions + 1))

-- the line of that number, after those of the companions
unfoldable pub second_line : (seed companions number : ℕ) → Line
second_line seed companions number = second_line_from (crowd_before seed companions number) number

-- the text of the line of that number
unfoldable pub second_text : (seed companions number : ℕ) → List ℕ
second_text seed companions number = second_text_from (crowd_before seed companions number) number
