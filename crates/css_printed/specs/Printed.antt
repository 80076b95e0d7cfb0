-- Headers and lines as texts: the words of each, with one space between two of them.
use Rattle.std.specs.Prelude.{ℕ, suc, ℤ, ◌==◌, ◌++◌, Bool, true, false, if◌then◌else◌, List, [], ◌∷◌}
use Rattle.std.specs.Prelude.{length, codes, decimal}
use Rattle.std.specs.Fmt.{signed_decimal}
use Rattle.css_num.specs.Rates.{TickRate}
use Rattle.css_player.specs.declared.command.Command.{Command}
use Rattle.css_player.specs.declared.command.Command.TheVariants.{Change, Speed, Seek}
use Rattle.css_num.specs.declared.protocol.Kind.{Kind}
use Rattle.css_num.specs.declared.protocol.Kind.TheVariants.{Cii, Ts}
use Rattle.css_tsmsg.specs.declared.bound.Bound.{Bound}
use Rattle.css_tsmsg.specs.Presentations.{content_text, wall_text}
use Rattle.css_schedule.specs.Words.{with_words, stem_word}
use Rattle.css_schedule.specs.declared.header.CompanionLine.{CompanionLine}
use Rattle.css_schedule.specs.declared.header.Header.{Header}
use Rattle.css_schedule.specs.declared.line.Verb.{Verb}
use Rattle.css_schedule.specs.declared.line.Verb.TheVariants as verbs
use Rattle.css_schedule.specs.declared.line.Line.{Line}

-- ---- headers
-- the word for whether the television promises follow-ups
abbrev pub mode_word : Bool → List ℕ
mode_word true = codes "follow"
mode_word false = codes "plain"

-- `EL PL SELECTOR STEM`
abbrev pub companion_words : CompanionLine → List (List ℕ)
companion_words companion =
    decimal companion.local.error ∷ decimal companion.local.precision
    ∷ companion.selector ∷ stem_word companion.stem ∷ []

-- those of the first companion, which is the one that there is in version 1
abbrev pub first_words : List CompanionLine → List (List ℕ)
first_words [] = []
first_words (companion ∷ companions) = companion_words companion

-- `MODE EW KW`, and what follows it
abbrev pub declared_words : Header → List (List ℕ) → List (List ℕ)
declared_words header words =
    mode_word header.follow ∷ decimal header.tv_error ∷ signed_decimal header.tv_precision ∷ words

-- `1 MODE EW KW EL PL SELECTOR STEM`
abbrev pub header_words : Header → List (List ℕ)
header_words header = codes "1" ∷ declared_words header (first_words header.companions)

-- the header's line in version 1
abbrev pub header_text : Header → List ℕ
header_text header = with_words (codes "css-schedule") (header_words header)

-- `2 MODE EW KW COUNT`
abbrev pub second_words : Header → List (List ℕ)
second_words header = codes "2" ∷ declared_words header (decimal (length header.companions) ∷ [])

-- a text with a line after it for each companion, the first of which has that number; a line feed stands before each
abbrev pub with_companions : List ℕ → ℕ → List CompanionLine → List ℕ
with_companions text number [] = text
with_companions text number (companion ∷ companions) =
    with_companions (with_words (text ++ 10 ∷ codes "companion") (decimal number ∷ companion_words companion))
    (suc number) companions

-- the header's lines in version 2
abbrev pub second_text : Header → List ℕ
second_text header = with_companions (with_words (codes "css-schedule") (second_words header)) 1 header.companions

-- the header's lines in a version
abbrev pub header_text_in : ℕ → Header → List ℕ
header_text_in version header = if version == 1 then header_text header else second_text header

-- ---- lines
-- the word for a kind of session
abbrev pub kind_word : Kind → List ℕ
kind_word Cii = codes "cii"
kind_word Ts = codes "ts"

-- the name of a viewer's command
abbrev pub command_name : Command → List ℕ
command_name (Change programme) = codes "change"
command_name (Speed speed) = codes "speed"
command_name (Seek media) = codes "seek"

-- and its operand
abbrev pub command_word : Command → List ℕ
command_word (Change programme) = decimal programme
command_word (Speed speed) = signed_decimal speed
command_word (Seek media) = signed_decimal media

-- `UPT UPS`
abbrev pub rate_words : TickRate → List (List ℕ)
rate_words rate = decimal rate.units_per_tick ∷ decimal rate.units_per_second ∷ []

-- a timeline
abbrev pub timeline_words : ℕ → List ℕ → TickRate → ℤ → List (List ℕ)
timeline_words programme selector rate base =
    codes "timeline" ∷ decimal programme ∷ selector
    ∷ decimal rate.units_per_tick ∷ decimal rate.units_per_second ∷ signed_decimal base ∷ []

-- a bound of a presentation: its content time and its wall time
abbrev pub bound_words : Bound → List (List ℕ)
bound_words bound = content_text bound ∷ wall_text bound ∷ []

-- a verb and its operands
abbrev pub verb_words : Verb → List (List ℕ)
verb_words (verbs.Ask reading) = codes "ask" ∷ decimal reading ∷ []
verb_words (verbs.Take request reading) = codes "take" ∷ decimal request ∷ decimal reading ∷ []
verb_words (verbs.Give take reading) = codes "give" ∷ decimal take ∷ decimal reading ∷ []
verb_words (verbs.Land datagram reading) = codes "land" ∷ decimal datagram ∷ decimal reading ∷ []
verb_words (verbs.Wall reading) = codes "wall" ∷ decimal reading ∷ []
verb_words (verbs.Print reading) = codes "print" ∷ decimal reading ∷ []
verb_words (verbs.Programme content_id) = codes "programme" ∷ content_id ∷ []
verb_words (verbs.Timeline programme selector rate base) = timeline_words programme selector rate base
verb_words (verbs.Viewer reading command) = command_name command ∷ decimal reading ∷ command_word command ∷ []
verb_words (verbs.Opening kind) = codes "open" ∷ kind_word kind ∷ []
verb_words (verbs.Bring kind) = codes "text" ∷ kind_word kind ∷ []
verb_words verbs.Up = codes "up" ∷ codes "ts" ∷ []
verb_words (verbs.Present earliest latest) =
    codes "present" ∷ content_text earliest ∷ wall_text earliest ∷ content_text latest ∷ wall_text latest ∷ []
verb_words (verbs.Close kind) = codes "close" ∷ kind_word kind ∷ []
verb_words verbs.Sleep = codes "sleep" ∷ []

-- the line of the one companion that there is in version 1
abbrev pub line_text : Line → List ℕ
line_text line = with_words (decimal line.t) (decimal line.w ∷ decimal line.l ∷ verb_words line.verb)

-- `W L` of version 1, or `W K L` of version 2
abbrev pub clock_words : Bool → Line → List (List ℕ)
clock_words true line = decimal line.w ∷ decimal line.l ∷ []
clock_words false line = decimal line.w ∷ decimal line.who ∷ decimal line.l ∷ []

-- the line in a version
abbrev pub line_text_in : ℕ → Line → List ℕ
line_text_in version line = with_words (decimal line.t) (clock_words (version == 1) line ++ verb_words line.verb)
