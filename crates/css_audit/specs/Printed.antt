-- The lines of a record as texts: the words of each, with one space between two of them.
use Rattle.std.specs.Prelude.{ℕ, ◌++◌, List, [], ◌∷◌, codes, decimal}
use Rattle.css_companion.specs.declared.config.CompanionConfig.{CompanionConfig}
use Rattle.css_schedule.specs.Words.{with_words, stem_word}
use Rattle.css_audit.specs.HexWords.{hex_of}
use Rattle.css_audit.specs.declared.input.RecordLine.{RecordLine}
use Rattle.css_audit.specs.declared.input.RecordLine.TheVariants as lines

-- `css-record 1 EL PL SELECTOR STEM`
abbrev pub header_words : CompanionConfig → List (List ℕ)
header_words config =
    decimal 1 ∷ decimal config.local.error ∷ decimal config.local.precision
    ∷ config.selector ∷ stem_word config.stem ∷ []

abbrev pub header_text : CompanionConfig → List ℕ
header_text config = with_words (codes "css-record") (header_words config)

-- the first word of a line
abbrev pub name_of : RecordLine → List ℕ
name_of lines.Slept = codes "slept"
name_of (lines.Turn reading) = codes "turn"
name_of (lines.Ask reading) = codes "ask"
name_of (lines.Land reading bytes) = codes "land"
name_of (lines.Cii bytes) = codes "cii"
name_of (lines.Ts bytes) = codes "ts"
name_of lines.ClosedCii = codes "closed"
name_of lines.ClosedTs = codes "closed"
name_of (lines.Report words) = codes "report"

-- a line
abbrev pub line_text : RecordLine → List ℕ
line_text lines.Slept = codes "slept"
line_text (lines.Turn reading) = with_words (codes "turn") (decimal reading ∷ [])
line_text (lines.Ask reading) = with_words (codes "ask") (decimal reading ∷ [])
line_text (lines.Land reading bytes) = with_words (codes "land") (decimal reading ∷ hex_of bytes ∷ [])
line_text (lines.Cii bytes) = with_words (codes "cii") (hex_of bytes ∷ [])
line_text (lines.Ts bytes) = with_words (codes "ts") (hex_of bytes ∷ [])
line_text lines.ClosedCii = with_words (codes "closed") (codes "cii" ∷ [])
line_text lines.ClosedTs = with_words (codes "closed") (codes "ts" ∷ [])
line_text (lines.Report words) = with_words (codes "report") (words ∷ [])

-- a header and lines, of which the newest stands first, each with its line feed
abbrev pub record_text : CompanionConfig → List RecordLine → List ℕ
record_text config [] = header_text config ++ 10 ∷ []
record_text config (now ∷ older) = record_text config older ++ line_text now ++ 10 ∷ []
