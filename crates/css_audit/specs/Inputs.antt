-- The lines of a record, as words.
use Rattle.std.specs.Prelude.{ℕ, ◌+◌, ◌<◌, ◌&&◌, ⊤, nat_le, Bool, if◌then◌else◌, List, take, drop}
use Rattle.std.specs.Prelude.{Option, Some, None, Result, Ok, Err, codes, bytes_eq}
use Rattle.std.specs.List.{list_all}
use Rattle.std.specs.Str.{IsUtf8}
use Rattle.css_model.specs.declared.TheConstants.{LIMIT}
use Rattle.css_model.specs.Numbers.{max_local_error, max_local_precision}
use Rattle.css_model.specs.WallClock.{Local}
use Rattle.css_companion.specs.declared.config.CompanionConfig.{CompanionConfig}
use Rattle.css_schedule.specs.Headers.{stem_of}
use Rattle.css_schedule.specs.declared.fault.LineFault.{LineFault}
use Rattle.css_schedule.specs.declared.fault.LineFault.TheVariants.{Form}
use Rattle.css_schedule.specs.Words.{At, ◌>>=◌, word_at, number_at, text_at, after_word, all_read, words_of}
use Rattle.css_audit.specs.HexWords.{bytes_of}
use Rattle.css_audit.specs.declared.input.RecordLine.{RecordLine}
use Rattle.css_audit.specs.declared.input.RecordLine.TheVariants as lines

-- ---- lines of words
-- a reading in nanoseconds: below 2^32 seconds
abbrev pub reading_at : At ℕ
reading_at words = number_at LIMIT words

-- a reading that is the last word
unfoldable pub last_reading : List (List ℕ) → Result ℕ LineFault
last_reading words = do
  reading ← reading_at words
  end ← all_read reading.1
  Ok reading.0

-- the bytes that the last word spells
unfoldable pub last_bytes : List (List ℕ) → Result (List ℕ) LineFault
last_bytes words = do
  digits ← word_at words
  end ← all_read digits.1
  bytes_of digits.0

-- `slept`
unfoldable pub slept_of : List (List ℕ) → Result RecordLine LineFault
slept_of words = do
  end ← all_read words
  Ok lines.Slept

-- `R` of `turn`
unfoldable pub turn_of : List (List ℕ) → Result RecordLine LineFault
turn_of words = do
  reading ← last_reading words
  Ok (lines.Turn reading)

-- `R` of `ask`
unfoldable pub ask_of : List (List ℕ) → Result RecordLine LineFault
ask_of words = do
  reading ← last_reading words
  Ok (lines.Ask reading)

-- `R HEX` of `land`
unfoldable pub land_of : List (List ℕ) → Result RecordLine LineFault
land_of words = do
  reading ← reading_at words
  bytes ← last_bytes reading.1
  Ok (lines.Land reading.0 bytes)

-- `HEX` of `cii`
unfoldable pub cii_of : List (List ℕ) → Result RecordLine LineFault
cii_of words = do
  bytes ← last_bytes words
  Ok (lines.Cii bytes)

-- `HEX` of `ts`
unfoldable pub ts_of : List (List ℕ) → Result RecordLine LineFault
ts_of words = do
  bytes ← last_bytes words
  Ok (lines.Ts bytes)

-- the end of a session, by its name
abbrev pub closed_named : List ℕ → Result RecordLine LineFault
closed_named name =
    if bytes_eq name (codes "cii") then Ok lines.ClosedCii
    else if bytes_eq name (codes "ts") then Ok lines.ClosedTs
    else Err Form

-- `cii` or `ts` of `closed`
unfoldable pub closed_of : List (List ℕ) → Result RecordLine LineFault
closed_of words = do
  name ← word_at words
  end ← all_read name.1
  closed_named name.0

-- the line with this name and these words after it
unfoldable pub named : List ℕ → List (List ℕ) → Result RecordLine LineFault
named name words =
    if bytes_eq name (codes "slept") then slept_of words
    else if bytes_eq name (codes "turn") then turn_of words
    else if bytes_eq name (codes "ask") then ask_of words
    else if bytes_eq name (codes "land") then land_of words
    else if bytes_eq name (codes "cii") then cii_of words
    else if bytes_eq name (codes "ts") then ts_of words
    else if bytes_eq name (codes "closed") then closed_of words
    else Err Form

-- the same, where the name is none of the first four
abbrev pub session_named : List ℕ → List (List ℕ) → Result RecordLine LineFault
session_named name words =
    if bytes_eq name (codes "cii") then cii_of words
    else if bytes_eq name (codes "ts") then ts_of words
    else if bytes_eq name (codes "closed") then closed_of words
    else Err Form

-- a line that is no report
unfoldable pub line_of_words : List (List ℕ) → Result RecordLine LineFault
line_of_words words = do
  name ← word_at words
  named name.0 name.1

-- ---- reports
-- a byte from space to `~`
abbrev pub is_printable : ℕ → Bool
is_printable byte = nat_le 32 byte && nat_le byte 126

-- what stands after `report` and its space
abbrev pub after_report : List ℕ → Option (List ℕ)
after_report bytes = if bytes_eq (take 7 bytes) (codes "report ") then Some (drop 7 bytes) else None

-- a report of these words
abbrev pub report_of : List ℕ → Result RecordLine LineFault
report_of words = if list_all is_printable words then Ok (lines.Report words) else Err Form

-- a report, or else a line of words
abbrev pub report_or : Option (List ℕ) → List ℕ → Result RecordLine LineFault
report_or (Some words) bytes = report_of words
report_or None bytes = line_of_words (words_of bytes)

-- the line that bytes are, or that they are none
abbrev pub line_of : List ℕ → Result RecordLine LineFault
line_of bytes = report_or (after_report bytes) bytes

-- the reading of a line is in range
abbrev pub IsInRange : RecordLine → Type 0
IsInRange (lines.Turn reading) = reading < LIMIT
IsInRange (lines.Ask reading) = reading < LIMIT
IsInRange (lines.Land reading bytes) = reading < LIMIT
IsInRange _ = ⊤

-- ---- the header
-- a clock of this error and precision
abbrev pub local_with : ℕ → ℕ → Local
local_with error precision = record { error = error; precision = precision }

-- the configuration of a companion with this clock, which wants this of the television
abbrev pub config_with : Local → List ℕ → List ℕ → CompanionConfig
config_with local selector word = record { selector = selector; stem = stem_of word; local = local }

-- `css-record 1 EL PL SELECTOR STEM`
unfoldable pub header_of_words : List (List ℕ) → Result CompanionConfig LineFault
header_of_words words = do
  name ← after_word (codes "css-record") words
  version ← after_word (codes "1") name
  error ← number_at (max_local_error + 1) version
  precision ← number_at (max_local_precision + 1) error.1
  selector ← text_at precision.1
  stem ← text_at selector.1
  end ← all_read stem.1
  Ok (config_with (local_with error.0 precision.0) selector.0 stem.0)

-- the header that bytes are, or that they are none
abbrev pub header_of : List ℕ → Result CompanionConfig LineFault
header_of bytes = header_of_words (words_of bytes)

-- what the header names is UTF-8
abbrev pub IsUtf8Config : CompanionConfig → Type 0
IsUtf8Config config = IsUtf8 config.selector × IsUtf8 config.stem
