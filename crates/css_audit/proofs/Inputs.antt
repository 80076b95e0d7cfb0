-- What the header of a record names is UTF-8, and the readings of its lines are in range.
use Rattle.std.proofs.Common.{◌<◌, List}
use Rattle.std.specs.Prelude.{ℕ, ◌+◌, Option, Some, None, Result, IfOk, codes, bytes_eq}
use Rattle.std.specs.List.{list_all}
use Rattle.css_num.specs.Gives.{GivesBy}
use Rattle.css_model.specs.declared.TheConstants.{LIMIT}
use Rattle.css_model.specs.Numbers.{max_local_error, max_local_precision}
use Rattle.css_companion.specs.declared.config.CompanionConfig.{CompanionConfig}
use Rattle.css_schedule.proofs.Graphic.{stem-utf8}
use Rattle.css_schedule.proofs.Steps.{pass, after, after_whole, either, number-range, text-range, answer-range}
use Rattle.css_schedule.specs.Ranges.{IsText}
use Rattle.css_schedule.specs.Words.{word_at, after_word, number_at, all_read, words_of}
use Rattle.css_schedule.specs.declared.fault.LineFault.{LineFault}
use Rattle.css_schedule.specs.declared.fault.LineFault.TheVariants.{Memory}
use Rattle.css_audit.specs.Inputs.{IsUtf8Config, header_of_words, header_of, IsInRange, is_printable, last_reading}
use Rattle.css_audit.specs.Inputs.{last_bytes, slept_of, turn_of, ask_of, land_of, cii_of, ts_of, closed_of, named}
use Rattle.css_audit.specs.Inputs.{line_of_words, after_report, report_or, line_of}
use Rattle.css_audit.specs.declared.input.RecordLine.{RecordLine}

words-utf8 : (words : List (List ℕ)) → IfOk (header_of_words words) IsUtf8Config
unfolding header_of_words
words-utf8 words =
    pass IsUtf8Config (after_word (codes "css-record") words) _ (λ name.
    pass IsUtf8Config (after_word (codes "1") name) _ (λ version.
    pass IsUtf8Config (number_at (max_local_error + 1) version) _ (λ error.
    pass IsUtf8Config (number_at (max_local_precision + 1) error.1) _ (λ precision.
    after IsText IsUtf8Config _ _ (text-range precision.1) (λ selector rest wanted.
    after IsText IsUtf8Config _ _ (text-range rest) (λ stem end begun.
    pass IsUtf8Config (all_read end) _ (λ done. (wanted.utf8, stem-utf8 stem begun.utf8))))))))

pub header_utf8 : (bytes : List ℕ) (answer : Result CompanionConfig LineFault)
    → GivesBy (λ config. config) Memory answer (header_of bytes) → IfOk answer IsUtf8Config
header_utf8 bytes answer gives = answer-range IsUtf8Config answer (header_of bytes) (words-utf8 (words_of bytes)) gives

-- ---- lines
-- a reading that is the last word
abbrev IsTime : ℕ → Type 0
IsTime reading = reading < LIMIT

last-range : (words : List (List ℕ)) → IfOk (last_reading words) IsTime
unfolding last_reading
last-range words =
    after IsTime IsTime _ _ (number-range LIMIT words) (λ reading rest small.
    pass IsTime (all_read rest) _ (λ done. small))

-- each line by its name
land-range : (words : List (List ℕ)) → IfOk (land_of words) IsInRange
unfolding land_of
land-range words =
    after IsTime IsInRange _ _ (number-range LIMIT words) (λ reading rest small.
    pass IsInRange (last_bytes rest) _ (λ bytes. small))

closed-range : (words : List (List ℕ)) → IfOk (closed_of words) IsInRange
unfolding closed_of
closed-range words =
    pass IsInRange (word_at words) _ (λ name.
    pass IsInRange (all_read name.1) _ (λ done.
    either IsInRange (bytes_eq name.0 (codes "cii")) _ _ tt
    (either IsInRange (bytes_eq name.0 (codes "ts")) _ _ tt tt)))

named-range : (name : List ℕ) (words : List (List ℕ)) → IfOk (named name words) IsInRange
unfolding named slept_of turn_of ask_of cii_of ts_of
named-range name words =
    either IsInRange (bytes_eq name (codes "slept")) _ _ (pass IsInRange (all_read words) _ (λ done. tt))
    (either IsInRange (bytes_eq name (codes "turn")) _ _
    (after_whole IsTime IsInRange (last_reading words) _ (last-range words) (λ reading small. small))
    (either IsInRange (bytes_eq name (codes "ask")) _ _
    (after_whole IsTime IsInRange (last_reading words) _ (last-range words) (λ reading small. small))
    (either IsInRange (bytes_eq name (codes "land")) _ _ (land-range words)
    (either IsInRange (bytes_eq name (codes "cii")) _ _ (pass IsInRange (last_bytes words) _ (λ bytes. tt))
    (either IsInRange (bytes_eq name (codes "ts")) _ _ (pass IsInRange (last_bytes words) _ (λ bytes. tt))
    (either IsInRange (bytes_eq name (codes "closed")) _ _ (closed-range words) tt))))))

words-range : (words : List (List ℕ)) → IfOk (line_of_words words) IsInRange
unfolding line_of_words
words-range words = pass IsInRange (word_at words) _ (λ name. named-range name.0 name.1)

-- a report, or else such a line
any-range : (report : Option (List ℕ)) (bytes : List ℕ) → IfOk (report_or report bytes) IsInRange
any-range (Some words) bytes = either IsInRange (list_all is_printable words) _ _ tt tt
any-range None bytes = words-range (words_of bytes)

pub line_in_range : (bytes : List ℕ) (answer : Result RecordLine LineFault)
    → GivesBy (λ line. line) Memory answer (line_of bytes) → IfOk answer IsInRange
line_in_range bytes answer gives =
    answer-range IsInRange answer (line_of bytes) (any-range (after_report bytes) bytes) gives
