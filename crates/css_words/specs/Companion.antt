-- Which companion the words of `companion` ask for.
use Rattle.std.specs.Prelude.{ℕ, Bool, List, [], ◌∷◌, codes, Option, Some, None, Result, Ok, Err}
use Rattle.clap.specs.Words.{App, Row, Text, first_of}
use Rattle.css_model.specs.History.{Address}
use Rattle.css_model.specs.declared.Kind.TheVariants.{Cii}
use Rattle.css_outside.specs.declared.limit.Limit.{Limit}
use Rattle.css_tsmsg.specs.declared.bound.Bound.{Bound}
use Rattle.css_address.specs.Addresses.{address_of}
use Rattle.css_address.specs.declared.fault.AddressFault.{AddressFault}
use Rattle.css_words.specs.Bounds.{earliest, latest}
use Rattle.css_words.specs.Faults.{address_fault}
use Rattle.css_words.specs.Options.{◌>>=◌, app_taking, is_set, number_in, optional, text_or, rows_in}
use Rattle.css_words.specs.Recorded.{checked}
use Rattle.css_words.specs.Tv.{limit}
use Rattle.css_words.specs.declared.fault.WordsFault.{WordsFault}
use Rattle.css_words.specs.declared.fault.WordsFault.TheVariants.{Usage}
use Rattle.css_words.specs.declared.words.CompanionOptions.{CompanionOptions}
use Rattle.css_words.specs.declared.words.CompanionWords.{CompanionWords}

-- what a companion wants, wherever the television is
pub record OptionsAsked : Type 0 where
  pub selector : Text
  pub stem : Text
  pub reports : ℕ
  pub limit : Limit
  pub report_every : ℕ
  pub ask_every : ℕ
  pub local_error : ℕ
  pub local_precision : ℕ
  pub present : Option (Bound × Bound)

abbrev pub options_of : CompanionOptions → OptionsAsked
options_of options = record {
  selector = options.selector;
  stem = options.stem;
  reports = options.reports;
  limit = options.limit;
  report_every = options.report_every;
  ask_every = options.ask_every;
  local_error = options.local_error;
  local_precision = options.local_precision;
  present = options.present;
}

-- and the television's address, and whether the run is recorded
pub record CompanionAsked : Type 0 where
  pub cii : Address
  pub options : OptionsAsked
  pub recorded : Bool

abbrev pub companion_of : CompanionWords → CompanionAsked
companion_of words = record { cii = words.cii; options = options_of words.options; recorded = words.recorded }

-- ---- numbers
abbrev pub reports : List Row → Result ℕ WordsFault
reports = optional 10 (number_in 1 1000000) (codes "reports")

-- a time between two events in nanoseconds
abbrev pub period : Text → List Row → Result ℕ WordsFault
period name = optional 1000000000 (number_in 1 1000000000000) name

abbrev pub local_error : List Row → Result ℕ WordsFault
local_error = optional 128000 (number_in 0 2560000) (codes "local-error")

abbrev pub local_precision : List Row → Result ℕ WordsFault
local_precision = optional 1000 (number_in 0 1000000000) (codes "local-precision")

-- ---- when it can present
-- both times, of which each text spells one
unfoldable pub window : Text → Text → Result (Bound × Bound) WordsFault
window earliest_text latest_text = do
  earliest ← earliest earliest_text
  latest ← latest latest_text
  Ok (earliest, latest)

-- neither time is given, or both are
abbrev pub present_given : Option Text → Option Text → Result (Option (Bound × Bound)) WordsFault
present_given None None = Ok None
present_given (Some earliest) (Some latest) = window earliest latest >>= λ bounds. Ok (Some bounds)
present_given _ _ = Err Usage

abbrev pub present : List Row → Result (Option (Bound × Bound)) WordsFault
present rows = present_given (first_of (codes "earliest") rows) (first_of (codes "latest") rows)

-- ---- the whole
unfoldable pub options_in : List Row → Result OptionsAsked WordsFault
options_in rows = do
  reports ← reports rows
  limit ← limit rows
  report_every ← period (codes "report-every") rows
  ask_every ← period (codes "ask-every") rows
  local_error ← local_error rows
  local_precision ← local_precision rows
  present ← present rows
  Ok (record {
    selector = text_or (codes "urn:dvb:css:timeline:pts") (codes "selector") rows;
    stem = text_or [] (codes "stem") rows;
    reports = reports;
    limit = limit;
    report_every = report_every;
    ask_every = ask_every;
    local_error = local_error;
    local_precision = local_precision;
    present = present;
  })

-- the address of the session of CSS-CII, which has to be given
abbrev pub address_read : Result Address AddressFault → Result Address WordsFault
address_read (Ok address) = Ok address
address_read (Err fault) = Err (address_fault fault)

abbrev pub cii_given : Option Text → Result Address WordsFault
cii_given None = Err Usage
cii_given (Some text) = address_read (address_of Cii text)

abbrev pub cii : List Row → Result Address WordsFault
cii rows = cii_given (first_of (codes "cii") rows)

-- its options and its flag
abbrev pub companion_options : List Text
companion_options =
    codes "cii" ∷ codes "selector" ∷ codes "stem" ∷ codes "reports" ∷ codes "turns" ∷ codes "seconds"
    ∷ codes "report-every" ∷ codes "ask-every" ∷ codes "local-error" ∷ codes "local-precision" ∷ codes "earliest"
    ∷ codes "latest" ∷ []

abbrev pub companion_flags : List Text
companion_flags = codes "record" ∷ []

abbrev pub companion_app : App
companion_app = app_taking companion_options companion_flags

unfoldable pub companion_rows : List Text → Result (List Row) WordsFault
companion_rows words = rows_in companion_app words

unfoldable pub companion_in : List Text → Result CompanionAsked WordsFault
companion_in words = do
  rows ← companion_rows words
  cii ← cii rows
  options ← options_in rows
  checked ← checked (is_set (codes "record") rows) options.selector options.stem
  Ok (record { cii = cii; options = options; recorded = is_set (codes "record") rows })
