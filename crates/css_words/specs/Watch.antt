-- Which watch the words of `watch` ask for.
use Rattle.std.specs.Prelude.{ℕ, List, [], ◌∷◌, codes, Result, Ok}
use Rattle.clap.specs.Words.{App, Row, Text}
use Rattle.css_model.specs.History.{Address}
use Rattle.css_outside.specs.declared.limit.Limit.{Limit}
use Rattle.css_outside.specs.declared.limit.Limit.TheVariants.{Turns, Seconds}
use Rattle.css_words.specs.Companion.{OptionsAsked, cii, options_in}
use Rattle.css_words.specs.Options.{◌>>=◌, app_taking, rows_in}
use Rattle.css_words.specs.declared.fault.WordsFault.{WordsFault}
use Rattle.css_words.specs.declared.words.WatchWords.{WatchWords}

-- what a watch is started with
pub record WatchAsked : Type 0 where
  pub cii : Address
  pub selector : Text
  pub stem : Text
  pub seconds : ℕ
  pub report_every : ℕ
  pub ask_every : ℕ
  pub local_error : ℕ
  pub local_precision : ℕ

abbrev pub watch_of : WatchWords → WatchAsked
watch_of words = record {
  cii = words.cii;
  selector = words.selector;
  stem = words.stem;
  seconds = words.seconds;
  report_every = words.report_every;
  ask_every = words.ask_every;
  local_error = words.local_error;
  local_precision = words.local_precision;
}

-- its options
abbrev pub watch_options : List Text
watch_options =
    codes "cii" ∷ codes "selector" ∷ codes "stem" ∷ codes "seconds" ∷ codes "report-every" ∷ codes "ask-every"
    ∷ codes "local-error" ∷ codes "local-precision" ∷ []

abbrev pub watch_app : App
watch_app = app_taking watch_options []

unfoldable pub watch_rows : List Text → Result (List Row) WordsFault
watch_rows words = rows_in watch_app words

-- how many seconds it lasts, and a day where it isn't told; no option of it tells turns
abbrev pub seconds_of : Limit → ℕ
seconds_of (Turns turns) = 86400
seconds_of (Seconds seconds) = seconds

abbrev pub watch_at : Address → OptionsAsked → WatchAsked
watch_at cii options = record {
  cii = cii;
  selector = options.selector;
  stem = options.stem;
  seconds = seconds_of options.limit;
  report_every = options.report_every;
  ask_every = options.ask_every;
  local_error = options.local_error;
  local_precision = options.local_precision;
}

-- Its options say what they say of a companion. A companion's other options, which a watch hasn't, say nothing here.
unfoldable pub watch_in : List Text → Result WatchAsked WordsFault
watch_in words = do
  rows ← watch_rows words
  cii ← cii rows
  options ← options_in rows
  Ok (watch_at cii options)
