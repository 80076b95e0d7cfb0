-- Which relay the words of `relay` ask for.
use Rattle.std.specs.Prelude.{ℕ, List, [], ◌∷◌, codes, Result, Ok}
use Rattle.clap.specs.Words.{App, Row, Text}
use Rattle.css_model.specs.History.{Address}
use Rattle.css_outside.specs.declared.limit.Limit.{Limit}
use Rattle.css_words.specs.Companion.{cii, period, local_error, local_precision}
use Rattle.css_words.specs.Options.{◌>>=◌, app_taking, rows_in, number_in, optional, text_or}
use Rattle.css_words.specs.Tv.{limit, cii_url, dialled}
use Rattle.css_words.specs.declared.fault.WordsFault.{WordsFault}
use Rattle.css_words.specs.declared.words.RelayNumbers.{RelayNumbers}
use Rattle.css_words.specs.declared.words.RelayWords.{RelayWords}

-- what a relay is started with
pub record RelayAsked : Type 0 where
  pub cii : Address
  pub port : ℕ
  pub limit : Limit
  pub ask_every : ℕ
  pub local_error : ℕ
  pub local_precision : ℕ
  pub host : Text

abbrev pub relay_of : RelayWords → RelayAsked
relay_of words = record {
  cii = words.cii;
  port = words.port;
  limit = words.limit;
  ask_every = words.ask_every;
  local_error = words.local_error;
  local_precision = words.local_precision;
  host = words.host;
}

-- ---- its options
abbrev pub port : List Row → Result ℕ WordsFault
port = optional 6690 (number_in 1024 65534) (codes "port")

abbrev pub relay_options : List Text
relay_options =
    codes "cii" ∷ codes "port" ∷ codes "turns" ∷ codes "seconds" ∷ codes "ask-every" ∷ codes "local-error"
    ∷ codes "local-precision" ∷ codes "host" ∷ []

abbrev pub relay_app : App
relay_app = app_taking relay_options []

unfoldable pub relay_rows : List Text → Result (List Row) WordsFault
relay_rows words = rows_in relay_app words

-- its numbers
pub record NumbersAsked : Type 0 where
  pub port : ℕ
  pub limit : Limit
  pub ask_every : ℕ
  pub local_error : ℕ
  pub local_precision : ℕ

abbrev pub numbers_of : RelayNumbers → NumbersAsked
numbers_of numbers = record {
  port = numbers.port;
  limit = numbers.limit;
  ask_every = numbers.ask_every;
  local_error = numbers.local_error;
  local_precision = numbers.local_precision;
}

abbrev pub numbers : List Row → Result NumbersAsked WordsFault
numbers rows = do
  port ← port rows
  limit ← limit rows
  ask_every ← period (codes "ask-every") rows
  local_error ← local_error rows
  local_precision ← local_precision rows
  Ok (record {
    port = port;
    limit = limit;
    ask_every = ask_every;
    local_error = local_error;
    local_precision = local_precision;
  })

-- the address has to be given, and companions have to be able to dial the host
unfoldable pub relay_in : List Text → Result RelayAsked WordsFault
relay_in words = do
  rows ← relay_rows words
  cii ← cii rows
  port ← port rows
  limit ← limit rows
  ask_every ← period (codes "ask-every") rows
  local_error ← local_error rows
  local_precision ← local_precision rows
  checked ← dialled (cii_url (text_or (codes "127.0.0.1") (codes "host") rows) port)
  Ok (record {
    cii = cii;
    port = port;
    limit = limit;
    ask_every = ask_every;
    local_error = local_error;
    local_precision = local_precision;
    host = text_or (codes "127.0.0.1") (codes "host") rows;
  })
