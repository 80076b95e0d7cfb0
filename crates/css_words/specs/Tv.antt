-- Which television the words of `tv` ask for.
use Rattle.std.specs.Prelude.{ℕ, ℤ, pos, negsuc, int_lt, Bool, if◌then◌else◌, List, [], ◌∷◌, ◌++◌, codes, decimal}
use Rattle.std.specs.Prelude.{Option, Some, None, Result, Ok, Err}
use Rattle.clap.specs.Words.{App, Row, Text, first_of}
use Rattle.css_model.specs.History.{Address}
use Rattle.css_model.specs.declared.Kind.TheVariants.{Cii}
use Rattle.css_num.specs.Words.{signed_number_of}
use Rattle.css_outside.specs.declared.limit.Limit.{Limit}
use Rattle.css_outside.specs.declared.limit.Limit.TheVariants.{Turns, Seconds}
use Rattle.css_address.specs.Addresses.{address_of}
use Rattle.css_address.specs.declared.fault.AddressFault.{AddressFault}
use Rattle.css_words.specs.Faults.{address_fault}
use Rattle.css_words.specs.Options.{◌>>=◌, or_usage, app_taking, rows_in}
use Rattle.css_words.specs.Options.{number_in, optional, text_or, is_set}
use Rattle.css_words.specs.declared.fault.WordsFault.{WordsFault}
use Rattle.css_words.specs.declared.fault.WordsFault.TheVariants.{Usage}
use Rattle.css_words.specs.declared.words.TvWords.{TvWords}

-- what a television is started with
pub record TvAsked : Type 0 where
  pub port : ℕ
  pub limit : Limit
  pub precision : ℤ
  pub error : ℕ
  pub follow : Bool
  pub relative : Bool
  pub host : Text

abbrev pub tv_of : TvWords → TvAsked
tv_of words = record {
  port = words.port;
  limit = words.limit;
  precision = words.precision;
  error = words.error;
  follow = words.follow;
  relative = words.relative;
  host = words.host;
}

-- ---- its options
abbrev pub port : List Row → Result ℕ WordsFault
port = optional 6677 (number_in 1024 65534) (codes "port")

-- how long a run goes on: so many turns, or so many seconds, and 10,000 turns where neither is given
abbrev pub limit_given : Option Text → Option Text → Result Limit WordsFault
limit_given None None = Ok (Turns 10000)
limit_given (Some turns) None = number_in 1 1000000 turns >>= λ turns. Ok (Turns turns)
limit_given None (Some seconds) = number_in 1 31536000 seconds >>= λ seconds. Ok (Seconds seconds)
limit_given (Some turns) (Some seconds) = Err Usage

abbrev pub limit : List Row → Result Limit WordsFault
limit rows = limit_given (first_of (codes "turns") rows) (first_of (codes "seconds") rows)

-- an exponent of -128 to 30
abbrev pub exponent : ℤ → Result ℤ WordsFault
exponent number =
    if int_lt number (negsuc 127) then Err Usage else if int_lt (pos 30) number then Err Usage else Ok number

unfoldable pub precision_in : Text → Result ℤ WordsFault
precision_in text = or_usage (signed_number_of text 3) >>= exponent

abbrev pub precision : List Row → Result ℤ WordsFault
precision = optional (negsuc 19) precision_in (codes "precision")

abbrev pub error : List Row → Result ℕ WordsFault
error = optional 128000 (number_in 0 25600000) (codes "error")

-- what the options ask for, at a host
unfoldable pub tv_at : Text → List Row → Result TvAsked WordsFault
tv_at host rows = do
  port ← port rows
  limit ← limit rows
  precision ← precision rows
  error ← error rows
  Ok (record {
    port = port;
    limit = limit;
    precision = precision;
    error = error;
    follow = is_set (codes "follow") rows;
    relative = is_set (codes "relative") rows;
    host = host;
  })

-- ---- where it is reached
-- the URL of its session of CSS-CII
abbrev pub cii_url : Text → ℕ → Text
cii_url host port = codes "ws://" ++ host ++ codes ":" ++ decimal port ++ codes "/cii"

-- the URL is an address
abbrev pub dialled_at : Result Address AddressFault → Result (Unit {0}) WordsFault
dialled_at (Ok address) = Ok tt
dialled_at (Err fault) = Err (address_fault fault)

abbrev pub dialled : Text → Result (Unit {0}) WordsFault
dialled url = dialled_at (address_of Cii url)

-- ---- the whole
-- its options and flags
abbrev pub tv_options : List Text
tv_options =
    codes "port" ∷ codes "turns" ∷ codes "seconds" ∷ codes "precision" ∷ codes "error" ∷ codes "host" ∷ []

abbrev pub tv_flags : List Text
tv_flags = codes "follow" ∷ codes "relative" ∷ []

abbrev pub tv_app : App
tv_app = app_taking tv_options tv_flags

unfoldable pub tv_rows : List Text → Result (List Row) WordsFault
tv_rows words = rows_in tv_app words

-- every option may be left out; companions have to be able to dial the host
unfoldable pub tv_in : List Text → Result TvAsked WordsFault
tv_in words = do
  rows ← tv_rows words
  asked ← tv_at (text_or (codes "127.0.0.1") (codes "host") rows) rows
  checked ← dialled (cii_url asked.host asked.port)
  Ok asked
