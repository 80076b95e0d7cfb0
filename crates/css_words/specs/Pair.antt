-- Which television and which companion the words of `pair` ask for.
use Rattle.std.specs.Prelude.{List, [], ◌∷◌, codes, Result, Ok}
use Rattle.clap.specs.Words.{App, Row, Text}
use Rattle.css_words.specs.Companion.{OptionsAsked, options_in, options_of}
use Rattle.css_words.specs.Options.{◌>>=◌, app_taking, rows_in}
use Rattle.css_words.specs.Tv.{TvAsked, tv_at, tv_flags, tv_of}
use Rattle.css_words.specs.declared.fault.WordsFault.{WordsFault}
use Rattle.css_words.specs.declared.words.PairWords.{PairWords}

-- a television, and a companion of it
pub record PairAsked : Type 0 where
  pub companion : OptionsAsked
  pub tv : TvAsked

abbrev pub pair_of : PairWords → PairAsked
pair_of words = record { companion = options_of words.companion; tv = tv_of words.tv }

-- a companion's options and a television's, without an address and without a host; the flags are the television's
abbrev pub pair_options : List Text
pair_options =
    codes "selector" ∷ codes "stem" ∷ codes "reports" ∷ codes "turns" ∷ codes "seconds" ∷ codes "report-every"
    ∷ codes "ask-every" ∷ codes "local-error" ∷ codes "local-precision" ∷ codes "earliest" ∷ codes "latest"
    ∷ codes "port" ∷ codes "precision" ∷ codes "error" ∷ []

abbrev pub pair_app : App
pair_app = app_taking pair_options tv_flags

unfoldable pub pair_rows : List Text → Result (List Row) WordsFault
pair_rows words = rows_in pair_app words

-- the limit is that of both
unfoldable pub pair_in : List Text → Result PairAsked WordsFault
pair_in words = do
  rows ← pair_rows words
  companion ← options_in rows
  tv ← tv_at (codes "127.0.0.1") rows
  Ok (record { companion = companion; tv = tv })
