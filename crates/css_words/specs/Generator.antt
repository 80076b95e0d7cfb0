-- Which schedule the words of `generate` and `survey` ask for.
use Rattle.std.specs.Prelude.{ℕ, List, [], ◌∷◌, codes, Option, Some, None, Result, Ok}
use Rattle.clap.specs.Words.{App, Row, Text, first_of}
use Rattle.css_words.specs.Lines.{least_lines}
use Rattle.css_words.specs.Options.{◌>>=◌, app_taking, number_in, required, rows_in}
use Rattle.css_words.specs.declared.fault.WordsFault.{WordsFault}
use Rattle.css_words.specs.declared.words.GeneratorWords.{GeneratorWords}

-- a seed, and how many lines and companions; where the companions aren't told, there is one
pub record GeneratorAsked : Type 0 where
  pub seed : ℕ
  pub lines : ℕ
  pub companions : Option ℕ

abbrev pub generator_of : GeneratorWords → GeneratorAsked
generator_of words = record { seed = words.seed; lines = words.lines; companions = words.companions }

-- the options
abbrev pub generator_options : List Text
generator_options = codes "seed" ∷ codes "lines" ∷ codes "companions" ∷ []

abbrev pub generator_app : App
generator_app = app_taking generator_options []

unfoldable pub generator_rows : List Text → Result (List Row) WordsFault
generator_rows words = rows_in generator_app words

-- 2 to 16 companions, where they are told
abbrev pub companions_given : Option Text → Result (Option ℕ) WordsFault
companions_given None = Ok None
companions_given (Some text) = number_in 2 16 text >>= λ count. Ok (Some count)

abbrev pub companions : List Row → Result (Option ℕ) WordsFault
companions rows = companions_given (first_of (codes "companions") rows)

-- The seed and the lines have to be given: the seed is 0 to 2^63 - 1, and the lines are at most 200,000.
unfoldable pub generator_in : List Text → Result GeneratorAsked WordsFault
generator_in words = do
  rows ← generator_rows words
  seed ← required (number_in 0 9223372036854775807) (codes "seed") rows
  companions ← companions rows
  lines ← required (number_in (least_lines companions) 200000) (codes "lines") rows
  Ok (record { seed = seed; lines = lines; companions = companions })
