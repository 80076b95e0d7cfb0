-- The texts of the times at which a companion can present.
use Rattle.std.specs.Prelude.{ℕ, ℤ, ◌+◌, ◌^◌, ◌==◌, Bool, if◌then◌else◌, bytes_eq, take, drop, position, codes}
use Rattle.std.specs.Prelude.{Option, Some, None, option_map, Result, Ok}
use Rattle.clap.specs.Words.{Text}
use Rattle.css_num.specs.Words.{whole_number_of, signed_number_of}
use Rattle.css_tsmsg.specs.declared.bound.Bound.{Bound}
use Rattle.css_tsmsg.specs.declared.bound.Bound.TheVariants.{At, MinusInfinity, PlusInfinity}
use Rattle.css_words.specs.Options.{◌>>=◌, or_usage}
use Rattle.css_words.specs.declared.fault.WordsFault.{WordsFault}

abbrev pub is_comma : ℕ → Bool
is_comma byte = byte == 44

-- what stands before the first comma and after it
abbrev pub cut_at : Text → ℕ → Text × Text
cut_at text comma = (take comma text, drop (comma + 1) text)

abbrev pub halves : Text → Option (Text × Text)
halves text = option_map (cut_at text) (position is_comma text)

-- a tick of at most 18 digits
abbrev pub tick : Text → Result ℤ WordsFault
tick word = or_usage (signed_number_of word 18)

-- a wall time below 2^63 ns, and None where the word is the infinite one
abbrev pub wall_time : Text → Text → Result (Option ℕ) WordsFault
wall_time infinite word =
    if bytes_eq word infinite then Ok None else (or_usage (whole_number_of word (2 ^ 63)) >>= λ wall. Ok (Some wall))

-- a tick, a comma and a wall time
unfoldable pub times : Text → Text → Result (ℤ × Option ℕ) WordsFault
times infinite text = do
  halves ← or_usage (halves text)
  tick ← tick halves.0
  wall ← wall_time infinite halves.1
  Ok (tick, wall)

-- the bounds of such times
abbrev pub earliest_of : ℤ → Option ℕ → Bound
earliest_of content None = MinusInfinity content
earliest_of content (Some wall) = At content wall

abbrev pub latest_of : ℤ → Option ℕ → Bound
latest_of content None = PlusInfinity content
latest_of content (Some wall) = At content wall

unfoldable pub earliest : Text → Result Bound WordsFault
earliest text = do
  times ← times (codes "minusinfinity") text
  Ok (earliest_of times.0 times.1)

unfoldable pub latest : Text → Result Bound WordsFault
latest text = do
  times ← times (codes "plusinfinity") text
  Ok (latest_of times.0 times.1)
