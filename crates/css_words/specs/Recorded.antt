-- What the header of a record can name.
use Rattle.std.specs.Prelude.{ℕ, ◌==◌, ◌&&◌, ◌||◌, Bool, true, false, not, nat_le, if◌then◌else◌, bytes_eq}
use Rattle.std.specs.Prelude.{length, codes, Result, Ok, Err}
use Rattle.std.specs.List.{list_all}
use Rattle.clap.specs.Words.{Text}
use Rattle.css_words.specs.declared.fault.WordsFault.{WordsFault}
use Rattle.css_words.specs.declared.fault.WordsFault.TheVariants.{Usage}

-- a byte from `!` to `~`
abbrev pub is_graphic : ℕ → Bool
is_graphic byte = nat_le 33 byte && nat_le byte 126

-- a word has at least one byte, and each is graphic
abbrev pub is_word : Text → Bool
is_word text = not (length text == 0) && list_all is_graphic text

-- a stem is empty, or a word other than `-`, which stands for the empty one
abbrev pub is_stem : Text → Bool
is_stem text = (length text == 0) || (is_word text && not (bytes_eq text (codes "-")))

-- where the run is recorded, the selector is a word, and the stem is a stem
abbrev pub checked : Bool → Text → Text → Result (Unit {0}) WordsFault
checked false selector stem = Ok tt
checked true selector stem = if is_word selector && is_stem stem then Ok tt else Err Usage
