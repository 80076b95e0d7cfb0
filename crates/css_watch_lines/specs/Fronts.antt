-- The front of a text that can't be read, as a line tells it.
use Rattle.std.specs.Prelude.{ℕ, List, length, nat_lt, take, if◌then◌else◌}
use Rattle.std.specs.Fmt.Cut.{floor_char_boundary}
use Rattle.std.specs.Str.Lossy.{utf8_lossy}

-- the first 1,000 bytes of words, cut at a character
abbrev pub cut : List ℕ → List ℕ
cut words = if nat_lt 1000 (length words) then take (floor_char_boundary words 1000) words else words

-- the front of a text, in which U+FFFD stands for what is no UTF-8
abbrev pub front_of : List ℕ → List ℕ
front_of text = cut (utf8_lossy text)
