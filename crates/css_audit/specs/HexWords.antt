-- Bytes as words of hex digits.
use Rattle.std.specs.Prelude.{ℕ, ◌==◌, ◌&&◌, ◌||◌, nat_le, Bool, not, if◌then◌else◌, List, [], length}
use Rattle.std.specs.Prelude.{codes, bytes_eq, Result, Ok, Err}
use Rattle.std.specs.List.{list_all}
use Rattle.std.specs.Result.{result_ok}
use Rattle.hex.specs.Hex.{decode_of, encode_lower}
use Rattle.css_schedule.specs.declared.fault.LineFault.{LineFault}
use Rattle.css_schedule.specs.declared.fault.LineFault.TheVariants.{Form}
use Rattle.css_schedule.specs.Words.{or_form}

-- a digit: `0` to `9` or `a` to `f`
abbrev pub is_digit : ℕ → Bool
is_digit byte = (nat_le 48 byte && nat_le byte 57) || (nat_le 97 byte && nat_le byte 102)

-- there is a digit, and nothing but digits
abbrev pub is_hex : List ℕ → Bool
is_hex word = not (length word == 0) && list_all is_digit word

-- the bytes of digits, two for each byte
abbrev pub decoded : List ℕ → Result (List ℕ) LineFault
decoded digits = or_form (result_ok (decode_of digits))

-- the bytes that a word spells: `-` is none
abbrev pub bytes_of : List ℕ → Result (List ℕ) LineFault
bytes_of word =
    if bytes_eq word (codes "-") then Ok []
    else if not (is_hex word) then Err Form
    else decoded word

-- the word that spells bytes
abbrev pub hex_of : List ℕ → List ℕ
hex_of bytes = if length bytes == 0 then codes "-" else encode_lower bytes
