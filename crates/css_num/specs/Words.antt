-- Numbers as words: decimal digits, no zero before other digits, no `+`. So each number has one spelling, and each
-- spelling one number.
use Rattle.std.specs.Prelude.{◌≡◌, ℕ, ◌+◌, ◌-◌, ◌*◌, ◌<◌, ◌≤◌, ◌&&◌, ◌==◌, Bool, false, nat_lt, nat_le, List, [], ◌∷◌}
use Rattle.std.specs.Prelude.{length, Option, Some, None, option_map, if◌then◌else◌, ℤ, pos, negsuc, zero, suc}
use Rattle.std.specs.Prelude.{unsigned_abs}
use Rattle.std.specs.Fmt.{decimal, signed_decimal}
use Rattle.std.specs.Char.{is_ascii_digit}

-- the number that the digits write when they follow those of an earlier number, and None where a byte is no digit
abbrev pub digits_after : ℕ → List ℕ → Option ℕ
digits_after number [] = Some number
digits_after number (byte ∷ bytes) =
    if is_ascii_digit byte then digits_after (number * 10 + (byte - 48)) bytes else None

-- the number that one digit or more write, where zeros may lead
abbrev pub digits_number : List ℕ → Option ℕ
digits_number [] = None
digits_number (byte ∷ bytes) = digits_after 0 (byte ∷ bytes)

-- a zero stands before other bytes
abbrev pub has_leading_zero : List ℕ → Bool
has_leading_zero [] = false
has_leading_zero (byte ∷ bytes) = (byte == 48) && nat_lt 0 (length bytes)

-- the number that a word of digits spells
abbrev pub number_of : List ℕ → Option ℕ
number_of bytes = if has_leading_zero bytes then None else digits_number bytes

-- the number, where there is one and it is below the limit
abbrev pub below_limit : ℕ → Option ℕ → Option ℕ
below_limit limit None = None
below_limit limit (Some number) = if nat_lt number limit then Some number else None

-- the number below the limit that the word spells
abbrev pub whole_number_of : List ℕ → ℕ → Option ℕ
whole_number_of bytes limit = below_limit limit (number_of bytes)

-- the number that a word of at most so many digits spells
abbrev pub short_number_of : List ℕ → ℕ → Option ℕ
short_number_of bytes digits = if nat_le (length bytes) digits then number_of bytes else None

-- the number with a `-`, which zero has not
abbrev pub negative_of : Option ℕ → Option ℤ
negative_of None = None
negative_of (Some zero) = None
negative_of (Some (suc number)) = Some (negsuc number)

-- the number of at most so many digits that the word spells, where a `-` may lead
abbrev pub signed_number_of : List ℕ → ℕ → Option ℤ
signed_number_of [] digits = None
signed_number_of (byte ∷ bytes) digits =
    if byte == 45
    then negative_of (short_number_of bytes digits)
    else option_map pos (short_number_of (byte ∷ bytes) digits)

-- the bytes are the decimal spelling of the number, which is below the limit
pub record SpellsBelow (bytes : List ℕ) (limit number : ℕ) : Type 0 where
  pub spelling : bytes ≡ decimal number
  pub small : number < limit

-- the bytes are the decimal spelling of the number, which has at most so many digits
pub record SpellsWithin (bytes : List ℕ) (digits : ℕ) (number : ℤ) : Type 0 where
  pub spelling : bytes ≡ signed_decimal number
  pub short : length (decimal (unsigned_abs number)) ≤ digits
