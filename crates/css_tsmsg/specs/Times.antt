-- The texts of content times and wall times.
use Rattle.std.specs.Prelude.{ℕ, ℤ, pos, neg_ℤ, ◌<ℤ◌, ◌^◌, ◌==◌, ◌&&◌, not, Bool, List, Option, Some, None, length}
use Rattle.std.specs.Prelude.{slice_index, drop, if◌then◌else◌}
use Rattle.std.specs.List.{list_all}
use Rattle.std.specs.Char.{is_ascii_digit}
use Rattle.std.specs.Str.Parse.{digits_value}
use Rattle.css_text.specs.declared.fields.Field.{Field}
use Rattle.css_text.specs.declared.fields.Field.TheVariants as field

-- one digit or more
abbrev pub is_wall : List ℕ → Bool
is_wall bytes = not (length bytes == 0) && list_all is_ascii_digit bytes

-- a `-` leads
abbrev pub has_minus : List ℕ → Bool
has_minus bytes = slice_index bytes 0 == 45

-- what follows the `-`, or all where there is none
abbrev pub without_minus : List ℕ → List ℕ
without_minus bytes = if has_minus bytes then drop 1 bytes else bytes

-- a `-` where there is one, and one digit or more
abbrev pub is_content : List ℕ → Bool
is_content bytes = is_wall (without_minus bytes)

-- the tick that a content time is
abbrev pub content_value : List ℕ → ℤ
content_value bytes = if has_minus bytes then neg_ℤ (pos (digits_value 10 (without_minus bytes)))
    else pos (digits_value 10 bytes)

-- the words of a field, where they pass
abbrev pub words_that : (List ℕ → Bool) → Field → Option (List ℕ)
words_that passes (field.Words words) = if passes words then Some words else None
words_that passes _ = None

-- a content time of at most 18 digits
pub record IsContent (content : ℤ) : Type 0 where
  pub low : neg_ℤ (pos (10 ^ 18)) <ℤ content
  pub high : content <ℤ pos (10 ^ 18)
