-- What a member of an object holds.
use Rattle.std.specs.Prelude.{ℕ, ℤ, List, Option, Some, None, ⊤}
use Rattle.std.specs.Str.{IsUtf8}
use Rattle.serde_json.specs.Data.{Data, null, boolean, number, string, array, object, Members}
use Rattle.serde_json.specs.Find.{as_i64, get_member}
use Rattle.css_text.specs.declared.fields.Field.{Field}
use Rattle.css_text.specs.declared.fields.Field.TheVariants.{Missing, Null, Words, Whole, List as list_field}
use Rattle.css_text.specs.declared.fields.Field.TheVariants.{Object as object_field, Other}

-- a whole number that an `i64` holds
abbrev pub whole_or_other : Option ℤ → Field
whole_or_other None = Other
whole_or_other (Some n) = Whole n

-- what a value is
abbrev pub field_of_data : Data → Field
field_of_data null = Null
field_of_data (boolean b) = Other
field_of_data (number n) = whole_or_other (as_i64 n)
field_of_data (string s) = Words s
field_of_data (array ds) = list_field
field_of_data (object ms) = object_field

-- what a member is, where there is one
abbrev pub field_or_missing : Option Data → Field
field_or_missing None = Missing
field_or_missing (Some d) = field_of_data d

-- the field of a name
abbrev pub field_at : List ℕ → Members → Field
field_at name ms = field_or_missing (get_member name ms)

-- a text is UTF-8
abbrev pub HasUtf8 : Field → Type 0
HasUtf8 (Words words) = IsUtf8 words
HasUtf8 _ = ⊤
