-- Control timestamps, and their texts.
use Rattle.std.specs.Prelude.{ℕ, ℤ, pos, neg_ℤ, int_lt, ◌≤ℤ◌, ◌<◌, ◌^◌, ◌&&◌, ◌||◌, not, nat_lt, nat_le, Bool, true}
use Rattle.std.specs.Prelude.{false, List, length, Option, Some, None, Result, Ok, Err, codes, decimal, ⊤}
use Rattle.std.specs.Prelude.{if◌then◌else◌}
use Rattle.std.specs.Fmt.{signed_decimal}
use Rattle.std.specs.Str.Parse.{digits_value}
use Rattle.css_num.specs.declared.control.Control.{Control}
use Rattle.css_num.specs.declared.control.Control.TheVariants.{Available, Unavailable}
use Rattle.serde_json.specs.Data.{Data, null, number, string, object, Members, no_members, member}
use Rattle.serde_json.specs.Find.{of_integer}
use Rattle.serde_json.specs.Written.{compact_text}
use Rattle.css_text.specs.Fields.{field_at}
use Rattle.css_text.specs.Readings.{object_of}
use Rattle.css_text.specs.WholeTexts.{odd_count}
use Rattle.css_text.specs.declared.faults.TextFault.{TextFault}
use Rattle.css_text.specs.declared.fields.Field.{Field}
use Rattle.css_text.specs.declared.fields.Field.TheVariants as field
use Rattle.css_tsmsg.specs.Faults.{text_fault}
use Rattle.css_tsmsg.specs.Names.{json_name}
use Rattle.css_tsmsg.specs.Times.{is_wall, is_content, without_minus, content_value, words_that, IsContent}
use Rattle.css_tsmsg.specs.declared.fault.TsFault.{TsFault}
use Rattle.css_tsmsg.specs.declared.fault.TsFault.TheVariants as fault
use Rattle.css_tsmsg.specs.declared.name.TsName.TheVariants as name

-- the member is null
abbrev pub is_null : Field → Bool
is_null field.Null = true
is_null _ = false

-- the whole number that a field is
abbrev pub whole_in : Field → Option ℤ
whole_in (field.Whole whole) = Some whole
whole_in _ = None

-- -64 to 64
abbrev pub is_speed : ℤ → Bool
is_speed speed = not (int_lt speed (neg_ℤ (pos 64))) && not (int_lt (pos 64) speed)

-- the three ranges, one after another
abbrev pub in_range : List ℕ → ℤ → List ℕ → Result Control TsFault
in_range content speed wall =
    if nat_lt 18 (length (without_minus content)) then Err (fault.Range name.ContentTime)
    else (if not (is_speed speed) then Err (fault.Range name.TimelineSpeedMultiplier)
    else (if nat_lt 19 (length wall) || nat_le (2 ^ 63) (digits_value 10 wall) then Err (fault.Range name.WallClockTime)
    else Ok (Available (content_value content) (digits_value 10 wall) speed)))

-- the three forms, one after another
abbrev pub with_forms : Option (List ℕ) → Option ℤ → Option (List ℕ) → Result Control TsFault
with_forms None speed wall = Err (fault.Field name.ContentTime)
with_forms (Some content) None wall = Err (fault.Field name.TimelineSpeedMultiplier)
with_forms (Some content) (Some speed) None = Err (fault.Field name.WallClockTime)
with_forms (Some content) (Some speed) (Some wall) = in_range content speed wall

-- the control timestamp of three fields, where `odd` says that some numeral of the text isn't whole
abbrev pub control_from : Field → Field → Field → Bool → Result Control TsFault
control_from content speed wall odd =
    if is_null content then Ok Unavailable
    else (if is_null speed && odd then Err fault.Fractional
    else with_forms (words_that is_content content) (whole_in speed) (words_that is_wall wall))

-- the control timestamp that an object is
unfoldable pub control_in : Members → Bool → Result Control TsFault
control_in members odd =
    control_from (field_at (json_name name.ContentTime) members)
    (field_at (json_name name.TimelineSpeedMultiplier) members)
    (field_at (json_name name.WallClockTime) members) odd

-- the control timestamp of an object, or the fault that the text is none
abbrev pub control_or_fault : Result Members TextFault → Bool → Result Control TsFault
control_or_fault (Err fault) odd = Err (text_fault fault)
control_or_fault (Ok members) odd = control_in members odd

-- the control timestamp that a text tells, or its first fault
unfoldable pub control_of : List ℕ → Result Control TsFault
control_of bytes = control_or_fault (object_of bytes) (nat_lt 0 (odd_count bytes))

-- a content time of at most 18 digits, a wall time below 2^63, and a speed of -64 to 64
pub record AreInRange (content : ℤ) (wall : ℕ) (speed : ℤ) : Type 0 where
  pub content_time : IsContent content
  pub wall_time : wall < 2 ^ 63
  pub slow : neg_ℤ (pos 64) ≤ℤ speed
  pub fast : speed ≤ℤ pos 64

-- the numbers of a control timestamp are in range
abbrev pub IsInRange : Control → Type 0
IsInRange (Available content wall speed) = AreInRange content wall speed
IsInRange Unavailable = ⊤

-- the object of the three members, its names in alphabetical order
abbrev pub times_data : Data → Data → Data → Data
times_data content speed wall =
    object (member (json_name name.ContentTime) content
    (member (json_name name.TimelineSpeedMultiplier) speed
    (member (json_name name.WallClockTime) wall no_members)))

-- the object of a control timestamp
abbrev pub control_data : Control → Data
control_data (Available content wall speed) =
    times_data (string (signed_decimal content)) (number (of_integer speed)) (string (decimal wall))
control_data Unavailable = times_data null null (string (codes "0"))

-- the compact text of a control timestamp
unfoldable pub control_text : Control → List ℕ
control_text control = compact_text (control_data control)
