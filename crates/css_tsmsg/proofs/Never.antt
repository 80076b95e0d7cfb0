-- What a control timestamp's text is to be read as is never want of memory.
use Rattle.std.proofs.Common.{ℕ, Bool, true, false, List, length}
use Rattle.std.specs.Prelude.{ℤ, ◌&&◌, ◌||◌, not, nat_lt, nat_le, ◌^◌, if◌then◌else◌, Option, Some, None, Result, Ok}
use Rattle.std.specs.Prelude.{Err, ok_or}
use Rattle.std.specs.Str.Parse.{digits_value}
use Rattle.serde_json.specs.Data.{Data, Members}
use Rattle.serde_json.specs.Find.{as_object}
use Rattle.css_num.specs.declared.control.Control.TheVariants.{Available, Unavailable}
use Rattle.css_text.specs.Readings.{object_of, reading, value_or_fault, members_or_fault}
use Rattle.css_text.specs.WholeTexts.{whole_text, odd_count}
use Rattle.css_text.specs.declared.faults.TextFault.TheVariants as texts
use Rattle.css_text.specs.declared.fields.Field.{Field}
use Rattle.css_tsmsg.specs.Controls.{control_of, control_in, control_from, control_or_fault, with_forms, in_range}
use Rattle.css_tsmsg.specs.Controls.{is_null, is_speed, whole_in}
use Rattle.css_text.specs.Fields.{field_at}
use Rattle.css_tsmsg.specs.Names.{json_name}
use Rattle.css_tsmsg.specs.Faults.{NotMemory}
use Rattle.css_tsmsg.specs.Times.{content_value, without_minus, words_that, is_content, is_wall}
use Rattle.css_tsmsg.specs.declared.fault.TsFault.{TsFault}
use Rattle.css_tsmsg.specs.declared.fault.TsFault.TheVariants as faults
use Rattle.css_tsmsg.specs.declared.name.TsName.TheVariants as names

-- one of two results isn't, where neither is
choice : {T : Type 0} (b : Bool) (x y : Result T TsFault) → NotMemory x → NotMemory y
    → NotMemory (if b then x else y)
choice true x y p q = p
choice false x y p q = q

-- nor is a control timestamp of three numbers, in range or not
ranges : (content : List ℕ) (speed : ℤ) (wall : List ℕ) → NotMemory (in_range content speed wall)
ranges content speed wall =
    choice (nat_lt 18 (length (without_minus content))) (Err (faults.Range names.ContentTime)) _ tt
    (choice (not (is_speed speed)) (Err (faults.Range names.TimelineSpeedMultiplier)) _ tt
    (choice (nat_lt 19 (length wall) || nat_le (2 ^ 63) (digits_value 10 wall)) (Err (faults.Range names.WallClockTime))
    (Ok (Available (content_value content) (digits_value 10 wall) speed)) tt tt))

-- nor where a field lacks its form
forms : (content : Option (List ℕ)) (speed : Option ℤ) (wall : Option (List ℕ))
    → NotMemory (with_forms content speed wall)
forms None speed wall = tt
forms (Some content) None wall = tt
forms (Some content) (Some speed) None = tt
forms (Some content) (Some speed) (Some wall) = ranges content speed wall

-- nor whatever the three fields are
fields : (content speed wall : Field) (odd : Bool) → NotMemory (control_from content speed wall odd)
fields content speed wall odd =
    choice (is_null content) (Ok Unavailable) _ tt
    (choice (is_null speed && odd) (Err faults.Fractional) _ tt
    (forms (words_that is_content content) (whole_in speed) (words_that is_wall wall)))

-- nor is a value, whether it is an object or not
members : (object : Option Members) (odd : Bool) → NotMemory (control_or_fault (ok_or object texts.NotObject) odd)
unfolding control_in
members None odd = tt
members (Some found) odd =
    fields (field_at (json_name names.ContentTime) found) (field_at (json_name names.TimelineSpeedMultiplier) found)
    (field_at (json_name names.WallClockTime) found) odd

-- nor is what a text reads as, whether it is JSON or not
value : (found : Option Data) (odd : Bool)
    → NotMemory (control_or_fault (members_or_fault (value_or_fault found)) odd)
value None odd = tt
value (Some found) odd = members (as_object found) odd

-- so what any text is to be read as isn't
pub not_memory : (bytes : List ℕ) → NotMemory (control_of bytes)
unfolding control_of object_of
not_memory bytes = value (reading (whole_text bytes)) (nat_lt 0 (odd_count bytes))
