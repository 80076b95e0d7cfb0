-- The JSON object that a text tells.
use Rattle.std.specs.Prelude.{ℕ, List, Option, Some, None, Result, Ok, Err, ok_or, if◌then◌else◌}
use Rattle.std.specs.Str.{is_utf8}
use Rattle.serde_json.specs.Data.{Data, Members}
use Rattle.serde_json.specs.Find.{as_object}
use Rattle.serde_json.specs.Read.{read}
use Rattle.css_text.specs.WholeTexts.{whole_text}
use Rattle.css_text.specs.declared.faults.TextFault.{TextFault}
use Rattle.css_text.specs.declared.faults.TextFault.TheVariants.{NotJson, NotObject}

-- the value that bytes read as, of which only UTF-8 has one
unfoldable pub reading : List ℕ → Option Data
reading bytes = if is_utf8 bytes then read bytes else None

-- a reading, or the fault that there is none
abbrev pub value_or_fault : Option Data → Result Data TextFault
value_or_fault None = Err NotJson
value_or_fault (Some value) = Ok value

-- the members of an object, or the fault that a value is none
abbrev pub members_or_fault : Result Data TextFault → Result Members TextFault
members_or_fault (Err fault) = Err fault
members_or_fault (Ok value) = ok_or (as_object value) NotObject

-- the members of the object that the whole text reads as, or the fault
unfoldable pub object_of : List ℕ → Result Members TextFault
object_of bytes = members_or_fault (value_or_fault (reading (whole_text bytes)))
