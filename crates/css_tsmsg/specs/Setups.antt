-- Setups, and their texts.
use Rattle.std.specs.Prelude.{ℕ, List, Result, Ok, Err}
use Rattle.std.specs.Str.{IsUtf8}
use Rattle.serde_json.specs.Data.{Data, string, object, Members, no_members, member}
use Rattle.serde_json.specs.Written.{compact_text}
use Rattle.css_text.specs.Fields.{field_at}
use Rattle.css_text.specs.Readings.{object_of}
use Rattle.css_text.specs.declared.faults.TextFault.{TextFault}
use Rattle.css_text.specs.declared.fields.Field.{Field}
use Rattle.css_text.specs.declared.fields.Field.TheVariants as field
use Rattle.css_tsmsg.specs.Faults.{text_fault, and_then}
use Rattle.css_tsmsg.specs.Names.{json_name}
use Rattle.css_tsmsg.specs.declared.fault.TsFault.{TsFault}
use Rattle.css_tsmsg.specs.declared.fault.TsFault.TheVariants as fault
use Rattle.css_tsmsg.specs.declared.name.TsName.{TsName}
use Rattle.css_tsmsg.specs.declared.name.TsName.TheVariants as name
use Rattle.css_tsmsg.specs.declared.setup.Setup.{Setup}

-- a text; any other form is the fault
abbrev pub words_from : TsName → Field → Result (List ℕ) TsFault
words_from property (field.Words words) = Ok words
words_from property _ = Err (fault.Field property)

-- the text that a member is
abbrev pub words_in : TsName → Members → Result (List ℕ) TsFault
words_in property members = words_from property (field_at (json_name property) members)

-- the setup that an object is, or the fault of the first member that is no text
unfoldable pub setup_in : Members → Result Setup TsFault
setup_in members =
    and_then (words_in name.ContentIdStem members) (λ stem.
    and_then (words_in name.TimelineSelector members) (λ selector.
    Ok (record { stem = stem; selector = selector })))

-- the setup of an object, or the fault that the text is none
abbrev pub setup_or_fault : Result Members TextFault → Result Setup TsFault
setup_or_fault (Err fault) = Err (text_fault fault)
setup_or_fault (Ok members) = setup_in members

-- the setup that a text tells, or its first fault
unfoldable pub setup_of : List ℕ → Result Setup TsFault
setup_of bytes = setup_or_fault (object_of bytes)

-- both texts are UTF-8
pub record IsUtf8Setup (setup : Setup) : Type 0 where
  pub stem : IsUtf8 setup.stem
  pub selector : IsUtf8 setup.selector

-- the object of a setup, its names in alphabetical order
abbrev pub setup_data : Setup → Data
setup_data setup =
    object (member (json_name name.ContentIdStem) (string setup.stem)
    (member (json_name name.TimelineSelector) (string setup.selector) no_members))

-- the compact text of a setup
unfoldable pub setup_text : Setup → List ℕ
setup_text setup = compact_text (setup_data setup)
