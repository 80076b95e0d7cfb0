-- What a message says.
use Rattle.std.specs.Prelude.{ℕ, List, Option, Some, None, Result, Ok, Err}
use Rattle.css_num.specs.declared.timeline.Timeline.{Timeline}
use Rattle.serde_json.specs.Data.{Data, null, boolean, number, string, array, object, Members}
use Rattle.serde_json.specs.Find.{get_member}
use Rattle.css_text.specs.Fields.{field_at}
use Rattle.css_text.specs.Readings.{object_of}
use Rattle.css_text.specs.declared.faults.TextFault.{TextFault}
use Rattle.css_text.specs.declared.faults.TextFault.TheVariants as text
use Rattle.css_text.specs.declared.fields.Field.{Field}
use Rattle.css_text.specs.declared.fields.Field.TheVariants as field
use Rattle.css_cii.specs.Names.{json_name}
use Rattle.css_cii.specs.Timelines.{timelines_of}
use Rattle.css_cii.specs.declared.change.Change.{Change}
use Rattle.css_cii.specs.declared.change.Told.{Told}
use Rattle.css_cii.specs.declared.change.Told.TheVariants.{Unsaid, Said}
use Rattle.css_cii.specs.declared.fault.CiiFault.{CiiFault}
use Rattle.css_cii.specs.declared.fault.CiiFault.TheVariants as fault
use Rattle.css_cii.specs.declared.name.CiiName.{CiiName}
use Rattle.css_cii.specs.declared.name.CiiName.TheVariants as name

-- the fault of a text that is no object
abbrev pub text_fault : TextFault → CiiFault
text_fault text.NotJson = fault.NotJson
text_fault text.NotObject = fault.NotObject
text_fault text.Memory = fault.Memory

-- a text or null; any other form is the fault
abbrev pub words_from : CiiName → Field → Result (Told (List ℕ)) CiiFault
words_from property field.Missing = Ok Unsaid
words_from property field.Null = Ok (Said None)
words_from property (field.Words words) = Ok (Said (Some words))
words_from property _ = Err (fault.Field property)

-- what the members say of a property that is a text
abbrev pub words_in : CiiName → Members → Result (Told (List ℕ)) CiiFault
words_in property members = words_from property (field_at (json_name property) members)

-- a list where each entry is a timeline
abbrev pub timelines_or_fault : Option (List Timeline) → Result (Told (List Timeline)) CiiFault
timelines_or_fault None = Err (fault.Field name.Timelines)
timelines_or_fault (Some timelines) = Ok (Said (Some timelines))

-- a list of timelines or null; any other form is the fault
abbrev pub timelines_from : Option Data → Result (Told (List Timeline)) CiiFault
timelines_from None = Ok Unsaid
timelines_from (Some null) = Ok (Said None)
timelines_from (Some (array values)) = timelines_or_fault (timelines_of values)
timelines_from (Some (boolean truth)) = Err (fault.Field name.Timelines)
timelines_from (Some (number value)) = Err (fault.Field name.Timelines)
timelines_from (Some (string words)) = Err (fault.Field name.Timelines)
timelines_from (Some (object inner)) = Err (fault.Field name.Timelines)

-- what the members say of the timelines
abbrev pub timelines_in : Members → Result (Told (List Timeline)) CiiFault
timelines_in members = timelines_from (get_member (json_name name.Timelines) members)

-- what comes of a value, or the fault that came in its place
abbrev pub and_then : {T U : Type 0} → Result T CiiFault → (T → Result U CiiFault) → Result U CiiFault
and_then (Err fault) go_on = Err fault
and_then (Ok value) go_on = go_on value

-- what the members say of the nine properties, or the fault of the first that has another form; other members are
-- passed over
unfoldable pub change_in : Members → Result Change CiiFault
change_in members =
    and_then (words_in name.ProtocolVersion members) (λ protocol_version.
    and_then (words_in name.MrsUrl members) (λ mrs_url.
    and_then (words_in name.ContentId members) (λ content_id.
    and_then (words_in name.ContentIdStatus members) (λ content_id_status.
    and_then (words_in name.PresentationStatus members) (λ presentation_status.
    and_then (words_in name.WcUrl members) (λ wc_url.
    and_then (words_in name.TsUrl members) (λ ts_url.
    and_then (words_in name.TeUrl members) (λ te_url.
    and_then (timelines_in members) (λ timelines.
    Ok (record {
      protocol_version = protocol_version;
      mrs_url = mrs_url;
      content_id = content_id;
      content_id_status = content_id_status;
      presentation_status = presentation_status;
      wc_url = wc_url;
      ts_url = ts_url;
      te_url = te_url;
      timelines = timelines;
    }))))))))))

-- what the object says, or the fault that the text is none
abbrev pub change_or_fault : Result Members TextFault → Result Change CiiFault
change_or_fault (Err fault) = Err (text_fault fault)
change_or_fault (Ok members) = change_in members

-- what a message says, or its first fault
unfoldable pub message_of : List ℕ → Result Change CiiFault
message_of bytes = change_or_fault (object_of bytes)

-- a result that isn't want of memory
abbrev pub NotMemory : {T : Type 0} → Result T CiiFault → Type 0
NotMemory (Ok value) = Unit {0}
NotMemory (Err fault.Memory) = ⊥
NotMemory (Err fault.NotJson) = Unit {0}
NotMemory (Err fault.NotObject) = Unit {0}
NotMemory (Err (fault.Field name)) = Unit {0}
