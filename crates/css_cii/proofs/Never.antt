-- What a message says is never want of memory.
use Rattle.std.proofs.Common.{ℕ, List}
use Rattle.std.specs.Prelude.{Option, Some, None, Result, Ok, Err, ok_or}
use Rattle.serde_json.specs.Data.{Data, null, boolean, number, string, array, object, Members}
use Rattle.serde_json.specs.Find.{as_object, get_member}
use Rattle.css_num.specs.declared.timeline.Timeline.{Timeline}
use Rattle.css_text.specs.Fields.{field_at}
use Rattle.css_text.specs.Readings.{object_of, reading, value_or_fault, members_or_fault}
use Rattle.css_text.specs.WholeTexts.{whole_text}
use Rattle.css_text.specs.declared.faults.TextFault.TheVariants as texts
use Rattle.css_text.specs.declared.fields.Field.{Field}
use Rattle.css_text.specs.declared.fields.Field.TheVariants as field
use Rattle.css_cii.specs.Messages as messages
use Rattle.css_cii.specs.Messages.{NotMemory, message_of}
use Rattle.css_cii.specs.Names.{json_name}
use Rattle.css_cii.specs.Timelines.{timelines_of}
use Rattle.css_cii.specs.declared.fault.CiiFault.{CiiFault}
use Rattle.css_cii.specs.declared.fault.CiiFault.TheVariants as faults
use Rattle.css_cii.specs.declared.name.CiiName.{CiiName}
use Rattle.css_cii.specs.declared.name.CiiName.TheVariants as name

-- one result after another is not, where neither is
both : {T U : Type 0} (first : Result T CiiFault) (second : T → Result U CiiFault)
    → NotMemory first → ((value : T) → NotMemory (second value)) → NotMemory (messages.and_then first second)
both (Ok value) second h k = k value
both (Err faults.Memory) second h k = h
both (Err faults.NotJson) second h k = tt
both (Err faults.NotObject) second h k = tt
both (Err (faults.Field property)) second h k = tt

-- nor is a property that is a text, whatever form its member has
words : (property : CiiName) (found : Field) → NotMemory (messages.words_from property found)
words property field.Missing = tt
words property field.Null = tt
words property (field.Words text) = tt
words property (field.Whole whole) = tt
words property field.List = tt
words property field.Object = tt
words property field.Other = tt

-- nor is a list of timelines
listed : (timelines : Option (List Timeline)) → NotMemory (messages.timelines_or_fault timelines)
listed None = tt
listed (Some timelines) = tt

-- nor are the timelines, whatever form their member has
timelines : (found : Option Data) → NotMemory (messages.timelines_from found)
timelines None = tt
timelines (Some null) = tt
timelines (Some (array values)) = listed (timelines_of values)
timelines (Some (boolean truth)) = tt
timelines (Some (number value)) = tt
timelines (Some (string text)) = tt
timelines (Some (object inner)) = tt

-- nor is a member that is to be a text
member : (property : CiiName) (found : Members) → NotMemory (messages.words_in property found)
member property found = words property (field_at (json_name property) found)

-- nor are all nine properties of an object
properties : (found : Members) → NotMemory (messages.change_in found)
unfolding messages.change_in
properties found =
    both _ _ (member name.ProtocolVersion found) (λ protocol_version.
    both _ _ (member name.MrsUrl found) (λ mrs_url.
    both _ _ (member name.ContentId found) (λ content_id.
    both _ _ (member name.ContentIdStatus found) (λ content_id_status.
    both _ _ (member name.PresentationStatus found) (λ presentation_status.
    both _ _ (member name.WcUrl found) (λ wc_url.
    both _ _ (member name.TsUrl found) (λ ts_url.
    both _ _ (member name.TeUrl found) (λ te_url.
    both _ _ (timelines (get_member (json_name name.Timelines) found)) (λ timelines. tt)))))))))

-- nor is a value, whether it is an object or not
members : (object : Option Members) → NotMemory (messages.change_or_fault (ok_or object texts.NotObject))
members None = tt
members (Some found) = properties found

-- nor is what a text reads as, whether it is JSON or not
value : (found : Option Data) → NotMemory (messages.change_or_fault (members_or_fault (value_or_fault found)))
value None = tt
value (Some found) = members (as_object found)

-- so what any text says is none
pub not_memory : (bytes : List ℕ) → NotMemory (message_of bytes)
unfolding message_of object_of
not_memory bytes = value (reading (whole_text bytes))
