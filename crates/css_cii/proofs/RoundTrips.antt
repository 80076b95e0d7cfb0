-- A change that is written is read back.
use Rattle.std.proofs.Common.{◌≡◌, ℕ, ◌^◌, ◌<◌, ◌≤◌, true, false, List, [], ◌∷◌, Option, Some, None, Ok, nat_cmp}
use Rattle.std.proofs.Common.{is_eq, Ordering, Less, Equal, Greater, refl, ap, ◌∙◌, true≢false, arith, lt-ltb, le-leb}
use Rattle.std.specs.Prelude.{⊤}
use Rattle.std.specs.Ordering.{match_ordering}
use Rattle.std.specs.Cmp.Lexicographic.{slice_cmp}
use Rattle.css_num.specs.Rates.{IsTickRate, TickRate, rate_of, is_rate_part}
use Rattle.css_num.specs.declared.timeline.Timeline.{Timeline}
use Rattle.serde_json.specs.Data.{Data, string, object, Members, no_members}
use Rattle.serde_json.specs.Data.{member, put, depth, items_depth, members_depth}
use Rattle.serde_json.specs.Find.{get_member}
use Rattle.serde_json.specs.Read.{max_depth}
use Rattle.css_text.specs.CompactTexts.{IsPlain, ItemsArePlain, MembersArePlain}
use Rattle.css_text.specs.Fields.{field_or_missing}
use Rattle.css_text.specs.Readings.{object_of, members_or_fault}
use Rattle.serde_json.specs.Written.{compact_text}
use Rattle.css_cii.specs.Names.{json_name}
use Rattle.css_cii.specs.Messages.{words_from, timelines_from, timelines_or_fault}
use Rattle.css_cii.specs.Messages.{change_in, change_or_fault, message_of}
use Rattle.css_cii.specs.Timelines.{timeline_from, timeline_of, timelines_of}
use Rattle.css_text.specs.declared.fields.Field.TheVariants as field
use Rattle.css_cii.specs.Texts.{timeline_data, timelines_items, timelines_data, or_null, said_before}
use Rattle.css_cii.specs.Texts.{with_told, change_members, change_text, EachOf, RatesAreInRange}
use Rattle.css_cii.specs.declared.change.Change.{Change}
use Rattle.css_cii.specs.declared.change.Told.{Told}
use Rattle.css_cii.specs.declared.change.Told.TheVariants.{Unsaid, Said}
use Rattle.css_cii.specs.declared.name.CiiName.{CiiName}
use Rattle.css_cii.specs.declared.name.CiiName.TheVariants as name

-- ---- members in the order of their names

-- the name stands before the first of the members
abbrev StandsBefore : List ℕ → Members → Type 0
StandsBefore k no_members = ⊤
StandsBefore k (member l value rest) = slice_cmp nat_cmp k l ≡ Less

-- a name that stands before them goes in front
put_first : (k : List ℕ) (value : Data) (members : Members) → StandsBefore k members
    → put k value members ≡ member k value members
put_first k value no_members h = refl
put_first k value (member l first rest) h = rw h refl

-- a property whose name stands before them goes in front
with_told-first : {T : Type 0} (written : T → Data) (p : CiiName) (told : Told T) (members : Members)
    → StandsBefore (json_name p) members → with_told written p told members ≡ said_before written p told members
with_told-first written p Unsaid rest h = refl
with_told-first written p (Said value) rest h = put_first (json_name p) (or_null written value) rest h

-- a name before that of a property, and before the rest, stands before both
before : {T : Type 0} (written : T → Data) (k : List ℕ) (p : CiiName) (told : Told T) (rest : Members)
    → slice_cmp nat_cmp k (json_name p) ≡ Less → StandsBefore k rest → StandsBefore k (said_before written p told rest)
before written k p Unsaid rest lt h = h
before written k p (Said value) rest lt h = lt

-- the properties that are said, from one on
abbrev from9 : Change → Members
from9 c = no_members

abbrev from8 : Change → Members
from8 c = said_before string name.WcUrl c.wc_url (from9 c)

abbrev from7 : Change → Members
from7 c = said_before string name.TsUrl c.ts_url (from8 c)

abbrev from6 : Change → Members
from6 c = said_before timelines_data name.Timelines c.timelines (from7 c)

abbrev from5 : Change → Members
from5 c = said_before string name.TeUrl c.te_url (from6 c)

abbrev from4 : Change → Members
from4 c = said_before string name.ProtocolVersion c.protocol_version (from5 c)

abbrev from3 : Change → Members
from3 c = said_before string name.PresentationStatus c.presentation_status (from4 c)

abbrev from2 : Change → Members
from2 c = said_before string name.MrsUrl c.mrs_url (from3 c)

abbrev from1 : Change → Members
from1 c = said_before string name.ContentIdStatus c.content_id_status (from2 c)

abbrev from0 : Change → Members
from0 c = said_before string name.ContentId c.content_id (from1 c)

-- each name stands before those that come later
first0 : (c : Change) → StandsBefore (json_name name.ContentId) (from1 c)
first0 c = before string (json_name name.ContentId) name.ContentIdStatus c.content_id_status (from2 c) refl
    (before string (json_name name.ContentId) name.MrsUrl c.mrs_url (from3 c) refl
    (before string (json_name name.ContentId) name.PresentationStatus c.presentation_status (from4 c) refl
    (before string (json_name name.ContentId) name.ProtocolVersion c.protocol_version (from5 c) refl
    (before string (json_name name.ContentId) name.TeUrl c.te_url (from6 c) refl
    (before timelines_data (json_name name.ContentId) name.Timelines c.timelines (from7 c) refl
    (before string (json_name name.ContentId) name.TsUrl c.ts_url (from8 c) refl
    (before string (json_name name.ContentId) name.WcUrl c.wc_url (from9 c) refl (tt))))))))

first1 : (c : Change) → StandsBefore (json_name name.ContentIdStatus) (from2 c)
first1 c = before string (json_name name.ContentIdStatus) name.MrsUrl c.mrs_url (from3 c) refl
    (before string (json_name name.ContentIdStatus) name.PresentationStatus c.presentation_status (from4 c) refl
    (before string (json_name name.ContentIdStatus) name.ProtocolVersion c.protocol_version (from5 c) refl
    (before string (json_name name.ContentIdStatus) name.TeUrl c.te_url (from6 c) refl
    (before timelines_data (json_name name.ContentIdStatus) name.Timelines c.timelines (from7 c) refl
    (before string (json_name name.ContentIdStatus) name.TsUrl c.ts_url (from8 c) refl
    (before string (json_name name.ContentIdStatus) name.WcUrl c.wc_url (from9 c) refl (tt)))))))

first2 : (c : Change) → StandsBefore (json_name name.MrsUrl) (from3 c)
first2 c = before string (json_name name.MrsUrl) name.PresentationStatus c.presentation_status (from4 c) refl
    (before string (json_name name.MrsUrl) name.ProtocolVersion c.protocol_version (from5 c) refl
    (before string (json_name name.MrsUrl) name.TeUrl c.te_url (from6 c) refl
    (before timelines_data (json_name name.MrsUrl) name.Timelines c.timelines (from7 c) refl
    (before string (json_name name.MrsUrl) name.TsUrl c.ts_url (from8 c) refl
    (before string (json_name name.MrsUrl) name.WcUrl c.wc_url (from9 c) refl (tt))))))

first3 : (c : Change) → StandsBefore (json_name name.PresentationStatus) (from4 c)
first3 c = before string (json_name name.PresentationStatus) name.ProtocolVersion c.protocol_version (from5 c) refl
    (before string (json_name name.PresentationStatus) name.TeUrl c.te_url (from6 c) refl
    (before timelines_data (json_name name.PresentationStatus) name.Timelines c.timelines (from7 c) refl
    (before string (json_name name.PresentationStatus) name.TsUrl c.ts_url (from8 c) refl
    (before string (json_name name.PresentationStatus) name.WcUrl c.wc_url (from9 c) refl (tt)))))

first4 : (c : Change) → StandsBefore (json_name name.ProtocolVersion) (from5 c)
first4 c = before string (json_name name.ProtocolVersion) name.TeUrl c.te_url (from6 c) refl
    (before timelines_data (json_name name.ProtocolVersion) name.Timelines c.timelines (from7 c) refl
    (before string (json_name name.ProtocolVersion) name.TsUrl c.ts_url (from8 c) refl
    (before string (json_name name.ProtocolVersion) name.WcUrl c.wc_url (from9 c) refl (tt))))

first5 : (c : Change) → StandsBefore (json_name name.TeUrl) (from6 c)
first5 c = before timelines_data (json_name name.TeUrl) name.Timelines c.timelines (from7 c) refl
    (before string (json_name name.TeUrl) name.TsUrl c.ts_url (from8 c) refl
    (before string (json_name name.TeUrl) name.WcUrl c.wc_url (from9 c) refl (tt)))

first6 : (c : Change) → StandsBefore (json_name name.Timelines) (from7 c)
first6 c = before string (json_name name.Timelines) name.TsUrl c.ts_url (from8 c) refl
    (before string (json_name name.Timelines) name.WcUrl c.wc_url (from9 c) refl (tt))

first7 : (c : Change) → StandsBefore (json_name name.TsUrl) (from8 c)
first7 c = before string (json_name name.TsUrl) name.WcUrl c.wc_url (from9 c) refl (tt)

first8 : (c : Change) → StandsBefore (json_name name.WcUrl) (from9 c)
first8 c = tt

-- putting them in, from the last name to the first, gives them in order
in_order8 : (c : Change) → with_told string name.WcUrl c.wc_url no_members ≡ from8 c
in_order8 c = with_told-first string name.WcUrl c.wc_url (from9 c) (first8 c)

in_order7 : (c : Change) → with_told string name.TsUrl c.ts_url
    (with_told string name.WcUrl c.wc_url no_members) ≡ from7 c
in_order7 c = ap (λ ms. with_told string name.TsUrl c.ts_url ms) (in_order8 c)
    ∙ with_told-first string name.TsUrl c.ts_url (from8 c) (first7 c)

in_order6 : (c : Change) → with_told timelines_data name.Timelines c.timelines
    (with_told string name.TsUrl c.ts_url
    (with_told string name.WcUrl c.wc_url no_members)) ≡ from6 c
in_order6 c = ap (λ ms. with_told timelines_data name.Timelines c.timelines ms) (in_order7 c)
    ∙ with_told-first timelines_data name.Timelines c.timelines (from7 c) (first6 c)

in_order5 : (c : Change) → with_told string name.TeUrl c.te_url
    (with_told timelines_data name.Timelines c.timelines
    (with_told string name.TsUrl c.ts_url
    (with_told string name.WcUrl c.wc_url no_members))) ≡ from5 c
in_order5 c = ap (λ ms. with_told string name.TeUrl c.te_url ms) (in_order6 c)
    ∙ with_told-first string name.TeUrl c.te_url (from6 c) (first5 c)

in_order4 : (c : Change) → with_told string name.ProtocolVersion c.protocol_version
    (with_told string name.TeUrl c.te_url
    (with_told timelines_data name.Timelines c.timelines
    (with_told string name.TsUrl c.ts_url
    (with_told string name.WcUrl c.wc_url no_members)))) ≡ from4 c
in_order4 c = ap (λ ms. with_told string name.ProtocolVersion c.protocol_version ms) (in_order5 c)
    ∙ with_told-first string name.ProtocolVersion c.protocol_version (from5 c) (first4 c)

in_order3 : (c : Change) → with_told string name.PresentationStatus c.presentation_status
    (with_told string name.ProtocolVersion c.protocol_version
    (with_told string name.TeUrl c.te_url
    (with_told timelines_data name.Timelines c.timelines
    (with_told string name.TsUrl c.ts_url
    (with_told string name.WcUrl c.wc_url no_members))))) ≡ from3 c
in_order3 c = ap (λ ms. with_told string name.PresentationStatus c.presentation_status ms) (in_order4 c)
    ∙ with_told-first string name.PresentationStatus c.presentation_status (from4 c) (first3 c)

in_order2 : (c : Change) → with_told string name.MrsUrl c.mrs_url
    (with_told string name.PresentationStatus c.presentation_status
    (with_told string name.ProtocolVersion c.protocol_version
    (with_told string name.TeUrl c.te_url
    (with_told timelines_data name.Timelines c.timelines
    (with_told string name.TsUrl c.ts_url
    (with_told string name.WcUrl c.wc_url no_members)))))) ≡ from2 c
in_order2 c = ap (λ ms. with_told string name.MrsUrl c.mrs_url ms) (in_order3 c)
    ∙ with_told-first string name.MrsUrl c.mrs_url (from3 c) (first2 c)

in_order1 : (c : Change) → with_told string name.ContentIdStatus c.content_id_status
    (with_told string name.MrsUrl c.mrs_url
    (with_told string name.PresentationStatus c.presentation_status
    (with_told string name.ProtocolVersion c.protocol_version
    (with_told string name.TeUrl c.te_url
    (with_told timelines_data name.Timelines c.timelines
    (with_told string name.TsUrl c.ts_url
    (with_told string name.WcUrl c.wc_url no_members))))))) ≡ from1 c
in_order1 c = ap (λ ms. with_told string name.ContentIdStatus c.content_id_status ms) (in_order2 c)
    ∙ with_told-first string name.ContentIdStatus c.content_id_status (from2 c) (first1 c)

pub in_order0 : (c : Change) → with_told string name.ContentId c.content_id
    (with_told string name.ContentIdStatus c.content_id_status
    (with_told string name.MrsUrl c.mrs_url
    (with_told string name.PresentationStatus c.presentation_status
    (with_told string name.ProtocolVersion c.protocol_version
    (with_told string name.TeUrl c.te_url
    (with_told timelines_data name.Timelines c.timelines
    (with_told string name.TsUrl c.ts_url
    (with_told string name.WcUrl c.wc_url no_members)))))))) ≡ from0 c
in_order0 c = ap (λ ms. with_told string name.ContentId c.content_id ms) (in_order1 c)
    ∙ with_told-first string name.ContentId c.content_id (from1 c) (first0 c)

-- ---- the members that are found

-- what is found of a property
abbrev told_data : {T : Type 0} → (T → Data) → Told T → Option Data
told_data written Unsaid = None
told_data written (Said value) = Some (or_null written value)

-- a look-up goes on where the names differ
passed : (o : Ordering) (a b : Option Data) → is_eq o ≡ false → match_ordering o a b a ≡ a
passed Less a b h = refl
passed Equal a b h = absurd (true≢false h)
passed Greater a b h = refl

-- another name is passed over
skip : {T : Type 0} (written : T → Data) (k : List ℕ) (p : CiiName) (told : Told T) (rest : Members)
    → is_eq (slice_cmp nat_cmp k (json_name p)) ≡ false
    → get_member k (said_before written p told rest) ≡ get_member k rest
skip written k p Unsaid rest h = refl
skip written k p (Said value) rest h = passed (slice_cmp nat_cmp k (json_name p)) _ _ h

-- its own name is found where it is said
here : {T : Type 0} (written : T → Data) (k : List ℕ) (p : CiiName) (told : Told T) (rest : Members)
    → slice_cmp nat_cmp k (json_name p) ≡ Equal → get_member k rest ≡ None
    → get_member k (said_before written p told rest) ≡ told_data written told
here written k p Unsaid rest h none = none
here written k p (Said value) rest h none = rw h refl

-- each property is found under its name
found_content_id : (c : Change)
    → get_member (json_name name.ContentId) (change_members c) ≡ told_data string c.content_id
found_content_id c = here string (json_name name.ContentId) name.ContentId c.content_id (from1 c) refl
    (skip string (json_name name.ContentId) name.ContentIdStatus c.content_id_status (from2 c) refl
    ∙ skip string (json_name name.ContentId) name.MrsUrl c.mrs_url (from3 c) refl
    ∙ skip string (json_name name.ContentId) name.PresentationStatus c.presentation_status (from4 c) refl
    ∙ skip string (json_name name.ContentId) name.ProtocolVersion c.protocol_version (from5 c) refl
    ∙ skip string (json_name name.ContentId) name.TeUrl c.te_url (from6 c) refl
    ∙ skip timelines_data (json_name name.ContentId) name.Timelines c.timelines (from7 c) refl
    ∙ skip string (json_name name.ContentId) name.TsUrl c.ts_url (from8 c) refl
    ∙ skip string (json_name name.ContentId) name.WcUrl c.wc_url (from9 c) refl)

found_content_id_status : (c : Change)
    → get_member (json_name name.ContentIdStatus) (change_members c) ≡ told_data string c.content_id_status
found_content_id_status c = skip string (json_name name.ContentIdStatus) name.ContentId c.content_id (from1 c) refl
    ∙ here string (json_name name.ContentIdStatus) name.ContentIdStatus c.content_id_status (from2 c) refl
    (skip string (json_name name.ContentIdStatus) name.MrsUrl c.mrs_url (from3 c) refl
    ∙ skip string (json_name name.ContentIdStatus) name.PresentationStatus c.presentation_status (from4 c) refl
    ∙ skip string (json_name name.ContentIdStatus) name.ProtocolVersion c.protocol_version (from5 c) refl
    ∙ skip string (json_name name.ContentIdStatus) name.TeUrl c.te_url (from6 c) refl
    ∙ skip timelines_data (json_name name.ContentIdStatus) name.Timelines c.timelines (from7 c) refl
    ∙ skip string (json_name name.ContentIdStatus) name.TsUrl c.ts_url (from8 c) refl
    ∙ skip string (json_name name.ContentIdStatus) name.WcUrl c.wc_url (from9 c) refl)

found_mrs_url : (c : Change) → get_member (json_name name.MrsUrl) (change_members c) ≡ told_data string c.mrs_url
found_mrs_url c = skip string (json_name name.MrsUrl) name.ContentId c.content_id (from1 c) refl
    ∙ skip string (json_name name.MrsUrl) name.ContentIdStatus c.content_id_status (from2 c) refl
    ∙ here string (json_name name.MrsUrl) name.MrsUrl c.mrs_url (from3 c) refl
    (skip string (json_name name.MrsUrl) name.PresentationStatus c.presentation_status (from4 c) refl
    ∙ skip string (json_name name.MrsUrl) name.ProtocolVersion c.protocol_version (from5 c) refl
    ∙ skip string (json_name name.MrsUrl) name.TeUrl c.te_url (from6 c) refl
    ∙ skip timelines_data (json_name name.MrsUrl) name.Timelines c.timelines (from7 c) refl
    ∙ skip string (json_name name.MrsUrl) name.TsUrl c.ts_url (from8 c) refl
    ∙ skip string (json_name name.MrsUrl) name.WcUrl c.wc_url (from9 c) refl)

found_presentation_status : (c : Change)
    → get_member (json_name name.PresentationStatus) (change_members c) ≡ told_data string c.presentation_status
found_presentation_status c = skip string (json_name name.PresentationStatus) name.ContentId c.content_id (from1 c) refl
    ∙ skip string (json_name name.PresentationStatus) name.ContentIdStatus c.content_id_status (from2 c) refl
    ∙ skip string (json_name name.PresentationStatus) name.MrsUrl c.mrs_url (from3 c) refl
    ∙ here string (json_name name.PresentationStatus) name.PresentationStatus c.presentation_status (from4 c) refl
    (skip string (json_name name.PresentationStatus) name.ProtocolVersion c.protocol_version (from5 c) refl
    ∙ skip string (json_name name.PresentationStatus) name.TeUrl c.te_url (from6 c) refl
    ∙ skip timelines_data (json_name name.PresentationStatus) name.Timelines c.timelines (from7 c) refl
    ∙ skip string (json_name name.PresentationStatus) name.TsUrl c.ts_url (from8 c) refl
    ∙ skip string (json_name name.PresentationStatus) name.WcUrl c.wc_url (from9 c) refl)

found_protocol_version : (c : Change)
    → get_member (json_name name.ProtocolVersion) (change_members c) ≡ told_data string c.protocol_version
found_protocol_version c = skip string (json_name name.ProtocolVersion) name.ContentId c.content_id (from1 c) refl
    ∙ skip string (json_name name.ProtocolVersion) name.ContentIdStatus c.content_id_status (from2 c) refl
    ∙ skip string (json_name name.ProtocolVersion) name.MrsUrl c.mrs_url (from3 c) refl
    ∙ skip string (json_name name.ProtocolVersion) name.PresentationStatus c.presentation_status (from4 c) refl
    ∙ here string (json_name name.ProtocolVersion) name.ProtocolVersion c.protocol_version (from5 c) refl
    (skip string (json_name name.ProtocolVersion) name.TeUrl c.te_url (from6 c) refl
    ∙ skip timelines_data (json_name name.ProtocolVersion) name.Timelines c.timelines (from7 c) refl
    ∙ skip string (json_name name.ProtocolVersion) name.TsUrl c.ts_url (from8 c) refl
    ∙ skip string (json_name name.ProtocolVersion) name.WcUrl c.wc_url (from9 c) refl)

found_te_url : (c : Change) → get_member (json_name name.TeUrl) (change_members c) ≡ told_data string c.te_url
found_te_url c = skip string (json_name name.TeUrl) name.ContentId c.content_id (from1 c) refl
    ∙ skip string (json_name name.TeUrl) name.ContentIdStatus c.content_id_status (from2 c) refl
    ∙ skip string (json_name name.TeUrl) name.MrsUrl c.mrs_url (from3 c) refl
    ∙ skip string (json_name name.TeUrl) name.PresentationStatus c.presentation_status (from4 c) refl
    ∙ skip string (json_name name.TeUrl) name.ProtocolVersion c.protocol_version (from5 c) refl
    ∙ here string (json_name name.TeUrl) name.TeUrl c.te_url (from6 c) refl (skip timelines_data (json_name name.TeUrl)
    name.Timelines c.timelines (from7 c) refl ∙ skip string (json_name name.TeUrl) name.TsUrl c.ts_url (from8 c) refl
    ∙ skip string (json_name name.TeUrl) name.WcUrl c.wc_url (from9 c) refl)

found_timelines : (c : Change)
    → get_member (json_name name.Timelines) (change_members c) ≡ told_data timelines_data c.timelines
found_timelines c = skip string (json_name name.Timelines) name.ContentId c.content_id (from1 c) refl
    ∙ skip string (json_name name.Timelines) name.ContentIdStatus c.content_id_status (from2 c) refl
    ∙ skip string (json_name name.Timelines) name.MrsUrl c.mrs_url (from3 c) refl
    ∙ skip string (json_name name.Timelines) name.PresentationStatus c.presentation_status (from4 c) refl
    ∙ skip string (json_name name.Timelines) name.ProtocolVersion c.protocol_version (from5 c) refl
    ∙ skip string (json_name name.Timelines) name.TeUrl c.te_url (from6 c) refl
    ∙ here timelines_data (json_name name.Timelines) name.Timelines c.timelines (from7 c) refl
    (skip string (json_name name.Timelines) name.TsUrl c.ts_url (from8 c) refl
    ∙ skip string (json_name name.Timelines) name.WcUrl c.wc_url (from9 c) refl)

found_ts_url : (c : Change) → get_member (json_name name.TsUrl) (change_members c) ≡ told_data string c.ts_url
found_ts_url c = skip string (json_name name.TsUrl) name.ContentId c.content_id (from1 c) refl
    ∙ skip string (json_name name.TsUrl) name.ContentIdStatus c.content_id_status (from2 c) refl
    ∙ skip string (json_name name.TsUrl) name.MrsUrl c.mrs_url (from3 c) refl
    ∙ skip string (json_name name.TsUrl) name.PresentationStatus c.presentation_status (from4 c) refl
    ∙ skip string (json_name name.TsUrl) name.ProtocolVersion c.protocol_version (from5 c) refl
    ∙ skip string (json_name name.TsUrl) name.TeUrl c.te_url (from6 c) refl
    ∙ skip timelines_data (json_name name.TsUrl) name.Timelines c.timelines (from7 c) refl
    ∙ here string (json_name name.TsUrl) name.TsUrl c.ts_url (from8 c) refl
    (skip string (json_name name.TsUrl) name.WcUrl c.wc_url (from9 c) refl)

found_wc_url : (c : Change) → get_member (json_name name.WcUrl) (change_members c) ≡ told_data string c.wc_url
found_wc_url c = skip string (json_name name.WcUrl) name.ContentId c.content_id (from1 c) refl
    ∙ skip string (json_name name.WcUrl) name.ContentIdStatus c.content_id_status (from2 c) refl
    ∙ skip string (json_name name.WcUrl) name.MrsUrl c.mrs_url (from3 c) refl
    ∙ skip string (json_name name.WcUrl) name.PresentationStatus c.presentation_status (from4 c) refl
    ∙ skip string (json_name name.WcUrl) name.ProtocolVersion c.protocol_version (from5 c) refl
    ∙ skip string (json_name name.WcUrl) name.TeUrl c.te_url (from6 c) refl
    ∙ skip timelines_data (json_name name.WcUrl) name.Timelines c.timelines (from7 c) refl
    ∙ skip string (json_name name.WcUrl) name.TsUrl c.ts_url (from8 c) refl
    ∙ here string (json_name name.WcUrl) name.WcUrl c.wc_url (from9 c) refl (refl)

-- ---- what is read back

-- a text or null
words_back : (p : CiiName) (told : Told (List ℕ)) → words_from p (field_or_missing (told_data string told)) ≡ Ok told
words_back p Unsaid = refl
words_back p (Said None) = refl
words_back p (Said (Some words)) = refl

-- the test of a part that is in range
in_range : (n : ℕ) → 1 ≤ n → n ≤ 1000000000 → is_rate_part n ≡ true
in_range n low high = rw (le-leb 1 n low, le-leb n 1000000000 high) refl

-- the rate of two parts in range
rate_back : (r : TickRate) → IsTickRate r → rate_of r.units_per_tick r.units_per_second ≡ Some r
rate_back r h = rw (in_range _ h.second_positive h.second_small, in_range _ h.tick_positive h.tick_small) refl

-- a timeline is read back from its object
timeline_back : (t : Timeline) → IsTickRate t.rate → timeline_of (timeline_data t) ≡ Some t
timeline_back t h =
    let small : t.rate.units_per_second < 2 ^ 63 = omega (arith, h.second_small) in
    let little : t.rate.units_per_tick < 2 ^ 63 = omega (arith, h.tick_small) in
    rw (
      lt-ltb _ _ small,
      lt-ltb _ _ little,
      in_range _ h.second_positive h.second_small,
      in_range _ h.tick_positive h.tick_small,
    ) (ap (timeline_from (field.Words t.selector)) (rate_back t.rate h))

-- a list is read back from its items
timelines_back : (ts : List Timeline) → RatesAreInRange ts → timelines_of (timelines_items ts) ≡ Some ts
timelines_back [] h = refl
timelines_back (t ∷ ts) h = rw (timeline_back t h.0, timelines_back ts h.1) refl

-- a list or null is read back
list_back : (told : Told (List Timeline)) → EachOf RatesAreInRange told
    → timelines_from (told_data timelines_data told) ≡ Ok told
list_back Unsaid h = refl
list_back (Said None) h = refl
list_back (Said (Some ts)) h = ap timelines_or_fault (timelines_back ts h)

-- the members of a change say that change
pub change_back : (c : Change) → EachOf RatesAreInRange c.timelines → change_in (change_members c) ≡ Ok c
unfolding change_in
change_back c h =
    rw (
      ap (λ d. words_from name.ProtocolVersion (field_or_missing d)) (found_protocol_version c)
          ∙ words_back name.ProtocolVersion c.protocol_version,
      ap (λ d. words_from name.MrsUrl (field_or_missing d)) (found_mrs_url c) ∙ words_back name.MrsUrl c.mrs_url,
      ap (λ d. words_from name.ContentId (field_or_missing d)) (found_content_id c)
          ∙ words_back name.ContentId c.content_id,
      ap (λ d. words_from name.ContentIdStatus (field_or_missing d)) (found_content_id_status c)
          ∙ words_back name.ContentIdStatus c.content_id_status,
      ap (λ d. words_from name.PresentationStatus (field_or_missing d)) (found_presentation_status c)
          ∙ words_back name.PresentationStatus c.presentation_status,
      ap (λ d. words_from name.WcUrl (field_or_missing d)) (found_wc_url c) ∙ words_back name.WcUrl c.wc_url,
      ap (λ d. words_from name.TsUrl (field_or_missing d)) (found_ts_url c) ∙ words_back name.TsUrl c.ts_url,
      ap (λ d. words_from name.TeUrl (field_or_missing d)) (found_te_url c) ∙ words_back name.TeUrl c.te_url,
      ap timelines_from (found_timelines c) ∙ list_back c.timelines h,
    ) refl

-- the text of a message, from the object that it tells
pub message_back : (c : Change) (text : List ℕ) → EachOf RatesAreInRange c.timelines
    → object_of text ≡ members_or_fault (Ok (object (change_members c))) → message_of text ≡ Ok c
unfolding message_of
message_back c text h told = ap change_or_fault told ∙ change_back c h

-- the text is that of the definition
pub text_is : (c : Change) → compact_text (object (change_members c)) ≡ change_text c
unfolding change_text
text_is c = refl

-- ---- what may be written

-- a text adds nothing but plain members
plain_words : (told : Told (List ℕ)) (p : CiiName) (rest : Members) → MembersArePlain rest
    → MembersArePlain (said_before string p told rest)
plain_words Unsaid p rest h = h
plain_words (Said None) p rest h = (tt, h)
plain_words (Said (Some words)) p rest h = (tt, h)

-- the items of timelines are plain
plain_items : (ts : List Timeline) → RatesAreInRange ts → ItemsArePlain (timelines_items ts)
plain_items [] h = tt
plain_items (t ∷ ts) h = (
  ((omega (arith, h.0.second_small), (omega (arith, h.0.tick_small), tt)), (tt, tt)),
  plain_items ts h.1,
)

-- timelines add nothing but plain members
plain_list : (told : Told (List Timeline)) (rest : Members) → EachOf RatesAreInRange told → MembersArePlain rest
    → MembersArePlain (said_before timelines_data name.Timelines told rest)
plain_list Unsaid rest r h = h
plain_list (Said None) rest r h = (tt, h)
plain_list (Said (Some ts)) rest r h = (plain_items ts r, h)

-- the object is plain
pub plain_change : (c : Change) → EachOf RatesAreInRange c.timelines → IsPlain (object (change_members c))
plain_change c h =
    plain_words c.content_id name.ContentId (from1 c)
    (plain_words c.content_id_status name.ContentIdStatus (from2 c)
    (plain_words c.mrs_url name.MrsUrl (from3 c)
    (plain_words c.presentation_status name.PresentationStatus (from4 c)
    (plain_words c.protocol_version name.ProtocolVersion (from5 c)
    (plain_words c.te_url name.TeUrl (from6 c)
    (plain_list c.timelines (from7 c) h
    (plain_words c.ts_url name.TsUrl (from8 c)
    (plain_words c.wc_url name.WcUrl (from9 c) (tt)))))))))

-- a text adds no level
shallow_words : (told : Told (List ℕ)) (p : CiiName) (rest : Members) → members_depth rest ≤ 3
    → members_depth (said_before string p told rest) ≤ 3
shallow_words Unsaid p rest h = h
shallow_words (Said None) p rest h = omega arith
shallow_words (Said (Some words)) p rest h = omega arith

-- the items of timelines nest two levels deep at most
shallow_items : (ts : List Timeline) → items_depth (timelines_items ts) ≤ 2
shallow_items [] = omega arith
shallow_items (t ∷ ts) = let h = shallow_items ts in omega arith

-- timelines nest three levels deep at most
shallow_list : (told : Told (List Timeline)) (rest : Members) → members_depth rest ≤ 3
    → members_depth (said_before timelines_data name.Timelines told rest) ≤ 3
shallow_list Unsaid rest h = h
shallow_list (Said None) rest h = omega arith
shallow_list (Said (Some ts)) rest h = let k = shallow_items ts in omega arith

-- what is said nests three levels deep at most
pub low_change : (c : Change) → members_depth (change_members c) ≤ 3
low_change c =
    shallow_words c.content_id name.ContentId (from1 c)
    (shallow_words c.content_id_status name.ContentIdStatus (from2 c)
    (shallow_words c.mrs_url name.MrsUrl (from3 c)
    (shallow_words c.presentation_status name.PresentationStatus (from4 c)
    (shallow_words c.protocol_version name.ProtocolVersion (from5 c)
    (shallow_words c.te_url name.TeUrl (from6 c)
    (shallow_list c.timelines (from7 c)
    (shallow_words c.ts_url name.TsUrl (from8 c)
    (shallow_words c.wc_url name.WcUrl (from9 c) (omega arith)))))))))

-- so the object nests four levels deep at most
pub shallow_change : (c : Change) → depth (object (change_members c)) ≤ max_depth
shallow_change c = let h = low_change c in omega arith
