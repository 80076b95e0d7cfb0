-- The text of a message: the properties that are said, in alphabetical order.
use Rattle.std.specs.Prelude.{ℕ, List, [], ◌∷◌, Option, Some, None, ⊤, codes}
use Rattle.std.specs.Str.{IsUtf8}
use Rattle.css_num.specs.Rates.{TickRate, IsTickRate}
use Rattle.css_num.specs.declared.timeline.Timeline.{Timeline}
use Rattle.serde_json.specs.Data.{Data, null, number, unsigned, string, array, object}
use Rattle.serde_json.specs.Data.{Items, no_items, item, Members, no_members, member, put}
use Rattle.serde_json.specs.Written.{compact_text}
use Rattle.css_cii.specs.Names.{json_name}
use Rattle.css_cii.specs.declared.state.State.{State}
use Rattle.css_cii.specs.declared.change.Change.{Change}
use Rattle.css_cii.specs.declared.change.Told.{Told}
use Rattle.css_cii.specs.declared.change.Told.TheVariants.{Unsaid, Said}
use Rattle.css_cii.specs.declared.name.CiiName.{CiiName}
use Rattle.css_cii.specs.declared.name.CiiName.TheVariants as name

-- the units of a timeline
abbrev pub rate_data : TickRate → Data
rate_data rate = object
    (member (codes "unitsPerSecond") (number (unsigned rate.units_per_second))
    (member (codes "unitsPerTick") (number (unsigned rate.units_per_tick)) no_members))

-- a timeline
abbrev pub timeline_data : Timeline → Data
timeline_data timeline = object
    (member (codes "timelineProperties") (rate_data timeline.rate)
    (member (codes "timelineSelector") (string timeline.selector) no_members))

-- the entries of a list of timelines
abbrev pub timelines_items : List Timeline → Items
timelines_items [] = no_items
timelines_items (timeline ∷ timelines) = item (timeline_data timeline) (timelines_items timelines)

-- a list of timelines
abbrev pub timelines_data : List Timeline → Data
timelines_data timelines = array (timelines_items timelines)

-- a value that may be null
abbrev pub or_null : {T : Type 0} → (T → Data) → Option T → Data
or_null written None = null
or_null written (Some value) = written value

-- a property that is said stands before the rest, and one that isn't is left out
abbrev pub said_before : {T : Type 0} → (T → Data) → CiiName → Told T → Members → Members
said_before written property Unsaid rest = rest
said_before written property (Said value) rest = member (json_name property) (or_null written value) rest

-- the same of a text
abbrev pub words_before : CiiName → Told (List ℕ) → Members → Members
words_before = said_before string

-- the properties that are said
abbrev pub change_members : Change → Members
change_members change =
    words_before name.ContentId change.content_id
    (words_before name.ContentIdStatus change.content_id_status
    (words_before name.MrsUrl change.mrs_url
    (words_before name.PresentationStatus change.presentation_status
    (words_before name.ProtocolVersion change.protocol_version
    (words_before name.TeUrl change.te_url
    (said_before timelines_data name.Timelines change.timelines
    (words_before name.TsUrl change.ts_url
    (words_before name.WcUrl change.wc_url no_members))))))))

-- the compact text of a message
unfoldable pub change_text : Change → List ℕ
change_text change = compact_text (object (change_members change))

-- ---- which changes have a text

-- the value, where there is one, is such
abbrev pub EachIn : {T : Type 0} → (T → Type 0) → Option T → Type 0
EachIn P None = ⊤
EachIn P (Some value) = P value

-- the value that is said, where there is one, is such
abbrev pub EachOf : {T : Type 0} → (T → Type 0) → Told T → Type 0
EachOf P Unsaid = ⊤
EachOf P (Said value) = EachIn P value

-- each selector is UTF-8
abbrev pub SelectorsAreUtf8 : List Timeline → Type 0
SelectorsAreUtf8 [] = ⊤
SelectorsAreUtf8 (timeline ∷ timelines) = IsUtf8 timeline.selector × SelectorsAreUtf8 timelines

-- each text that is said is UTF-8
pub record IsUtf8Change (change : Change) : Type 0 where
  pub protocol_version : EachOf IsUtf8 change.protocol_version
  pub mrs_url : EachOf IsUtf8 change.mrs_url
  pub content_id : EachOf IsUtf8 change.content_id
  pub content_id_status : EachOf IsUtf8 change.content_id_status
  pub presentation_status : EachOf IsUtf8 change.presentation_status
  pub wc_url : EachOf IsUtf8 change.wc_url
  pub ts_url : EachOf IsUtf8 change.ts_url
  pub te_url : EachOf IsUtf8 change.te_url
  pub timelines : EachOf SelectorsAreUtf8 change.timelines

-- each text of a state is UTF-8
pub record IsUtf8State (state : State) : Type 0 where
  pub protocol_version : EachIn IsUtf8 state.protocol_version
  pub mrs_url : EachIn IsUtf8 state.mrs_url
  pub content_id : EachIn IsUtf8 state.content_id
  pub content_id_status : EachIn IsUtf8 state.content_id_status
  pub presentation_status : EachIn IsUtf8 state.presentation_status
  pub wc_url : EachIn IsUtf8 state.wc_url
  pub ts_url : EachIn IsUtf8 state.ts_url
  pub te_url : EachIn IsUtf8 state.te_url
  pub timelines : EachIn SelectorsAreUtf8 state.timelines

-- so is each text of these changes
abbrev pub AreUtf8Changes : List Change → Type 0
AreUtf8Changes [] = ⊤
AreUtf8Changes (change ∷ changes) = IsUtf8Change change × AreUtf8Changes changes

-- ---- for private clauses

-- the members with a property that is said, at its place
abbrev pub with_told : {T : Type 0} → (T → Data) → CiiName → Told T → Members → Members
with_told written property Unsaid members = members
with_told written property (Said value) members = put (json_name property) (or_null written value) members

-- each rate is in range
abbrev pub RatesAreInRange : List Timeline → Type 0
RatesAreInRange [] = ⊤
RatesAreInRange (timeline ∷ timelines) = IsTickRate timeline.rate × RatesAreInRange timelines
