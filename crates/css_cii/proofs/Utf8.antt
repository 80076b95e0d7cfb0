-- Where texts are UTF-8, so are those that come of them.
use Rattle.std.proofs.Common.{Bool, true, false, cond, List, [], ◌∷◌, Option}
use Rattle.std.specs.Prelude.{bytes_eq}
use Rattle.std.specs.Str.{IsUtf8}
use Rattle.css_num.specs.Timelines.{timelines_eq}
use Rattle.css_cii.specs.States.{empty, applied, after, difference, full_change, is_same, merged_from}
use Rattle.css_cii.specs.Texts.{EachIn, EachOf, SelectorsAreUtf8, IsUtf8State, IsUtf8Change, AreUtf8Changes}
use Rattle.css_cii.specs.declared.state.State.{State}
use Rattle.css_cii.specs.declared.change.Change.{Change}
use Rattle.css_cii.specs.declared.change.Told.{Told}
use Rattle.css_cii.specs.declared.change.Told.TheVariants.{Unsaid, Said}

-- a property after what is said of it
kept_or_said : {T : Type 0} (P : T → Type 0) (old : Option T) (told : Told T) → EachIn P old → EachOf P told
    → EachIn P (after old told)
kept_or_said P old Unsaid h k = h
kept_or_said P old (Said value) h k = k

-- the new value, or nothing
said_or_unsaid : {T : Type 0} (P : T → Type 0) (new : Option T) (same : Bool) → EachIn P new
    → EachOf P (cond same Unsaid (Said new))
said_or_unsaid P new true h = tt
said_or_unsaid P new false h = h

-- nine nulls
pub empty-utf8 : IsUtf8State empty
unfolding empty
empty-utf8 = record {
  protocol_version = tt;
  mrs_url = tt;
  content_id = tt;
  content_id_status = tt;
  presentation_status = tt;
  wc_url = tt;
  ts_url = tt;
  te_url = tt;
  timelines = tt;
}

-- a state after a message
pub applied-utf8 : (state : State) (change : Change) → IsUtf8State state → IsUtf8Change change
    → IsUtf8State (applied state change)
unfolding applied
applied-utf8 state change h k = record {
  protocol_version =
      kept_or_said IsUtf8 state.protocol_version change.protocol_version h.protocol_version k.protocol_version;
  mrs_url = kept_or_said IsUtf8 state.mrs_url change.mrs_url h.mrs_url k.mrs_url;
  content_id = kept_or_said IsUtf8 state.content_id change.content_id h.content_id k.content_id;
  content_id_status =
      kept_or_said IsUtf8 state.content_id_status change.content_id_status h.content_id_status k.content_id_status;
  presentation_status = kept_or_said IsUtf8 state.presentation_status change.presentation_status
      h.presentation_status k.presentation_status;
  wc_url = kept_or_said IsUtf8 state.wc_url change.wc_url h.wc_url k.wc_url;
  ts_url = kept_or_said IsUtf8 state.ts_url change.ts_url h.ts_url k.ts_url;
  te_url = kept_or_said IsUtf8 state.te_url change.te_url h.te_url k.te_url;
  timelines = kept_or_said SelectorsAreUtf8 state.timelines change.timelines h.timelines k.timelines;
}

-- what differs
pub difference-utf8 : (old new : State) → IsUtf8State new → IsUtf8Change (difference old new)
unfolding difference
difference-utf8 old new h = record {
  protocol_version = said_or_unsaid IsUtf8 new.protocol_version
      (is_same bytes_eq old.protocol_version new.protocol_version) h.protocol_version;
  mrs_url = said_or_unsaid IsUtf8 new.mrs_url (is_same bytes_eq old.mrs_url new.mrs_url) h.mrs_url;
  content_id = said_or_unsaid IsUtf8 new.content_id (is_same bytes_eq old.content_id new.content_id) h.content_id;
  content_id_status = said_or_unsaid IsUtf8 new.content_id_status
      (is_same bytes_eq old.content_id_status new.content_id_status) h.content_id_status;
  presentation_status = said_or_unsaid IsUtf8 new.presentation_status
      (is_same bytes_eq old.presentation_status new.presentation_status) h.presentation_status;
  wc_url = said_or_unsaid IsUtf8 new.wc_url (is_same bytes_eq old.wc_url new.wc_url) h.wc_url;
  ts_url = said_or_unsaid IsUtf8 new.ts_url (is_same bytes_eq old.ts_url new.ts_url) h.ts_url;
  te_url = said_or_unsaid IsUtf8 new.te_url (is_same bytes_eq old.te_url new.te_url) h.te_url;
  timelines =
      said_or_unsaid SelectorsAreUtf8 new.timelines (is_same timelines_eq old.timelines new.timelines) h.timelines;
}

-- all nine properties
pub full-utf8 : (state : State) → IsUtf8State state → IsUtf8Change (full_change state)
unfolding full_change
full-utf8 state h = record {
  protocol_version = h.protocol_version;
  mrs_url = h.mrs_url;
  content_id = h.content_id;
  content_id_status = h.content_id_status;
  presentation_status = h.presentation_status;
  wc_url = h.wc_url;
  ts_url = h.ts_url;
  te_url = h.te_url;
  timelines = h.timelines;
}

-- a state after messages
pub merged-utf8 : (state : State) (changes : List Change) → IsUtf8State state → AreUtf8Changes changes
    → IsUtf8State (merged_from state changes)
merged-utf8 state [] h k = h
merged-utf8 state (change ∷ changes) h k =
    merged-utf8 (applied state change) changes (applied-utf8 state change h k.0) k.1
