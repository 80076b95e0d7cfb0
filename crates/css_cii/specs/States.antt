-- States, and the changes that lead from one to another.
use Rattle.std.specs.Prelude.{◌≡◌, ℕ, ◌&&◌, Bool, true, false, bytes_eq, List}
use Rattle.std.specs.Prelude.{[], ◌∷◌, Option, Some, None, ⊤, if◌then◌else◌}
use Rattle.css_num.specs.declared.timeline.Timeline.{Timeline}
use Rattle.css_num.specs.Timelines.{timelines_eq}
use Rattle.css_cii.specs.declared.state.State.{State}
use Rattle.css_cii.specs.declared.change.Change.{Change}
use Rattle.css_cii.specs.declared.change.Told.{Told}
use Rattle.css_cii.specs.declared.change.Told.TheVariants.{Unsaid, Said}

-- nine nulls
unfoldable pub empty : State
empty = record {
  protocol_version = None;
  mrs_url = None;
  content_id = None;
  content_id_status = None;
  presentation_status = None;
  wc_url = None;
  ts_url = None;
  te_url = None;
  timelines = None;
}

-- nothing is said
abbrev pub is_unsaid : {T : Type 0} → Told T → Bool
is_unsaid Unsaid = true
is_unsaid (Said value) = false

-- nothing is said of any property
abbrev pub is_empty : Change → Bool
is_empty change =
    is_unsaid change.protocol_version
    && (is_unsaid change.mrs_url
    && (is_unsaid change.content_id
    && (is_unsaid change.content_id_status
    && (is_unsaid change.presentation_status
    && (is_unsaid change.wc_url
    && (is_unsaid change.ts_url
    && (is_unsaid change.te_url
    && is_unsaid change.timelines)))))))

-- ---- merging

-- a property after what a message says of it
abbrev pub after : {T : Type 0} → Option T → Told T → Option T
after old Unsaid = old
after old (Said value) = value

-- the state after a message: what it says is set, and the rest stays
unfoldable pub applied : State → Change → State
applied state change = record {
  protocol_version = after state.protocol_version change.protocol_version;
  mrs_url = after state.mrs_url change.mrs_url;
  content_id = after state.content_id change.content_id;
  content_id_status = after state.content_id_status change.content_id_status;
  presentation_status = after state.presentation_status change.presentation_status;
  wc_url = after state.wc_url change.wc_url;
  ts_url = after state.ts_url change.ts_url;
  te_url = after state.te_url change.te_url;
  timelines = after state.timelines change.timelines;
}

-- the state after messages, one after another
abbrev pub merged_from : State → List Change → State
merged_from state [] = state
merged_from state (change ∷ changes) = merged_from (applied state change) changes

-- the state after the messages of a connection so far
abbrev pub merged : List Change → State
merged changes = merged_from empty changes

-- ---- differences

-- two values that may be null are equal
abbrev pub is_same : {T : Type 0} → (T → T → Bool) → Option T → Option T → Bool
is_same eq None None = true
is_same eq None (Some b) = false
is_same eq (Some a) None = false
is_same eq (Some a) (Some b) = eq a b

-- the new value, and nothing where it is the old one
abbrev pub told_new : {T : Type 0} → (T → T → Bool) → Option T → Option T → Told T
told_new eq old new = if is_same eq old new then Unsaid else Said new

-- what is told of a text
abbrev pub words_told : Option (List ℕ) → Option (List ℕ) → Told (List ℕ)
words_told = told_new bytes_eq

-- what is told of the timelines
abbrev pub timelines_told : Option (List Timeline) → Option (List Timeline) → Told (List Timeline)
timelines_told = told_new timelines_eq

-- exactly the properties that differ, with their new values
unfoldable pub difference : State → State → Change
difference old new = record {
  protocol_version = words_told old.protocol_version new.protocol_version;
  mrs_url = words_told old.mrs_url new.mrs_url;
  content_id = words_told old.content_id new.content_id;
  content_id_status = words_told old.content_id_status new.content_id_status;
  presentation_status = words_told old.presentation_status new.presentation_status;
  wc_url = words_told old.wc_url new.wc_url;
  ts_url = words_told old.ts_url new.ts_url;
  te_url = words_told old.te_url new.te_url;
  timelines = timelines_told old.timelines new.timelines;
}

-- all nine properties
unfoldable pub full_change : State → Change
full_change state = record {
  protocol_version = Said state.protocol_version;
  mrs_url = Said state.mrs_url;
  content_id = Said state.content_id;
  content_id_status = Said state.content_id_status;
  presentation_status = Said state.presentation_status;
  wc_url = Said state.wc_url;
  ts_url = Said state.ts_url;
  te_url = Said state.te_url;
  timelines = Said state.timelines;
}

-- ---- what may be said when one state follows another

-- of a property, at least its new value where that differs, and no other value
abbrev pub Tells : {T : Type 0} → Option T → Option T → Told T → Type 0
Tells old new Unsaid = old ≡ new
Tells old new (Said value) = value ≡ new

-- at least each property that differs, and each with its new value
pub record TellsChange (old new : State) (change : Change) : Type 0 where
  pub protocol_version : Tells old.protocol_version new.protocol_version change.protocol_version
  pub mrs_url : Tells old.mrs_url new.mrs_url change.mrs_url
  pub content_id : Tells old.content_id new.content_id change.content_id
  pub content_id_status : Tells old.content_id_status new.content_id_status change.content_id_status
  pub presentation_status : Tells old.presentation_status new.presentation_status change.presentation_status
  pub wc_url : Tells old.wc_url new.wc_url change.wc_url
  pub ts_url : Tells old.ts_url new.ts_url change.ts_url
  pub te_url : Tells old.te_url new.te_url change.te_url
  pub timelines : Tells old.timelines new.timelines change.timelines

-- of a property, its new value exactly where that differs
abbrev pub TellsExactly : {T : Type 0} → Option T → Option T → Told T → Type 0
TellsExactly old new Unsaid = old ≡ new
TellsExactly old new (Said value) = (value ≡ new) × (old ≡ new → ⊥)

-- exactly the properties that differ
pub record TellsDifference (old new : State) (change : Change) : Type 0 where
  pub protocol_version : TellsExactly old.protocol_version new.protocol_version change.protocol_version
  pub mrs_url : TellsExactly old.mrs_url new.mrs_url change.mrs_url
  pub content_id : TellsExactly old.content_id new.content_id change.content_id
  pub content_id_status : TellsExactly old.content_id_status new.content_id_status change.content_id_status
  pub presentation_status : TellsExactly old.presentation_status new.presentation_status change.presentation_status
  pub wc_url : TellsExactly old.wc_url new.wc_url change.wc_url
  pub ts_url : TellsExactly old.ts_url new.ts_url change.ts_url
  pub te_url : TellsExactly old.te_url new.te_url change.te_url
  pub timelines : TellsExactly old.timelines new.timelines change.timelines

-- the messages tell these states, each after the one before, and the first after `before`
abbrev pub IsSessionFrom : State → List State → List Change → Type 0
IsSessionFrom before [] [] = ⊤
IsSessionFrom before [] (change ∷ changes) = ⊥
IsSessionFrom before (state ∷ states) [] = ⊥
IsSessionFrom before (state ∷ states) (change ∷ changes) =
    TellsChange before state change × IsSessionFrom state states changes

-- the messages of a connection whose states are these: the first says at least each property that isn't null, and each
-- later one at least each property that changed
abbrev pub IsSession : List State → List Change → Type 0
IsSession states changes = IsSessionFrom empty states changes

-- the last of the states, and the one before them where there is none
abbrev pub last_from : State → List State → State
last_from before [] = before
last_from before (state ∷ states) = last_from state states

-- the state of a connection with these states
abbrev pub last_state : List State → State
last_state states = last_from empty states
