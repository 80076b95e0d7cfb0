-- What is told of one property makes its old value the new one; so it is of all nine, and over a session.
use Rattle.std.proofs.Common.{◌≡◌, ℕ, suc, ◌+◌, ◌<◌, ◌≤◌, Bool, true, false, cond, List}
use Rattle.std.proofs.Common.{[], ◌∷◌, length, get_or, drop, Option, Some, None, Decides}
use Rattle.std.proofs.Common.{refl, sym, ap, ◌∙◌, subst, true≢false, add-one, drop-cons}
use Rattle.std.proofs.lemmas.List.{drop_all}
use Rattle.std.proofs.lemmas.Slice.Eq.{bytes_eq-Decides}
use Rattle.std.specs.Prelude.{bytes_eq, ⊤}
use Rattle.css_num.specs.declared.timeline.Timeline.{Timeline}
use Rattle.css_num.specs.Timelines.{timelines_eq}
use Rattle.css_num.proofs.Equality.{timelines_eq-Decides}
use Rattle.css_cii.specs.States.{applied, difference}
use Rattle.css_cii.specs.States.{after, is_same, told_new, Tells, TellsChange, TellsExactly}
use Rattle.css_cii.specs.States.{TellsDifference, merged_from, IsSessionFrom, last_from}
use Rattle.css_cii.specs.declared.state.State.{State}
use Rattle.css_cii.specs.declared.change.Change.{Change}
use Rattle.css_cii.specs.declared.change.Told.{Told}
use Rattle.css_cii.specs.declared.change.Told.TheVariants.{Unsaid, Said}

-- ---- one property

-- no value
abbrev pub Nothing : {T : Type 0} → Option T → Type 0
Nothing None = ⊤
Nothing (Some value) = ⊥

-- the value, or another where there is none
abbrev pub value_or : {T : Type 0} → T → Option T → T
value_or other None = other
value_or other (Some value) = value

-- values that may be null are equal where their values are
pub is_same-Decides : {T : Type 0} (eq : T → T → Bool) → ((a b : T) → Decides (eq a b) (a ≡ b)) → (a b : Option T)
    → Decides (is_same eq a b) (a ≡ b)
is_same-Decides eq exact None None = (λ _. refl, λ _. refl)
is_same-Decides eq exact None (Some b) = (λ e. absurd (true≢false (sym e)), λ e. absurd (subst Nothing e tt))
is_same-Decides eq exact (Some a) None = (λ e. absurd (true≢false (sym e)), λ e. absurd (subst Nothing (sym e) tt))
is_same-Decides eq exact (Some a) (Some b) = (λ e. ap Some ((exact a b).0 e), λ e. (exact a b).1 (ap (value_or a) e))

-- what a test decides to tell, where the test is exact
told_by : {T : Type 0} (old new : Option T) (same : Bool) → Decides same (old ≡ new)
    → TellsExactly old new (cond same Unsaid (Said new))
told_by old new true exact = exact.0 refl
told_by old new false exact = (refl, λ e. true≢false (sym (exact.1 e)))

-- so it is of texts
told_words : (old new : Option (List ℕ)) → TellsExactly old new (told_new bytes_eq old new)
told_words old new = told_by old new (is_same bytes_eq old new) (is_same-Decides bytes_eq bytes_eq-Decides old new)

-- and of timelines
told_timelines : (old new : Option (List Timeline)) → TellsExactly old new (told_new timelines_eq old new)
told_timelines old new =
    told_by old new (is_same timelines_eq old new) (is_same-Decides timelines_eq timelines_eq-Decides old new)

-- what says exactly what differs says at least that
weaker : {T : Type 0} (old new : Option T) (told : Told T) → TellsExactly old new told → Tells old new told
weaker old new Unsaid h = h
weaker old new (Said value) h = h.0

-- a property becomes what is told of it
after-Tells : {T : Type 0} (old new : Option T) (told : Told T) → Tells old new told → after old told ≡ new
after-Tells old new Unsaid h = h
after-Tells old new (Said value) h = h

-- ---- all nine

-- the difference says exactly the properties that differ
pub difference-exact : (old new : State) → TellsDifference old new (difference old new)
unfolding difference
difference-exact old new = record {
  protocol_version = told_words old.protocol_version new.protocol_version;
  mrs_url = told_words old.mrs_url new.mrs_url;
  content_id = told_words old.content_id new.content_id;
  content_id_status = told_words old.content_id_status new.content_id_status;
  presentation_status = told_words old.presentation_status new.presentation_status;
  wc_url = told_words old.wc_url new.wc_url;
  ts_url = told_words old.ts_url new.ts_url;
  te_url = told_words old.te_url new.te_url;
  timelines = told_timelines old.timelines new.timelines;
}

-- so the difference tells the new state
exact_tells : (old new : State) (change : Change) → TellsDifference old new change → TellsChange old new change
exact_tells old new change h = record {
  protocol_version = weaker _ _ change.protocol_version h.protocol_version;
  mrs_url = weaker _ _ change.mrs_url h.mrs_url;
  content_id = weaker _ _ change.content_id h.content_id;
  content_id_status = weaker _ _ change.content_id_status h.content_id_status;
  presentation_status = weaker _ _ change.presentation_status h.presentation_status;
  wc_url = weaker _ _ change.wc_url h.wc_url;
  ts_url = weaker _ _ change.ts_url h.ts_url;
  te_url = weaker _ _ change.te_url h.te_url;
  timelines = weaker _ _ change.timelines h.timelines;
}

-- a change that tells a state leads to it
pub applied-tells : (old new : State) (change : Change) → TellsChange old new change → applied old change ≡ new
unfolding applied
applied-tells old new change h =
    rw (
      after-Tells _ new.protocol_version change.protocol_version h.protocol_version,
      after-Tells _ new.mrs_url change.mrs_url h.mrs_url,
      after-Tells _ new.content_id change.content_id h.content_id,
      after-Tells _ new.content_id_status change.content_id_status h.content_id_status,
      after-Tells _ new.presentation_status change.presentation_status h.presentation_status,
      after-Tells _ new.wc_url change.wc_url h.wc_url,
      after-Tells _ new.ts_url change.ts_url h.ts_url,
      after-Tells _ new.te_url change.te_url h.te_url,
      after-Tells _ new.timelines change.timelines h.timelines,
    ) refl

-- so the difference leads from the old state to the new one
pub applied-difference : (old new : State) → applied old (difference old new) ≡ new
applied-difference old new =
    applied-tells old new (difference old new) (exact_tells old new (difference old new) (difference-exact old new))

-- ---- a session

-- merging the messages of a session gives its last state
pub merged_from-session : (before : State) (states : List State) (changes : List Change)
    → IsSessionFrom before states changes → merged_from before changes ≡ last_from before states
merged_from-session before [] [] h = refl
merged_from-session before [] (change ∷ changes) h = absurd h
merged_from-session before (state ∷ states) [] h = absurd h
merged_from-session before (state ∷ states) (change ∷ changes) h =
    ap (λ s. merged_from s changes) (applied-tells before state change h.0)
    ∙ merged_from-session state states changes h.1

-- one message more
pub merge_step : (state : State) (changes : List Change) (i : ℕ) (change : Change) → i < length changes
    → change ≡ get_or changes i change
    → merged_from (applied state change) (drop (i + 1) changes) ≡ merged_from state (drop i changes)
merge_step state changes i change lt is =
    rw (add-one, drop-cons changes i change) (ap (λ c. merged_from (applied state c) (drop (suc i) changes)) is)

-- no message is left
pub merge_end : (state first : State) (changes : List Change) (i : ℕ) → length changes ≤ i
    → merged_from state (drop i changes) ≡ merged_from first changes → state ≡ merged_from first changes
merge_end state first changes i past h = ap (merged_from state) (sym (drop_all i changes past)) ∙ h
