-- What the loop over a list of timelines has found.
use Rattle.std.proofs.Common.{◌≡◌, ℕ, ◌+◌, suc, ◌<◌, ◌≤◌, List, [], ◌∷◌, ◌++◌, length, drop}
use Rattle.std.proofs.Common.{get_or, Option, Some, None, option_map, option_and_then, refl}
use Rattle.std.proofs.Common.{sym, ap, ◌∙◌, add-one, drop-cons, append_assoc, append-nil}
use Rattle.std.proofs.lemmas.List.{drop_all}
use Rattle.serde_json.specs.Data.{item}
use Rattle.serde_json.specs.View.{view, items_view}
use Rattle.serde_json.specs.declared.value.Value.{Value}
use Rattle.css_cii.specs.Texts.{SelectorsAreUtf8}
use Rattle.std.specs.Str.{IsUtf8}
use Rattle.css_cii.specs.Timelines.{timeline_of, timelines_of}
use Rattle.css_num.specs.declared.timeline.Timeline.{Timeline}

-- the timelines found so far, and those that the rest tells
abbrev pub after : List Timeline → Option (List Timeline) → Option (List Timeline)
after found = option_map (λ ts. found ++ ts)

-- the rest begins with the next entry
entry : (values : List Value) (i : ℕ) (v : Value) → i < length values → v ≡ get_or values i v
    → items_view (drop i values) ≡ item (view v) (items_view (drop (i + 1) values))
entry values i v lt is =
    rw (add-one, drop-cons values i v) (ap (λ x. item (view x) (items_view (drop (suc i) values))) (sym is))

-- one timeline goes over to those found
grow : (found : List Timeline) (t : Timeline) (rest : Option (List Timeline))
    → after found (option_map (λ ts. t ∷ ts) rest) ≡ after (found ++ t ∷ []) rest
grow found t None = refl
grow found t (Some ts) = ap Some (sym (append_assoc found (t ∷ []) ts))

-- an entry that is a timeline
pub one_more : (found : List Timeline) (values : List Value) (i : ℕ) (v : Value) (t : Timeline) → i < length values
    → v ≡ get_or values i v → Some t ≡ timeline_of (view v)
    → after found (timelines_of (items_view (drop i values))) ≡ timelines_of (items_view values)
    → after (found ++ t ∷ []) (timelines_of (items_view (drop (i + 1) values))) ≡ timelines_of (items_view values)
one_more found values i v t lt is told h =
    sym (grow found t _) ∙ ap (λ o. after found
    (option_and_then (λ x. option_map (λ ts. x ∷ ts) (timelines_of (items_view (drop (i + 1) values)))) o)) told
    ∙ ap (λ d. after found (timelines_of d)) (sym (entry values i v lt is)) ∙ h

-- an entry that is none ends the search
pub none_told : (found : List Timeline) (values : List Value) (i : ℕ) (v : Value) → i < length values
    → v ≡ get_or values i v → None ≡ timeline_of (view v)
    → after found (timelines_of (items_view (drop i values))) ≡ timelines_of (items_view values)
    → None ≡ timelines_of (items_view values)
none_told found values i v lt is told h =
    ap (λ o. after found
    (option_and_then (λ x. option_map (λ ts. x ∷ ts) (timelines_of (items_view (drop (i + 1) values)))) o)) told
    ∙ ap (λ d. after found (timelines_of d)) (sym (entry values i v lt is)) ∙ h

-- at the end those found are all
pub all_told : (found : List Timeline) (values : List Value) (i : ℕ) → length values ≤ i
    → after found (timelines_of (items_view (drop i values))) ≡ timelines_of (items_view values)
    → Some found ≡ timelines_of (items_view values)
all_told found values i past h = ap Some (sym (append-nil found))
    ∙ ap (λ vs. after found (timelines_of (items_view vs))) (sym (drop_all i values past)) ∙ h

-- the first `i` entries are timelines, with selectors in UTF-8
pub record Found (values : List Value) (found : List Timeline) (i : ℕ) : Type 0 where
  pub told : after found (timelines_of (items_view (drop i values))) ≡ timelines_of (items_view values)
  pub utf8 : SelectorsAreUtf8 found

-- one selector more in UTF-8
utf8_more : (found : List Timeline) (t : Timeline) → SelectorsAreUtf8 found → IsUtf8 t.selector
    → SelectorsAreUtf8 (found ++ t ∷ [])
utf8_more [] t h u = (u, tt)
utf8_more (f ∷ found) t h u = (h.0, utf8_more found t h.1 u)

-- one entry more is a timeline
pub one_found : (values : List Value) (found : List Timeline) (i : ℕ) (v : Value) (t : Timeline) → i < length values
    → v ≡ get_or values i v → Some t ≡ timeline_of (view v) → IsUtf8 t.selector → Found values found i
    → Found values (found ++ t ∷ []) (i + 1)
one_found values found i v t lt is told u h = record {
  told = one_more found values i v t lt is told h.told;
  utf8 = utf8_more found t h.utf8 u;
}

-- nothing is found yet
pub nothing_found : (values : List Value) → Found values [] 0
nothing_found values = record { told = whole (timelines_of (items_view values)); utf8 = tt }
  where
    whole : (told : Option (List Timeline)) → after [] told ≡ told
    whole None = refl
    whole (Some ts) = refl
