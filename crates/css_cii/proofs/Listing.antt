-- What the loop that writes a list of timelines has written.
use Rattle.std.proofs.Common.{◌≡◌, ℕ, suc, ◌+◌, ◌<◌, ◌≤◌, List, [], ◌∷◌, ◌++◌, length, drop}
use Rattle.std.proofs.Common.{get_or, refl, sym, ap, ◌∙◌, subst, add-one, drop-cons}
use Rattle.std.proofs.lemmas.List.{drop_all}
use Rattle.std.specs.Str.{IsUtf8}
use Rattle.css_num.specs.Rates.{IsTickRate}
use Rattle.css_num.specs.declared.timeline.Timeline.{Timeline}
use Rattle.serde_json.specs.Data.{Items, no_items, item}
use Rattle.serde_json.specs.View.{view, items_view}
use Rattle.serde_json.specs.declared.value.Value.{Value}
use Rattle.css_cii.specs.Texts.{timeline_data, timelines_items, SelectorsAreUtf8, RatesAreInRange}

-- the items, and then others
abbrev pub followed : Items → Items → Items
followed no_items rest = rest
followed (item value values) rest = item value (followed values rest)

-- the first `i` timelines are written
pub record IsWritten (timelines : List Timeline) (values : List Value) (i : ℕ) : Type 0 where
  pub items : followed (items_view values) (timelines_items (drop i timelines)) ≡ timelines_items timelines
  pub in_range : RatesAreInRange (drop i timelines) → RatesAreInRange timelines
  pub utf8 : SelectorsAreUtf8 (drop i timelines)

-- no items follow
followed_none : (items : Items) → followed items no_items ≡ items
followed_none no_items = refl
followed_none (item value values) = ap (item value) (followed_none values)

-- an item at the end stands before what follows
followed_more : (values : List Value) (value : Value) (rest : Items)
    → followed (items_view (values ++ value ∷ [])) rest ≡ followed (items_view values) (item (view value) rest)
followed_more [] value rest = refl
followed_more (v ∷ values) value rest = ap (item (view v)) (followed_more values value rest)

-- what is left begins with the next timeline
left : (timelines : List Timeline) (i : ℕ) (timeline : Timeline) → i < length timelines
    → timeline ≡ get_or timelines i timeline → drop i timelines ≡ timeline ∷ drop (i + 1) timelines
left timelines i timeline lt is =
    rw (add-one, drop-cons timelines i timeline) (ap (λ t. t ∷ drop (suc i) timelines) (sym is))

-- the next selector is UTF-8
pub next_utf8 : (timelines : List Timeline) (values : List Value) (i : ℕ) (timeline : Timeline) → i < length timelines
    → timeline ≡ get_or timelines i timeline → IsWritten timelines values i → IsUtf8 timeline.selector
next_utf8 timelines values i timeline lt is h = let utf8 =
    subst SelectorsAreUtf8 (left timelines i timeline lt is) h.utf8 in utf8.0

-- one timeline more
pub one_written : (timelines : List Timeline) (values : List Value) (i : ℕ) (timeline : Timeline) (value : Value)
    → i < length timelines → timeline ≡ get_or timelines i timeline → view value ≡ timeline_data timeline
    → IsTickRate timeline.rate
    → IsWritten timelines values i → IsWritten timelines (values ++ value ∷ []) (i + 1)
one_written timelines values i timeline value lt is told rate h =
    let next = left timelines i timeline lt is in
    let utf8 = subst SelectorsAreUtf8 next h.utf8 in
    record {
      items = followed_more values value _
          ∙ ap (λ d. followed (items_view values) (item d (timelines_items (drop (i + 1) timelines)))) told
          ∙ ap (λ ts. followed (items_view values) (timelines_items ts)) (sym next) ∙ h.items;
      in_range = λ rest. h.in_range (subst RatesAreInRange (sym next) (rate, rest));
      utf8 = utf8.1;
    }

-- all of them
pub all_written : (timelines : List Timeline) (values : List Value) (i : ℕ) → length timelines ≤ i
    → IsWritten timelines values i → items_view values ≡ timelines_items timelines
all_written timelines values i past h = sym (followed_none _)
    ∙ ap (λ ts. followed (items_view values) (timelines_items ts)) (sym (drop_all i timelines past)) ∙ h.items

-- each of their rates is in range
pub all_in_range : (timelines : List Timeline) (values : List Value) (i : ℕ) → length timelines ≤ i
    → IsWritten timelines values i → RatesAreInRange timelines
all_in_range timelines values i past h = h.in_range (subst RatesAreInRange (sym (drop_all i timelines past)) tt)

-- none is written yet
pub none_written : (timelines : List Timeline) → SelectorsAreUtf8 timelines → IsWritten timelines [] 0
none_written timelines utf8 = record { items = refl; in_range = λ h. h; utf8 = utf8 }
