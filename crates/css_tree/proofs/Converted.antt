-- What a conversion answers has what the one clock reads at each value at which the other reads a tick of the span.
use Rattle.std.proofs.Common.{◌≡◌, ℕ, ◌<◌, inl, inr, refl, sym, subst, arith, Bool, true, false, List, [], ◌∷◌, IfOk}
use Rattle.std.proofs.Common.{ap, ◌∙◌}
use Rattle.std.proofs.lemmas.Bool.Decides.{nat_tests}
use Rattle.std.specs.Prelude.{Option, Some, None, Result, Ok, Err, ℤ, unsigned_abs, nat_eq, slice_get, ◌&&◌}
use Rattle.std.specs.Prelude.{if◌then◌else◌}
use Rattle.std.specs.Int.{int_min, int_max}
use Rattle.css_num.specs.Rates.{TickRate, IsTickRate}
use Rattle.css_num.specs.Spans.{Interval, Covers}
use Rattle.css_clock.proofs.Goes.{one_way, between, between_back, child-along, child-against}
use Rattle.css_tree.specs.declared.fault.ClockFault.{ClockFault}
use Rattle.css_tree.specs.declared.fault.ClockFault.TheVariants.{Stopped, Beyond}
use Rattle.css_tree.specs.declared.node.Node.{Node}
use Rattle.css_tree.specs.declared.node.Link.{Link}
use Rattle.css_tree.specs.declared.node.Gear.{Gear}
use Rattle.css_tree.specs.Trees.{Clocks, IsForest, then_with, known, all_available, lineage, is_small, is_tick}
use Rattle.css_tree.specs.Trees.{gear_on, gear_by, gear_in, gear_of, gear_product, gear_value, correlation_of}
use Rattle.css_tree.specs.Trees.{checked_step, checked_down, value_of}
use Rattle.css_tree.specs.Conversions.{up_to, below, nearest_common, outward, in_range, step_up, steps_up, step_down}
use Rattle.css_tree.specs.Conversions.{steps_down, common_of, converted_by, converted, reading_step, reading_down}
use Rattle.css_tree.specs.Conversions.{IsConversion}
use Rattle.css_tree.proofs.Paths.{nearest-among, reading-below}
use Rattle.css_tree.proofs.Enclosing.{outward-covers}

-- a parent that there is has a rate in range
rates_on : (clocks : Clocks) (rate : TickRate) (link : Link) (id : ℕ) (parent : Option Node) (gear : Gear)
    → IsForest clocks → IsTickRate rate → slice_get clocks id ≡ parent
    → gear_on rate link parent ≡ Some gear → IsTickRate gear.rate × IsTickRate gear.parent_rate
rates_on clocks rate link id None gear forest own e h = cc
rates_on clocks rate link id (Some node) gear forest own e h =
    let same : record { rate = rate; parent_rate = node.rate; link = link } ≡ gear = cc in
    subst (λ (of : Gear). IsTickRate of.rate × IsTickRate of.parent_rate) same (own, (forest.each id node e).rate)

-- so has the parent by a link
rates_by : (clocks : Clocks) (rate : TickRate) (link : Option Link) (gear : Gear) → IsForest clocks → IsTickRate rate
    → gear_by clocks rate link ≡ Some gear → IsTickRate gear.rate × IsTickRate gear.parent_rate
rates_by clocks rate None gear forest own h = cc
rates_by clocks rate (Some link) gear forest own h =
    rates_on clocks rate link link.parent (slice_get clocks link.parent) gear forest own refl h

-- and so the parent of a clock
rates_in : (clocks : Clocks) (id : ℕ) (node : Option Node) (gear : Gear) → IsForest clocks → slice_get clocks id ≡ node
    → gear_in clocks node ≡ Some gear → IsTickRate gear.rate × IsTickRate gear.parent_rate
rates_in clocks id None gear forest e h = cc
rates_in clocks id (Some node) gear forest e h =
    rates_by clocks node.rate node.link gear forest (forest.each id node e).rate h

-- the rates of a clock and of its parent are in range
gear-rates : (clocks : Clocks) (id : ℕ) (gear : Gear) → IsForest clocks → gear_of clocks id ≡ Some gear
    → IsTickRate gear.rate × IsTickRate gear.parent_rate
gear-rates clocks id gear forest h = rates_in clocks id (slice_get clocks id) gear forest refl h

-- a step that wasn't refused had its value from the step before
then-ok : {T U : Type 0} (first : Result T ClockFault) (next : T → Result U ClockFault) (answer : U)
    → then_with first next ≡ Ok answer
    → (value : T) × (first ≡ Ok value) × (next value ≡ Ok answer)
then-ok (Ok value) next answer h = (value, refl, h)
then-ok (Err fault) next answer h = cc

-- a test that wasn't refused answers what was tested
tested : {T : Type 0} (test : Bool) (value answer : T) (fault : ClockFault)
    → (if test then Ok value else Err fault) ≡ Ok answer → value ≡ answer
tested true value answer fault h = cc
tested false value answer fault h = cc

-- the other way round
not_refused : {T : Type 0} (test : Bool) (result : Result T ClockFault) (answer : T) (fault : ClockFault)
    → (if test then Err fault else result) ≡ Ok answer → (test ≡ false) × (result ≡ Ok answer)
not_refused true result answer fault h = cc
not_refused false result answer fault h = (refl, h)

-- a step up has each value of the parent at which the clock reads a tick of the span
step_up-covers : (clocks : Clocks) (id : ℕ) (gear : Option Gear) (span above : Interval) (value : ℤ) → IsForest clocks
    → gear_of clocks id ≡ gear
    → step_up id gear span ≡ Ok above → Covers span (reading_step gear value) → Covers above value
step_up-covers clocks id None span above value forest e h inside =
    let same : span ≡ above = cc in
    subst (λ (of : Interval). Covers of value) same inside
step_up-covers clocks id (Some gear) span above value forest e h inside =
    let moving =
    not_refused (nat_eq (unsigned_abs gear.link.speed) 0) (in_range gear.link.parent (outward gear span)) above
    (Stopped id) h in
    let not_stopped : nat_eq (unsigned_abs gear.link.speed) 0 ≡ false = moving.0 in
    let positive : 0 < unsigned_abs gear.link.speed = grind (arith, nat_tests) in
    let rates = gear-rates clocks id gear forest e in
    let same =
    tested (is_tick (outward gear span).lo && is_tick (outward gear span).hi) (outward gear span) above
    (Beyond gear.link.parent) moving.1 in
    subst (λ (of : Interval). Covers of value) same (outward-covers gear span value rates.0 rates.1 positive inside)

-- and so have the steps up
steps_up-covers : (clocks : Clocks) (path : List ℕ) (span above : Interval) (value : ℤ) → IsForest clocks
    → steps_up clocks path span ≡ Ok above → Covers span (reading_down clocks path value) → Covers above value
steps_up-covers clocks [] span above value forest h inside =
    let same : span ≡ above = cc in
    subst (λ (of : Interval). Covers of value) same inside
steps_up-covers clocks (id ∷ path) span above value forest h inside =
    let first = then-ok (step_up id (gear_of clocks id) span) (steps_up clocks path) above h in
    steps_up-covers clocks path first.0 above value forest first.2
    (step_up-covers clocks id (gear_of clocks id) span first.0 (reading_down clocks path value) forest refl first.1
    inside)

-- what is read within bounds is what is read without
checked-reads : (id : ℕ) (gear : Option Gear) (value read : ℤ) → checked_step id gear value ≡ Ok read
    → reading_step gear value ≡ read
checked-reads id None value read h = cc
checked-reads id (Some gear) value read h =
    tested (is_small (gear_product gear value) && is_tick (gear_value gear value)) (gear_value gear value) read
    (Beyond id) h

-- what a clock reads at a value of a span lies between what it reads at the ends
step-between : (gear : Option Gear) (span : Interval) (value : ℤ) → Covers span value
    → Covers (record {
      lo = int_min (reading_step gear span.lo) (reading_step gear span.hi);
      hi =
          int_max (reading_step gear span.lo) (reading_step gear span.hi);
    }) (reading_step gear value)
step-between None span value inside = between span.lo value span.hi inside.low inside.high
step-between (Some gear) span value inside =
    let along = child-along gear.rate gear.parent_rate (correlation_of gear.link) in
    let against = child-against gear.rate gear.parent_rate (correlation_of gear.link) in
    elim (one_way gear.link.speed) [
      | inl rising ↦
          between (gear_value gear span.lo) (gear_value gear value) (gear_value gear span.hi)
          (along span.lo value rising inside.low) (along value span.hi rising inside.high)
      | inr falling ↦
          between_back (gear_value gear span.lo) (gear_value gear value) (gear_value gear span.hi)
          (against value span.hi falling inside.high) (against span.lo value falling inside.low)
    ]

-- a step down has what the clock reads at each value of the span
step_down-covers : (id : ℕ) (gear : Option Gear) (span answer : Interval) (value : ℤ)
    → step_down id gear span ≡ Ok answer → Covers span value → Covers answer (reading_step gear value)
step_down-covers id gear span answer value h inside =
    let first = then-ok (checked_step id gear span.lo) _ answer h in
    let last = then-ok (checked_step id gear span.hi) _ answer first.2 in
    let low = checked-reads id gear span.lo first.0 first.1 in
    let high = checked-reads id gear span.hi last.0 last.1 in
    let same : record { lo = int_min first.0 last.0; hi = int_max first.0 last.0 } ≡ answer = cc (last.2) in
    subst (λ (of : Interval). Covers of (reading_step gear value)) same
    (rw (low, high) at (step-between gear span value inside))

-- and so have the steps down
steps_down-covers : (clocks : Clocks) (path : List ℕ) (span answer : Interval) (value : ℤ)
    → steps_down clocks path span ≡ Ok answer → Covers span value → Covers answer (reading_down clocks path value)
steps_down-covers clocks [] span answer value h inside =
    let same : span ≡ answer = cc in
    subst (λ (of : Interval). Covers of value) same inside
steps_down-covers clocks (id ∷ path) span answer value h inside =
    let above = then-ok (steps_down clocks path span) (step_down id (gear_of clocks id)) answer h in
    step_down-covers id (gear_of clocks id) above.0 answer (reading_down clocks path value) above.2
    (steps_down-covers clocks path span above.0 value above.1 inside)

-- a clock in common is the nearest one
common-nearest : (nearest : Option ℕ) (top : ℕ) → common_of nearest ≡ Ok top → nearest ≡ Some top
common-nearest None top h = cc
common-nearest (Some one) top h = cc

-- what is read downwards within bounds is what is read without
down-reads : (clocks : Clocks) (path : List ℕ) (value read : ℤ) → checked_down clocks path value ≡ Ok read
    → reading_down clocks path value ≡ read
down-reads clocks [] value read h = cc
down-reads clocks (id ∷ path) value read h =
    let above = then-ok (checked_down clocks path value) (checked_step id (gear_of clocks id)) read h in
    ap (reading_step (gear_of clocks id)) (down-reads clocks path value above.0 above.1) ∙ checked-reads id
    (gear_of clocks id) above.0 read above.2

-- what a clock reads at a value of its root, where it isn't refused
value-reads : (clocks : Clocks) (id : ℕ) (root read : ℤ) → value_of clocks id root ≡ Ok read
    → reading_down clocks (lineage clocks id) root ≡ read
unfolding value_of
value-reads clocks id root read h =
    let node = then-ok (known clocks id) _ read h in
    let available = then-ok (all_available clocks (lineage clocks id)) _ read node.2 in
    down-reads clocks (lineage clocks id) root read available.2

-- the whole way up and down
converted-covers : (clocks : Clocks) (from to : ℕ) (span answer : Interval) → IsForest clocks
    → converted clocks from to span ≡ Ok answer → IsConversion clocks from to span answer
unfolding converted
converted-covers clocks from to span answer forest h =
    let from_known = then-ok (known clocks from) _ answer h in
    let to_known = then-ok (known clocks to) _ answer from_known.2 in
    let common =
    then-ok (common_of (nearest_common clocks from to)) (converted_by clocks from to span) answer to_known.2 in
    let from_available = then-ok (all_available clocks (up_to common.0 (lineage clocks from))) _ answer common.2 in
    let to_available = then-ok (all_available clocks (up_to common.0 (lineage clocks to))) _ answer from_available.2 in
    let above =
    then-ok (steps_up clocks (below common.0 (lineage clocks from)) span)
    (steps_down clocks (below common.0 (lineage clocks to))) answer to_available.2 in
    let nearest = common-nearest (nearest_common clocks from to) common.0 common.1 in
    let among = nearest-among (lineage clocks from) (lineage clocks to) common.0 nearest in
    let covered =
    λ (value : ℤ) (inside : Covers span (reading_down clocks (below common.0 (lineage clocks from)) value)).
    steps_down-covers clocks (below common.0 (lineage clocks to)) above.0 answer value above.2
    (steps_up-covers clocks (below common.0 (lineage clocks from)) span above.0 value forest above.1 inside) in
    record {
      top = common.0;
      nearest = nearest;
      covered = covered;
      read = λ root first second p q inside.
          let from_read =
          sym (reading-below clocks common.0 from root forest among.0) ∙ value-reads clocks from root first p in
          let to_read =
          sym (reading-below clocks common.0 to root forest among.1) ∙ value-reads clocks to root second q in
          rw to_read at (covered (reading_down clocks (lineage clocks common.0) root) (rw from_read inside));
    }

-- what a function answers that gives just that
pub converted-answer : (clocks : Clocks) (from to : ℕ) (span : Interval) (result : Result Interval ClockFault)
    → IsForest clocks → result ≡ converted clocks from to span → IfOk result (IsConversion clocks from to span)
converted-answer clocks from to span (Ok answer) forest e = converted-covers clocks from to span answer forest (sym e)
converted-answer clocks from to span (Err fault) forest e = tt
