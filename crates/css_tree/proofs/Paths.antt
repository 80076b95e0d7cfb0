-- The paths of two clocks up to the nearest clock above both.
use Rattle.std.proofs.Common.{◌≡◌, ◌≢◌, ℕ, ◌<◌, ◌∙◌, refl, sym, ap, arith, suc, zero, List, [], ◌∷◌, Bool, true, false}
use Rattle.std.proofs.lemmas.Bool.Decides.{nat_tests}
use Rattle.std.specs.Prelude.{Option, Some, None, Result, Ok, Err, ⊤, ℤ, if◌then◌else◌, ◌==◌}
use Rattle.css_num.specs.Spans.{Interval}
use Rattle.css_tree.specs.declared.fault.ClockFault.{ClockFault}
use Rattle.css_tree.specs.declared.fault.ClockFault.TheVariants.{Unavailable}
use Rattle.css_tree.specs.Trees.{Clocks, IsForest, parent_of, upwards, lineage, is_available, all_available, then_with}
use Rattle.css_tree.specs.Trees.{gear_of}
use Rattle.css_tree.specs.Conversions.{last_of, root_of, NoneCommonIsTwoRoots, is_among, first_among, nearest_common}
use Rattle.css_tree.specs.Conversions.{up_to, below, step_up, steps_up, step_down, steps_down, reading_step}
use Rattle.css_tree.specs.Conversions.{reading_down}
use Rattle.css_tree.proofs.Forests.{parent-before, lineage-root, lineage-up}

-- a lesser number is another
differ : (x y : ℕ) → x < y → (x == y) ≡ false
differ x y h = grind (arith, nat_tests)

-- the order of the two doesn't matter
differ_back : (x y : ℕ) → (x == y) ≡ false → (y == x) ≡ false
differ_back x y h = grind (arith, nat_tests)

-- a test that fails is neither of two
not_either : (b c : Bool) → (if b then true else c) ≡ false → (b ≡ false) × (c ≡ false)
not_either true c h = cc
not_either false c h = (refl, h)

-- a test that holds makes either of two hold
either_true : (b c : Bool) → c ≡ true → (if b then true else c) ≡ true
either_true true c h = refl
either_true false c h = h

-- a number isn't among lesser ones
among-less : (clocks : Clocks) → IsForest clocks → (most : ℕ) (from : Option ℕ) (id : ℕ)
    → ((q : ℕ) → from ≡ Some q → q < id) → is_among id (upwards most clocks from) ≡ false
among-less clocks forest zero from id h = refl
among-less clocks forest (suc most) None id h = refl
among-less clocks forest (suc most) (Some q) id h =
    let less : q < id = h q refl in
    let other = differ q id less in
    rw other
    (among-less clocks forest most (parent_of clocks q) id (λ r e.
    omega (arith, less, parent-before clocks q r forest e)))

-- a clock isn't above one that was added before it
not_above : (clocks : Clocks) (id other : ℕ) → IsForest clocks → other < id → is_among id (lineage clocks other) ≡ false
not_above clocks id other forest less =
    among-less clocks forest (suc other) (Some other) id (λ q e. let is : other ≡ q = cc in omega (arith, is))

-- of no clocks none is first
first-none : (path : List ℕ) → first_among path [] ≡ None
first-none [] = refl
first-none (id ∷ above) = first-none above

-- a clock that isn't on a path changes nothing
first-without : (path others : List ℕ) (id : ℕ) → is_among id path ≡ false
    → first_among path (id ∷ others) ≡ first_among path others
first-without [] others id h = refl
first-without (one ∷ above) others id h =
    let parts = not_either (one == id) (is_among id above) h in
    let other = differ_back one id parts.0 in
    rw (other, first-without above others id parts.1) refl

-- a number is itself
same : (id : ℕ) → (id == id) ≡ true
same id = grind (arith, nat_tests)

-- one clock is above itself
pub common-same : (clocks : Clocks) (id : ℕ) → Some id ≡ nearest_common clocks id id
common-same clocks id = rw (same id) refl

-- the later of two clocks isn't above the other
pub common-from_root : (clocks : Clocks) (from to : ℕ) → IsForest clocks → to < from → parent_of clocks from ≡ None
    → nearest_common clocks from to ≡ None
common-from_root clocks from to forest less e =
    ap (λ path. first_among path (lineage clocks to)) (lineage-root clocks from e)
    ∙ ap (λ (b : Bool). let answer : Option ℕ = if b then Some from else None in
    answer) (not_above clocks from to forest less)

-- so its parent stands for it
pub common-from_up : (clocks : Clocks) (from to p : ℕ) → IsForest clocks → to < from → parent_of clocks from ≡ Some p
    → nearest_common clocks from to ≡ nearest_common clocks p to
common-from_up clocks from to p forest less e =
    ap (λ path. first_among path (lineage clocks to)) (lineage-up clocks from p forest e)
    ∙ ap (λ (b : Bool). if b then Some from else nearest_common clocks p to) (not_above clocks from to forest less)

-- the same of the other
pub common-to_root : (clocks : Clocks) (from to : ℕ) → IsForest clocks → from < to → parent_of clocks to ≡ None
    → nearest_common clocks from to ≡ None
common-to_root clocks from to forest less e =
    ap (λ path. first_among (lineage clocks from) path) (lineage-root clocks to e)
    ∙ first-without (lineage clocks from) [] to (not_above clocks to from forest less)
    ∙ first-none (lineage clocks from)

-- so the other's parent stands for it
pub common-to_up : (clocks : Clocks) (from to p : ℕ) → IsForest clocks → from < to → parent_of clocks to ≡ Some p
    → nearest_common clocks from to ≡ nearest_common clocks from p
common-to_up clocks from to p forest less e =
    ap (λ path. first_among (lineage clocks from) path) (lineage-up clocks to p forest e)
    ∙ first-without (lineage clocks from) (lineage clocks p) to (not_above clocks to from forest less)

-- what is told of a path up to a clock, by its first clock
pub available-head : (clocks : Clocks) (top id : ℕ) (above : List ℕ)
    → all_available clocks (up_to top (id ∷ above)) ≡ (if is_available clocks id
    then (if id == top then Ok tt else all_available clocks (up_to top above)) else Err (Unavailable id))
available-head clocks top id above =
    elim (id == top) as (λ b.
    all_available clocks (if b then id ∷ [] else id ∷ up_to top above) ≡ (if is_available clocks id
    then (if b then Ok tt else all_available clocks (up_to top above)) else Err (Unavailable id))) [
      | true ↦
          refl
      | false ↦ refl
    ]

-- the steps of a path below a clock, by its first clock
pub down-head : (clocks : Clocks) (top id : ℕ) (above : List ℕ) (span : Interval)
    → steps_down clocks (below top (id ∷ above)) span ≡ (if id == top then Ok span
    else then_with (steps_down clocks (below top above) span) (step_down id (gear_of clocks id)))
down-head clocks top id above span =
    elim (id == top) as (λ b.
    steps_down clocks (if b then [] else id ∷ below top above) span ≡ (if b then Ok span
    else then_with (steps_down clocks (below top above) span) (step_down id (gear_of clocks id)))) [
      | true ↦
          refl
      | false ↦ refl
    ]

-- the same of the steps up
pub up-head : (clocks : Clocks) (top id : ℕ) (above : List ℕ) (span : Interval)
    → steps_up clocks (below top (id ∷ above)) span ≡ (if id == top then Ok span
    else then_with (step_up id (gear_of clocks id) span) (steps_up clocks (below top above)))
up-head clocks top id above span =
    elim (id == top) as (λ b.
    steps_up clocks (if b then [] else id ∷ below top above) span ≡ (if b then Ok span
    else then_with (step_up id (gear_of clocks id) span) (steps_up clocks (below top above)))) [
      | true ↦ refl
      | false ↦
          refl
    ]

-- above a clock that is available come those above its parent
pub available-up : (clocks : Clocks) (top id p : ℕ) → IsForest clocks → parent_of clocks id ≡ Some p
    → is_available clocks id ≡ true → (id == top) ≡ false
    → all_available clocks (up_to top (lineage clocks id)) ≡ all_available clocks (up_to top (lineage clocks p))
available-up clocks top id p forest e here other =
    ap (λ path. all_available clocks (up_to top path)) (lineage-up clocks id p forest e)
    ∙ available-head clocks top id (lineage clocks p)
    ∙ ap (λ (b : Bool). if b then (if id == top then Ok tt else all_available clocks (up_to top (lineage clocks p)))
    else Err (Unavailable id)) here
    ∙ ap (λ (b : Bool). let answer : Result ⊤ ClockFault =
    if b then Ok tt else all_available clocks (up_to top (lineage clocks p)) in answer) other

-- to a root there is one step
pub down-root : (clocks : Clocks) (top id : ℕ) (span : Interval) → parent_of clocks id ≡ None → (id == top) ≡ false
    → steps_down clocks (below top (lineage clocks id)) span ≡ step_down id (gear_of clocks id) span
down-root clocks top id span e other =
    ap (λ path. steps_down clocks (below top path) span) (lineage-root clocks id e)
    ∙ down-head clocks top id [] span
    ∙ ap (λ (b : Bool). if b then Ok span else step_down id (gear_of clocks id) span) other

-- to another clock, those to its parent and one more
pub down-up : (clocks : Clocks) (top id p : ℕ) (span : Interval) → IsForest clocks → parent_of clocks id ≡ Some p
    → (id == top) ≡ false
    → steps_down clocks (below top (lineage clocks id)) span ≡ then_with
    (steps_down clocks (below top (lineage clocks p)) span) (step_down id (gear_of clocks id))
down-up clocks top id p span forest e other =
    ap (λ path. steps_down clocks (below top path) span) (lineage-up clocks id p forest e)
    ∙ down-head clocks top id (lineage clocks p) span
    ∙ ap (λ (b : Bool). if b then Ok span
    else then_with (steps_down clocks (below top (lineage clocks p)) span) (step_down id (gear_of clocks id))) other

-- from a root there is one step up, which leaves the span
pub up-root : (clocks : Clocks) (top id : ℕ) (span : Interval) → parent_of clocks id ≡ None → (id == top) ≡ false
    → steps_up clocks (below top (lineage clocks id)) span ≡ then_with (step_up id (gear_of clocks id) span)
    (steps_up clocks [])
up-root clocks top id span e other =
    ap (λ path. steps_up clocks (below top path) span) (lineage-root clocks id e)
    ∙ up-head clocks top id [] span
    ∙ ap (λ (b : Bool). if b then Ok span else then_with (step_up id (gear_of clocks id) span) (steps_up clocks []))
    other

-- from another clock, one step and those from its parent
pub up-up : (clocks : Clocks) (top id p : ℕ) (span : Interval) → IsForest clocks → parent_of clocks id ≡ Some p
    → (id == top) ≡ false
    → steps_up clocks (below top (lineage clocks id)) span ≡ then_with (step_up id (gear_of clocks id) span)
    (steps_up clocks (below top (lineage clocks p)))
up-up clocks top id p span forest e other =
    ap (λ path. steps_up clocks (below top path) span) (lineage-up clocks id p forest e)
    ∙ up-head clocks top id (lineage clocks p) span
    ∙ ap (λ (b : Bool). if b then Ok span
    else then_with (step_up id (gear_of clocks id) span) (steps_up clocks (below top (lineage clocks p)))) other

-- the first step comes first
pub up-first : (clocks : Clocks) (top id : ℕ) (span : Interval) → (id == top) ≡ false
    → steps_up clocks (below top (lineage clocks id)) span ≡ then_with (step_up id (gear_of clocks id) span)
    (steps_up clocks (below top (upwards id clocks (parent_of clocks id))))
up-first clocks top id span other =
    up-head clocks top id (upwards id clocks (parent_of clocks id)) span
    ∙ ap (λ (b : Bool). if b then Ok span
    else then_with (step_up id (gear_of clocks id) span)
    (steps_up clocks (below top (upwards id clocks (parent_of clocks id))))) other

-- where the first of a path is or isn't one of others, the first that is one is one of both
among-by : (id : ℕ) (above others : List ℕ) (top : ℕ) (b : Bool) → is_among id others ≡ b
    → (first_among above others ≡ Some top → (is_among top above ≡ true) × (is_among top others ≡ true))
    → (if b then Some id else first_among above others) ≡ Some top → (is_among top (id ∷ above) ≡ true)
    × (is_among top others ≡ true)
among-by id above others top true e rest h =
    let one : id ≡ top = cc in
    (rw (← one, same id) refl, rw (← one) e)
among-by id above others top false e rest h =
    let parts = rest h in
    (either_true (id == top) (is_among top above) parts.0, parts.1)

-- the first of some clocks that is one of others is one of both
pub nearest-among : (path others : List ℕ) (top : ℕ) → first_among path others ≡ Some top → (is_among top path ≡ true)
    × (is_among top others ≡ true)
nearest-among [] others top h = cc
nearest-among (id ∷ above) others top h =
    among-by id above others top (is_among id others) refl (nearest-among above others top) h

-- what the first clock of a path below another reads, by the rest of the path
below-head : (clocks : Clocks) (top id : ℕ) (above : List ℕ) (value : ℤ)
    → reading_down clocks (below top (id ∷ above)) value ≡ (if id == top then value
    else reading_step (gear_of clocks id) (reading_down clocks (below top above) value))
below-head clocks top id above value =
    elim (id == top) as (λ b.
    reading_down clocks (if b then [] else id ∷ below top above) value ≡ (if b then value
    else reading_step (gear_of clocks id) (reading_down clocks (below top above) value))) [ true ↦ refl | false ↦ refl ]

-- where either of two tests holds and it isn't the first, it is the second
second_holds : (b c : Bool) → (if b then true else c) ≡ true → b ≡ false → c ≡ true
second_holds true c h e = cc
second_holds false c h e = h

-- equal numbers are one
one_number : (x y : ℕ) → (x == y) ≡ true → x ≡ y
one_number x y h = grind (arith, nat_tests)

-- where a clock is itself the one above, there is nothing below
below-itself : (clocks : Clocks) (top id : ℕ) (root : ℤ) → (id == top) ≡ true
    → reading_down clocks (lineage clocks id) root ≡ reading_down clocks (below top (lineage clocks id))
    (reading_down clocks (lineage clocks top) root)
below-itself clocks top id root e =
    let above = upwards id clocks (parent_of clocks id) in
    let read = reading_down clocks (lineage clocks top) root in
    ap (λ (k : ℕ). reading_down clocks (lineage clocks k) root) (one_number id top e)
    ∙ sym
    (below-head clocks top id above read ∙ ap (λ (b : Bool). if b then read
    else reading_step (gear_of clocks id) (reading_down clocks (below top above) read)) e)

-- where it isn't, and its parent reads as the one above says, so does the clock
below-up : (clocks : Clocks) (top id p : ℕ) (root : ℤ) → IsForest clocks → parent_of clocks id ≡ Some p
    → (id == top) ≡ false
    → reading_down clocks (lineage clocks p) root ≡ reading_down clocks (below top (lineage clocks p))
    (reading_down clocks (lineage clocks top) root)
    → reading_down clocks (lineage clocks id) root ≡ reading_down clocks (below top (lineage clocks id))
    (reading_down clocks (lineage clocks top) root)
below-up clocks top id p root forest e other held =
    let read = reading_down clocks (lineage clocks top) root in
    let up = lineage-up clocks id p forest e in
    ap (λ (path : List ℕ). reading_down clocks path root) up
    ∙ ap (reading_step (gear_of clocks id)) held
    ∙ sym
    (ap (λ (path : List ℕ). reading_down clocks (below top path) read) up
    ∙ below-head clocks top id (lineage clocks p) read
    ∙ ap (λ (b : Bool). if b then read
    else reading_step (gear_of clocks id) (reading_down clocks (below top (lineage clocks p)) read)) other)

-- a root has no other clock above it
only_itself : (clocks : Clocks) (top id : ℕ) → parent_of clocks id ≡ None → (id == top) ≡ false
    → is_among top (lineage clocks id) ≡ true → ⊥
only_itself clocks top id e other h =
    let none : false ≡ true =
    second_holds (id == top) false (sym (ap (is_among top) (lineage-root clocks id e)) ∙ h) other in
    cc

-- where something holds of a clock and goes from parents to the clocks on them, one step of it: by whether the clock is
-- the one above, and by its parent
below-by : (clocks : Clocks) (top : ℕ) (Holds : ℕ → Type 0) → IsForest clocks
    → ((id : ℕ) → (id == top) ≡ true → Holds id)
    → ((id p : ℕ) → parent_of clocks id ≡ Some p → (id == top) ≡ false → Holds p → Holds id)
    → (id : ℕ) (b : Bool) (parent : Option ℕ) → (id == top) ≡ b → parent_of clocks id ≡ parent
    → ((p : ℕ) → p < id → is_among top (lineage clocks p) ≡ true → Holds p) → is_among top (lineage clocks id) ≡ true
    → Holds id
below-by clocks top Holds forest first next id true parent e f parents h = first id e
below-by clocks top Holds forest first next id false None e f parents h = absurd (only_itself clocks top id f e h)
below-by clocks top Holds forest first next id false (Some p) e f parents h =
    let among =
    second_holds (id == top) (is_among top (lineage clocks p))
    (sym (ap (is_among top) (lineage-up clocks id p forest f)) ∙ h) e in
    next id p f e (parents p (parent-before clocks id p forest f) among)

-- so it holds of each clock that has the one above it
below-all : (clocks : Clocks) (top : ℕ) (Holds : ℕ → Type 0) → IsForest clocks
    → ((id : ℕ) → (id == top) ≡ true → Holds id)
    → ((id p : ℕ) → parent_of clocks id ≡ Some p → (id == top) ≡ false → Holds p → Holds id)
    → (most id : ℕ) → id < most → is_among top (lineage clocks id) ≡ true → Holds id
below-all clocks top Holds forest first next zero id inside h = absurd (omega (arith, inside))
below-all clocks top Holds forest first next (suc most) id inside h =
    below-by clocks top Holds forest first next id (id == top) (parent_of clocks id) refl refl
    (λ p less. below-all clocks top Holds forest first next most p (omega (arith, inside, less))) h

-- what a clock reads at a value of its root is what it reads where a clock above it reads what that one reads
pub reading-below : (clocks : Clocks) (top id : ℕ) (root : ℤ) → IsForest clocks
    → is_among top (lineage clocks id) ≡ true
    → reading_down clocks (lineage clocks id) root ≡ reading_down clocks (below top (lineage clocks id))
    (reading_down clocks (lineage clocks top) root)
reading-below clocks top id root forest h =
    below-all clocks top (λ (k : ℕ).
    reading_down clocks (lineage clocks k) root ≡ reading_down clocks (below top (lineage clocks k))
    (reading_down clocks (lineage clocks top) root)) forest
    (λ k e. below-itself clocks top k root e)
    (λ k p e other held. below-up clocks top k p root forest e other held)
    (suc id) id (omega arith) h

-- a clock has its parent's root
root-up : (clocks : Clocks) (id p : ℕ) → IsForest clocks → parent_of clocks id ≡ Some p
    → root_of clocks id ≡ root_of clocks p
root-up clocks id p forest e = ap (last_of id) (lineage-up clocks id p forest e)

-- and the root of each clock above it
root-above : (clocks : Clocks) (top id : ℕ) → IsForest clocks → is_among top (lineage clocks id) ≡ true
    → root_of clocks id ≡ root_of clocks top
root-above clocks top id forest h =
    below-all clocks top (λ (k : ℕ). root_of clocks k ≡ root_of clocks top) forest
    (λ k e. ap (root_of clocks) (one_number k top e))
    (λ k p e other held. root-up clocks k p forest e ∙ held)
    (suc id) id (omega arith) h

-- the last of some clocks is one of them
last-among : (other id : ℕ) (above : List ℕ) → is_among (last_of other (id ∷ above)) (id ∷ above) ≡ true
last-among other id [] = rw (same id) refl
last-among other id (one ∷ above) =
    either_true (id == last_of id (one ∷ above)) (is_among (last_of id (one ∷ above)) (one ∷ above))
    (last-among id one above)

-- a clock's root is above it
root-among : (clocks : Clocks) (id : ℕ) → is_among (root_of clocks id) (lineage clocks id) ≡ true
root-among clocks id = last-among id id (upwards id clocks (parent_of clocks id))

-- where none of a path is one of others, none of the rest is
rest_none : (id : ℕ) (above others : List ℕ) (b : Bool) → (if b then Some id else first_among above others) ≡ None
    → first_among above others ≡ None
rest_none id above others true h = cc
rest_none id above others false h = h

-- a clock that is the first of a path or one of the rest isn't one of others, where neither is
not_other_by : (id clock : ℕ) (others : List ℕ) (inside b : Bool) → (id == clock) ≡ b → is_among id others ≡ false
    → (inside ≡ true → is_among clock others ≡ false) → (if b then true else inside) ≡ true
    → is_among clock others ≡ false
not_other_by id clock others inside true e out rest among = rw (← one_number id clock e) out
not_other_by id clock others inside false e out rest among = rest among

-- a clock of a path of which none is one of others isn't one of them
not-other : (id : ℕ) (above others : List ℕ) (clock : ℕ) (b : Bool) → is_among id others ≡ b
    → (if b then Some id else first_among above others) ≡ None
    → (is_among clock above ≡ true → is_among clock others ≡ false)
    → (if id == clock then true else is_among clock above) ≡ true → is_among clock others ≡ false
not-other id above others clock true e h rest among = cc
not-other id above others clock false e h rest among =
    not_other_by id clock others (is_among clock above) (id == clock) refl e rest among

-- so it is of the whole path
none-among : (path others : List ℕ) (clock : ℕ) → first_among path others ≡ None → is_among clock path ≡ true
    → is_among clock others ≡ false
none-among [] others clock h among = cc
none-among (id ∷ above) others clock h among =
    not-other id above others clock (is_among id others) refl h (λ inside.
    none-among above others clock (rest_none id above others (is_among id others) h) inside) among

-- two clocks with one root have a clock above both
one-root : (clocks : Clocks) (from to : ℕ) → root_of clocks from ≡ root_of clocks to
    → nearest_common clocks from to ≡ None → ⊥
one-root clocks from to e none =
    let out : is_among (root_of clocks from) (lineage clocks to) ≡ false =
    none-among (lineage clocks from) (lineage clocks to) (root_of clocks from) none (root-among clocks from) in
    let inside : is_among (root_of clocks from) (lineage clocks to) ≡ true =
    ap (λ (root : ℕ). is_among root (lineage clocks to)) e ∙ root-among clocks to in
    cc

-- two clocks with different roots have none
two-roots : (clocks : Clocks) (from to : ℕ) (nearest : Option ℕ) → IsForest clocks
    → root_of clocks from ≢ root_of clocks to → nearest_common clocks from to ≡ nearest → nearest ≡ None
two-roots clocks from to None forest differ e = refl
two-roots clocks from to (Some top) forest differ e =
    let among = nearest-among (lineage clocks from) (lineage clocks to) top e in
    absurd (differ (root-above clocks top from forest among.0 ∙ sym (root-above clocks top to forest among.1)))

-- both ways at once
pub none-common_iff : NoneCommonIsTwoRoots
none-common_iff clocks from to forest = (
  λ none e. one-root clocks from to e none,
  λ differ. two-roots clocks from to (nearest_common clocks from to) forest differ refl,
)
