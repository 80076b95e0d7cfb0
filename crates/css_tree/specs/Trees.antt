-- A forest of clocks, numbered from 0 in the order in which they were added.
use Rattle.std.specs.Prelude.{◌≡◌, ℕ, ◌<◌, ◌^◌, ◌&&◌, zero, suc, Bool, true, false, nat_lt, nat_le, if◌then◌else◌, List}
use Rattle.std.specs.Prelude.{[], ◌∷◌, ◌++◌, length, slice_get, slice_set, Option, Some, None, Result, Ok, Err, ⊤, ℤ}
use Rattle.std.specs.Prelude.{pos, negsuc, unsigned_abs, not, int_lt}
use Rattle.css_num.specs.Rates.{TickRate, IsTickRate}
use Rattle.css_clock.specs.Ticks.{Correlation, IsSpeed, product_of, child_value}
use Rattle.css_tree.specs.declared.fault.ClockFault.{ClockFault}
use Rattle.css_tree.specs.declared.fault.ClockFault.TheVariants.{NoSuch, Full, Deep, Unavailable, Beyond, IsRoot}
use Rattle.css_tree.specs.declared.node.Node.{Node}
use Rattle.css_tree.specs.declared.node.Link.{Link}
use Rattle.css_tree.specs.declared.node.Gear.{Gear}

-- the clocks, by their numbers
abbrev pub Clocks : Type 0
Clocks = List Node

-- a clock goes by one that was added before it, at a speed in range
pub record IsLink (id : ℕ) (link : Link) : Type 0 where
  pub before : link.parent < id
  pub speed : IsSpeed link.speed

-- each clock that isn't a root has such a link
pub record IsClock (id : ℕ) (node : Node) : Type 0 where
  pub rate : IsTickRate node.rate
  pub linked : (link : Link) → node.link ≡ Some link → IsLink id link

-- the list is a forest
pub record IsForest (clocks : Clocks) : Type 0 where
  pub each : (id : ℕ) (node : Node) → slice_get clocks id ≡ Some node → IsClock id node

-- the next step of what may be refused, with the value so far
abbrev pub then_with : {T U : Type 0} → Result T ClockFault → (T → Result U ClockFault) → Result U ClockFault
then_with (Ok value) next = next value
then_with (Err fault) next = Err fault

-- the parent by a link
abbrev pub parent_by : Option Link → Option ℕ
parent_by None = None
parent_by (Some link) = Some link.parent

-- the parent of a clock, where it has one
abbrev pub parent_in : Option Node → Option ℕ
parent_in None = None
parent_in (Some node) = parent_by node.link

-- the parent of the clock with a number
abbrev pub parent_of : Clocks → ℕ → Option ℕ
parent_of clocks id = parent_in (slice_get clocks id)

-- a clock and those above it, upwards, at most so many
abbrev pub upwards : ℕ → Clocks → Option ℕ → List ℕ
upwards zero clocks from = []
upwards (suc most) clocks None = []
upwards (suc most) clocks (Some id) = id ∷ upwards most clocks (parent_of clocks id)

-- a clock and its ancestors, upwards to its root: parents come first, so a clock with number n has n ancestors at most
abbrev pub lineage : Clocks → ℕ → List ℕ
lineage clocks id = upwards (suc id) clocks (Some id)

-- the clock, or that there is none
abbrev pub known_in : ℕ → Option Node → Result Node ClockFault
known_in id None = Err (NoSuch id)
known_in id (Some node) = Ok node

-- the clock with a number
abbrev pub known : Clocks → ℕ → Result Node ClockFault
known clocks id = known_in id (slice_get clocks id)

-- whether a clock is available
abbrev pub available_in : Option Node → Bool
available_in None = false
available_in (Some node) = node.available

abbrev pub is_available : Clocks → ℕ → Bool
is_available clocks id = available_in (slice_get clocks id)

-- the first clock of these that isn't available is told
abbrev pub all_available : Clocks → List ℕ → Result ⊤ ClockFault
all_available clocks [] = Ok tt
all_available clocks (id ∷ above) = if is_available clocks id then all_available clocks above else Err (Unavailable id)

-- a new clock is available, and its number comes after all others
abbrev pub with_clock : Clocks → TickRate → Option Link → Clocks
with_clock clocks rate link = clocks ++ (record { rate = rate; link = link; available = true }) ∷ []

-- there are fewer than 4,096 clocks
abbrev pub not_full : Clocks → Result ⊤ ClockFault
not_full clocks = if nat_lt (length clocks) 4096 then Ok tt else Err Full

-- a clock on this parent has at most 16 clocks above it
abbrev pub not_deep : Clocks → ℕ → Result ⊤ ClockFault
not_deep clocks parent = if nat_le (length (lineage clocks parent)) 16 then Ok tt else Err Deep

-- a root joins the forest
unfoldable pub with_root : Clocks → TickRate → Result Clocks ClockFault
with_root clocks rate = then_with (not_full clocks) (λ _. Ok (with_clock clocks rate None))

-- a clock joins the forest, and goes by its parent
unfoldable pub with_child : Clocks → TickRate → Link → Result Clocks ClockFault
with_child clocks rate link =
    then_with (known clocks link.parent) (λ _.
    then_with (not_full clocks) (λ _.
    then_with (not_deep clocks link.parent) (λ _. Ok (with_clock clocks rate (Some link)))))

-- a product is below 2^126 either way
abbrev pub is_small : ℤ → Bool
is_small product = nat_lt (unsigned_abs product) (2 ^ 126)

-- the ticks of a clock in a forest are those of an i64
abbrev pub is_tick : ℤ → Bool
is_tick tick = not (int_lt tick (negsuc 9223372036854775807)) && not (int_lt (pos 9223372036854775807) tick)

-- the correlation of a link
abbrev pub correlation_of : Link → Correlation
correlation_of link = record { speed = link.speed; parent_ticks = link.parent_ticks; child_ticks = link.child_ticks }

-- how a clock goes by a parent that there is
abbrev pub gear_on : TickRate → Link → Option Node → Option Gear
gear_on rate link None = None
gear_on rate link (Some parent) = Some (record { rate = rate; parent_rate = parent.rate; link = link })

-- how a clock goes by its parent, where it has one
abbrev pub gear_by : Clocks → TickRate → Option Link → Option Gear
gear_by clocks rate None = None
gear_by clocks rate (Some link) = gear_on rate link (slice_get clocks link.parent)

abbrev pub gear_in : Clocks → Option Node → Option Gear
gear_in clocks None = None
gear_in clocks (Some node) = gear_by clocks node.rate node.link

-- how the clock with a number goes by its parent: none of a root
abbrev pub gear_of : Clocks → ℕ → Option Gear
gear_of clocks id = gear_in clocks (slice_get clocks id)

-- the parent's ticks since the correlation, times the factor
abbrev pub gear_product : Gear → ℤ → ℤ
gear_product gear value = product_of gear.rate gear.parent_rate (correlation_of gear.link) value

-- what a clock reads where its parent reads a value
abbrev pub gear_value : Gear → ℤ → ℤ
gear_value gear value = child_value gear.rate gear.parent_rate (correlation_of gear.link) value

-- the same, or the fault that it is out of range
abbrev pub checked_value : ℕ → Gear → ℤ → Result ℤ ClockFault
checked_value id gear value =
    if is_small (gear_product gear value) && is_tick (gear_value gear value)
    then Ok (gear_value gear value)
    else Err (Beyond id)

-- the same of the clock with a number, where a root reads the value itself
abbrev pub checked_step : ℕ → Option Gear → ℤ → Result ℤ ClockFault
checked_step id None value = Ok value
checked_step id (Some gear) value = checked_value id gear value

-- from the last of these clocks down to the first, what each reads by the one above it
abbrev pub checked_down : Clocks → List ℕ → ℤ → Result ℤ ClockFault
checked_down clocks [] value = Ok value
checked_down clocks (id ∷ above) value =
    then_with (checked_down clocks above value) (checked_step id (gear_of clocks id))

-- what a clock reads at a value of its root
unfoldable pub value_of : Clocks → ℕ → ℤ → Result ℤ ClockFault
value_of clocks id root =
    then_with (known clocks id) (λ _.
    then_with (all_available clocks (lineage clocks id)) (λ _.
    checked_down clocks (lineage clocks id) root))

-- the clock with a number goes by its parent at another correlation
abbrev pub relinked : Clocks → ℕ → Correlation → Node → Option Link → Result Clocks ClockFault
relinked clocks id correlation node None = Err (IsRoot id)
relinked clocks id correlation node (Some link) =
    Ok (slice_set clocks id (record node {
      link =
          Some (record {
            parent = link.parent;
            speed = correlation.speed;
            parent_ticks = correlation.parent_ticks;
            child_ticks = correlation.child_ticks;
          });
    }))

-- the forest where one clock has another correlation
unfoldable pub with_correlation : Clocks → ℕ → Correlation → Result Clocks ClockFault
with_correlation clocks id correlation =
    then_with (known clocks id) (λ node. relinked clocks id correlation node node.link)

-- the forest where one clock is available or isn't
unfoldable pub with_available : Clocks → ℕ → Bool → Result Clocks ClockFault
with_available clocks id available =
    then_with (known clocks id) (λ node. Ok (slice_set clocks id (record node { available = available })))
