-- Worlds of a list of moments: how a clock goes on from one to another, and what has to be shown of each two of them.
use Rattle.std.proofs.Common.{◌≡◌, ℕ, ◌+◌, ◌-◌, ◌*◌, ◌≤◌, arith, ap, zero, suc, refl, List, [], ◌∷◌}
use Rattle.std.proofs.Math.Nat.{mul-le-mul_right}
use Rattle.css_model.specs.declared.TheConstants.{F}
use Rattle.css_model.specs.World.{RunsWithin, OwnClock, IsWorldFor, Reads}
use Rattle.std.specs.Prelude.{Some}
use Rattle.std.proofs.lemmas.Option.{same_Some}
use Rattle.css_model.specs.Numbers.{IsWithin}
use Rattle.css_model.specs.WallClock.{Answer, Local, IsLocal}
use Rattle.css_limits.specs.Worlds.{Shown, item, world_of, declared}

-- While so much true time passed, a clock with this error went from one value to another. It may fall short by `low`,
-- and go beyond by `high`, in 1 / F nanoseconds.
pub record Goes (error low high passed value value' : ℕ) : Type 0 where
  pub least : F * value + F * passed ≤ F * value' + error * passed + low
  pub most : F * value' ≤ F * value + F * passed + error * passed + high

-- one step after another
pub Goes-then : (error low high low' high' passed passed' v w x : ℕ)
    → Goes error low high passed v w → Goes error low' high' passed' w x
    → Goes error (low + low') (high + high') (passed + passed') v x
Goes-then error low high low' high' passed passed' v w x first second = record {
  least = omega (arith, first.least, second.least);
  most = omega (arith, first.most, second.most);
}

-- a nanosecond either way is what a world allows
pub Goes-runs : (error low high passed t t' v v' : ℕ) → low ≤ F → high ≤ F → t' ≡ t + passed
    → Goes error low high passed v v' → RunsWithin error t v t' v'
Goes-runs error low high passed t t' v v' small little after goes =
    let is_passed : t' - t ≡ passed = omega arith in
    let same : error * (t' - t) ≡ error * passed = ap (λ n. error * n) is_passed in
    omega (arith, goes.least, goes.most)

-- a clock's value is that of a line of this slope, or less than one nanosecond and no more below it
pub record IsOnLine (slope from time value : ℕ) : Type 0 where
  pub below : F * value ≤ slope * time + from
  pub above : slope * time + from ≤ F * value + F

-- any two such values
pub IsOnLine-goes : (error slope from passed t v t' v' : ℕ) → t' ≡ t + passed
    → slope ≤ F + error → F ≤ slope + error
    → IsOnLine slope from t v → IsOnLine slope from t' v' → Goes error F F passed v v'
IsOnLine-goes error slope from passed t v t' v' after fast slow here there =
    let line : slope * t' ≡ slope * t + slope * passed = omega (arith, ap (λ n. slope * n) after) in
    let most = mul-le-mul_right passed fast in
    let least = mul-le-mul_right passed slow in
    record {
      least = omega (arith, line, most, least, here.below, there.above);
      most = omega (arith, line, most, least, here.above, there.below);
    }

-- R holds between the first item and each later one
abbrev pub WithEach : (Shown → Shown → Type 0) → Shown → List Shown → Type 0
WithEach R first [] = Unit {0}
WithEach R first (next ∷ later) = R first next × WithEach R first later

-- R holds between each item and each later one
abbrev pub InOrder : (Shown → Shown → Type 0) → Shown → List Shown → Type 0
InOrder R first [] = Unit {0}
InOrder R first (next ∷ later) = WithEach R first (next ∷ later) × InOrder R next later

-- so it does by their numbers
with_each : (R : Shown → Shown → Type 0) (first next : Shown) (later : List Shown)
    → WithEach R first (next ∷ later) → (number : ℕ) → R first (item next later number)
with_each R first next [] h number = h.0
with_each R first next (last ∷ later) h zero = h.0
with_each R first next (last ∷ later) h (suc number) = with_each R first last later h.1 number

in_order : (R : Shown → Shown → Type 0) → ((x : Shown) → R x x) → (first : Shown) (later : List Shown)
    → InOrder R first later → (i j : ℕ) → i ≤ j → R (item first later i) (item first later j)
in_order R same first [] h i j order = same first
in_order R same first (next ∷ later) h zero zero order = same first
in_order R same first (next ∷ later) h zero (suc j) order = with_each R first next later h.0 j
in_order R same first (next ∷ later) h (suc i) zero order = absurd (omega arith)
in_order R same first (next ∷ later) h (suc i) (suc j) order = in_order R same next later h.1 i j (omega arith)

-- the clocks keep these errors from one moment to a later one
pub record Runs (tv_error own_error : ℕ) (early late : Shown) : Type 0 where
  pub order : early.time ≤ late.time
  pub tv : RunsWithin tv_error early.time early.wall late.time late.wall
  pub own : RunsWithin own_error early.time early.own late.time late.own

-- at one moment nothing passes
Runs-same : (tv own : ℕ) (m : Shown) → Runs tv own m m
Runs-same tv own m = record {
  order = omega arith;
  tv = Goes-runs tv 0 0 0 m.time m.time m.wall m.wall (omega arith) (omega arith) (omega arith)
      (record { least = omega arith; most = omega arith });
  own = Goes-runs own 0 0 0 m.time m.time m.own m.own (omega arith) (omega arith) (omega arith)
      (record { least = omega arith; most = omega arith });
}

-- what a clock of such a world shows
shown_is : (value : ℕ) (clock : OwnClock) → Some (record { value = value; sleeps = 0 }) ≡ Some clock
    → (value ≡ clock.value) × (0 ≡ clock.sleeps)
shown_is value clock e =
    let made : OwnClock = record { value = value; sleeps = 0 } in
    let same : made ≡ clock = same_Some made clock e in
    (ap (λ (c : OwnClock). c.value) same, ap (λ (c : OwnClock). c.sleeps) same)

-- moments between each two of which the clocks keep their errors are a world
pub is_world_of : (own : Local) (answer : Answer) (who : ℕ) (first : Shown) (later : List Shown) → IsLocal own
    → InOrder (Runs answer.error own.error) first later
    → IsWorldFor (declared own answer) (world_of first later) who own
is_world_of own answer who first later ranges all =
    let runs = in_order (Runs answer.error own.error) (Runs-same answer.error own.error) first later all in
    record {
      keeps = record {
        order = λ i j h. (runs i j h).order;
        tv = λ i j h. (runs i j h).tv;
        sleeps = λ n i j a b h p q.
            let x = shown_is (item first later i).own a p in
            let y = shown_is (item first later j).own b q in
            omega (arith, x.1, y.1);
        companion = λ n i j a b h p q e.
            let x = shown_is (item first later i).own a p in
            let y = shown_is (item first later j).own b q in
            let ran = (runs i j h).own in
            omega (arith, x.0, y.0, ran.0, ran.1);
      };
      declared = omega arith;
      ranges = ranges;
    }

-- a reading of a companion's clock in such a world
pub reads_of : (who precision reading number : ℕ) (first : Shown) (later : List Shown)
    → IsWithin precision reading (item first later number).own
    → Reads (world_of first later) who number precision reading 0
reads_of who precision reading number first later near = record {
  clock = record { value = (item first later number).own; sleeps = 0 };
  shows = refl;
  awake = refl;
  near = near;
}
