-- The drifting world keeps its errors, its clocks are in range, and they show what is read off them.
use Rattle.std.proofs.Common.{◌≡◌, ℕ, ◌+◌, ◌*◌, ◌<◌, ◌≤◌, min, refl, arith, ap, Bool, true, false}
use Rattle.std.specs.Prelude.{Some, None, ◌==◌, ◌||◌, if◌then◌else◌}
use Rattle.std.proofs.lemmas.Option.{cond_some}
use Rattle.css_model.specs.Numbers.{IsWithin}
use Rattle.css_model.specs.declared.TheConstants.{LIMIT}
use Rattle.css_model.specs.World.{OwnClock, RunsWithin, Reads, KeepsErrors, IsWorldFor, IsInRange}
use Rattle.css_premises.specs.Drifting.{shown, drifting, errors, own}

-- the clock that a companion has is the one that the world gives
same_clock : (has : Bool) (clock a : OwnClock) → (if has then Some clock else None) ≡ Some a
    → (clock.value ≡ a.value) × (clock.sleeps ≡ a.sleeps)
same_clock has clock a e =
    let same = cond_some has clock a e in
    (ap (λ (c : OwnClock). c.value) same.1, ap (λ (c : OwnClock). c.sleeps) same.1)

-- either companion's clock keeps 500 ppm
runs : (which : Bool) (i j : ℕ) → i ≤ j
    → RunsWithin 128000 (500000 * min i 24) (shown which (min i 24)) (500000 * min j 24) (shown which (min j 24))
runs true i j h = omega arith
runs false i j h = omega arith

-- and shows less than the limit
below : (which : Bool) (i : ℕ) → shown which (min i 24) < LIMIT
below true i = omega arith
below false i = omega arith

keeps : KeepsErrors errors drifting
keeps = record {
  order = λ i j h. omega arith;
  tv = λ i j h. omega arith;
  sleeps = λ who i j a b h p q.
      let first = same_clock (who == 1 || who == 2) _ a p in
      let last = same_clock (who == 1 || who == 2) _ b q in
      omega (arith, first.1, last.1);
  companion = λ who i j a b h p q e.
      let first = same_clock (who == 1 || who == 2) _ a p in
      let last = same_clock (who == 1 || who == 2) _ b q in
      let near = runs (who == 1) i j h in
      omega (arith, first.0, last.0, near.0, near.1);
}

-- so it is a world for each companion
pub is_world : (who : ℕ) → IsWorldFor errors drifting who own
is_world who = record {
  keeps = keeps;
  declared = omega arith;
  ranges = record { error = omega arith; precision = omega arith };
}

pub in_range : IsInRange drifting
in_range = record {
  tv = λ i. omega arith;
  companion = λ who i a p.
      let same = same_clock (who == 1 || who == 2) _ a p in
      let small = below (who == 1) i in
      omega (arith, same.0, small);
}

-- a reading of the clock of companion 1, and one of that of companion 2
pub first_reads : (i reading : ℕ) → IsWithin 1000 reading (1000000 + 499750 * min i 24)
    → Reads drifting 1 i 1000 reading 0
first_reads i reading near =
    record { clock = record { value = shown true (min i 24); sleeps = 0 }; shows = refl; awake = refl; near = near }

pub second_reads : (i reading : ℕ) → IsWithin 1000 reading (2000000 + 500050 * min i 24)
    → Reads drifting 2 i 1000 reading 0
second_reads i reading near =
    record { clock = record { value = shown false (min i 24); sleeps = 0 }; shows = refl; awake = refl; near = near }
