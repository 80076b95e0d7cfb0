-- The clock of one end, the television's or a companion's: whether the lines of a schedule that tell of it agree.
use Rattle.std.specs.Prelude.{ℕ, ◌-◌, nat_lt, pos, if◌then◌else◌, List}
use Rattle.std.specs.Prelude.{[], ◌∷◌, ◌+◌, ◌&&◌, ◌||◌, Bool, false, Option, Some, None, is_none, Result, Ok, Err}
use Rattle.std.specs.Int.{abs_diff}
use Rattle.std.specs.Option.{option_map, option_or}
use Rattle.std.specs.Result.{result_and, result_map_both}
use Rattle.css_moments.specs.Drifts.{Shown, Told, Showed, Slept, verdict}
use Rattle.css_moments.specs.declared.fault.DriftFault.{DriftFault}
use Rattle.css_moments.specs.declared.fault.DriftFault.TheVariants as drifts
use Rattle.css_meaning.specs.declared.fault.WorldFault.{WorldFault}
use Rattle.css_meaning.specs.declared.fault.WorldFault.TheVariants.{Broken}
use Rattle.css_meaning.specs.declared.reading.Reading.{Reading}

-- What a line tells of an end's clock: the line's number, true time, what the clock showed, and the end's reading of it
-- there, if it took one. The end may have slept just before the line.
pub record Seen : Type 0 where
  pub number : ℕ
  pub time : ℕ
  pub shown : ℕ
  pub reading : Option ℕ
  pub woke : Bool

-- ---- what the clock shows
abbrev pub shown_at : Seen → Shown
shown_at seen = record { line = seen.number; time = seen.time; value = seen.shown }

-- what the end's drift is told before a line: of the sleep from which the end wakes up there
abbrev pub told_with : (woke : Bool) → List Told → List Told
told_with woke older = if woke then Slept ∷ older else older

-- what the end's drift is told
abbrev pub told_by : List Seen → List Told
told_by [] = []
told_by (now ∷ older) = Showed (shown_at now) ∷ told_with now.woke (told_by older)

-- a drift that is broken, as a fault of the line
abbrev pub broken_by : DriftFault → WorldFault
broken_by (drifts.Broken earlier excess) = Broken earlier excess

-- true time doesn't fall, and the clock keeps its oscillator's error
abbrev pub clock_verdict : (error : ℕ) → (earlier : List Seen) → (now : Seen) → Result (Unit {0}) WorldFault
clock_verdict error earlier now =
    result_map_both (λ x. x) broken_by (verdict error (told_with now.woke (told_by earlier)) (shown_at now))

-- ---- what is read of it
-- the reading at a line
abbrev pub reading_at : Seen → Option Reading
reading_at seen = option_map (λ value. record { line = seen.number; value = value }) seen.reading

-- the last reading, of lines the newest of which stands first
abbrev pub last_reading : List Seen → Option Reading
last_reading [] = None
last_reading (now ∷ older) = option_or (reading_at now) (last_reading older)

-- whether the end slept since its last reading
abbrev pub has_woken : List Seen → Bool
has_woken [] = false
has_woken (now ∷ older) = is_none now.reading && (now.woke || has_woken older)

-- a reading differs from what the clock shows by no more than the precision
abbrev pub near_verdict : (number precision shown reading : ℕ) → Result (Unit {0}) WorldFault
near_verdict number precision shown reading =
    if nat_lt precision (abs_diff reading shown)
    then Err (Broken number (pos (abs_diff reading shown - precision))) else Ok tt

-- the least value that the next reading may have: it isn't below the last one, and after a sleep it is above that
abbrev pub least_after : (woken : Bool) → (last : ℕ) → ℕ
least_after woken last = if woken then last + 1 else last

abbrev pub least_next : (woken : Bool) → (last : Option Reading) → ℕ
least_next woken None = 0
least_next woken (Some last) = least_after woken last.value

-- the reading isn't below that
abbrev pub order_verdict : (woken : Bool) → (last : Option Reading) → (reading : ℕ) → Result (Unit {0}) WorldFault
order_verdict woken None reading = Ok tt
order_verdict woken (Some last) reading =
    if nat_lt reading (least_after woken last.value)
    then Err (Broken last.line (pos (least_after woken last.value - reading))) else Ok tt

-- first the precision is tested, and then the order
abbrev pub read_verdict : (number precision shown : ℕ) → (woken : Bool) → (last : Option Reading) → (reading : ℕ)
    → Result (Unit {0}) WorldFault
read_verdict number precision shown woken last reading =
    result_and (near_verdict number precision shown reading) (order_verdict woken last reading)

-- of the end's reading at a line, if it took one
abbrev pub reading_verdict : (number precision shown : ℕ) → (woken : Bool) → (last : Option Reading) → Option ℕ
    → Result (Unit {0}) WorldFault
reading_verdict number precision shown woken last None = Ok tt
reading_verdict number precision shown woken last (Some reading) =
    read_verdict number precision shown woken last reading
