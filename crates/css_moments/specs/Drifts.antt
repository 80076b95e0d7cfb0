-- What one clock showed at the lines of a schedule, and whether it keeps its oscillator's declared error. In each list
-- the newest stands first.
use Rattle.std.specs.Prelude.{ℕ, ◌-◌, ◌*◌, ◌<◌, ◌≤◌, ◌≡◌, nat_lt, ℤ, pos, ◌-ℤ◌, ◌*ℤ◌, ◌≤ℤ◌, ◌<ℤ◌, int_lt, neg_ℤ}
use Rattle.std.specs.Prelude.{unsigned_abs, if◌then◌else◌, ⊤, ◌⊎◌, ◌↔◌}
use Rattle.std.specs.Prelude.{List, [], ◌∷◌, ◌++◌, All, Option, Some, None, IfSome, Result, Ok, Err}
use Rattle.std.specs.Result.{result_and}
use Rattle.css_model.specs.declared.TheConstants.{F}
use Rattle.css_model.specs.WallClock.{least_by}
use Rattle.css_model.specs.World.{RunsWithin}
use Rattle.css_moments.specs.declared.fault.DriftFault.{DriftFault}
use Rattle.css_moments.specs.declared.fault.DriftFault.TheVariants.{Broken}

-- What the clock showed at a line of a schedule: the line's number, and true time and the clock's value in nanoseconds.
pub record Shown : Type 0 where
  pub line : ℕ
  pub time : ℕ
  pub value : ℕ

-- what a drift was told: what its clock showed at a line, or that its machine slept
pub data Told : Type 0 where
  Showed : (shown : Shown) → Told
  Slept : Told

-- ---- what was shown
-- at all lines
abbrev pub all_shown : List Told → List Shown
all_shown [] = []
all_shown (Showed shown ∷ older) = shown ∷ all_shown older
all_shown (Slept ∷ older) = all_shown older

-- at the last line, also where the machine slept after it
abbrev pub last_shown : List Told → Option Shown
last_shown [] = None
last_shown (Showed shown ∷ older) = Some shown
last_shown (Slept ∷ older) = last_shown older

-- at the lines since the last sleep: asleep the clock stands still for an unknown time, so the lines before say nothing
abbrev pub shown_lately : List Told → List Shown
shown_lately [] = []
shown_lately (Showed shown ∷ older) = shown ∷ shown_lately older
shown_lately (Slept ∷ older) = []

-- ---- the verdict on a line
-- By how much a clock broke its oscillator's error, in 1/256 ppm, from an earlier line to this one:
-- |(value' - value) - (time' - time)| * F - error * (time' - time) - F, in 1/F nanoseconds. The last F is one
-- nanosecond, since the clock shows whole ones. It is above 0 exactly where the error isn't kept.
abbrev pub excess : (error : ℕ) → (earlier now : Shown) → ℤ
excess error earlier now =
    let passed = pos now.time -ℤ pos earlier.time in
    let gained = (pos now.value -ℤ pos earlier.value) -ℤ passed in
    pos (F * unsigned_abs gained) -ℤ pos error *ℤ passed -ℤ pos F

-- of earlier lines, the newest first, the one with the greatest excess; of equals the first line
abbrev pub worst : (error : ℕ) → List Shown → (now : Shown) → Option Shown
worst error earlier now = least_by (λ shown. neg_ℤ (excess error shown now)) earlier

-- true time may not be below that of the last line
abbrev pub time_verdict : Option Shown → Shown → Result (Unit {0}) DriftFault
time_verdict None now = Ok tt
time_verdict (Some last) now =
    if nat_lt now.time last.time then Err (Broken last.line (pos (last.time - now.time))) else Ok tt

-- the excess from the worst earlier line may not be above 0
abbrev pub drift_verdict : (error : ℕ) → Option Shown → Shown → Result (Unit {0}) DriftFault
drift_verdict error None now = Ok tt
drift_verdict error (Some earlier) now =
    if int_lt (pos 0) (excess error earlier now) then Err (Broken earlier.line (excess error earlier now)) else Ok tt

-- the verdict on what the clock shows at a line: first true time is tested, then the clock's drift
abbrev pub verdict : (error : ℕ) → List Told → Shown → Result (Unit {0}) DriftFault
verdict error told now =
    result_and (time_verdict (last_shown told) now) (drift_verdict error (worst error (shown_lately told) now) now)

-- the line comes after the last one
abbrev pub IsNext : Option Shown → ℕ → Type 0
IsNext last line = IfSome last (λ shown. shown.line < line)

-- each line was accepted after those before it, and the numbers of lines rise
abbrev pub IsAccepted : (error : ℕ) → List Told → Type 0
IsAccepted error [] = ⊤
IsAccepted error (Slept ∷ older) = IsAccepted error older
IsAccepted error (Showed now ∷ older) = IsNext (last_shown older) now.line × (verdict error older now ≡ Ok tt)
    × IsAccepted error older

-- ---- what a verdict means
-- the oscillator keeps its error from an earlier line to this one
abbrev pub Keeps : (error : ℕ) → (earlier now : Shown) → Type 0
Keeps error earlier now = RunsWithin error earlier.time earlier.value now.time now.value

-- Between each line and each later one true time doesn't fall, and the oscillator keeps its error unless the machine
-- slept between.
abbrev pub EachPair : (error : ℕ) → List Told → Type 0
EachPair error [] = ⊤
EachPair error (Slept ∷ older) = EachPair error older
EachPair error (Showed now ∷ older) =
    All (λ earlier. earlier.time ≤ now.time) (all_shown older)
    × All (λ earlier. Keeps error earlier now) (shown_lately older)
    × EachPair error older

-- Where each line was accepted, each pair of lines keeps the error.
abbrev pub AcceptedKeeps : Type 0
AcceptedKeeps = (error : ℕ) (told : List Told) → IsAccepted error told → EachPair error told

-- no sleep is among these
abbrev pub NoSleep : List Told → Type 0
NoSleep [] = ⊤
NoSleep (Showed shown ∷ older) = NoSleep older
NoSleep (Slept ∷ older) = ⊥

-- The same of any two lines: `middle` is what was told between them.
abbrev pub AnyTwoKeep : Type 0
AnyTwoKeep = (error : ℕ) (newer middle older : List Told) (earlier now : Shown)
    → IsAccepted error (newer ++ Showed now ∷ (middle ++ Showed earlier ∷ older))
    → (earlier.time ≤ now.time) × (NoSleep middle → Keeps error earlier now)

-- A line is accepted after accepted lines exactly where true time isn't below the last one and the oscillator keeps its
-- error from each line since the last sleep.
abbrev pub AcceptsExactly : Type 0
AcceptsExactly = (error : ℕ) (told : List Told) (now : Shown) → IsAccepted error told
    → (verdict error told now ≡ Ok tt)
    ↔ (IfSome (last_shown told) (λ last. last.time ≤ now.time)
    × All (λ earlier. Keeps error earlier now) (shown_lately told))

-- true time is below that of the last line, and this much, in nanoseconds, is told
pub record FallsBack (told : List Told) (now : Shown) (fault : DriftFault) : Type 0 where
  pub last : Shown
  pub is_last : last_shown told ≡ Some last
  pub below : now.time < last.time
  pub is_told : fault ≡ Broken last.line (pos (last.time - now.time))

-- Of the lines since the last sleep, the newest first, this one has the greatest excess, above 0, and it is the first
-- line with it; its number and its excess are told.
pub record DriftsMost (error : ℕ) (told : List Told) (now : Shown) (fault : DriftFault) : Type 0 where
  pub earlier : Shown
  pub newer : List Shown
  pub older : List Shown
  pub is_among : shown_lately told ≡ newer ++ earlier ∷ older
  pub newer_no_greater : All (λ shown. excess error shown now ≤ℤ excess error earlier now) newer
  pub older_less : All (λ shown. excess error shown now <ℤ excess error earlier now) older
  pub above : pos 0 <ℤ excess error earlier now
  pub is_told : fault ≡ Broken earlier.line (excess error earlier now)

-- A line is refused for its true time, or for the drift from the worst of the earlier lines.
abbrev pub RefusesTheWorst : Type 0
RefusesTheWorst = (error : ℕ) (told : List Told) (now : Shown) (fault : DriftFault) → verdict error told now ≡ Err fault
    → FallsBack told now fault ⊎ DriftsMost error told now fault
