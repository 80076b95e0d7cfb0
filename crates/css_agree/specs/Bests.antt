-- Which answers tell the two ends of the wall clock's span best, before the ends are rounded.
use Rattle.std.specs.Prelude.{ℕ, ◌≡◌, ◌-◌, ◌<◌, ◌==◌, ◌≤ℤ◌, int_lt, nat_lt, if◌then◌else◌}
use Rattle.std.specs.Prelude.{List, [], ◌∷◌, length, take, set}
use Rattle.std.specs.Prelude.{Option, Some, None, IfSome}
use Rattle.css_model.specs.WallClock.{Answer, Local, lower, upper}
use Rattle.css_agree.specs.declared.best.Best.{Best}
use Rattle.css_agree.specs.declared.best.Replaced.{Replaced}

-- of two answers the one with the greater lower end at the reading; of equals the one that landed earlier, or the first
abbrev pub higher_low : Local → ℕ → Answer → Answer → Answer
higher_low own reading first second =
    if int_lt (lower own first reading) (lower own second reading) then second
    else if int_lt (lower own second reading) (lower own first reading) then first
    else if nat_lt second.t4 first.t4 then second
    else first

-- of two answers the one with the lesser upper end at the reading; of equals the one that landed earlier, or the first
abbrev pub lesser_high : Local → ℕ → Answer → Answer → Answer
lesser_high own reading first second =
    if int_lt (upper own second reading) (upper own first reading) then second
    else if int_lt (upper own first reading) (upper own second reading) then first
    else if nat_lt second.t4 first.t4 then second
    else first

-- the better answer of two at each end
abbrev pub better_of : Local → ℕ → Best → Best → Best
better_of own reading first second = record {
  low = higher_low own reading first.low second.low;
  high = lesser_high own reading first.high second.high;
}

-- the best with one more, which comes later
abbrev pub better_than : Local → ℕ → Best → Option Best → Option Best
better_than own reading newer None = Some newer
better_than own reading newer (Some older) = Some (better_of own reading older newer)

-- the best at each end of some, the newest of which stands first
abbrev pub best_of : Local → ℕ → List Best → Option Best
best_of own reading [] = None
best_of own reading (newer ∷ older) = better_than own reading newer (best_of own reading older)

-- the best of one answer alone
abbrev pub alone : Answer → Best
alone answer = record { low = answer; high = answer }

-- What is kept with one more answer: it is compared with the best of its declared error, where there is one.
abbrev pub kept_with : Local → ℕ → Answer → List Best → List Best
kept_with own reading answer [] = alone answer ∷ []
kept_with own reading answer (best ∷ bests) =
    if best.low.error == answer.error
    then better_of own reading best (alone answer) ∷ bests
    else best ∷ kept_with own reading answer bests

-- what is kept of answers, the newest of which stands first, by their ends at one reading
abbrev pub bests_of : Local → ℕ → List Answer → List Best
bests_of own reading [] = []
bests_of own reading (newer ∷ older) = kept_with own reading newer (bests_of own reading older)

-- what made room for an answer has its place among these
abbrev pub HasPlace : Option Replaced → List Best → Type 0
HasPlace replaced bests = IfSome replaced (λ replaced. replaced.place < length bests)

-- what was kept before: without the last one, or with the one that made room
abbrev pub undone : Option Replaced → List Best → List Best
undone None bests = take (length bests - 1) bests
undone (Some replaced) bests = set bests replaced.place replaced.best

-- it says how to come back to the old ones
pub record Undoes (replaced : Option Replaced) (new old : List Best) : Type 0 where
  pub place : HasPlace replaced new
  pub back : undone replaced new ≡ old

-- two answers of one declared error have their lower ends in one order at all readings, and their upper ends too
pub record MoveAlike (own : Local) (first second : Answer) : Type 0 where
  pub lows : (r s : ℕ) → lower own first r ≤ℤ lower own second r → lower own first s ≤ℤ lower own second s
  pub highs : (r s : ℕ) → upper own first r ≤ℤ upper own second r → upper own first s ≤ℤ upper own second s

abbrev pub EndsMoveAlike : Type 0
EndsMoveAlike = (own : Local) (first second : Answer) → first.error ≡ second.error → MoveAlike own first second
