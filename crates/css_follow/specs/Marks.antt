-- How near the reports of a companion have come to a cue. Lists of reports have the newest first.
use Rattle.std.specs.Prelude.{ℕ, ℤ, ◌&&◌, Bool, false, int_le, int_lt, if◌then◌else◌, List, [], ◌∷◌, ◌++◌}
use Rattle.std.specs.Prelude.{codes}
use Rattle.std.specs.List.{list_any, list_all, flat_map}
use Rattle.css_companion.specs.declared.report.Report.{Report}
use Rattle.css_companion.specs.declared.report.Report.TheVariants.{Ticks, None}
use Rattle.css_follow.specs.declared.sheet.Cue.{Cue}

-- the report says that the timeline has reached the tick
abbrev pub is_passed : ℤ → Report → Bool
is_passed tick (Ticks lo hi) = int_le tick lo
is_passed tick (None cause) = false

-- the report says that the timeline may have reached the tick, and may not have
abbrev pub is_possible : ℤ → Report → Bool
is_possible tick (Ticks lo hi) = int_lt lo tick && int_le tick hi
is_possible tick (None cause) = false

-- one of these reports does
abbrev pub was_passed : ℤ → List Report → Bool
was_passed tick heard = list_any (is_passed tick) heard

abbrev pub was_possible : ℤ → List Report → Bool
was_possible tick heard = list_any (is_possible tick) heard

-- the line that says it of a cue
abbrev pub cue_line : Cue → List ℕ → List ℕ
cue_line cue words = codes "cue " ++ cue.name ++ words ++ 10 ∷ []

-- What is said of a cue at a report, where these were heard before: that it is passed, the first time that it is; or
-- that it is possible, the first time that it is, where it was never passed.
abbrev pub announced : List Report → Report → Cue → List ℕ
announced heard report cue =
    if was_passed cue.tick heard then []
    else if is_passed cue.tick report then cue_line cue (codes " passed")
    else if was_possible cue.tick heard then []
    else if is_possible cue.tick report then cue_line cue (codes " possible")
    else []

-- what is said of all cues, in the order of the sheet
abbrev pub all_announced : List Cue → List Report → Report → List ℕ
all_announced cues heard report = flat_map (announced heard report) cues

-- each cue was passed
abbrev pub are_passed : List Cue → List Report → Bool
are_passed cues heard = list_all (λ cue. was_passed cue.tick heard) cues
