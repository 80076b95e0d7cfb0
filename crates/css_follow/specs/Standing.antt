-- How the code of the two followers stands for what they heard and said. The notes of a follower have the oldest first.
use Rattle.std.specs.Prelude.{◌≡◌, ℕ, ℤ, Bool, true, false, int_le, if◌then◌else◌, List, [], ◌∷◌, map, reverse, codes}
use Rattle.std.specs.List.{count_by}
use Rattle.css_companion.specs.declared.report.Report.{Report}
use Rattle.css_companion.specs.declared.report.Report.TheVariants as report
use Rattle.css_follow.specs.declared.mark.Mark.{Mark}
use Rattle.css_follow.specs.declared.mark.Mark.TheVariants.{Ahead, Possible, Passed}
use Rattle.css_follow.specs.declared.notes.Note.{Note}
use Rattle.css_follow.specs.declared.sheet.Cue.{Cue}
use Rattle.css_follow.specs.declared.waiting.Waiting.{Waiting}
use Rattle.css_follow.specs.Following.{Seen}
use Rattle.css_follow.specs.Marks.{cue_line}
use Rattle.css_follow.specs.Widths.{is_interval}

-- the reports of notes, the newest first
abbrev pub heard_in : List Note → List Report
heard_in notes = reverse (map (λ note. note.report) notes)

-- the texts of notes, the newest first
abbrev pub spoken_in : List Note → List (List ℕ)
spoken_in notes = reverse (map (λ note. note.text) notes)

-- what there is to see of a follower with these notes
abbrev pub seen_by : List Note → Bool → Seen
seen_by notes done = record { heard = heard_in notes; spoken = spoken_in notes; done = done }

-- how many of them have an interval
abbrev pub intervals_in : List Note → ℕ
intervals_in notes = count_by (λ note. is_interval note.report) notes

-- ---- marks
-- how near a report comes to a tick
abbrev pub mark_at : ℤ → Report → Mark
mark_at tick (report.Ticks lo hi) = if int_le tick lo then Passed else if int_le tick hi then Possible else Ahead
mark_at tick (report.None cause) = Ahead

-- the nearer of two
abbrev pub later : Mark → Mark → Mark
later Passed other = Passed
later Possible Passed = Passed
later Possible _ = Possible
later Ahead other = other

-- how near the reports come to a tick, of which this was known before
abbrev pub mark_from : Mark → ℤ → List Note → Mark
mark_from mark tick [] = mark
mark_from mark tick (note ∷ notes) = mark_from (later mark (mark_at tick note.report)) tick notes

-- how near the reports of notes come to a tick
abbrev pub mark_after : ℤ → List Note → Mark
mark_after tick notes = mark_from Ahead tick notes

-- ---- cues and their marks
-- the cues alone
abbrev pub cues_in : List Waiting → List Cue
cues_in list = map (λ waiting. waiting.cue) list

-- a cue after these notes
abbrev pub waiting_after : List Note → Cue → Waiting
waiting_after notes cue = record { cue = cue; mark = mark_after cue.tick notes }

-- each cue has the mark of these notes
pub record AreMarked (notes : List Note) (list : List Waiting) : Type 0 where
  pub marks : list ≡ map (waiting_after notes) (cues_in list)

-- a cue after one more report
abbrev pub marked_by : Report → Waiting → Waiting
marked_by report waiting = record { cue = waiting.cue; mark = later waiting.mark (mark_at waiting.cue.tick report) }

-- what is said of a cue with this mark, where a report comes as near as that
abbrev pub news : Mark → Mark → Cue → List ℕ
news Passed mark cue = []
news Ahead Passed cue = cue_line cue (codes " passed")
news Possible Passed cue = cue_line cue (codes " passed")
news Ahead Possible cue = cue_line cue (codes " possible")
news before mark cue = []

-- what is said of it at a report
abbrev pub news_at : Report → Waiting → List ℕ
news_at report waiting = news waiting.mark (mark_at waiting.cue.tick report) waiting.cue

-- a mark that isn't followed by another
abbrev pub is_mark_passed : Mark → Bool
is_mark_passed Passed = true
is_mark_passed _ = false

-- it was passed
abbrev pub is_done : Waiting → Bool
is_done waiting = is_mark_passed waiting.mark
