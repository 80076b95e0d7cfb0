-- What `Cues` says of reports, by the cues of its sheet.
use Rattle.std.specs.Prelude.{ℕ, Bool, List, ◌∷◌}
use Rattle.css_companion.specs.declared.report.Report.{Report}
use Rattle.css_follow.specs.declared.sheet.Cue.{Cue}
use Rattle.css_follow.specs.Following.{Seen, Plan, says_by, ends_by}
use Rattle.css_follow.specs.Marks.{all_announced, are_passed}

-- the cues of its sheet, and what there is to see of it
pub record Announcing : Type 0 where
  pub cues : List Cue
  pub seen : Seen

-- it says what is new of these cues, and is done when each of them was passed
abbrev pub plan_of : List Cue → Plan
plan_of cues = record { says = all_announced cues; ends = λ heard report. are_passed cues (report ∷ heard) }

-- so it does until it is done
abbrev pub says_of : Announcing → Report → List ℕ
says_of cues report = says_by (plan_of cues.cues) cues.seen report

abbrev pub ends_of : Announcing → Report → Bool
ends_of cues report = ends_by (plan_of cues.cues) cues.seen report
