-- What a follower hears and says, and what a report makes of it. Lists have the newest first.
use Rattle.std.specs.Prelude.{◌≡◌, ℕ, List, [], ◌∷◌, Bool, true, false, if◌then◌else◌}
use Rattle.css_companion.specs.declared.report.Report.{Report}

-- what there is to see of a follower: the reports that it heard, what it said of each, and whether it is done
pub record Seen : Type 0 where
  pub heard : List Report
  pub spoken : List (List ℕ)
  pub done : Bool

-- a follower that says these bytes of a report, and is done after it or not
abbrev pub after : Report → List ℕ → Bool → Seen → Seen
after report says ends seen = record { heard = report ∷ seen.heard; spoken = says ∷ seen.spoken; done = ends }

-- one that is done stays as it is
abbrev pub told_unless : Bool → Report → List ℕ → Bool → Seen → Seen
told_unless true report says ends seen = seen
told_unless false report says ends seen = after report says ends seen

-- what a report makes of a follower that would say this of it, and would be done after it or not
abbrev pub told : Report → List ℕ → Bool → Seen → Seen
told report says ends seen = told_unless seen.done report says ends seen

-- What a follower says of a report after these that it heard, and whether it is done then.
pub record Plan : Type 0 where
  pub says : List Report → Report → List ℕ
  pub ends : List Report → Report → Bool

-- What one with this plan says of a report. One that is done says nothing.
abbrev pub says_by : Plan → Seen → Report → List ℕ
says_by plan seen report = if seen.done then [] else plan.says seen.heard report

-- Whether it is done after a report. One that is done stays so.
abbrev pub ends_by : Plan → Seen → Report → Bool
ends_by plan seen report = if seen.done then true else plan.ends seen.heard report

-- one that is done says nothing, and is done after any report
pub record RestsWhenDone (seen : Seen) (says : List ℕ) (ends : Bool) : Type 0 where
  pub silent : seen.done ≡ true → says ≡ []
  pub stays : seen.done ≡ true → ends ≡ true
