-- What a companion's run comes to.
use Rattle.std.specs.Prelude.{◌≡◌, ◌⊎◌, ℕ, List, [], ◌∷◌, map, take, drop, Option}
use Rattle.std.specs.Io.KnownBytes.{Appends}
use Rattle.std.specs.List.{flat_map}
use Rattle.css_model.specs.History.{History}
use Rattle.css_outside.specs.Outsides.{with_entries}
use Rattle.css_companion.specs.declared.report.Report.{Report}
use Rattle.css_drive.specs.CompanionDue.{due, IsProperRun}
use Rattle.css_drive.specs.CompanionReports.{due_reports, all_but_newest, HasWritten, KeepsPromises}
use Rattle.css_drive.specs.Ends.{MayEnd}
use Rattle.css_follow.specs.Listening.{Listener, HearEach, hearing, words_of}
use Rattle.css_drive.specs.declared.config.DriveConfig.{DriveConfig}
use Rattle.css_drive.specs.declared.driven.Driven.{Driven}
use Rattle.css_drive.specs.declared.driven.Driven.TheVariants as driven

-- ---- followers
-- what those who follow a run are after these reports, of which the newest stands first
abbrev pub after_all : List Report → List Listener → List Listener
after_all [] listeners = listeners
after_all (report ∷ older) listeners = map (hearing report) (after_all older listeners)

-- what all of them say at each of these reports, in their order
abbrev pub said_of : List Report → List Listener → List (List ℕ)
said_of [] listeners = []
said_of (report ∷ older) listeners = flat_map (words_of report) (after_all older listeners) ∷ said_of older listeners

-- The followers heard these reports, the newest first, and said these words at each: what each of them says by its plan
-- after what it heard before.
pub record Followed (reports : List Report) (said : List (List ℕ)) (before now : List Listener) : Type 0 where
  pub heard : now ≡ after_all reports before
  pub words : said ≡ said_of reports before

-- the first of them heard a report and said this of it, and the others are as before
abbrev pub HearFirst : Report → List Listener → List Listener → List ℕ → Type 0
HearFirst report before now words =
    (count : ℕ) × HearEach report (take count before) (take count now) words × (drop count now ≡ drop count before)

-- each of them heard the newest report, or only the first of them did
abbrev pub HeardNewest : List Report → List (List ℕ) → List Listener → List Listener → Type 0
HeardNewest (report ∷ reports) (words ∷ said) between now =
    HearEach report between now words ⊎ HearFirst report between now words
HeardNewest [] said between now = now ≡ between
HeardNewest (report ∷ reports) [] between now = ⊥

-- they heard all of these reports, the newest one aside
pub record FollowedInPart (reports : List Report) (said : List (List ℕ)) (before now : List Listener) : Type 0 where
  pub between : List Listener
  pub earlier : Followed (all_but_newest reports) (all_but_newest said) before between
  pub newest : HeardNewest reports said between now

-- What the followers of a run heard that ended so: all, but where a write failed or memory ran out.
abbrev pub HasFollowed : List Report → List (List ℕ) → List Listener → List Listener → Driven → Type 0
HasFollowed reports said before now driven.WriteFault = FollowedInPart reports said before now
HasFollowed reports said before now driven.Memory = FollowedInPart reports said before now
HasFollowed reports said before now _ = Followed reports said before now

-- ---- the run
-- A run's calls since `before` are these, the newest first, and each was due. The run ended where it may. The sink grew
-- by the line of each report that was due and what the followers say of it by their plans, and each interval is true.
pub record Ran (config : DriveConfig) (before now : Option History) (held holds : Option (List ℕ))
    (followers followed : List Listener) (ended : Driven) : Type 0 where
  pub history : History
  pub told : now ≡ with_entries history before
  pub proper : IsProperRun config history
  pub ends : MayEnd (due config history) ended
  pub promised : KeepsPromises config history
  pub said : List (List ℕ)
  pub bytes : List ℕ
  pub grew : Appends held holds bytes
  pub wrote : HasWritten (due_reports config history) said bytes ended
  pub listened : HasFollowed (due_reports config history) said followers followed ended
