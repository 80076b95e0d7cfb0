-- What holds of every companion's run, by its calls alone.
use Rattle.std.specs.Prelude.{◌≡◌, ◌≤◌, ℕ, List, [], ◌∷◌, ◌++◌, length, drop, false, ℤ, Option, Some, None}
use Rattle.css_model.specs.History.{History, Entry, Slept, Clock, Sent, Dialled, Heard, Closed, Gone, just_taken}
use Rattle.css_companion.specs.declared.report.Report.{Report}
use Rattle.css_follow.specs.Following.{Seen}
use Rattle.css_drive.specs.CompanionDue.{due, IsProperRun}
use Rattle.css_drive.specs.CompanionReports.{due_reports, report_at}
use Rattle.css_drive.specs.CompanionRun.{Followed}
use Rattle.css_follow.specs.Listening.{Listener}
use Rattle.css_drive.specs.Proper.{Ends}
use Rattle.css_drive.specs.declared.config.DriveConfig.{DriveConfig}
use Rattle.css_drive.specs.declared.driven.Driven.TheVariants as driven
use Rattle.css_model.specs.declared.Why.{Why}
use Rattle.css_model.specs.declared.Why.TheVariants as why
use Rattle.css_model.specs.declared.Kind.{Kind}
use Rattle.css_model.specs.declared.Kind.TheVariants as kind
use Rattle.css_companion.specs.Meanings.{kind_of, state_of, report_after, assigned_after}
use Rattle.css_companion.specs.Printed.{line_of}

-- ---- reports and followers
-- A run never makes more reports than it is asked for, and where `Done` is due it has made as many.
pub record MakesReports (config : DriveConfig) (history : History) : Type 0 where
  pub within : length (due_reports config history) ≤ config.reports
  pub done : due config history ≡ Ends driven.Done → length (due_reports config history) ≡ config.reports

abbrev pub ReportsAreAsAsked : Type 0
ReportsAreAsAsked = (config : DriveConfig) (history : History) → 1 ≤ config.reports → IsProperRun config history
    → MakesReports config history

-- From the first to the second a follower heard a front part of these reports, of which the newest stands first: all
-- but the newest few. It spoke one text for each that it heard, and it missed none unless it is done.
pub record HasHeard (reports : List Report) (before now : Seen) : Type 0 where
  pub missed : ℕ
  pub heard : now.heard ≡ drop missed reports ++ before.heard
  pub texts : List (List ℕ)
  pub spoken : now.spoken ≡ texts ++ before.spoken
  pub one_each : length texts ≡ length (drop missed reports)
  pub all : now.done ≡ false → missed ≡ 0

-- each of them, in their order
abbrev pub EachHasHeard : List Report → List Listener → List Listener → Type 0
EachHasHeard reports [] [] = Unit {0}
EachHasHeard reports (before ∷ befores) (now ∷ nows) =
    HasHeard reports before.seen now.seen × EachHasHeard reports befores nows
EachHasHeard reports [] (now ∷ nows) = ⊥
EachHasHeard reports (before ∷ befores) [] = ⊥

-- Followers that followed a run have each heard it.
abbrev pub FollowersHear : Type 0
FollowersHear = (reports : List Report) (said : List (List ℕ)) (before now : List Listener)
    → Followed reports said before now → EachHasHeard reports before now

-- ---- what a history tells a companion
-- A live run and the replay of a schedule differ in the peers of their sessions and in the calls to which nothing came;
-- what is reported depends on what was told alone.

-- what an entry tells a companion
pub data Happening : Type 0 where
  -- the machine slept
  Sleep : Happening
  -- a datagram was sent
  Asks : (bytes : List ℕ) → Happening
  -- a datagram was taken, and directly after it the clock had this reading
  Lands : (bytes : List ℕ) → (reading : ℕ) → Happening
  -- a text of a session of CSS-CII, and one of a session of CSS-TS
  TellsCii : (bytes : List ℕ) → Happening
  TellsTs : (bytes : List ℕ) → Happening
  -- a session of CSS-TS was opened, and one closed
  BeginsTs : Happening
  EndsTs : Happening

abbrev pub landing : Option (List ℕ) → ℕ → Option Happening
landing None reading = None
landing (Some bytes) reading = Some (Lands bytes reading)

abbrev pub clocked : Why → ℕ → History → Option Happening
clocked why.Land reading older = landing (just_taken older) reading
clocked _ reading older = None

-- a text of a session of this kind, if it was dialled
abbrev pub text_of : Option Kind → List ℕ → Option Happening
text_of None bytes = None
text_of (Some kind.Wc) bytes = None
text_of (Some kind.Cii) bytes = Some (TellsCii bytes)
text_of (Some kind.Ts) bytes = Some (TellsTs bytes)

-- a session of this kind was opened
abbrev pub start_of : Kind → Option Happening
start_of kind.Ts = Some BeginsTs
start_of _ = None

-- the end of such a session
abbrev pub end_of : Option Kind → Option Happening
end_of None = None
end_of (Some kind.Wc) = None
end_of (Some kind.Cii) = None
end_of (Some kind.Ts) = Some EndsTs

abbrev pub happening_at : Entry → History → Option Happening
happening_at Slept older = Some Sleep
happening_at (Clock why reading) older = clocked why reading older
happening_at (Sent peer bytes) older = Some (Asks bytes)
happening_at (Dialled kind peer) older = start_of kind
happening_at (Heard peer bytes) older = text_of (kind_of peer older) bytes
happening_at (Closed peer) older = end_of (kind_of peer older)
happening_at (Gone peer) older = end_of (kind_of peer older)
happening_at _ older = None

abbrev pub with_happening : Option Happening → List Happening → List Happening
with_happening None earlier = earlier
with_happening (Some happening) earlier = happening ∷ earlier

-- all that a history tells a companion, the newest first
abbrev pub happenings : History → List Happening
happenings [] = []
happenings (entry ∷ older) = with_happening (happening_at entry older) (happenings older)

-- ---- the law
-- What a live run reports at a reading after one history is what a replay reports there after the other: the same
-- report, so the same line, of the same position and with the same state of the content.
pub record ReportAlike (config : DriveConfig) (live replayed : History) (reading : ℕ) : Type 0 where
  pub report : report_at config live reading
      ≡ report_after config.companion.local config.companion.selector replayed reading
  pub line : (number : ℕ) (position : Option ℤ) → line_of number (report_at config live reading) position
      ≡ line_of number (report_after config.companion.local config.companion.selector replayed reading) position
  pub position : (wall : ℕ) → assigned_after config.companion.selector live wall
      ≡ assigned_after config.companion.selector replayed wall
  pub state : state_of live ≡ state_of replayed

-- Histories that tell a companion the same give the same reports.
abbrev pub SameEventsAreReportedAlike : Type 0
SameEventsAreReportedAlike = (config : DriveConfig) (live replayed : History) (reading : ℕ)
    → happenings live ≡ happenings replayed → ReportAlike config live replayed reading
