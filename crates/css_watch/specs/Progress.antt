-- How far a visit of a watch came, by what its observer was told.
use Rattle.std.specs.Prelude.{ℕ, ◌+◌, ◌-◌, ◌^◌, min, List, ◌∷◌, Bool, true, false, not, ◌&&◌, ◌||◌, is_some}
use Rattle.std.specs.Prelude.{if◌then◌else◌}
use Rattle.std.specs.Prelude.{Option, Some, None, unwrap_or, Result, Ok, Err}
use Rattle.std.specs.Result.{is_ok}
use Rattle.css_model.specs.declared.Failure.{Failure}
use Rattle.css_model.specs.declared.Kind.{Kind}
use Rattle.css_model.specs.declared.Kind.TheVariants as kind
use Rattle.css_model.specs.History.{History}
use Rattle.css_model.specs.WallClock.{Answer, Local}
use Rattle.css_span.specs.Frontiers.{Answers}
use Rattle.css_agree.specs.Told.{agreed_of}
use Rattle.css_agree.specs.declared.agreed.Agreed.{Agreed}
use Rattle.css_agree.specs.declared.agreed.Agreed.TheVariants as agreed
use Rattle.css_client.specs.Landings.{judged_of}
use Rattle.css_client.specs.declared.landing.Landing.{Landing}
use Rattle.css_cii.specs.declared.state.State.{State}
use Rattle.css_companion.specs.Contents.{next_number, told}
use Rattle.css_companion.specs.Meanings.{texts_of, state_of}
use Rattle.css_companion.specs.declared.fault.CompanionFault.{CompanionFault}
use Rattle.css_companion.specs.declared.fault.CompanionFault.TheVariants as fault
use Rattle.css_companion.specs.declared.report.Report.{Report}
use Rattle.css_companion.specs.declared.report.Report.TheVariants as report
use Rattle.css_drive.specs.CompanionReports.{is_due, report_at}
use Rattle.css_drive.specs.Notes.{Event, Slept, Turn, Dialled, Asked, Landed, Heard, Closed}
use Rattle.css_drive.specs.declared.session.Session.{Session}
use Rattle.css_drive.specs.declared.session.Session.TheVariants as session
use Rattle.css_watch_lines.specs.declared.known.Between.{Between}
use Rattle.css_watch.specs.declared.plan.Plan.{Plan}
use Rattle.css_watch.specs.declared.progress.Begun.{Begun}
use Rattle.css_watch.specs.declared.progress.Progress.{Progress}
use Rattle.css_watch.specs.declared.progress.Tried.{Tried}
use Rattle.css_watch.specs.declared.progress.Tried.TheVariants.{Never, Failed, Open}

-- one more, up to the greatest number that is told
abbrev pub counted : ℕ → ℕ
counted count = min (count + 1) (10 ^ 18 - 1)

-- a number as a line tells it
abbrev pub told_number : ℕ → ℕ
told_number count = min count (10 ^ 18 - 1)

-- ---- the visits of a watch
-- nothing was begun
abbrev pub nothing_begun : Begun
nothing_begun = record { visits = 0; first = None; reports = 0; reached = false; found = false }

-- one more visit
abbrev pub with_visit : Begun → Begun
with_visit begun = record begun { visits = counted begun.visits }

-- how far a visit is that was just begun
abbrev pub fresh : Begun → Progress
fresh begun = record {
  begun = begun;
  entered = false;
  slept = false;
  cii = Never;
  wc = Never;
  ts = Never;
  cii_open = None;
  ts_open = None;
  ts_closed = false;
  asked = false;
  waiting = 0;
  refused = None;
  unread = None;
  between = None;
}

-- ---- turns and reports
-- whether a report of the watch is due in a turn that begins at this reading
abbrev pub reports_now : Plan → ℕ → Begun → Bool
reports_now plan reading begun = is_due plan.report_every reading begun.first begun.reports

abbrev pub has_ticks : Report → Bool
has_ticks (report.Ticks lo hi) = true
has_ticks (report.None cause) = false

-- with a report
abbrev pub with_report : Report → Begun → Begun
with_report report begun = record begun {
  reports = counted begun.reports;
  found = begun.found || has_ticks report;
}

-- with the report that is due, if one is
abbrev pub with_due : Option Report → Begun → Begun
with_due None begun = begun
with_due (Some report) begun = with_report report begun

-- with a turn that begins at this reading
abbrev pub with_turn : ℕ → Begun → Begun
with_turn reading begun = record begun { first = Some (unwrap_or begun.first reading) }

-- the report that is due in a turn after a history, if one is
abbrev pub report_due : Plan → ℕ → History → Begun → Option Report
report_due plan reading history begun =
    if reports_now plan reading begun then Some (report_at plan.run history reading) else None

-- with a dial of CSS-CII, which may have succeeded
abbrev pub with_dial : Bool → Begun → Begun
with_dial is_open begun = record begun { reached = begun.reached || is_open }

-- ---- what an event makes of the progress
abbrev pub after_sleep : Progress → Progress
after_sleep progress = record progress { slept = true; asked = false; waiting = 0; refused = None }

abbrev pub is_open : Tried → Bool
is_open Never = false
is_open (Failed failure) = false
is_open Open = true

-- whether CSS-TS was open and isn't any more
abbrev pub has_closed_ts : Progress → Bool
has_closed_ts progress = is_open progress.ts && not (is_some progress.ts_open)

-- after a turn, and its report, if one is due
abbrev pub after_turn : ℕ → Option Report → Progress → Progress
after_turn reading due progress = record progress {
  begun = with_due due (with_turn reading progress.begun);
  entered = true;
  slept = false;
  ts_closed = has_closed_ts progress;
}

abbrev pub tried_by : Result ℕ Failure → Tried
tried_by (Err failure) = Failed failure
tried_by (Ok peer) = Open

-- the peer of a session that a dial opened, else the one that was open
abbrev pub opened_by : Result ℕ Failure → Option ℕ → Option ℕ
opened_by (Err failure) was = was
opened_by (Ok peer) was = Some peer

abbrev pub after_dial : Kind → Result ℕ Failure → Progress → Progress
after_dial kind.Cii tried progress = record progress {
  begun = with_dial (is_ok tried) progress.begun;
  cii = tried_by tried;
  cii_open = opened_by tried progress.cii_open;
}
after_dial kind.Wc tried progress = record progress { wc = tried_by tried }
after_dial kind.Ts tried progress = record progress {
  ts = tried_by tried;
  ts_open = opened_by tried progress.ts_open;
}

abbrev pub after_request : Progress → Progress
after_request progress = record progress { slept = false; asked = true; waiting = counted progress.waiting }

-- why a datagram is refused, if it is
abbrev pub refusal_in : Result Answer Landing → Option Landing
refusal_in (Ok answer) = None
refusal_in (Err refusal) = Some refusal

-- the two answers of which it is told that they contradict each other
abbrev pub between_in : Agreed → Option Between
between_in (agreed.Disagree low high) = Some (record { above = low; below = high })
between_in _ = None

-- those of an answer that was just accepted, if one was, and of the answers before it
abbrev pub between_at : Local → ℕ → Result Answer Landing → Answers → Option Between
between_at own reading (Ok answer) answers = between_in (agreed_of own reading (answer ∷ answers))
between_at own reading (Err refusal) answers = None

abbrev pub after_landing : Result Answer Landing → Option Between → Progress → Progress
after_landing judged between progress = record progress {
  slept = false;
  waiting = 0;
  refused = refusal_in judged;
  between = between;
}

abbrev pub after_end : Session → Progress → Progress
after_end session.Cii progress = record progress { cii_open = None }
after_end session.Ts progress = record progress { ts_open = None }

-- a text of CSS-CII that is refused for what it says
abbrev pub unread_by : Result State CompanionFault → List ℕ → Option (List ℕ)
unread_by (Err (fault.BadCii number reason)) text = Some text
unread_by _ text = None

abbrev pub after_text : Session → List ℕ → History → Progress → Progress
after_text session.Cii text history progress = record progress {
  unread = unread_by (told (next_number (texts_of history)) (state_of history) text) text;
}
after_text session.Ts text history progress = progress

-- what a datagram tells that lands at this reading after a history
abbrev pub judged : Plan → History → ℕ → List ℕ → Result Answer Landing
judged plan history reading bytes = judged_of plan.run.companion.local history reading bytes

-- after an event after a history, where these answers were accepted since the last sleep
abbrev pub progress_after : Plan → Event → History → Progress → Answers → Progress
progress_after plan Slept history progress answers = after_sleep progress
progress_after plan (Turn reading) history progress answers =
    after_turn reading (report_due plan reading history progress.begun) progress
progress_after plan (Dialled kind tried) history progress answers = after_dial kind tried progress
progress_after plan (Asked reading) history progress answers = after_request progress
progress_after plan (Landed reading bytes) history progress answers =
    let judged-so = judged plan history reading bytes in
    after_landing judged-so (between_at plan.run.companion.local reading judged-so answers) progress
progress_after plan (Heard which text) history progress answers = after_text which text history progress
progress_after plan (Closed which) history progress answers = after_end which progress
