-- What a visit of a watch tells, line by line, and when its observer ends it.
use Rattle.std.specs.Prelude.{ℕ, nat_lt, ◌-ℤ◌, List, [], ◌∷◌, ◌++◌, take, Bool, true, false, not, ◌&&◌, is_some}
use Rattle.std.specs.Prelude.{if◌then◌else◌, Option, Some, None, unwrap_or, Result, Ok, Err, codes, decimal, bytes_eq}
use Rattle.std.specs.List.{list_any}
use Rattle.std.specs.Option.{option_or}
use Rattle.std.specs.Result.{result_err}
use Rattle.css_model.specs.declared.Failure.{Failure}
use Rattle.css_model.specs.declared.Kind.{Kind}
use Rattle.css_model.specs.declared.Kind.TheVariants as kind
use Rattle.css_model.specs.declared.Message.{Message}
use Rattle.css_model.specs.declared.WcFault.{WcFault}
use Rattle.css_model.specs.History.{History, accepted_answers, wall_answer}
use Rattle.css_model.specs.WallClock.{Answer, Local, lo, hi}
use Rattle.css_model.specs.Wire.{decoded}
use Rattle.css_num.specs.Spans.{Interval}
use Rattle.css_num.specs.declared.control.Control.{Control}
use Rattle.css_num.specs.declared.timeline.Timeline.{Timeline}
use Rattle.css_outside.specs.Limits.{is_over}
use Rattle.css_span.specs.Frontiers.{Answers}
use Rattle.css_span.specs.WallSpans.{wall_span}
use Rattle.css_agree.specs.Disagreements.{disagree}
use Rattle.css_agree.specs.Told.{agreed_of}
use Rattle.css_agree.specs.declared.agreed.Agreed.{Agreed}
use Rattle.css_agree.specs.declared.agreed.Agreed.TheVariants as agreed
use Rattle.css_cii.specs.declared.state.State.{State}
use Rattle.css_tsmsg.specs.Controls.{control_of}
use Rattle.css_tsmsg.specs.declared.fault.TsFault.{TsFault}
use Rattle.css_client.specs.Landings.{with_judged}
use Rattle.css_client.specs.declared.landing.Landing.{Landing}
use Rattle.css_companion.specs.Contents.{next_number, told}
use Rattle.css_companion.specs.Meanings.{texts_of, state_of, timing_after}
use Rattle.css_companion.specs.declared.fault.CompanionFault.{CompanionFault}
use Rattle.css_companion.specs.declared.knowledge.Timing.{Timing}
use Rattle.css_companion.specs.declared.report.Cause.{Cause}
use Rattle.css_companion.specs.declared.report.Cause.TheVariants as cause
use Rattle.css_companion.specs.declared.report.Report.{Report}
use Rattle.css_companion.specs.declared.report.Report.TheVariants as report
use Rattle.css_drive.specs.CompanionReports.{report_at}
use Rattle.css_drive.specs.Notes.{Event, Slept, Turn, Dialled, Asked, Landed, Heard, Closed, Note, Happened, Reported}
use Rattle.css_drive.specs.declared.session.Session.{Session}
use Rattle.css_drive.specs.declared.session.Session.TheVariants as session
use Rattle.css_watch_lines.specs.Lines.{Line, Visit, Dial, StateTold, ControlTold, Unread, Answered, Refused}
use Rattle.css_watch_lines.specs.Lines.{SleptAt, Known, Unknown, line_text}
use Rattle.css_watch_lines.specs.Fronts.{front_of}
use Rattle.css_watch_lines.specs.Words.{failure_words, landing_words}
use Rattle.css_watch_lines.specs.declared.known.Known.{Known as Ticking}
use Rattle.css_watch_lines.specs.declared.known.Ticks.{Ticks}
use Rattle.css_watch.specs.Progress.{progress_after, judged, reports_now, tried_by, counted, told_number, is_open}
use Rattle.css_drive.specs.declared.parting.Parting.{Parting}
use Rattle.css_drive.specs.declared.parting.Parting.TheVariants as parting
use Rattle.css_watch.specs.declared.plan.Plan.{Plan}
use Rattle.css_watch.specs.declared.progress.Begun.{Begun}
use Rattle.css_watch.specs.declared.progress.Progress.{Progress}
use Rattle.css_watch.specs.declared.progress.Tried.{Tried}
use Rattle.css_watch.specs.declared.progress.Tried.TheVariants.{Never, Failed, Open}

-- ---- how far a visit came, in words
abbrev pub refused_words : Option Landing → List ℕ
refused_words None = []
refused_words (Some refusal) = codes "the last datagram was refused: " ++ landing_words refusal

abbrev pub waiting_words : ℕ → List ℕ
waiting_words count = codes "no response to " ++ decimal count ++ codes " requests"

-- what a visit lacks that can ask the wall clock and has no answer: the first that holds
abbrev pub lacks_response : Progress → List ℕ
lacks_response progress =
    if not progress.asked then codes "nothing was asked"
    else if nat_lt 0 progress.waiting then waiting_words progress.waiting
    else refused_words progress.refused

-- what a visit lacks that has no answer
abbrev pub lacks_answer : State → Progress → List ℕ
lacks_answer state progress =
    if not (is_some progress.cii_open) then codes "CII isn't open"
    else if not (is_some state.wc_url) then codes "no wcUrl"
    else if not (is_open progress.wc) then codes "WC isn't open"
    else lacks_response progress

-- what a visit lacks that has no control timestamp
abbrev pub lacks_timestamp : State → Progress → List ℕ
lacks_timestamp state progress =
    if not (is_some progress.cii_open) then codes "CII isn't open"
    else if not (is_some state.ts_url) then codes "no tsUrl"
    else if not (is_open progress.ts) then codes "TS isn't open"
    else codes "no text came"

-- whether a set lists a timeline with this selector
abbrev pub is_listed : List ℕ → List Timeline → Bool
is_listed selector timelines = list_any (λ timeline. bytes_eq timeline.selector selector) timelines

-- the selectors of these timelines, each behind a comma
abbrev pub further_words : List Timeline → List ℕ
further_words [] = []
further_words (timeline ∷ timelines) = codes ", " ++ (timeline.selector ++ further_words timelines)

-- the first eight selectors that a set lists
abbrev pub listed_words : List Timeline → List ℕ
listed_words [] = codes "no timeline"
listed_words (timeline ∷ timelines) = timeline.selector ++ further_words (take 7 timelines)

-- what a visit lacks that has a control timestamp and no interval: the wanted timeline, where the set doesn't list it
abbrev pub lacks_timeline : List ℕ → List Timeline → List ℕ
lacks_timeline selector timelines =
    if is_listed selector timelines then [] else codes "the set lists " ++ listed_words timelines

abbrev pub detail_of : List ℕ → Cause → State → Progress → List ℕ
detail_of selector cause.NoAnswer state progress = lacks_answer state progress
detail_of selector cause.NoTimestamp state progress = lacks_timestamp state progress
detail_of selector cause.Unavailable state progress = lacks_timeline selector (unwrap_or state.timelines [])
detail_of selector cause.NoRate state progress = lacks_timeline selector (unwrap_or state.timelines [])
detail_of selector _ state progress = []

-- ---- the line of a report
-- what a report with ticks tells
abbrev pub known_by : Ticks → Interval → Interval → Answer → Timing → Ticking
known_by ticks shared wall answer timing = record {
  ticks = ticks;
  agreed = shared;
  wall = wall;
  error = answer.error;
  rate = timing.rate;
  speed = timing.speed;
}

-- what all answers allow of the wall clock: the span that they share, which is all of it where they share none
abbrev pub agreed_in : Agreed → Interval → Interval
agreed_in (agreed.Within span) wall = span
agreed_in _ wall = wall

-- Ticks come with a span of the wall clock, with its answer and with a timing, never without.
abbrev pub with_ticks : ℕ → ℕ → Ticks → Agreed → Option Interval → Option Answer → Result Timing Cause → Line
with_ticks number reading ticks said (Some wall) (Some answer) (Ok timing) =
    Known number reading (known_by ticks (agreed_in said wall) wall answer timing)
with_ticks number reading ticks said _ _ _ = Unknown number reading cause.NoAnswer []

-- the line of a report with these ticks, at a reading after a history, where all answers say this together
abbrev pub ticks_line : Local → List ℕ → ℕ → ℕ → Ticks → Agreed → History → Line
ticks_line own selector number reading ticks said history =
    with_ticks number reading ticks said (wall_span own reading (accepted_answers own history))
    (wall_answer own history reading) (timing_after selector history)

abbrev pub said_of : Plan → ℕ → ℕ → Report → History → Progress → Agreed → Line
said_of plan number reading (report.None cause) history progress said =
    Unknown number reading cause (detail_of plan.run.companion.selector cause (state_of history) progress)
said_of plan number reading (report.Ticks lo hi) history progress said =
    ticks_line plan.run.companion.local plan.run.companion.selector number reading (record { lo = lo; hi = hi }) said
    history

-- the line of the report with this number at a reading after a history, where all answers say this together
abbrev pub report_line : Plan → ℕ → ℕ → History → Progress → Agreed → Line
report_line plan number reading history progress said =
    said_of plan number reading (report_at plan.run history reading) history progress said

-- ---- lines
-- where the visit begins
abbrev pub visit_lines : ℕ → Progress → List Line
visit_lines reading progress = if progress.entered then [] else Visit (told_number progress.begun.visits) reading ∷ []

-- where a sleep was noticed
abbrev pub slept_lines : ℕ → Progress → List Line
slept_lines reading progress = if progress.slept then SleptAt reading ∷ [] else []

-- the report that is made next, where these answers were accepted since the last sleep
abbrev pub due_line : Plan → ℕ → History → Progress → Answers → Line
due_line plan reading history progress answers =
    report_line plan (counted progress.begun.reports) reading history progress
    (agreed_of plan.run.companion.local reading answers)

-- the report that is due, if one is
abbrev pub report_lines : Plan → ℕ → History → Progress → Answers → List Line
report_lines plan reading history progress answers =
    if reports_now plan reading progress.begun then due_line plan reading history progress answers ∷ [] else []

abbrev pub turn_lines : Plan → ℕ → History → Progress → Answers → List Line
turn_lines plan reading history progress answers =
    report_lines plan reading history progress answers ++ (slept_lines reading progress ++ visit_lines reading progress)

-- whether two dials are told alike
abbrev pub is_same : Tried → Tried → Bool
is_same Never Never = true
is_same (Failed failure) (Failed other) = bytes_eq (failure_words failure) (failure_words other)
is_same Open Open = true
is_same _ _ = false

-- the outcome of the last dial of a service
abbrev pub last_dial : Kind → Progress → Tried
last_dial kind.Cii progress = progress.cii
last_dial kind.Wc progress = progress.wc
last_dial kind.Ts progress = progress.ts

-- where the outcome, or why the dial failed, differs from that of the dial before
abbrev pub dial_lines : Kind → Result ℕ Failure → Progress → List Line
dial_lines kind tried progress =
    if is_same (tried_by tried) (last_dial kind progress) then [] else Dial kind (result_err tried) ∷ []

abbrev pub type_in : Result Message WcFault → ℕ
type_in (Ok message) = message.message_type
type_in (Err fault) = 0

-- an answer, or why there is none
abbrev pub landing_line : Local → ℕ → List ℕ → Result Answer Landing → Line
landing_line own reading bytes (Ok answer) =
    Answered answer (type_in (decoded bytes)) reading (hi own answer reading -ℤ lo own answer reading)
landing_line own reading bytes (Err refusal) = Refused refusal bytes reading

-- the state after a text, unless the text is refused
abbrev pub state_lines : Result State CompanionFault → List Line
state_lines (Ok state) = StateTold state ∷ []
state_lines (Err fault) = []

-- what a text was read as
abbrev pub read_line : List ℕ → Result Control TsFault → Line
read_line text (Ok control) = ControlTold control
read_line text (Err fault) = Unread fault (front_of text)

abbrev pub text_lines : Session → List ℕ → History → List Line
text_lines session.Cii text history = state_lines (told (next_number (texts_of history)) (state_of history) text)
text_lines session.Ts text history = read_line text (control_of text) ∷ []

-- the lines of an event after a history, the newest first, where these answers were accepted since the last sleep
abbrev pub lines_by : Plan → Event → History → Progress → Answers → List Line
lines_by plan Slept history progress answers = []
lines_by plan (Turn reading) history progress answers = turn_lines plan reading history progress answers
lines_by plan (Dialled kind tried) history progress answers = dial_lines kind tried progress
lines_by plan (Asked reading) history progress answers = slept_lines reading progress
lines_by plan (Landed reading bytes) history progress answers =
    landing_line plan.run.companion.local reading bytes (judged plan history reading bytes)
    ∷ slept_lines reading progress
lines_by plan (Heard which text) history progress answers = text_lines which text history
lines_by plan (Closed which) history progress answers = []

-- ---- the answers
-- those that were accepted since the last sleep
abbrev pub answers_after : Plan → Event → History → Answers → Answers
answers_after plan Slept history answers = []
answers_after plan (Landed reading bytes) history answers = with_judged (judged plan history reading bytes) answers
answers_after plan _ history answers = answers

-- ---- when the observer ends a visit
-- whether the turn is the last of the watch, by its time since the watch's first turn
abbrev pub is_last : Plan → ℕ → Begun → Bool
is_last plan reading begun = is_over plan.run.limit (unwrap_or begun.first reading) reading

-- The turn is the last of the watch. The first visit's own run has that limit, and needs no observer to end.
abbrev pub late : Plan → ℕ → Begun → Option Parting
late plan reading begun = if nat_lt 1 begun.visits && is_last plan reading begun then Some parting.Late else None

-- CSS-TS had closed when the turn before began, so CSS-CII was heard once more since.
abbrev pub closed_before : Plan → ℕ → Progress → Option Parting
closed_before plan reading progress =
    if progress.ts_closed && not (is_last plan reading progress.begun) then Some (parting.Closed session.Ts) else None

-- CSS-CII ends a visit where it closes. CSS-TS doesn't yet: what CSS-CII has ready may say where it is now.
abbrev pub closed_at_once : Session → Option Parting
closed_at_once session.Cii = Some (parting.Closed session.Cii)
closed_at_once session.Ts = None

-- the answers disagree with the one that was just accepted
abbrev pub parting_at : Local → ℕ → Result Answer Landing → Answers → Option Parting
parting_at own reading (Ok answer) answers =
    if disagree own reading (answer ∷ answers) then Some parting.Disagree else None
parting_at own reading (Err refusal) answers = None

abbrev pub parting_by : Plan → Event → History → Progress → Answers → Option Parting
parting_by plan (Turn reading) history progress answers =
    option_or (late plan reading progress.begun) (closed_before plan reading progress)
parting_by plan (Landed reading bytes) history progress answers =
    parting_at plan.run.companion.local reading (judged plan history reading bytes) answers
parting_by plan (Closed which) history progress answers = closed_at_once which
parting_by plan _ history progress answers = None

-- ---- all of it
-- what a visit told
pub record Told : Type 0 where
  pub progress : Progress
  pub answers : Answers
  -- the newest first
  pub lines : List Line
  -- the first cause to end the visit, if there was one
  pub parting : Option Parting

abbrev pub told_first : Progress → Told
told_first progress = record { progress = progress; answers = []; lines = []; parting = None }

abbrev pub told_by : Plan → Note → Told → Told
told_by plan (Happened from event) was = record {
  progress = progress_after plan event from.history was.progress was.answers;
  answers = answers_after plan event from.history was.answers;
  lines = lines_by plan event from.history was.progress was.answers ++ was.lines;
  parting = option_or was.parting (parting_by plan event from.history was.progress was.answers);
}
told_by plan (Reported from number report) was = was

-- what a visit tells of these notes, the newest of which stands first, where it was this far before them
abbrev pub told_of : Plan → Progress → List Note → Told
told_of plan progress [] = told_first progress
told_of plan progress (note ∷ older) = told_by plan note (told_of plan progress older)

-- the text of lines, the newest of which stands first
abbrev pub text_of : List Line → List ℕ
text_of [] = []
text_of (line ∷ older) = text_of older ++ line_text line
