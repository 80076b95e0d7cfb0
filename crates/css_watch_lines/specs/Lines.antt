-- What the lines of a watch tell, and the JSON object of each.
use Rattle.std.specs.Prelude.{◌≡◌, ℕ, ℤ, pos, List, [], ◌∷◌, ◌++◌, Option, Some, None, Ok, codes}
use Rattle.std.specs.Fmt.{signed_decimal}
use Rattle.serde_json.specs.Data.{Data, null, number, unsigned, string, array, object, no_items, item}
use Rattle.serde_json.specs.Data.{Members, no_members, member}
use Rattle.serde_json.specs.Find.{of_integer}
use Rattle.serde_json.specs.Written.{compact_text}
use Rattle.css_num.specs.Spans.{Interval}
use Rattle.css_num.specs.declared.control.Control.{Control}
use Rattle.css_num.specs.declared.control.Control.TheVariants.{Available, Unavailable}
use Rattle.css_model.specs.WallClock.{Answer}
use Rattle.css_model.specs.declared.Failure.{Failure}
use Rattle.css_model.specs.declared.Kind.{Kind}
use Rattle.css_text.specs.Readings.{object_of, members_or_fault}
use Rattle.css_cii.specs.States.{full_change}
use Rattle.css_cii.specs.Texts.{change_members, rate_data}
use Rattle.css_cii.specs.declared.state.State.{State}
use Rattle.css_tsmsg.specs.Controls.{control_data, times_data}
use Rattle.css_tsmsg.specs.declared.fault.TsFault.{TsFault}
use Rattle.css_client.specs.declared.landing.Landing.{Landing}
use Rattle.css_companion.specs.Printed.{cause_words, fault_words}
use Rattle.css_companion.specs.declared.report.Cause.{Cause}
use Rattle.css_watch_lines.specs.Words.{service_words, failure_words, landing_words, first_digits}
use Rattle.css_watch_lines.specs.declared.known.Between.{Between}
use Rattle.css_watch_lines.specs.declared.known.Known.{Known as Ticking}
use Rattle.css_watch_lines.specs.declared.known.Ticks.{Ticks}

-- what a line tells; `number` counts visits, or reports, from 1
pub data Line : Type 0 where
  -- a visit began: its number, and the reading
  Visit : ℕ → ℕ → Line
  -- the outcome of a dial: the service, and what the system said where it failed
  Dial : Kind → Option Failure → Line
  -- the state after a CII text
  StateTold : State → Line
  -- the control timestamp that a TS text was read as
  ControlTold : Control → Line
  -- a TS text wasn't readable: the fault, and the front of the text
  Unread : TsFault → List ℕ → Line
  -- an answer was accepted: its message type, the reading at which it landed, and the width of its span there
  Answered : Answer → ℕ → ℕ → ℤ → Line
  -- a datagram was refused: what became of it, its bytes, and the reading at which it landed
  Refused : Landing → List ℕ → ℕ → Line
  -- a sleep was noticed, at this reading
  SleptAt : ℕ → Line
  -- a report with ticks: its number, and the reading
  Known : ℕ → ℕ → Ticking → Line
  -- a report without ticks: its number, the reading, the cause, and how far the visit came
  Unknown : ℕ → ℕ → Cause → List ℕ → Line
  -- a visit ended: its number, and why
  Ended : ℕ → List ℕ → Line
  -- a visit ended with a CII text: its number, why, and the front of the text
  EndedBy : ℕ → List ℕ → List ℕ → Line
  -- a visit ended with two answers that contradict each other: its number, why, and the answers
  EndedBetween : ℕ → List ℕ → Between → Line

-- ---- values
-- a number of any size, as the text of its digits
abbrev pub digits : ℤ → Data
digits z = string (signed_decimal z)

-- a time in nanoseconds
abbrev pub time : ℕ → Data
time ns = digits (pos ns)

-- a number of at most 18 digits
abbrev pub whole : ℕ → Data
whole n = number (unsigned n)

-- the same of one that may be below zero
abbrev pub signed : ℤ → Data
signed z = number (of_integer z)

-- the first and the last tick
abbrev pub ticks_data : Ticks → Data
ticks_data ticks = array (item (digits ticks.lo) (item (digits ticks.hi) no_items))

-- the two ends of a span
abbrev pub span_data : Interval → Data
span_data span = array (item (digits span.lo) (item (digits span.hi) no_items))

-- an answer: its exchange, and what it declares
abbrev pub exchange_members : Answer → Members
exchange_members answer =
    member (codes "error") (whole answer.error)
    (member (codes "landed") (time answer.t4)
    (member (codes "originate") (time answer.t1)
    (member (codes "precision") (time answer.precision)
    (member (codes "receive") (time answer.t2)
    (member (codes "transmit") (time answer.t3) no_members)))))

abbrev pub exchange_data : Answer → Data
exchange_data answer = object (exchange_members answer)

-- two answers: the one above, and the one below
abbrev pub between_data : Between → Data
between_data between =
    array (item (exchange_data between.above) (item (exchange_data between.below) no_items))

-- ---- objects
-- a control timestamp, whose members are all null where the timeline isn't available
abbrev pub told_control : Control → Data
told_control (Available content wall speed) = control_data (Available content wall speed)
told_control Unavailable = times_data null null null

-- the members of each report
abbrev pub report_members : ℕ → ℕ → Members
report_members count reading =
    member (codes "event") (string (codes "report"))
    (member (codes "number") (whole count)
    (member (codes "reading") (time reading) no_members))

-- the members of an answer, but for those of its datagram
abbrev pub answer_members : Answer → Members
answer_members answer =
    member (codes "error") (whole answer.error)
    (member (codes "event") (string (codes "answer"))
    (member (codes "originate") (time answer.t1)
    (member (codes "precision") (time answer.precision)
    (member (codes "receive") (time answer.t2)
    (member (codes "transmit") (time answer.t3) no_members)))))

-- the members of a line's object, their names in alphabetical order
abbrev pub line_members : Line → Members
line_members (Visit count reading) =
    member (codes "event") (string (codes "visit"))
    (member (codes "number") (whole count)
    (member (codes "reading") (time reading) no_members))
line_members (Dial kind None) =
    member (codes "event") (string (codes "dial"))
    (member (codes "outcome") (string (codes "open"))
    (member (codes "service") (string (service_words kind)) no_members))
line_members (Dial kind (Some failure)) =
    member (codes "event") (string (codes "dial"))
    (member (codes "outcome") (string (codes "failed"))
    (member (codes "service") (string (service_words kind))
    (member (codes "why") (string (failure_words failure)) no_members)))
line_members (StateTold state) =
    member (codes "event") (string (codes "state"))
    (member (codes "state") (object (change_members (full_change state))) no_members)
line_members (ControlTold control) =
    member (codes "control") (told_control control)
    (member (codes "event") (string (codes "control")) no_members)
line_members (Unread fault text) =
    member (codes "event") (string (codes "control"))
    (member (codes "fault") (string (fault_words fault))
    (member (codes "text") (string text) no_members))
line_members (Answered answer kind landed width) =
    member (codes "error") (whole answer.error)
    (member (codes "event") (string (codes "answer"))
    (member (codes "landed") (time landed)
    (member (codes "originate") (time answer.t1)
    (member (codes "precision") (time answer.precision)
    (member (codes "receive") (time answer.t2)
    (member (codes "transmit") (time answer.t3)
    (member (codes "type") (whole kind)
    (member (codes "width") (digits width) no_members))))))))
line_members (Refused landing bytes landed) =
    member (codes "bytes") (string (first_digits bytes))
    (member (codes "event") (string (codes "refused"))
    (member (codes "fault") (string (landing_words landing))
    (member (codes "landed") (time landed) no_members)))
line_members (SleptAt reading) =
    member (codes "event") (string (codes "slept"))
    (member (codes "reading") (time reading) no_members)
line_members (Known count reading told) =
    member (codes "agreed") (span_data told.agreed)
    (member (codes "error") (whole told.error)
    (member (codes "event") (string (codes "report"))
    (member (codes "number") (whole count)
    (member (codes "rate") (rate_data told.rate)
    (member (codes "reading") (time reading)
    (member (codes "speed") (signed told.speed)
    (member (codes "ticks") (ticks_data told.ticks)
    (member (codes "wall") (span_data told.wall) no_members))))))))
line_members (Unknown count reading cause detail) =
    member (codes "cause") (string (cause_words cause))
    (member (codes "detail") (string detail)
    (member (codes "event") (string (codes "report"))
    (member (codes "number") (whole count)
    (member (codes "reading") (time reading) no_members))))
line_members (Ended count why) =
    member (codes "event") (string (codes "end"))
    (member (codes "number") (whole count)
    (member (codes "why") (string why) no_members))
line_members (EndedBy count why text) =
    member (codes "event") (string (codes "end"))
    (member (codes "number") (whole count)
    (member (codes "text") (string text)
    (member (codes "why") (string why) no_members)))
line_members (EndedBetween count why between) =
    member (codes "between") (between_data between)
    (member (codes "event") (string (codes "end"))
    (member (codes "number") (whole count)
    (member (codes "why") (string why) no_members)))

-- the value of a line
abbrev pub line_data : Line → Data
line_data line = object (line_members line)

-- ---- texts
-- the compact text of a value, and a line feed
unfoldable pub text_of : Data → List ℕ
text_of value = compact_text value ++ 10 ∷ []

-- the text of a line
abbrev pub line_text : Line → List ℕ
line_text line = text_of (line_data line)

-- the value's compact text, which is the line without its line feed, is read back as the value
pub record IsReadBack (value : Data) : Type 0 where
  pub reads : object_of (compact_text value) ≡ members_or_fault (Ok value)
