-- Which code a call answers.
use Rattle.std.specs.Prelude.{◌+◌, min, ℕ, ℤ, pos, negsuc, ◌^◌, ◌≡◌, ◌≢◌, ◌≤◌, ◌<◌, ◌⊎◌, ◌||◌, ◌&&◌, ◌==◌, neg_ℤ}
use Rattle.std.specs.Prelude.{nat_le, nat_lt}
use Rattle.std.specs.Prelude.{int_lt}
use Rattle.std.specs.Prelude.{Bool, true, false, not, List, length, Option, Some, None, Result, Ok, Err, if◌then◌else◌}
use Rattle.css_model.specs.declared.TheConstants.{LIMIT}
use Rattle.css_num.specs.Spans.{Interval}
use Rattle.css_num.specs.declared.timeline.Timeline.{Timeline}
use Rattle.css_model.specs.Numbers.{max_local_error, max_local_precision}
use Rattle.std.specs.Str.{IsUtf8}
use Rattle.css_client.specs.declared.landing.Landing.{Landing}
use Rattle.css_client.specs.declared.landing.Landing.TheVariants as landings
use Rattle.css_cii.specs.declared.fault.CiiFault.TheVariants as reasons
use Rattle.css_companion.specs.Standing.{Companion, timing_now}
use Rattle.css_companion.specs.declared.knowledge.Timing.{Timing}
use Rattle.css_companion_c.specs.declared.follower.Follower.{Follower}
use Rattle.css_companion_c.specs.declared.presentations.PresentationBound.{PresentationBound}
use Rattle.css_companion.specs.declared.fault.CompanionFault.{CompanionFault}
use Rattle.css_companion.specs.declared.fault.CompanionFault.TheVariants as fault
use Rattle.css_companion.specs.declared.report.Cause.{Cause}
use Rattle.css_companion.specs.declared.report.Cause.TheVariants as cause
use Rattle.css_companion.specs.declared.report.Report.{Report}
use Rattle.css_companion.specs.declared.report.Report.TheVariants as report
pub use Rattle.css_companion_c.specs.declared.codes.TheConstants.{VERSION, DONE, MEMORY, RANGE, EARLY, CLOSED, NO_ROOM}
pub use Rattle.css_companion_c.specs.declared.codes.TheConstants.{TOO_WIDE}
pub use Rattle.css_companion_c.specs.declared.codes.TheConstants.{NOT_UTF8, UNDECODABLE, NOT_AN_ANSWER, UNASKED}
pub use Rattle.css_companion_c.specs.declared.codes.TheConstants.{IMPOSSIBLE, NOT_JSON, NOT_OBJECT, FIELD, MOVED}
pub use Rattle.css_companion_c.specs.declared.codes.TheConstants.{DISAGREE}
pub use Rattle.css_companion_c.specs.declared.codes.TheConstants.{NO_ANSWER, NO_TIMESTAMP, SESSION_CLOSED, UNREADABLE}
pub use Rattle.css_companion_c.specs.declared.codes.TheConstants.{UNAVAILABLE, NO_RATE, IS_NULL, NEVER, LONGEST_TEXT}

-- ---- groups
-- nothing has changed
abbrev pub ChangesNothing : ℕ → Type 0
ChangesNothing code = (0 < code) × (code < 16)

-- what came was taken in or refused, and the history goes on
abbrev pub GoesOn : ℕ → Type 0
GoesOn code = (code ≡ 0) ⊎ ((16 ≤ code) × (code < 48))

-- it is such a code
abbrev pub goes_on : ℕ → Bool
goes_on code = (code == 0) || (nat_le 16 code && nat_lt code 48)

-- the age of a handle after a call that came to this code, up to the greatest number of 64 bits
abbrev pub aged : ℕ → ℕ → ℕ
aged age code = if goes_on code then min (age + 1) 18446744073709551615 else age

-- ---- tests before a call
-- the code where there is a companion
abbrev pub if_open : Option Follower → (Companion → ℕ) → ℕ
if_open None code = CLOSED
if_open (Some follower) code = code follower.companion

-- the code where its answers haven't disagreed
abbrev pub if_agreeing : Follower → ℕ → ℕ
if_agreeing follower code = if follower.disagrees then DISAGREE else code

-- the code where there is a companion whose answers haven't disagreed
abbrev pub unless_noticed : Option Follower → (Companion → ℕ) → ℕ
unless_noticed None code = CLOSED
unless_noticed (Some follower) code = if_agreeing follower (code follower.companion)

-- the code at a reading that is in range and not early
abbrev pub at_reading : Companion → ℕ → ℕ → ℕ
at_reading companion reading code =
    if nat_le LIMIT reading then RANGE else if nat_lt reading companion.client.floor then EARLY else code

-- the code after the tests of the handle and of a reading
abbrev pub tested : Option Follower → ℕ → ℕ → ℕ
tested kept reading code = if_open kept (λ companion. at_reading companion reading code)

-- the code after the tests of a reading and of the answers
abbrev pub noticed_at : Follower → ℕ → ℕ
noticed_at follower reading = at_reading follower.companion reading (if_agreeing follower DONE)

-- the code after the tests of the handle, of a reading and of the answers
abbrev pub noticed : Option Follower → ℕ → ℕ
noticed None reading = CLOSED
noticed (Some follower) reading = noticed_at follower reading

-- the code where a text isn't too long
abbrev pub if_short : List ℕ → ℕ → ℕ
if_short text code = if nat_lt LONGEST_TEXT (length text) then RANGE else code

-- the code after the tests of the handle and of a text's length
abbrev pub heard : Option Follower → List ℕ → ℕ → ℕ
heard kept text code = if_open kept (λ companion. if_short text code)

-- The tests before the call decide, if they refuse it. Else the answer is this one, or there was want of memory.
abbrev pub Answers : ℕ → ℕ → ℕ → Type 0
Answers before code result =
    (before ≢ DONE → result ≡ before) × (before ≡ DONE → (result ≡ MEMORY) ⊎ (result ≡ code))

-- ---- what a call answers
-- what became of a datagram
abbrev pub landing_code : Landing → ℕ
landing_code landings.Accepted = DONE
landing_code (landings.Undecodable reason) = UNDECODABLE
landing_code landings.NotAnAnswer = NOT_AN_ANSWER
landing_code landings.Unasked = UNASKED
landing_code (landings.Impossible width) = IMPOSSIBLE

-- why a text is refused
abbrev pub fault_code : CompanionFault → ℕ
fault_code (fault.BadCii number reasons.NotJson) = NOT_JSON
fault_code (fault.BadCii number reasons.NotObject) = NOT_OBJECT
fault_code (fault.BadCii number (reasons.Field name)) = FIELD
fault_code (fault.BadCii number reasons.Memory) = MEMORY
fault_code (fault.Moved name old new) = MOVED
fault_code fault.Memory = MEMORY

-- what becomes of a text
abbrev pub owed_code : {T : Type 0} → Result T CompanionFault → ℕ
owed_code (Ok owed) = DONE
owed_code (Err reason) = fault_code reason

-- why there are no ticks
abbrev pub cause_code : Cause → ℕ
cause_code cause.NoAnswer = NO_ANSWER
cause_code cause.NoTimestamp = NO_TIMESTAMP
cause_code cause.SessionClosed = SESSION_CLOSED
cause_code (cause.Unreadable reason) = UNREADABLE
cause_code cause.Unavailable = UNAVAILABLE
cause_code cause.NoRate = NO_RATE

-- a number fits 64 bits
abbrev pub is_narrow : ℤ → Bool
is_narrow number =
    not (int_lt number (negsuc 9223372036854775807)) && not (int_lt (pos 9223372036854775807) number)

-- both ends of an interval, where they fit 64 bits
abbrev pub narrow_code : ℤ → ℤ → ℕ
narrow_code lo hi = if is_narrow lo && is_narrow hi then DONE else TOO_WIDE

-- a span of the wall clock, if there is one
abbrev pub span_code : Option Interval → ℕ
span_code None = NO_ANSWER
span_code (Some span) = narrow_code span.lo span.hi

-- a report
abbrev pub report_code : Report → ℕ
report_code (report.None why) = cause_code why
report_code (report.Ticks lo hi) = narrow_code lo hi

-- a text and the room for it
abbrev pub room_code : List ℕ → ℕ → ℕ
room_code text room = if nat_lt room (length text) then NO_ROOM else DONE

-- the text of a property, which may be null
abbrev pub value_code : Option (List ℕ) → ℕ → ℕ
value_code None room = IS_NULL
value_code (Some text) room = room_code text room

-- a property, by its number
abbrev pub field_code : ℕ → Option (List ℕ) → ℕ → ℕ
field_code number value room = if nat_lt 7 number then RANGE else value_code value room

-- a timeline, and the room for its selector
abbrev pub timeline_code : Option Timeline → ℕ → ℕ
timeline_code None room = IS_NULL
timeline_code (Some timeline) room = room_code timeline.selector room

-- a number or a length that a companion can't have
abbrev pub out_of_range : List ℕ → List ℕ → ℕ → ℕ → Bool
out_of_range selector stem error precision =
    nat_lt LONGEST_TEXT (length selector) || nat_lt LONGEST_TEXT (length stem)
    || nat_lt max_local_error error || nat_lt max_local_precision precision

-- both texts are UTF-8
abbrev pub AreUtf8 : List ℕ → List ℕ → Type 0
AreUtf8 selector stem = IsUtf8 selector × IsUtf8 stem

-- Why no companion is made: a number is out of range, or else a text isn't UTF-8, or else there is no memory.
abbrev pub Refuses : List ℕ → List ℕ → ℕ → ℕ → ℕ → Type 0
Refuses selector stem error precision code =
    ((code ≡ RANGE) × (out_of_range selector stem error precision ≡ true))
    ⊎ ((out_of_range selector stem error precision ≡ false)
    × (((code ≡ NOT_UTF8) × (AreUtf8 selector stem → ⊥)) ⊎ ((code ≡ MEMORY) × AreUtf8 selector stem)))

-- both numbers of a bound can be told
abbrev pub is_time : PresentationBound → Bool
is_time bound =
    int_lt (neg_ℤ (pos (10 ^ 18))) bound.content && int_lt bound.content (pos (10 ^ 18)) && nat_lt bound.wall (2 ^ 63)

-- the tests of a window
abbrev pub window_code : PresentationBound → PresentationBound → ℕ
window_code earliest latest = if is_time earliest && is_time latest then DONE else RANGE

-- the code where the companion goes by a timing
abbrev pub timed_code : Result Timing Cause → ℕ
timed_code (Err why) = cause_code why
timed_code (Ok timing) = DONE

-- whether readings of a tick can be told
abbrev pub searched : Companion → ℕ
searched companion =
    if length companion.client.estimate.kept == 0 then NO_ANSWER else timed_code (timing_now companion)

-- The tests decide, if they refuse the call. Else there are readings, or there are none.
abbrev pub Searches : ℕ → ℕ → Type 0
Searches before result =
    (before ≢ DONE → result ≡ before) × (before ≡ DONE → (result ≡ DONE) ⊎ (result ≡ NEVER))
