-- What becomes of a line of a schedule after the lines before it, the newest of which stands first.
use Rattle.std.specs.Prelude.{ℕ, ℤ, ◌-◌, ◌==◌, ◌&&◌, Bool, true, false, not, if◌then◌else◌, map, List, [], length}
use Rattle.std.specs.Prelude.{Option, Some, None, is_some, unwrap_or, slice_get, Result, Ok, Err, FitsSigned}
use Rattle.std.specs.Int.{w8}
use Rattle.std.specs.Option.{option_map}
use Rattle.std.specs.List.{filter}
use Rattle.std.specs.Result.{result_and}
use Rattle.css_num.specs.Spans.{Interval}
use Rattle.css_model.specs.Numbers.{precision_ns}
use Rattle.css_model.specs.WallClock.{Local, IsLocal}
use Rattle.css_model.specs.History.{History, accepted_answers}
use Rattle.css_span.specs.WallSpans.{wall_span}
use Rattle.css_player.specs.Events.{player_of}
use Rattle.css_num.specs.declared.protocol.Kind.TheVariants as kind
use Rattle.css_sessions.specs.Told.{sessions_of}
use Rattle.css_tv.specs.Outcomes.{Outcome, outcome}
use Rattle.css_tv.specs.Standing.{calls_of}
use Rattle.css_tv.specs.declared.event.TvEvent.{TvEvent}
use Rattle.css_tv.specs.declared.fault.TvFault.{TvFault}
use Rattle.css_tv.specs.declared.fault.TvFault.TheVariants as tv
use Rattle.css_companion.specs.Meanings.{report_after, assigned_after}
use Rattle.css_companion.specs.Printed.{line_of}
use Rattle.css_companion.specs.declared.report.Report.{Report}
use Rattle.css_schedule.specs.declared.header.Header.{Header}
use Rattle.css_schedule.specs.Owners.{is_sleep}
use Rattle.css_schedule.specs.Ranges.{IsHeader, IsCount}
use Rattle.css_schedule.specs.declared.line.Verb.{Verb}
use Rattle.css_schedule.specs.declared.line.Verb.TheVariants.{Ask, Take, Give, Land, Wall, Print}
use Rattle.css_schedule.specs.declared.line.Verb.TheVariants.{Viewer, Opening, Bring, Up, Present, Close}
use Rattle.css_meaning.specs.declared.fault.WorldFault.{WorldFault}
use Rattle.css_meaning.specs.declared.fault.WorldFault.TheVariants.{Absent, Player, Memory}
use Rattle.css_meaning.specs.Numbering.{numbered}
use Rattle.css_meaning.specs.Sessions.{addresses, peer_of, setup_of, is_open, was_opened, next_down, next_up}
use Rattle.css_meaning.specs.Happened.{Numbered, requests, tickets, made_for, is_given, event_by, events_of}
use Rattle.css_meaning.specs.Happened.{history_of}
use Rattle.css_meaning.specs.Clocks.{Seen, clock_verdict, last_reading, has_woken, reading_verdict}
use Rattle.css_meaning.specs.Printed.{wall_text}

-- what companion `who` takes its own clock for; a header has so many companions
abbrev pub local_of : ℕ → Header → Local
local_of who header = unwrap_or (option_map (λ companion. companion.local) (slice_get header.companions (who - 1)))
    (record { error = 0; precision = 0 })

-- What a header declares is in range: the precision exponent is one of a datagram, the oscillators' errors and the
-- precision of each companion's readings are bounded, and there are 1 to 16 companions.
pub record IsDeclared (header : Header) : Type 0 where
  pub tv : IsHeader header
  pub companions : IsCount (length header.companions)
  pub exponent : FitsSigned w8 header.tv_precision
  pub local : (who : ℕ) → IsLocal (local_of who header)

-- ---- broken
-- the television's reading of its wall clock at a verb
abbrev pub tv_reading : Verb → Option ℕ
tv_reading (Take request reading) = Some reading
tv_reading (Give take reading) = Some reading
tv_reading (Viewer reading command) = Some reading
tv_reading _ = None

-- a companion's reading of its own clock at a verb
abbrev pub own_reading : Verb → Option ℕ
own_reading (Ask reading) = Some reading
own_reading (Land datagram reading) = Some reading
own_reading (Wall reading) = Some reading
own_reading (Print reading) = Some reading
own_reading _ = None

-- what a line tells of the wall clock
abbrev pub tv_seen : Numbered → Seen
tv_seen now = record {
  number = now.number;
  time = now.line.t;
  shown = now.line.w;
  reading = tv_reading now.line.verb;
  woke = false;
}

-- what a line tells of its companion's clock
abbrev pub own_seen : Numbered → Seen
own_seen now = record {
  number = now.number;
  time = now.line.t;
  shown = now.line.l;
  reading = own_reading now.line.verb;
  woke = is_sleep now.line.verb;
}

-- what lines tell of the wall clock
abbrev pub seen_of_tv : List Numbered → List Seen
seen_of_tv lines = map tv_seen lines

-- what the lines of companion `who` tell of its clock
abbrev pub seen_of : ℕ → List Numbered → List Seen
seen_of who lines = map own_seen (filter (λ now. now.line.who == who) lines)

-- The clock of a line's companion is tested; a line with the number 0 gives none.
abbrev pub own_shown_tested : Header → List Numbered → Numbered → Result (Unit {0}) WorldFault
own_shown_tested header older now =
    if now.line.who == 0 then Ok tt
    else clock_verdict (local_of now.line.who header).error (seen_of now.line.who older) (own_seen now)

-- True time and what the clocks show: first the wall clock is tested, then the companion's.
abbrev pub shown_tested : Header → List Numbered → Numbered → Result (Unit {0}) WorldFault
shown_tested header older now =
    result_and (clock_verdict header.tv_error (seen_of_tv older) (tv_seen now)) (own_shown_tested header older now)

-- the reading that an end takes of its clock
abbrev pub reading_tested : Header → List Numbered → Numbered → Result (Unit {0}) WorldFault
reading_tested header older now =
    result_and (reading_verdict now.number (precision_ns header.tv_precision) now.line.w false
    (last_reading (seen_of_tv older)) (tv_reading now.line.verb))
    (reading_verdict now.number (local_of now.line.who header).precision now.line.l
    (has_woken (seen_of now.line.who older)) (last_reading (seen_of now.line.who older)) (own_reading now.line.verb))

-- the tests of a line's numbers, in their order
abbrev pub tested : Header → List Numbered → Numbered → Result (Unit {0}) WorldFault
tested header older now = result_and (shown_tested header older now) (reading_tested header older now)

-- ---- absent
-- whether a companion is this one
abbrev pub is_for : ℕ → Option ℕ → Bool
is_for who None = false
is_for who (Some owner) = owner == who

-- A request is received that was sent; an answer is given to a take that was made and has none; a datagram lands that
-- was made for companion `who`.
abbrev pub can_exchange : Header → List Numbered → ℕ → Verb → Bool
can_exchange header older who (Take request reading) = is_some (numbered request (requests older))
can_exchange header older who (Give take reading) =
    is_some (numbered take (tickets header older)) && not (is_given take older)
can_exchange header older who (Land datagram reading) = is_for who (numbered datagram (made_for header older))
can_exchange header older who _ = true

-- A session of companion `who` opens that was never open. A text comes that is in flight, while its session is open; a
-- presentation is sent, and a session is closed, while it is.
abbrev pub can_talk : ℕ → List TvEvent → History → Verb → Bool
can_talk who events own (Opening kind) = not (was_opened (peer_of who kind) own)
can_talk who events own (Bring kind) = is_open (peer_of who kind) own && is_some (next_down who kind events own)
can_talk who events own Up = is_open (peer_of who kind.Ts) own && is_some (next_up who events own)
can_talk who events own (Present earliest latest) = is_open (peer_of who kind.Ts) own
can_talk who events own (Close kind) = is_open (peer_of who kind) own
can_talk who events own _ = true

-- what a line of companion `who` says can happen
abbrev pub can_happen : Header → List Numbered → ℕ → Verb → Bool
can_happen header older who verb =
    can_exchange header older who verb && can_talk who (events_of header older) (history_of who header older) verb

-- ---- refused by the player
-- the outcome of an event of the television
abbrev pub outcome_after : List TvEvent → TvEvent → Result Outcome TvFault
outcome_after events e =
    let calls = calls_of addresses events in
    outcome addresses e (player_of calls.player) (sessions_of calls.sessions)

-- a television's fault
abbrev pub tv_fault : TvFault → WorldFault
tv_fault (tv.Player fault) = Player fault
tv_fault tv.Memory = Memory

-- whether the player refuses what happens at the television; want of memory is never meant
abbrev pub refused_by : Result Outcome TvFault → Result (Unit {0}) WorldFault
refused_by (Ok done) = Ok tt
refused_by (Err (tv.Player fault)) = Err (Player fault)
refused_by (Err tv.Memory) = Ok tt

abbrev pub played : List TvEvent → Option TvEvent → Result (Unit {0}) WorldFault
played events None = Ok tt
played events (Some e) = refused_by (outcome_after events e)

-- what a line makes happen at the television
abbrev pub event_at : Header → List Numbered → ℕ → Verb → Option TvEvent
event_at header older who verb = event_by who (events_of header older) (history_of who header older) verb

-- ---- printed
-- The span of the wall clock at a reading of companion `who`'s clock: that of the narrowest of all answers that it has
-- accepted so far.
abbrev pub span_at : ℕ → Header → List Numbered → ℕ → Option Interval
span_at who header older reading =
    wall_span (local_of who header) reading (accepted_answers (local_of who header) (history_of who header older))

-- the report of companion `who` at a reading of its clock
abbrev pub report_at : ℕ → Header → List Numbered → ℕ → Report
report_at who header older reading =
    report_after (local_of who header) (setup_of who header).selector (history_of who header older) reading

-- the position that the last control timestamp of companion `who` assigns to a value of the wall clock
abbrev pub assigned_at : ℕ → Header → List Numbered → ℕ → Option ℤ
assigned_at who header older wall = assigned_after (setup_of who header).selector (history_of who header older) wall

-- What is printed for a line: at `wall` the span, and the value that the line gives the wall clock; at `print` the
-- report, and the position that is assigned to that value.
abbrev pub printed_for : Header → List Numbered → Numbered → Verb → List ℕ
printed_for header older now (Wall reading) =
    wall_text now.number (span_at now.line.who header older reading) now.line.w
printed_for header older now (Print reading) =
    line_of now.number (report_at now.line.who header older reading) (assigned_at now.line.who header older now.line.w)
printed_for header older now _ = []

-- what is printed for a line that isn't broken; or that it can't happen, or why the player refuses it
abbrev pub carried_out : Header → List Numbered → Numbered → Result (List ℕ) WorldFault
carried_out header older now =
    if can_happen header older now.line.who now.line.verb
    then result_and (played (events_of header older) (event_at header older now.line.who now.line.verb))
    (Ok (printed_for header older now now.line.verb))
    else Err Absent

-- what is printed for a line, or why it is refused
abbrev pub line_meant : Header → List Numbered → Numbered → Result (List ℕ) WorldFault
line_meant header older now = result_and (tested header older now) (carried_out header older now)
