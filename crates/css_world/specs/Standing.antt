-- Which lines of a schedule a world stands for.
use Rattle.std.specs.Prelude.{ℕ, ◌≡◌, ◌<◌, ◌≤◌, false, if◌then◌else◌, map, List, [], ◌∷◌, ◌++◌, length}
use Rattle.std.specs.Prelude.{Option, Some, None, Result, Err, OnOk, IfSome}
use Rattle.std.specs.Option.{option_map, ForSome}
use Rattle.std.specs.Result.{result_map_both}
use Rattle.std.specs.List.{AllByRecursion}
use Rattle.css_num.specs.Gives.{GivesBy, LeavesBy}
use Rattle.css_model.specs.declared.TheConstants.{LIMIT}
use Rattle.css_model.specs.Numbers.{precision_ns}
use Rattle.css_model.specs.Wire.{encoded, request_at}
use Rattle.css_server.specs.Tickets.{Server, Ticket, response_to, follow_up_for}
use Rattle.css_server.specs.declared.server.Answered.{Answered}
use Rattle.css_server.specs.Exchanges as servers
use Rattle.css_tv.specs.Standing as tvs
use Rattle.css_tv.specs.declared.event.TvEvent.{TvEvent}
use Rattle.css_tv.specs.declared.event.TvEvent.TheVariants as tv_events
use Rattle.css_schedule.specs.declared.header.Header.{Header}
use Rattle.css_schedule.specs.declared.header.CompanionLine.{CompanionLine}
use Rattle.css_schedule.specs.declared.line.Line.{Line}
use Rattle.css_schedule.specs.declared.line.Verb.{Verb}
use Rattle.css_schedule.specs.declared.line.Verb.TheVariants as verbs
use Rattle.css_moments.specs.Standing as drifts
use Rattle.css_meaning.specs.declared.fault.WorldFault.{WorldFault}
use Rattle.css_meaning.specs.declared.fault.WorldFault.TheVariants as faults
use Rattle.css_meaning.specs.Numbering.{numbered, stored}
use Rattle.css_meaning.specs.Sessions.{addresses}
use Rattle.css_meaning.specs.Happened.{Numbered, requests, askers, tickets, taken_for, datagrams, made_for, is_given}
use Rattle.css_meaning.specs.Happened.{server_of}
use Rattle.css_meaning.specs.Happened.{events_of, history_of}
use Rattle.css_meaning.specs.Clocks.{Seen, told_by, last_reading, has_woken, least_next}
use Rattle.css_meaning.specs.Verdicts.{IsDeclared, local_of, own_reading, seen_of_tv, seen_of, shown_tested}
use Rattle.css_meaning.specs.Verdicts.{reading_tested}
use Rattle.css_meaning.specs.Verdicts.{can_happen, event_at, played, carried_out, line_meant}
use Rattle.css_meaning.specs.Accepted.{AreAccepted, IsNext}
use Rattle.css_meaning.specs.Truth.{IsTrueLine}
use Rattle.css_world.specs.declared.lane.Lane.{Lane}
use Rattle.css_world.specs.declared.television.Television.{Television}
use Rattle.css_world.specs.declared.both.Ends.{Ends}
use Rattle.css_world.specs.declared.clocks.Clocks.{Clocks}
use Rattle.css_world.specs.declared.watch.Watch.{Watch}
use Rattle.css_world.specs.Lanes.{LanesStand, IsLaneOf}

-- What both ends keep: the header, by which they were made; the television and the companions' lanes; and the oldest
-- first, the bytes of all requests with the companions that sent them, the companions whose requests were taken, and
-- the bytes of all datagrams with the companions that they answer.
pub record Kept : Type 0 where
  pub header : Header
  pub tv : Television
  pub lanes : List Lane
  pub requests : List (List ℕ)
  pub askers : List ℕ
  pub taken_for : List ℕ
  pub datagrams : List (List ℕ)
  pub made_for : List ℕ

-- what the ends of a schedule with this header keep
abbrev pub kept : Header → Ends → Kept
kept header ends = record {
  header = header;
  tv = ends.tv;
  lanes = ends.lanes.list.items;
  requests = ends.requests.items;
  askers = ends.askers.items;
  taken_for = ends.taken_for.items;
  datagrams = ends.datagrams.items;
  made_for = ends.made_for.items;
}

-- What a world keeps.
pub record World : Type 0 where
  pub header : Header
  pub clocks : Clocks
  pub ends : Ends

-- a server declares what it did before
pub record DeclaresTheSame (old new : Server) : Type 0 where
  pub precision : new.precision ≡ old.precision
  pub error : new.error ≡ old.error
  pub follow : new.follow ≡ old.follow

-- ---- the clocks
-- A watch is that of an oscillator and a precision. Its drift was told of what the end's clock showed, and its last
-- reading and whether the end slept since are those that were read.
pub record WatchStands (allowed near : ℕ) (shown read : List Seen) (watch : Watch) : Type 0 where
  pub error : watch.drift.error ≡ allowed
  pub precision : watch.precision ≡ near
  pub drift : drifts.StandsFor watch.drift (told_by shown)
  pub last : watch.last ≡ last_reading read
  pub woken : watch.woken ≡ has_woken read

-- The clocks were shown some lines, and read at some.
pub record ClocksStand (header : Header) (clocks : Clocks) (shown read : List Numbered) : Type 0 where
  pub tv : WatchStands header.tv_error (precision_ns header.tv_precision) (seen_of_tv shown) (seen_of_tv read) clocks.tv
  pub count : length clocks.own.items ≡ length header.companions
  pub own : (who : ℕ) (watch : Watch) → stored clocks.own.items who ≡ Some watch
      → WatchStands (local_of who header).error (local_of who header).precision (seen_of who shown) (seen_of who read)
      watch

-- a new watch for each of these companions
abbrev pub IsNew : CompanionLine → Watch → Type 0
IsNew declared watch = WatchStands declared.local.error declared.local.precision [] [] watch

pub record AreNew (companions : List CompanionLine) (own : List Watch) : Type 0 where
  pub count : length own ≡ length companions
  pub each : (who : ℕ) (declared : CompanionLine) (watch : Watch) → stored companions who ≡ Some declared
      → stored own who ≡ Some watch → IsNew declared watch

-- the clocks answered what the lines before told them of a line, and were then shown it too
abbrev pub ShowsBy : Clocks → Result (Unit {0}) WorldFault → Numbered → Type 0
ShowsBy old result now = (header : Header) (lines : List Numbered) → ClocksStand header old lines lines
    → result ≡ shown_tested header lines now

abbrev pub ShownTo : Clocks → Clocks → Result (Unit {0}) WorldFault → Numbered → Type 0
ShownTo old new result now = (header : Header) (lines : List Numbered) → ClocksStand header old lines lines
    → OnOk result (ClocksStand header new (now ∷ lines) lines)

-- the reading of a line was tested by those of the lines before, and is then the last one
abbrev pub ReadsBy : Clocks → Result (Unit {0}) WorldFault → Numbered → Type 0
ReadsBy old result now = (header : Header) (shown lines : List Numbered) → ClocksStand header old shown lines
    → result ≡ reading_tested header lines now

abbrev pub ReadTo : Clocks → Clocks → Result (Unit {0}) WorldFault → Numbered → Type 0
ReadTo old new result now = (header : Header) (shown lines : List Numbered) → ClocksStand header old shown lines
    → OnOk result (ClocksStand header new shown (now ∷ lines))

-- the line comes after the last one that each drift was told of
pub record AreNext (clocks : Clocks) (number : ℕ) : Type 0 where
  pub tv : ForSome clocks.tv.drift.last (λ last. last.line < number)
  pub own : (who : ℕ) (watch : Watch) → stored clocks.own.items who ≡ Some watch
      → ForSome watch.drift.last (λ last. last.line < number)

-- the reading isn't below the least one that companion `who` may take next of its clock
abbrev pub MayRead : ℕ → List Numbered → ℕ → Type 0
MayRead who lines reading = least_next (has_woken (seen_of who lines)) (last_reading (seen_of who lines)) ≤ reading

-- ---- what is stored
-- Items, the oldest first, are those of a list with the newest first, each as it is seen.
pub record AreStored {A B : Type 0} (see : ℕ → A → B) (items : List B) (newest_first : List A) : Type 0 where
  pub count : length items ≡ length newest_first
  pub each : (number : ℕ) → stored items number ≡ option_map (see number) (numbered number newest_first)

-- a request as the bytes of its datagram
abbrev pub request_bytes : ℕ → ℕ → List ℕ
request_bytes number reading = encoded (request_at reading)

-- a companion's number
abbrev pub owner : ℕ → ℕ → ℕ
owner number who = who

-- a ticket, and None once it is answered
abbrev pub open_ticket : List Numbered → ℕ → Ticket → Option Ticket
open_ticket lines take ticket = if is_given take lines then None else Some ticket

-- ---- the ends
-- The television and the companions stand for these lines, and what was sent is stored. No request is out of range, and
-- no answer was given to a take that wasn't made.
pub record EndsStand (world : Kept) (lines : List Numbered) : Type 0 where
  pub lanes : LanesStand (events_of world.header lines) (λ who. history_of who world.header lines) world.lanes
  pub stage : tvs.StandsFor world.tv.tv.stage (events_of world.header lines)
  pub server : servers.StandsFor world.tv.tv.server (tickets world.header lines)
  pub in_range : AllByRecursion (λ reading. reading < LIMIT) (requests lines)
  pub none_ahead : (take : ℕ) → length (tickets world.header lines) < take → is_given take lines ≡ false
  pub requests : AreStored request_bytes world.requests (requests lines)
  pub askers : AreStored owner world.askers (askers lines)
  pub takes : AreStored (open_ticket lines) world.tv.takes.items (tickets world.header lines)
  pub taken_for : AreStored owner world.taken_for (taken_for lines)
  pub datagrams : AreStored (λ number. encoded) world.datagrams (datagrams world.header lines)
  pub made_for : AreStored owner world.made_for (made_for world.header lines)

-- What is always so: the television declares what the header does, and is reached where it says; each companion of the
-- header has its lane.
pub record EndsAre (ends : Kept) (lines : List Numbered) : Type 0 where
  pub declares : DeclaresTheSame (server_of ends.header) ends.tv.tv.server
  pub addresses : ends.tv.tv.stage.addresses ≡ addresses
  pub count : length ends.lanes ≡ length ends.header.companions
  pub lanes : (who : ℕ) (lane : Lane) → stored ends.lanes who ≡ Some lane
      → IsLaneOf ends.header who (seen_of who lines) lane

-- ---- the world
-- The ends are ready for one more line: what the header declares is in range, the lines before it were accepted, and
-- the ends are those of the lines.
pub record IsReady (world : Kept) (lines : List Numbered) : Type 0 where
  pub declared : IsDeclared world.header
  pub accepted : AreAccepted world.header lines
  pub are : EndsAre world lines
  pub ends : EndsStand world lines

-- The world stands for these lines: so do its clocks and its ends.
pub record StandsFor (world : World) (lines : List Numbered) : Type 0 where
  pub clocks : ClocksStand world.header world.clocks lines lines
  pub ready : IsReady (kept world.header world.ends) lines

-- what is added to what was printed before
abbrev pub appended : List ℕ → Result (List ℕ) WorldFault → Result (List ℕ) WorldFault
appended before meant = result_map_both (λ printed. before ++ printed) (λ fault. fault) meant

-- What a line means is answered, whatever lines the world stands for. What is printed is added to what was printed
-- before.
abbrev pub Means : World → List ℕ → List ℕ → Result (Unit {0}) WorldFault → Numbered → Type 0
Means old before after result now = (lines : List Numbered) → StandsFor old lines
    → LeavesBy faults.Memory result before after (appended before (line_meant old.header lines now))

-- the world stands for one line more, if that was accepted
abbrev pub GoesOn : World → World → Result (Unit {0}) WorldFault → Numbered → Type 0
GoesOn old new result now = (lines : List Numbered) → StandsFor old lines → IsNext now.number lines
    → OnOk result (StandsFor new (now ∷ lines))

-- what is true of accepted lines is true of a line that the world took
abbrev pub TellsTruth : World → Result (Unit {0}) WorldFault → Numbered → Type 0
TellsTruth old result now = (lines : List Numbered) → StandsFor old lines → IsNext now.number lines
    → OnOk result (IsTrueLine old.header lines now)

-- ---- what a call does
-- whether what a line says can be carried out: it can't happen, or the player refuses it
abbrev pub carried : Header → List Numbered → ℕ → Verb → Result (Unit {0}) WorldFault
carried header older who verb =
    if can_happen header older who verb
    then played (events_of header older) (event_at header older who verb) else Err faults.Absent

-- the call answers that, or it answers want of memory; and what was carried out happened at both ends
pub record Carries (old new : Kept) (result : Result (Unit {0}) WorldFault) (lines : List Numbered) (now : Numbered)
    (who : ℕ) (verb : Verb) : Type 0 where
  pub answer : GivesBy (λ x. x) faults.Memory result (carried old.header lines who verb)
  pub are : OnOk result (EndsAre new (now ∷ lines))
  pub ends : OnOk result (EndsStand new (now ∷ lines))

-- the line may be taken: a companion's reading at it is one that may come next
abbrev pub MayTake : ℕ → List Numbered → Verb → Type 0
MayTake who lines verb = IfSome (own_reading verb) (MayRead who lines)

-- The ends carried out what happens at a line of companion `who`, or told why they can't.
abbrev pub CarriesOut : Ends → Ends → Result (Unit {0}) WorldFault → ℕ → Verb → Type 0
CarriesOut old new result who verb = (header : Header) (lines : List Numbered) (now : Numbered)
    → now.line.who ≡ who → now.line.verb ≡ verb → IsReady (kept header old) lines → MayTake who lines verb
    → Carries (kept header old) (kept header new) result lines now who verb

-- the ends are ready for some line, and for one at which companion `who` reads its clock so
abbrev pub Ready : Ends → Type 0
Ready ends = (header : Header) × (lines : List Numbered) × IsReady (kept header ends) lines

abbrev pub ReadyAt : Ends → ℕ → ℕ → Type 0
ReadyAt ends who reading =
    (header : Header) × (lines : List Numbered) × IsReady (kept header ends) lines × MayRead who lines reading

-- a verb is this event of the television, and nothing else happens at it
abbrev pub IsAtTv : Verb → TvEvent → Type 0
IsAtTv (verbs.Programme content_id) event = event ≡ tv_events.Programme content_id
IsAtTv (verbs.Timeline programme selector rate base) event = event ≡ tv_events.AddTimeline programme selector rate base
IsAtTv (verbs.Viewer reading command) event = event ≡ tv_events.Viewer command reading
IsAtTv _ event = ⊥

-- The answer to a ticket, as its datagrams.
pub record IsAnswerTo (server : Server) (ticket : Ticket) (reading : ℕ) (answered : Answered) : Type 0 where
  pub response : answered.response ≡ encoded (response_to server ticket reading)
  pub follow_up : answered.follow_up ≡ option_map encoded (follow_up_for server ticket reading)

-- a ticket that is taken out of a list is answered, and where there is none nothing is
abbrev pub Answers : Server → ℕ → Option Ticket → Option Answered → Type 0
Answers server reading None None = Unit {0}
Answers server reading (Some ticket) (Some answered) = IsAnswerTo server ticket reading answered
Answers server reading None (Some answered) = ⊥
Answers server reading (Some ticket) None = ⊥

-- and for this line
abbrev pub ReadyFor : Ends → Line → Type 0
ReadyFor ends line =
    (header : Header) × (lines : List Numbered) × IsReady (kept header ends) lines × MayTake line.who lines line.verb

-- what a call printed is what is printed for a line, or it told why nothing is; and it was carried out at both ends
pub record PrintsFor (old new : Kept) (before after : List ℕ) (result : Result (Unit {0}) WorldFault)
    (lines : List Numbered) (now : Numbered) : Type 0 where
  pub answer : LeavesBy faults.Memory result before after (appended before (carried_out old.header lines now))
  pub are : OnOk result (EndsAre new (now ∷ lines))
  pub ends : OnOk result (EndsStand new (now ∷ lines))

-- a call that printed adds this to what was printed before, whatever lines the ends stand for
abbrev pub Adds : Ends → List ℕ → List ℕ → Result (Unit {0}) WorldFault → (Header → List Numbered → List ℕ) → Type 0
Adds ends before after result printed = (header : Header) (lines : List Numbered) → IsReady (kept header ends) lines
    → OnOk result (after ≡ before ++ printed header lines)

-- The ends carried out what happens at a line and printed what is printed for it, or told why they can't and printed
-- nothing.
abbrev pub Prints : Ends → Ends → List ℕ → List ℕ → Result (Unit {0}) WorldFault → Numbered → Type 0
Prints old new before after result now = (header : Header) (lines : List Numbered)
    → IsReady (kept header old) lines → MayTake now.line.who lines now.line.verb
    → PrintsFor (kept header old) (kept header new) before after result lines now

-- the television and the companions are as before
pub record KeepsBoth (old new : Ends) : Type 0 where
  pub tv : new.tv.tv ≡ old.tv.tv
  pub companions : map (λ (lane : Lane). lane.companion) new.lanes.list.items
      ≡ map (λ (lane : Lane). lane.companion) old.lanes.list.items

-- so they are after a refusal that isn't want of memory
abbrev pub KeepsRefused : Ends → Ends → WorldFault → Type 0
KeepsRefused old new faults.Memory = Unit {0}
KeepsRefused old new _ = KeepsBoth old new
