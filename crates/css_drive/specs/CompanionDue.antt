-- Which call a companion's run has to make next: a function of what its calls did so far.
use Rattle.std.specs.Prelude.{ℕ, nat_lt, List, [], ◌∷◌, length, Bool, ◌&&◌, if◌then◌else◌, Option, Some, None, is_some}
use Rattle.std.specs.Prelude.{not, Result, Ok, Err}
use Rattle.std.specs.Option.{option_map}
use Rattle.std.specs.Result.{result_err}
use Rattle.css_model.specs.declared.Why.TheVariants as why
use Rattle.css_model.specs.declared.Kind.{Kind}
use Rattle.css_model.specs.declared.Kind.TheVariants as kind
use Rattle.css_model.specs.History.{Address, Entry, Clock, Dialled, NotDialled, Sent, Took, TookNone, History, Quiet}
use Rattle.css_model.specs.History.{Heard, Closed, Wrote, Gone, HungUp}
use Rattle.css_model.specs.Wire.{encoded, request_at}
use Rattle.css_address.specs.Addresses.{address_of}
use Rattle.css_address.specs.declared.fault.AddressFault.{AddressFault}
use Rattle.css_cii.specs.declared.name.CiiName.{CiiName}
use Rattle.css_cii.specs.declared.name.CiiName.TheVariants.{WcUrl, TsUrl}
use Rattle.css_tsmsg.specs.Presentations.{presentation_text}
use Rattle.css_tsmsg.specs.Setups.{setup_text}
use Rattle.css_tsmsg.specs.declared.bound.Bound.{Bound}
use Rattle.css_companion.specs.Contents.{next_number, told_under}
use Rattle.css_companion.specs.Meanings.{kind_of, is_ts, cii_text, texts_of, state_of, state_under}
use Rattle.css_companion.specs.Standing.{wanted_by}
use Rattle.css_companion.specs.Steps.{window}
use Rattle.css_companion.specs.declared.binding.Binding.{Binding}
use Rattle.css_companion.specs.declared.binding.Binding.TheVariants.{Both}
use Rattle.css_companion.specs.declared.fault.CompanionFault.{CompanionFault}
use Rattle.css_companion.specs.declared.fault.CompanionFault.TheVariants as fault
use Rattle.css_drive.specs.Proper.{Due, Now, Dial, SendDatagram, TakeDatagram, TakeText, SendText, HangUp, Ends}
use Rattle.css_drive.specs.Proper.{IsProper}
use Rattle.css_drive.specs.CompanionTurns.{first_turn, this_turn, turns, is_late, goes_on, dialled, opened, any_dialled}
use Rattle.css_drive.specs.CompanionTurns.{asked_turn, is_asking}
use Rattle.css_drive.specs.CompanionReports.{due_reports}
use Rattle.css_drive.specs.declared.config.DriveConfig.{DriveConfig}
use Rattle.css_drive.specs.declared.driven.Driven.{Driven}
use Rattle.css_drive.specs.declared.driven.Driven.TheVariants as driven

-- ---- how far a turn has come
pub data Point : Type 0 where
  -- before the first turn
  Start : Point
  -- the turn's reading was told
  Begun : Point
  -- a dial of this kind was made, and what follows it
  Called : (kind : Kind) → Point
  -- the TS session was opened, and its setup isn't sent yet
  Connected : (peer : ℕ) → Point
  -- the setup was sent, and the presentation isn't yet
  SetUp : (peer : ℕ) → Point
  -- the clock was read for a request
  Asking : (reading : ℕ) → Point
  Requested : Point
  -- a datagram was taken, and the clock isn't read yet
  Arrived : Point
  Received : Point
  -- a session was asked for a text
  HeardFrom : (peer : ℕ) → Point
  -- a session was hung up: the run is over
  Over : Point

-- after a text that was sent the presentation may follow the setup
abbrev pub text_sent : Point → Point
text_sent (Connected peer) = SetUp peer
text_sent (SetUp peer) = Called kind.Ts
text_sent point = point

-- after a text that was gone no other follows
abbrev pub text_gone : Point → Point
text_gone (Connected peer) = Called kind.Ts
text_gone (SetUp peer) = Called kind.Ts
text_gone point = point

-- where the turn is after an entry
abbrev pub moved : Entry → Point → Point
moved (Clock why.Turn reading) point = Begun
moved (Clock why.Ask reading) point = Asking reading
moved (Clock why.Land reading) point = Received
moved (Dialled kind.Ts peer) point = Connected peer
moved (Dialled kind peer) point = Called kind
moved (NotDialled kind failure) point = Called kind
moved (Sent peer bytes) point = Requested
moved (Took peer bytes) point = Arrived
moved TookNone point = Received
moved (Quiet peer) point = HeardFrom peer
moved (Heard peer bytes) point = HeardFrom peer
moved (Closed peer) point = HeardFrom peer
moved (Wrote peer bytes) point = text_sent point
moved (Gone peer) point = text_gone point
moved (HungUp peer) point = Over
moved _ point = point

abbrev pub point_of : History → Point
point_of [] = Start
point_of (entry ∷ older) = moved entry (point_of older)

-- ---- the steps of a turn, the last first: what is due from there on
abbrev pub hang_up : Option ℕ → Due → Due
hang_up None rest = rest
hang_up (Some peer) rest = HangUp peer

-- the sessions that are open are hung up, that of CSS-CII first, and then the run ends
abbrev pub from_hang_ups : Driven → History → Due
from_hang_ups end history = hang_up (opened kind.Cii history) (hang_up (opened kind.Ts history) (Ends end))

-- whether reports are still to be made
abbrev pub is_short : DriveConfig → History → Bool
is_short config history = nat_lt (length (due_reports config history)) config.reports

-- how a run ends whose reports or turns are made
abbrev pub final : DriveConfig → History → Driven
final config history =
    if is_short config history
    then (if any_dialled history then driven.Spent (turns history) else driven.Unreachable (turns history))
    else driven.Done

-- another turn, while reports are to be made and the last turn hasn't come
abbrev pub from_end : DriveConfig → History → Due
from_end config history =
    if is_short config history && goes_on config.limit (first_turn history) (this_turn history) (turns history)
    then Now why.Turn
    else from_hang_ups (final config history) history

abbrev pub take_text : Option ℕ → Due → Due
take_text None rest = rest
take_text (Some peer) rest = TakeText peer

-- a text of the TS session, where it is open
abbrev pub from_ts_text : DriveConfig → History → Due
from_ts_text config history = take_text (opened kind.Ts history) (from_end config history)

-- a text of the CII session, where it is open
abbrev pub from_cii_text : DriveConfig → History → Due
from_cii_text config history = take_text (opened kind.Cii history) (from_ts_text config history)

-- a datagram, where the wall clock was dialled
abbrev pub from_take : DriveConfig → History → Due
from_take config history =
    if is_some (dialled kind.Wc history) then TakeDatagram else from_cii_text config history

-- a request, where the wall clock was dialled and it is time
abbrev pub from_ask : DriveConfig → History → Due
from_ask config history =
    if is_some (dialled kind.Wc history) && is_asking config.ask_every (this_turn history) (asked_turn history)
    then Now why.Ask
    else from_take config history

-- A dial of an address. Where one of this kind succeeded, or the address is null, there is none. A bad address ends the
-- run.
abbrev pub dial_to : Option ℕ → Kind → CiiName → Option (Result Address AddressFault) → Due → Due
dial_to (Some peer) kind property url rest = rest
dial_to None kind property None rest = rest
dial_to None kind property (Some (Err bad)) rest = Ends (driven.BadUrl property)
dial_to None kind property (Some (Ok to)) rest = Dial kind to

-- the address of a property
abbrev pub place : Kind → Option (List ℕ) → Option (Result Address AddressFault)
place kind url = option_map (address_of kind) url

abbrev pub from_ts : DriveConfig → History → Due
from_ts config history =
    dial_to (dialled kind.Ts history) kind.Ts TsUrl (place kind.Ts (state_of history).ts_url) (from_ask config history)

abbrev pub from_wc : DriveConfig → History → Due
from_wc config history =
    dial_to (dialled kind.Wc history) kind.Wc WcUrl (place kind.Wc (state_of history).wc_url) (from_ts config history)

abbrev pub dial_first : Option ℕ → Address → Due → Due
dial_first (Some peer) to rest = rest
dial_first None to rest = Dial kind.Cii to

abbrev pub from_cii : DriveConfig → History → Due
from_cii config history = dial_first (dialled kind.Cii history) config.cii (from_wc config history)

-- the calls of a turn, but after the last report and in the turn that is the last by its time
abbrev pub from_turn : DriveConfig → History → Due
from_turn config history =
    if is_short config history && not (is_late config.limit (first_turn history) (this_turn history))
    then from_cii config history
    else from_end config history

abbrev pub sending : ℕ → Option (List ℕ) → Due → Due
sending peer None rest = rest
sending peer (Some text) rest = SendText peer text

-- the text of the presentation of two bounds
abbrev pub window_text : Bound × Bound → List ℕ
window_text bounds = presentation_text (window bounds.0 bounds.1)

-- the presentation, where the configuration has one
abbrev pub from_setup : DriveConfig → ℕ → History → Due
from_setup config peer history = sending peer (option_map window_text config.present) (from_ask config history)

-- the request goes to the peer of the wall clock
abbrev pub send_to : Option ℕ → List ℕ → Due
send_to None bytes = TakeDatagram
send_to (Some peer) bytes = SendDatagram peer bytes

abbrev pub due_at : DriveConfig → Point → History → Due
due_at config Start history = from_end config history
due_at config Begun history = from_turn config history
due_at config (Called kind.Cii) history = from_wc config history
due_at config (Called kind.Wc) history = from_ts config history
due_at config (Called kind.Ts) history = from_ask config history
due_at config (Connected peer) history = SendText peer (setup_text (wanted_by config.companion))
due_at config (SetUp peer) history = from_setup config peer history
due_at config (Asking reading) history = send_to (dialled kind.Wc history) (encoded (request_at reading))
due_at config Requested history = from_take config history
due_at config Arrived history = Now why.Land
due_at config Received history = from_cii_text config history
due_at config (HeardFrom peer) history =
    if is_ts (kind_of peer history) then from_end config history else from_ts_text config history
due_at config Over history = from_hang_ups (final config history) history

-- ---- texts that are refused
-- the fault of a text of the CII session after a history, if it is refused
abbrev pub refusal_under : Binding → Option (List ℕ) → History → Option CompanionFault
refusal_under binding None older = None
refusal_under binding (Some bytes) older =
    result_err (told_under binding (next_number (texts_of older)) (state_under binding older) bytes)

-- the same where both addresses bind
abbrev pub refusal_of : Option (List ℕ) → History → Option CompanionFault
refusal_of text older = refusal_under Both text older

-- the fault of the text that came last, if it is one of the CII session and is refused
abbrev pub refusal : History → Option CompanionFault
refusal [] = None
refusal (entry ∷ older) = refusal_of (cii_text entry older) older

-- the end that a refused text makes
abbrev pub end_by : CompanionFault → Driven
end_by (fault.BadCii number reason) = driven.BadCii number reason
end_by (fault.Moved property old new) = driven.Moved property old new
end_by fault.Memory = driven.Memory

abbrev pub unless_refused : Option CompanionFault → Due → Due
unless_refused None rest = rest
unless_refused (Some fault) rest = Ends (end_by fault)

-- What is due after a history of a companion's run with this configuration.
abbrev pub due : DriveConfig → History → Due
due config history = unless_refused (refusal history) (due_at config (point_of history) history)

-- Each call of the run is the one that is due.
abbrev pub IsProperRun : DriveConfig → History → Type 0
IsProperRun config history = IsProper (due config) history
