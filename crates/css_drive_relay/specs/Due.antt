-- Which call the run of a relay's visit has to make next: a function of what went before it and of its own calls.
use Rattle.std.specs.Prelude.{ℕ, List, [], ◌∷◌, ◌&&◌, ◌||◌, Bool, not, if◌then◌else◌, is_some}
use Rattle.css_model.specs.declared.Why.TheVariants as why
use Rattle.css_model.specs.declared.Kind.{Kind}
use Rattle.css_model.specs.declared.Kind.TheVariants as kind
use Rattle.css_model.specs.History.{History, request_in}
use Rattle.css_model.specs.Wire.{encoded, request_at}
use Rattle.css_cii.specs.declared.name.CiiName.TheVariants.{WcUrl}
use Rattle.css_sessions.specs.Kept.{full_text}
use Rattle.css_relay.specs.Relays.{state_of}
use Rattle.css_drive.specs.CompanionDue.{dial_to, dial_first, place, send_to, end_by}
use Rattle.css_drive.specs.CompanionTurns.{goes_on, is_asking}
use Rattle.css_drive.specs.Proper.{Due, Now, Accept, SendDatagram, TakeDatagram, TakeText, SendText, HangUp}
use Rattle.css_drive.specs.Proper.{Ends, IsProper}
use Rattle.css_drive.specs.declared.driven.Driven.{Driven}
use Rattle.css_drive.specs.declared.driven.Driven.TheVariants as driven
use Rattle.css_drive_relay.specs.Places.{Place, Begun, Called, Asking, Requested, Taken, Received, Answers}
use Rattle.css_drive_relay.specs.Places.{Served, Greeting, Rejecting, Welcomed, Refused, Telling, Asked, Dropping}
use Rattle.css_drive_relay.specs.Places.{Facts, Progress, progress_of}
use Rattle.css_drive_relay.specs.declared.plan.Plan.{Plan}

-- ---- the steps of a turn, the last first: what is due from there on
-- how a visit's run ends of which no turn is left: as unreachable where no visit so far dialled CSS-CII
abbrev pub final : Plan → Facts → Driven
final plan f = if plan.begun.reached || is_some f.cii then driven.Done else driven.Unreachable f.turns

-- whether a turn is left: the visit wasn't cut short, and the limit of all visits isn't reached
abbrev pub is_left : Plan → Facts → Bool
is_left plan f = not (is_some f.parting) && goes_on plan.run.limit f.first f.turn f.turns

-- the next turn, if there is one
abbrev pub from_end : Plan → Facts → History → Due
from_end plan f history = if is_left plan f then Now why.Turn else Ends (final plan f)

-- these sessions are asked for a text
abbrev pub from_texts : Plan → List ℕ → Facts → History → Due
from_texts plan [] f history = from_end plan f history
from_texts plan (peer ∷ peers) f history = TakeText peer

-- these sessions are told a text, and then all are asked
abbrev pub from_tellings : Plan → List ℕ → List ℕ → Facts → History → Due
from_tellings plan text [] f history = from_texts plan f.peers f history
from_tellings plan text (peer ∷ peers) f history = SendText peer text

abbrev pub from_take : Facts → History → Due
from_take f history = TakeDatagram

-- a request, where the wall clock was dialled and it is time
abbrev pub from_ask : Plan → Facts → History → Due
from_ask plan f history =
    if is_some f.wc && is_asking plan.run.ask_every f.turn f.asked then Now why.Ask else from_take f history

abbrev pub from_wc : Plan → Facts → History → Due
from_wc plan f history =
    dial_to f.wc kind.Wc WcUrl (place kind.Wc (state_of history).wc_url) (from_ask plan f history)

abbrev pub from_cii : Plan → Facts → History → Due
from_cii plan f history = dial_first f.cii plan.run.cii (from_wc plan f history)

abbrev pub from_dial : Plan → Kind → Facts → History → Due
from_dial plan kind.Cii f history = from_wc plan f history
from_dial plan _ f history = from_ask plan f history

-- a request is received, and anything else lands
abbrev pub from_taken : Bool → Due
from_taken is_request = if is_request then Now why.Take else Now why.Land

abbrev pub due_at : Plan → Facts → History → Place → Due
due_at plan f history Begun = from_cii plan f history
due_at plan f history (Called which) = from_dial plan which f history
due_at plan f history (Asking reading) = send_to f.wc (encoded (request_at reading))
due_at plan f history Requested = from_take f history
due_at plan f history (Taken peer bytes) = from_taken (is_some (request_in bytes))
due_at plan f history (Received peer ticket) = Now why.Give
due_at plan f history (Answers peer datagram) = SendDatagram peer datagram
due_at plan f history Served = Accept
due_at plan f history (Greeting peer) = SendText peer (full_text f.state)
due_at plan f history (Rejecting peer) = HangUp peer
due_at plan f history (Welcomed peer) = TakeText peer
due_at plan f history (Refused fault) = Ends (end_by fault)
due_at plan f history (Telling text left) = from_tellings plan text left f history
due_at plan f history (Asked left) = from_texts plan left f history
due_at plan f history (Dropping peer left) = HangUp peer

abbrev pub due_for : Plan → History → Progress → Due
due_for plan history p = due_at plan p.facts history p.place

-- what is due after the calls of a visit
abbrev pub due : Plan → History → Due
due plan history = due_for plan history (progress_of plan history)

-- each call of the run is the one that is due
abbrev pub IsProperRelay : Plan → History → Type 0
IsProperRelay plan history = IsProper (due plan) history
