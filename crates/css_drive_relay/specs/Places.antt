-- How far the run of a relay's visit has come: a function of what went before the visit and of its own calls.
use Rattle.std.specs.Prelude.{ℕ, ◌+◌, ◌==◌, Bool, true, false, nat_lt, not, filter, List, [], ◌∷◌, ◌++◌, length}
use Rattle.std.specs.Prelude.{if◌then◌else◌, Option, Some, None, unwrap_or, Result, Ok, Err}
use Rattle.css_model.specs.declared.Why.{Why}
use Rattle.css_model.specs.declared.Why.TheVariants as why
use Rattle.css_model.specs.declared.Kind.{Kind}
use Rattle.css_model.specs.declared.Kind.TheVariants as kind
use Rattle.css_model.specs.History.{Entry, History, Slept, Clock, Dialled, NotDialled, Accepted, NoneCame}
use Rattle.css_model.specs.WallClock.{Local}
use Rattle.css_model.specs.History.{accepted_answers, Sent, Took, TookNone, Quiet, Heard, Closed, Wrote, Gone, HungUp}
use Rattle.css_agree.specs.Disagreements.{contradicts}
use Rattle.css_cii.specs.States.{empty}
use Rattle.css_cii.specs.declared.state.State.{State}
use Rattle.css_sessions.specs.Kept.{difference_text}
use Rattle.css_client.specs.Landings.{judged_of}
use Rattle.css_companion.specs.declared.binding.Binding.TheVariants.{WallClock}
use Rattle.css_companion.specs.declared.fault.CompanionFault.{CompanionFault}
use Rattle.css_relay.specs.Answers.{Ticket, received_after, answered_after, datagram_of}
use Rattle.css_relay.specs.Relays.{state_of, wc_url_of, relayed_state}
use Rattle.css_relay.specs.declared.fault.RelayFault.{RelayFault}
use Rattle.css_drive.specs.CompanionDue.{refusal_under}
use Rattle.css_drive.specs.CompanionTurns.{is_late}
use Rattle.css_drive.specs.declared.parting.Parting.{Parting}
use Rattle.css_drive.specs.declared.parting.Parting.TheVariants as parting
use Rattle.css_drive.specs.declared.session.Session.TheVariants as session
use Rattle.css_drive_relay.specs.declared.begun.Begun.{Begun as Before}
use Rattle.css_drive_relay.specs.declared.plan.Plan.{Plan}

-- Where a run stands: by its last entry that is no sleep.
pub data Place : Type 0 where
  -- a turn's reading was told
  Begun : Place
  -- a dial of this kind was made
  Called : (kind : Kind) → Place
  -- the clock was read for a request of the relay's own
  Asking : (reading : ℕ) → Place
  Requested : Place
  -- a datagram was taken, and its reading isn't told yet
  Taken : (peer : ℕ) → (bytes : List ℕ) → Place
  -- it was a request, and the reading of its answer isn't told yet
  Received : (peer : ℕ) → (ticket : Ticket) → Place
  -- this answer is still to be sent
  Answers : (peer : ℕ) → (datagram : List ℕ) → Place
  -- the turn has no more to do with datagrams
  Served : Place
  -- a session of CSS-CII was accepted, and is to be told the state
  Greeting : (peer : ℕ) → Place
  -- a session was accepted that the relay doesn't keep
  Rejecting : (peer : ℕ) → Place
  -- the television's session is open, and is to be asked for a text
  Welcomed : (peer : ℕ) → Place
  -- the television's text is refused
  Refused : (fault : CompanionFault) → Place
  -- this text is still to be told to these sessions
  Telling : (text : List ℕ) → (left : List ℕ) → Place
  -- These accepted sessions are still to be asked for their texts. So a turn ends where there is none; and as a visit
  -- begins, there is none.
  Asked : (left : List ℕ) → Place
  -- a session told a text, which ends it; after it these are to be asked
  Dropping : (peer : ℕ) → (left : List ℕ) → Place

-- How many turns were begun, and the readings of the first and the last one, those of earlier visits among them; the
-- reading of the turn of the last request since the last sleep; the peers that were dialled, and the television's
-- session of CSS-CII where it is open; the state that the accepted sessions were told last; these sessions, in the
-- order in which they came; and why the visit was cut short, if it was.
pub record Facts : Type 0 where
  pub turns : ℕ
  pub first : Option ℕ
  pub turn : Option ℕ
  pub asked : Option ℕ
  pub cii : Option ℕ
  pub wc : Option ℕ
  pub television : Option ℕ
  pub state : State
  pub peers : List ℕ
  pub parting : Option Parting

pub record Progress : Type 0 where
  pub facts : Facts
  pub place : Place

-- the same facts at another place
abbrev pub at : Place → Progress → Progress
at place p = record { facts = p.facts; place = place }

-- ---- open sessions
-- the peers without this one
abbrev pub without : ℕ → List ℕ → List ℕ
without peer peers = filter (λ other. not (other == peer)) peers

-- an accepted session is over
abbrev pub lost : ℕ → Facts → Facts
lost peer f = record f { peers = without peer f.peers }

abbrev pub without_first : List ℕ → List ℕ
without_first [] = []
without_first (peer ∷ peers) = peers

-- ---- places that follow one another
-- once a session was accepted, or none came: the television is asked first, where its session is open
abbrev pub next_asked : Option ℕ → List ℕ → Place
next_asked None peers = Asked peers
next_asked (Some peer) peers = Welcomed peer

abbrev pub welcomed : Facts → Place
welcomed f = next_asked f.television f.peers

-- a text is told to these sessions, and then all are asked
abbrev pub telling : List ℕ → List ℕ → Facts → Place
telling text [] f = Asked f.peers
telling text (peer ∷ left) f = Telling text (peer ∷ left)

-- a text, where the state changed
abbrev pub telling_if : Option (List ℕ) → Facts → Place
telling_if None f = Asked f.peers
telling_if (Some text) f = telling text f.peers f

-- ---- datagrams
abbrev pub received : ℕ → Result Ticket RelayFault → Place
received peer (Err fault) = Served
received peer (Ok ticket) = Received peer ticket

abbrev pub answering : ℕ → Result (List ℕ) RelayFault → Place
answering peer (Err fault) = Served
answering peer (Ok datagram) = Answers peer datagram

-- a request is received at a reading: it is dropped where it has a fault
abbrev pub received_at : Plan → ℕ → History → Place → Place
received_at plan reading older (Taken peer bytes) =
    received peer (received_after plan.run.companion.local older reading bytes)
received_at plan reading older place = place

-- so it is where its answer has one
abbrev pub answered_at : Plan → ℕ → History → Place → Place
answered_at plan reading older (Received peer ticket) =
    answering peer (datagram_of (answered_after plan.run.companion.local older reading ticket))
answered_at plan reading older place = place

-- An answer landed that contradicts those before it, which ends the visit and the turn with it, or another datagram.
abbrev pub landed : Bool → Facts → Progress
landed true f = record { facts = record f { parting = Some parting.Disagree }; place = Asked [] }
landed false f = record { facts = f; place = Served }

-- what a datagram does that was taken
abbrev pub landed_at : Plan → ℕ → History → Place → Facts → Progress
landed_at plan reading older (Taken peer bytes) f =
    let own : Local = plan.run.companion.local in
    landed (contradicts own reading (judged_of own older reading bytes) (accepted_answers own older)) f
landed_at plan reading older place f = record { facts = f; place = Served }

-- A datagram was sent: a request of the relay's own, or an answer. Only a request counts for the time of the next one.
abbrev pub sent : Place → Facts → Progress
sent (Asking reading) f = record { facts = record f { asked = f.turn }; place = Requested }
sent place f = record { facts = f; place = Served }

-- ---- clock and dials
abbrev pub with_turn : ℕ → Facts → Facts
with_turn reading f =
    record f { turns = f.turns + 1; first = Some (unwrap_or f.first reading); turn = Some reading }

-- A turn's reading was told. The last one by its time ends there.
abbrev pub begun : Plan → Facts → Place
begun plan f = if is_late plan.run.limit f.first f.turn then Asked [] else Begun

abbrev pub after_clock : Plan → Why → ℕ → History → Progress → Progress
after_clock plan why.Turn reading older p = let now : Facts = with_turn reading p.facts in
    record { facts = now; place = begun plan now }
after_clock plan why.Ask reading older p = at (Asking reading) p
after_clock plan why.Land reading older p = landed_at plan reading older p.place p.facts
after_clock plan why.Take reading older p = at (received_at plan reading older p.place) p
after_clock plan why.Give reading older p = at (answered_at plan reading older p.place) p

abbrev pub after_dial : Kind → ℕ → Facts → Facts
after_dial kind.Cii peer f = record f { cii = Some peer; television = Some peer }
after_dial kind.Wc peer f = record f { wc = Some peer }
after_dial kind.Ts peer f = f

-- ---- sessions
-- whether a session is kept that was opened, where so many are open: one of CSS-CII, unless 256 are
abbrev pub is_kept : Kind → ℕ → Bool
is_kept kind.Cii count = nat_lt count 256
is_kept _ count = false

-- a session that is kept is told the state, and any other is hung up
abbrev pub opened_if : Bool → ℕ → Facts → Progress
opened_if true peer f = record { facts = record f { peers = f.peers ++ peer ∷ [] }; place = Greeting peer }
opened_if false peer f = record { facts = f; place = Rejecting peer }

-- the relay publishes a state
abbrev pub published : State → Facts → Progress
published state f = let now : Facts = record f { state = state } in
    record { facts = now; place = telling_if (difference_text f.state state) now }

-- the fault of a text of the television after a history, if it is refused: the wall clock's address alone binds a relay
abbrev pub refusal_of : Option (List ℕ) → History → Option CompanionFault
refusal_of text older = refusal_under WallClock text older

-- A text of the television is refused, or the relay publishes what it tells after it.
abbrev pub television_told : Option CompanionFault → State → Facts → Progress
television_told (Some fault) state f = record { facts = f; place = Refused fault }
television_told None state f = published state f

-- nothing came from the session that was asked
abbrev pub passed : Place → Facts → Place
passed (Welcomed peer) f = Asked f.peers
passed (Asked left) f = Asked (without_first left)
passed place f = place

-- the text of an accepted session ends it
abbrev pub heard : Plan → ℕ → List ℕ → History → Place → Facts → Progress
heard plan peer bytes older (Welcomed television) f = television_told (refusal_of (Some bytes) older)
    (relayed_state (wc_url_of plan.run.host plan.run.port) (state_of (Heard peer bytes ∷ older))) f
heard plan peer bytes older (Asked left) f =
    record { facts = lost peer f; place = Dropping peer (without_first left) }
heard plan peer bytes older place f = record { facts = f; place = place }

-- The session that was asked is over. Where it is the television's, so is the visit, and the turn with it.
abbrev pub closed : ℕ → Place → Facts → Progress
closed peer (Welcomed television) f = record {
  facts = record f { television = None; parting = Some (parting.Closed session.Cii) };
  place = Asked [];
}
closed peer (Asked left) f = record { facts = lost peer f; place = Asked (without_first left) }
closed peer place f = record { facts = f; place = place }

-- a text was sent
abbrev pub told : Place → Facts → Place
told (Greeting peer) f = welcomed f
told (Telling text left) f = telling text (without_first left) f
told place f = place

-- the session closed to which it was to be sent
abbrev pub gone : ℕ → Place → Facts → Progress
gone peer (Greeting other) f = record { facts = lost peer f; place = welcomed (lost peer f) }
gone peer (Telling text left) f =
    record { facts = lost peer f; place = telling text (without_first left) (lost peer f) }
gone peer place f = record { facts = f; place = place }

-- a session was hung up that the relay doesn't keep
abbrev pub hung_up : Place → Facts → Place
hung_up (Rejecting peer) f = welcomed f
hung_up (Dropping peer left) f = Asked left
hung_up place f = place

-- ---- entries
abbrev pub after : Plan → Entry → History → Progress → Progress
after plan Slept older p = record { facts = record p.facts { asked = None }; place = p.place }
after plan (Clock w reading) older p = after_clock plan w reading older p
after plan (Dialled k peer) older p = record { facts = after_dial k peer p.facts; place = Called k }
after plan (NotDialled k failure) older p = at (Called k) p
after plan (Accepted peer k) older p = opened_if (is_kept k (length p.facts.peers)) peer p.facts
after plan NoneCame older p = at (welcomed p.facts) p
after plan (Sent peer bytes) older p = sent p.place p.facts
after plan (Took peer bytes) older p = at (Taken peer bytes) p
after plan TookNone older p = at Served p
after plan (Quiet peer) older p = at (passed p.place p.facts) p
after plan (Heard peer bytes) older p = heard plan peer bytes older p.place p.facts
after plan (Closed peer) older p = closed peer p.place p.facts
after plan (Wrote peer bytes) older p = at (told p.place p.facts) p
after plan (Gone peer) older p = gone peer p.place p.facts
after plan (HungUp peer) older p = at (hung_up p.place p.facts) p
after plan _ older p = p

-- nothing was done yet in this visit
abbrev pub beginning : Before → Progress
beginning begun = record {
  facts = record {
    turns = begun.turns;
    first = begun.first;
    turn = begun.turn;
    asked = None;
    cii = None;
    wc = None;
    television = None;
    state = empty;
    peers = [];
    parting = None;
  };
  place = Asked [];
}

-- how far the run of a visit has come
abbrev pub progress_of : Plan → History → Progress
progress_of plan [] = beginning plan.begun
progress_of plan (entry ∷ older) = after plan entry older (progress_of plan older)
