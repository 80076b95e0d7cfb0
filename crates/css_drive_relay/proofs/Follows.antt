-- What each entry of a relay's run says of the place that it leaves, and to which places entries lead. So a run that is
-- done made all its turns.
use Rattle.std.proofs.Common.{◌≡◌, ℕ, Bool, true, false, List, [], ◌∷◌, ◌++◌, Option, None, refl, arith, ◌+◌}
use Rattle.std.specs.Prelude.{◌||◌, is_some, ⊤, Ok}
use Rattle.std.specs.Option.{option_or}
use Rattle.std.proofs.lemmas.Bool.Decides.{nat_tests}
use Rattle.css_drive.specs.CompanionTurns.{turns, first_turn, this_turn, dialled}
use Rattle.css_drive.specs.Proper.{Due, Now, Dial, SendDatagram, TakeDatagram, SendText, HangUp, Ends, MayAdd, Empty}
use Rattle.css_drive.specs.Proper.{More}
use Rattle.css_model.specs.declared.Kind.{Kind}
use Rattle.css_model.specs.declared.Message.{Message}
use Rattle.css_model.specs.declared.Why.{Why}
use Rattle.css_model.specs.History.{Entry, History, Each, Slept, Clock, Dialling, Dialled, NotDialled, Sent, Took}
use Rattle.css_model.specs.History.{TookNone, Wrote, Gone, HungUp}
use Rattle.css_model.specs.Wire.{encoded, request_at}
use Rattle.css_sessions.specs.Kept.{full_text}
use Rattle.css_drive_relay.specs.Places.{Place, Asking, Taken, Received, Answers, Served, Greeting, Rejecting, Telling}
use Rattle.css_drive_relay.specs.Places.{Asked, Dropping, Facts, Progress, progress_of}
use Rattle.css_drive_relay.specs.Due.{due_at, IsProperRelay, due, is_left}
use Rattle.css_drive_relay.specs.declared.plan.Plan.{Plan}
use Rattle.css_drive.specs.Ends.{MayEnd}
use Rattle.css_drive.specs.declared.driven.Driven.{Driven}
use Rattle.css_relay.specs.Answers.{Ticket, received_after, answered_after}
use Rattle.css_drive_relay.specs.Made.{HasMadeAll, MadeTurns, TurnsAreMade}
use Rattle.css_drive.specs.declared.driven.Driven.TheVariants as driven
use Rattle.css_model.specs.declared.Kind.TheVariants as kind
use Rattle.css_model.specs.declared.Why.TheVariants as why
use Rattle.css_drive_relay.specs.Places as places

-- ---- places
-- the sessions to which a text is still to be sent, the first of them first
abbrev pub waiting : Place → List ℕ
waiting (Greeting peer) = peer ∷ []
waiting (Telling text left) = left
waiting _ = []

-- that text
abbrev pub text_at : Place → Facts → List ℕ
text_at (Telling text left) f = text
text_at _ f = full_text f.state

-- a turn goes on, and is at no datagram
abbrev pub IsRest : Place → Type 0
IsRest (Asking reading) = ⊥
IsRest (Taken peer bytes) = ⊥
IsRest (Received peer ticket) = ⊥
IsRest (Answers peer datagram) = ⊥
IsRest _ = ⊤

-- no datagram is to be sent
abbrev pub IsTimed : Place → Type 0
IsTimed (Asking reading) = ⊥
IsTimed (Answers peer datagram) = ⊥
IsTimed _ = ⊤

abbrev pub IsTaken : Place → Type 0
IsTaken (Taken peer bytes) = ⊤
IsTaken _ = ⊥

abbrev pub IsReceived : Place → Type 0
IsReceived (Received peer ticket) = ⊤
IsReceived _ = ⊥

-- this datagram is to be sent
abbrev pub IsToSend : Place → List ℕ → Type 0
IsToSend (Asking reading) bytes = bytes ≡ encoded (request_at reading)
IsToSend (Answers peer datagram) bytes = bytes ≡ datagram
IsToSend _ bytes = ⊥

-- this text is to be sent to this session
abbrev pub IsToTell : Facts → Place → ℕ → List ℕ → Type 0
IsToTell f place peer text =
    (waiting place ≡ peer ∷ places.without_first (waiting place)) × (text_at place f ≡ text) × IsRest place

-- one session is to be hung up, and the turn goes on
abbrev pub IsDropped : Place → Type 0
IsDropped (Rejecting peer) = ⊤
IsDropped (Dropping peer left) = ⊤
IsDropped _ = ⊥

-- there is no other turn
abbrev pub IsMade : Plan → Facts → Type 0
IsMade plan f = is_left plan f ≡ false

-- whether a dial of CSS-CII succeeded, in this visit or an earlier one
abbrev pub reached : Plan → Facts → Bool
reached plan f = plan.begun.reached || is_some f.cii

-- ---- what is due
abbrev pub FitsClock : Plan → Facts → Place → Why → Type 0
FitsClock plan f place why.Turn = IsRest place
FitsClock plan f place why.Ask = IsRest place
FitsClock plan f place why.Give = IsReceived place
FitsClock plan f place _ = IsTaken place

abbrev pub FitsDial : Place → Kind → Type 0
FitsDial place kind.Ts = ⊥
FitsDial place _ = (waiting place ≡ []) × IsRest place

-- what a place is at which this is due
abbrev pub Fits : Plan → Facts → Place → Due → Type 0
Fits plan f place (Now w) = (waiting place ≡ []) × IsTimed place × FitsClock plan f place w
Fits plan f place (Dial k to) = FitsDial place k
Fits plan f place (SendDatagram peer bytes) = (waiting place ≡ []) × IsToSend place bytes
Fits plan f place TakeDatagram = (waiting place ≡ []) × ⊤
Fits plan f place (SendText peer text) = IsToTell f place peer text
Fits plan f place (HangUp peer) = (waiting place ≡ []) × IsDropped place
Fits plan f place (Ends driven.Done) = (waiting place ≡ []) × IsMade plan f × (reached plan f ≡ true)
Fits plan f place (Ends (driven.Unreachable count)) =
    (waiting place ≡ []) × IsMade plan f × (reached plan f ≡ false) × (count ≡ f.turns)
Fits plan f place _ = (waiting place ≡ []) × IsRest place

pub fits : (plan : Plan) (f : Facts) (history : History) (place : Place)
    → Fits plan f place (due_at plan f history place)
fits plan f history (Telling text left) = grind (arith, nat_tests)
fits plan f history (Asked left) = grind (arith, nat_tests)
fits plan f history _ = grind arith

-- ---- entries
-- what the place was that an entry leaves
abbrev pub Follows : Plan → Facts → Place → Entry → Type 0
Follows plan f place Slept = (waiting place ≡ []) × IsTimed place
Follows plan f place (Clock w reading) = (waiting place ≡ []) × IsTimed place × FitsClock plan f place w
Follows plan f place (Dialling k to) = FitsDial place k
Follows plan f place (Dialled k peer) = FitsDial place k
Follows plan f place (NotDialled k failure) = FitsDial place k
Follows plan f place (Sent peer bytes) = (waiting place ≡ []) × IsToSend place bytes
Follows plan f place (Took peer bytes) = (waiting place ≡ []) × ⊤
Follows plan f place TookNone = (waiting place ≡ []) × ⊤
Follows plan f place (Wrote peer text) = IsToTell f place peer text
Follows plan f place (Gone peer) = (text : List ℕ) × IsToTell f place peer text
Follows plan f place (HungUp peer) = (waiting place ≡ []) × IsDropped place
Follows plan f place _ = (waiting place ≡ []) × IsRest place

abbrev pub Followed : Plan → History → Type 0
Followed plan h =
    Each (λ entry older. Follows plan (progress_of plan older).facts (progress_of plan older).place entry) h

module _ (plan : Plan) (older : History) (each : Followed plan older) where
  abbrev After : History → Type 0
  After call = Followed plan (call ++ older)

  added : (d : Due) → Fits plan (progress_of plan older).facts (progress_of plan older).place d → (call : History)
      → MayAdd d call → After call
  added d fits call may = grind (arith, fits, may, each)

-- each entry of a proper run is so
pub followed : (plan : Plan) (h : History) → IsProperRelay plan h → Followed plan h
followed plan [] Empty = tt
followed plan h (More {older} call may proper) =
    let p : Progress = progress_of plan older in
    added plan older (followed plan older proper) (due_at plan p.facts older p.place) (fits plan p.facts older p.place)
    call may

-- ---- places to which entries lead
module _ (P : Place → Type 0) where
  -- what holds of these places holds of each to which this leads
  pub on_received : (plan : Plan) (reading : ℕ) (older : History) (place : Place)
      → ((IsTaken place → ⊥) → P place) → P Served
      → ((peer : ℕ) (bytes : List ℕ) (ticket : Ticket)
      → received_after plan.run.companion.local older reading bytes ≡ Ok ticket → P (Received peer ticket))
      → P (places.received_at plan reading older place)
  on_received plan reading older place other served received = grind (arith, other, served, received)

  pub on_answered : (plan : Plan) (reading : ℕ) (older : History) (place : Place)
      → ((IsReceived place → ⊥) → P place) → P Served
      → ((peer : ℕ) (ticket : Ticket) (message : Message) → place ≡ Received peer ticket
      → answered_after plan.run.companion.local older reading ticket ≡ Ok message → P (Answers peer (encoded message)))
      → P (places.answered_at plan reading older place)
  on_answered plan reading older place other served answers = grind (arith, other, served, answers)

-- how many turns were begun, and the readings of the first and the last one
abbrev pub Turns : Type 0
Turns = ℕ × Option ℕ × Option ℕ

abbrev pub begun : Facts → Turns
begun f = (f.turns, f.first, f.turn)

-- ---- what stands as the run goes on
abbrev pub made_of : Plan → History → Turns
made_of plan h = (
  plan.begun.turns + turns h,
  option_or plan.begun.first (first_turn h),
  option_or (this_turn h) plan.begun.turn,
)

-- These turns were begun, those of earlier visits among them. And the session of CSS-CII that was dialled.
pub record Counts (plan : Plan) (h : History) (p : Progress) : Type 0 where
  pub turns : begun p.facts ≡ made_of plan h
  pub dialled : p.facts.cii ≡ dialled kind.Cii h

abbrev pub Good : Plan → History → Type 0
Good plan h = Counts plan h (progress_of plan h)

module _ (plan : Plan) (older : History) (t : Good plan older) where
  abbrev p : Progress
  p = progress_of plan older

  after : (entry : Entry) → Follows plan p.facts p.place entry → Good plan (entry ∷ older)
  after entry c = record {
    turns = let was = t.turns in grind (arith, was, c);
    dialled = let was = t.dialled in grind (arith, was, c);
  }

all_good : (plan : Plan) (h : History) → Followed plan h → Good plan h
all_good plan [] each = record {
  turns = grind arith;
  dialled = refl;
}
all_good plan (entry ∷ older) each = after plan older (all_good plan older each.1) entry each.0

-- ---- the end
has_made_all : (plan : Plan) (h : History) → Good plan h → (progress_of plan h).facts.parting ≡ None
    → IsMade plan (progress_of plan h).facts → HasMadeAll plan h
has_made_all plan h t whole made = let turns = t.turns in grind (arith, nat_tests, turns, whole, made)

is_made : (plan : Plan) (h : History) (ended : Driven) → Good plan h → (progress_of plan h).facts.parting ≡ None
    → Fits plan (progress_of plan h).facts (progress_of plan h).place (due plan h) → MayEnd (due plan h) ended
    → MadeTurns plan h ended
is_made plan h ended t whole c ends =
    let turns = t.turns in
    let dialled = t.dialled in
    let made = has_made_all plan h t whole in grind (arith, ends, c, turns, dialled, made)

pub turns_are_made : TurnsAreMade
turns_are_made plan h ended proper whole ends =
    let p : Progress = progress_of plan h in
    is_made plan h ended (all_good plan h (followed plan h proper)) whole (fits plan p.facts h p.place) ends
