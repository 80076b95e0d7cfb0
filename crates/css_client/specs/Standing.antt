-- Which histories a client stands for, and what is promised of it.
use Rattle.std.specs.Prelude.{ℕ, ◌≡◌, ◌≤◌, ◌<◌, ◌⊎◌, pos, ◌≤ℤ◌, List, ◌∷◌, map, length}
use Rattle.std.specs.Prelude.{false, Option, Some, None, IfSome, IfOk, IsTrue, Result, All}
use Rattle.css_num.specs.Spans.{Interval}
use Rattle.css_num.specs.declared.memory.Memory.{Memory}
use Rattle.css_model.specs.declared.Stamp.{Stamp}
use Rattle.css_model.specs.declared.Message.{Message}
use Rattle.css_model.specs.declared.Why.TheVariants as why
use Rattle.css_model.specs.Truth.{Contains}
use Rattle.css_model.specs.Wire.{stamp_of, reading_of}
use Rattle.css_model.specs.World.{World, Errors, IsWorldFor}
use Rattle.css_model.specs.History.{Entry, Clock, Took, History, Each, is_sleep, sleeps, asking_at}
use Rattle.css_model.specs.History.{request_by, is_asked, asked_originates, LandedAnswer, landed_answer}
use Rattle.css_model.specs.History.{landed_answers, first_promised_at, accepted_answers}
use Rattle.css_model.specs.Explains.{IsLawful, HappensIn, Explains, IsTruthful}
use Rattle.css_span.specs.Frontiers as frontiers
use Rattle.css_client.specs.Clients.{Client, local_of, first_landed, RemembersOnly, NeverFall}
use Rattle.css_client.specs.declared.landing.Landing.{Landing}
use Rattle.css_client.specs.declared.landing.Landing.TheVariants as landings

-- ---- what a client stands for
-- An answer to a request with this originate value may still come, or such a request may still be made.
abbrev pub IsCurrent : ℕ → Stamp → History → Type 0
IsCurrent floor originate history = IsTrue (is_asked originate history) ⊎ (floor ≤ reading_of originate)

-- The floors are above what the clock was read for requests: no such reading is above the floor, each is below the
-- least one after a sleep, and one from before the last sleep is below the floor.
abbrev pub IsBelow : Client → ℕ → Entry → History → Type 0
IsBelow client slept entry older = IfSome (asking_at entry) (λ asked.
    (asked < client.after_sleep) × (sleeps older < slept → asked < client.floor))

-- The client stands for a history: this is lawful; its last requests are those that the client knows; the reading at
-- which the first promise of a follow-up landed is known for each request that is still asked, and nothing is
-- remembered of any other; the readings of its requests never fall, up to the floor; the estimate stands for the
-- accepted answers; and the floors are above the readings for requests.
pub record StandsFor (client : Client) (history : History) : Type 0 where
  pub lawful : IsLawful history
  pub asked : asked_originates history ≡ map stamp_of client.asked
  pub promises : (follow_up : Message) → IsCurrent client.floor follow_up.originate history
      → first_landed follow_up.originate follow_up.receive client.promises
      ≡ first_promised_at follow_up (landed_answers history)
  pub only : RemembersOnly client.asked client.promises
  pub rising : NeverFall (client.floor ∷ client.asked)
  pub estimate : frontiers.StandsFor client.estimate (accepted_answers (local_of client) history)
  pub below : Each (IsBelow client (sleeps history)) history

-- ---- what a client need not be told
-- an entry that is no sleep, no request and no reading for one, and with which no answer lands
pub record IsAside (entry : Entry) (older : History) : Type 0 where
  pub awake : is_sleep entry ≡ false
  pub asks_none : asking_at entry ≡ None
  pub sends_none : request_by entry ≡ None
  pub lands_none : landed_answer entry older ≡ None

-- A client stands for a history with such an entry too.
abbrev pub StandsAside : Type 0
StandsAside = (client : Client) (history : History) (entry : Entry)
    → StandsFor client history → IsAside entry history → StandsFor client (entry ∷ history)

-- ---- what is promised
-- the span, if there is one, contains this value
abbrev pub SpanHolds : Option Interval → ℕ → Type 0
SpanHolds span wall = IfSome span (λ interval. (interval.lo ≤ℤ pos wall) × (pos wall ≤ℤ interval.hi))

-- In each world that keeps the errors and explains the history, with one more reading at its end, the span contains the
-- wall clock there: for every history that the client stands for.
abbrev pub ContainsTheWall : Client → ℕ → Option Interval → Type 0
ContainsTheWall client reading span =
    (history : History) (errors : Errors) (world : World) (who : ℕ) (moment_of : ℕ → ℕ)
    → StandsFor client history → IsWorldFor errors world who (local_of client)
    → Explains world who errors.tv (local_of client) (Clock why.Turn reading ∷ history) moment_of
    → SpanHolds span (world (moment_of (length history))).wall

-- In each such world the span of each kept answer contains the wall clock at that reading.
abbrev pub KeptContainTheWall : Client → Type 0
KeptContainTheWall client =
    (history : History) (reading : ℕ) (errors : Errors) (world : World) (who : ℕ) (moment_of : ℕ → ℕ)
    → StandsFor client history → IsWorldFor errors world who (local_of client)
    → Explains world who errors.tv (local_of client) (Clock why.Turn reading ∷ history) moment_of
    → All (λ answer. Contains (local_of client) answer reading (world (moment_of (length history))).wall)
    client.estimate.kept

-- In each world that keeps the errors and in which the history can happen, a truthful answer that lands is accepted:
-- for every history that the client stands for.
abbrev pub AcceptsTheTruth : Client → ℕ → List ℕ → Result Landing Memory → Type 0
AcceptsTheTruth client reading bytes result =
    (history : History) (peer : ℕ) (errors : Errors) (world : World) (who : ℕ)
    (moment_of : ℕ → ℕ) (landed : LandedAnswer)
    → StandsFor client history → IsWorldFor errors world who (local_of client)
    → HappensIn world who (local_of client) (Clock why.Land reading ∷ Took peer bytes ∷ history) moment_of
    → landed_answer (Clock why.Land reading) (Took peer bytes ∷ history) ≡ Some landed
    → IsTruthful world errors.tv moment_of landed (Took peer bytes ∷ history)
    → IfOk result (λ landing. landing ≡ landings.Accepted)
