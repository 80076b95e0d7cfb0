-- Why what a relay answers is true: its readings, its answers to a second companion, and that companion's spans.
use Rattle.std.specs.Prelude.{ℕ, ◌≡◌, ◌≤◌, List, ◌∷◌, length, Result, Ok, IfOk, IfSome, IsTrue}
use Rattle.css_model.specs.declared.Message.{Message}
use Rattle.css_model.specs.declared.Why.TheVariants as why
use Rattle.css_model.specs.Numbers.{IsWithin, precision_ns}
use Rattle.css_model.specs.WallClock.{Local}
use Rattle.css_model.specs.Wire.{reading_of, decoded}
use Rattle.css_model.specs.World.{World, Errors, IsWorldFor, IsInRange}
use Rattle.css_model.specs.History.{Entry, Clock, History, Each, Once, LandedAnswer, landed_answer, landed_answers}
use Rattle.css_model.specs.History.{is_possible}
use Rattle.css_model.specs.Explains.{IsLawful, WasAsked, IsTruthful, HappensIn, Explains, ContainsAt}
use Rattle.css_companion.specs.Standing.{Companion, own_of}
use Rattle.css_relay.specs.Answers.{Ticket, received_after, answered_after}
use Rattle.css_relay.specs.Relays.{StandsFor}
use Rattle.css_relay.specs.declared.fault.RelayFault.{RelayFault}

-- ---- of one call
-- In each world that keeps the errors and explains the history, with one more reading at its end, the ticket's value
-- reads the wall clock there within its half width: for every history that the companion stands for.
abbrev pub TicketIsTrue : Companion → ℕ → Result Ticket RelayFault → Type 0
TicketIsTrue companion reading result =
    (history : History) (errors : Errors) (world : World) (who : ℕ) (moment_of : ℕ → ℕ)
    → StandsFor companion history → IsWorldFor errors world who (own_of companion) → IsInRange world
    → Explains world who errors.tv (own_of companion) (Clock why.Take reading ∷ history) moment_of
    → IfOk result (λ ticket. IsWithin ticket.half ticket.value (world (moment_of (length history))).wall)

-- Both readings of a response read the wall clock within its precision, the receive value at moment `taken` of the
-- world and the transmit value at moment `given`, and it declares no less than the television's error.
pub record IsTrueResponse (world : World) (tv_error : ℕ) (taken given : ℕ) (message : Message) : Type 0 where
  pub response : message.message_type ≡ 1
  pub receive : IsWithin (precision_ns message.precision) (reading_of message.receive) (world taken).wall
  pub transmit : IsWithin (precision_ns message.precision) (reading_of message.transmit) (world given).wall
  pub declared : tv_error ≤ message.error

-- The message is a truthful answer to each companion of the world that asked for it no later than at moment `taken`,
-- and where it lands no sooner than at moment `given`.
abbrev pub IsTruthfulToAll : World → ℕ → (taken given : ℕ) → Message → Type 0
IsTruthfulToAll world tv_error taken given message =
    (moment_of : ℕ → ℕ) (landed : LandedAnswer) (ask : ℕ) (older : History)
    → landed.message ≡ message → WasAsked landed.message.originate ask older
    → moment_of ask ≤ taken → taken ≤ given → given ≤ moment_of (length older)
    → IsTruthful world tv_error moment_of landed older

-- what was decoded is a response that is true, and so it is truthful to all who asked in time
pub record IsTrueDatagram (world : World) (tv_error : ℕ) (taken given : ℕ) (bytes : List ℕ) : Type 0 where
  pub message : Message
  pub read : decoded bytes ≡ Ok message
  pub true_response : IsTrueResponse world tv_error taken given message
  pub truthful : IsTruthfulToAll world tv_error taken given message

-- In each world that keeps the errors and explains the history, with one more reading at its end, what is answered is
-- true where the ticket was: for every history that the companion stands for.
abbrev pub AnswerIsTrue : Companion → Ticket → ℕ → Result (List ℕ) RelayFault → Type 0
AnswerIsTrue companion ticket reading result =
    (history : History) (errors : Errors) (world : World) (who : ℕ) (moment_of : ℕ → ℕ) (taken : ℕ)
    → StandsFor companion history → IsWorldFor errors world who (own_of companion) → IsInRange world
    → Explains world who errors.tv (own_of companion) (Clock why.Give reading ∷ history) moment_of
    → IsWithin ticket.half ticket.value (world taken).wall
    → IfOk result (IsTrueDatagram world errors.tv taken (moment_of (length history)))

-- ---- of a whole history
-- Of a relay's history, the message answers a request: this was taken at one reading, and answered at a later one.
pub record IsAnswerOf (own : Local) (history : History) (message : Message) : Type 0 where
  pub request : List ℕ
  pub ticket : Ticket
  pub take : ℕ
  pub give : ℕ
  pub before_take : History
  pub before_give : History
  pub taken : Once (λ entry older. (entry ≡ Clock why.Take take) × (older ≡ before_take)) before_give
  pub given : Once (λ entry older. (entry ≡ Clock why.Give give) × (older ≡ before_give)) history
  pub received : received_after own before_take take request ≡ Ok ticket
  pub answered : answered_after own before_give give ticket ≡ Ok message

-- In each world that keeps the errors and explains a lawful history, each answer of it is true.
abbrev pub AnswersAreTrue : Type 0
AnswersAreTrue = (errors : Errors) (world : World) (who : ℕ) (own : Local) (history : History) (moment_of : ℕ → ℕ)
    (message : Message)
    → IsWorldFor errors world who own → IsInRange world
    → IsLawful history → Explains world who errors.tv own history moment_of
    → (answer : IsAnswerOf own history message)
    → IsTrueResponse world errors.tv (moment_of (length answer.before_take)) (moment_of (length answer.before_give))
    message

-- A true response is truthful to all who asked in time.
abbrev pub TrueIsTruthful : Type 0
TrueIsTruthful = (world : World) (tv_error taken given : ℕ) (message : Message)
    → IsTrueResponse world tv_error taken given message → IsTruthfulToAll world tv_error taken given message

-- ---- of two hops
-- A landed answer is an answer of the relay's history: its request was sent no later than it was taken there, and it
-- landed no sooner than it was answered there.
pub record IsRelayed (own : Local) (history : History) (moment_of : ℕ → ℕ) (second_moment_of : ℕ
    → ℕ) (landed : LandedAnswer) (older : History) : Type 0 where
  pub answer : IsAnswerOf own history landed.message
  pub ask : ℕ
  pub asked : WasAsked landed.message.originate ask older
  pub sent_before : second_moment_of ask ≤ moment_of (length answer.before_take)
  pub landed_after : moment_of (length answer.before_give) ≤ second_moment_of (length older)

-- an answer that lands at a second companion is the relay's, or isn't accepted there
abbrev pub RelayedAt : Local → History → (ℕ → ℕ) → Local → (ℕ → ℕ) → Entry → History → Type 0
RelayedAt own history moment_of second_own second_moment_of entry older =
    IfSome (landed_answer entry older) (λ landed.
    IsTrue (is_possible second_own landed (landed_answers older))
    → IsRelayed own history moment_of second_moment_of landed older)

-- the world explains a companion's history, and so its spans contain the wall clock
pub record IsTrueAtLast (world : World) (who tv_error : ℕ) (own : Local) (history : History) (moment_of : ℕ
    → ℕ) : Type 0 where
  pub explains : Explains world who tv_error own history moment_of
  pub contains : Each (ContainsAt world own moment_of) history

-- In each world that keeps the errors of three clocks, explains a relay's history, and has the readings of a second
-- companion that accepts nothing but the relay's answers, the second companion's spans contain the wall clock.
abbrev pub TwoHopsAreTrue : Type 0
TwoHopsAreTrue = (errors : Errors) (world : World)
    (who : ℕ) (own : Local) (history : History) (moment_of : ℕ → ℕ)
    (second : ℕ) (second_own : Local) (second_history : History) (second_moment_of : ℕ → ℕ)
    → IsWorldFor errors world who own → IsWorldFor errors world second second_own → IsInRange world
    → IsLawful history → Explains world who errors.tv own history moment_of
    → IsLawful second_history → HappensIn world second second_own second_history second_moment_of
    → Each (RelayedAt own history moment_of second_own second_moment_of) second_history
    → IsTrueAtLast world second errors.tv second_own second_history second_moment_of
