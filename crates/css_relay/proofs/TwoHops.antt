-- What a relay answers is true, and so it serves a second companion as the television does.
use Rattle.std.proofs.Common.{◌≡◌, ℕ, suc, ◌<◌, arith, subst, sym, refl, inl, inr, [], ◌∷◌, length}
use Rattle.std.specs.Prelude.{List, Option, Some, None, IfSome, IsTrue, Result, Ok, Err, IfOk}
use Rattle.std.specs.Option.{option_map}
use Rattle.css_model.specs.declared.Message.{Message}
use Rattle.css_model.specs.declared.Why.{Why}
use Rattle.css_model.specs.declared.Why.TheVariants as why
use Rattle.css_model.specs.WallClock.{Answer, Local}
use Rattle.css_model.specs.Truth.{Contains}
use Rattle.css_model.specs.World.{World, Errors, IsWorldFor, IsInRange}
use Rattle.css_model.specs.Numbers.{IsWithin}
use Rattle.css_model.specs.Wire.{decoded}
use Rattle.css_model.specs.History.{Entry, Clock, History, Each, Once, LandedAnswer, landed_answer, accepted_answers}
use Rattle.css_model.specs.History.{landed_answers, is_possible, wall_answer}
use Rattle.css_model.specs.Explains.{IsLawful, IsTruthful, TruthfulAt, Explains}
use Rattle.css_model.proofs.Prefixes.{IsLawful-older, Explains-older}
use Rattle.css_model.proofs.Wall.{wall_is_true}
use Rattle.css_num.specs.Spans.{Interval}
use Rattle.css_span.specs.Frontiers.{greatest_error}
use Rattle.css_span.specs.WallSpans.{span_of, wall_span}
use Rattle.css_client.specs.Standing.{SpanHolds}
use Rattle.css_companion.specs.Standing.{Companion, own_of}
use Rattle.css_relay.specs.Relays.{StandsFor}
use Rattle.css_relay.specs.Answers.{Ticket, requested_by, received_after, answered, answered_after, Responds}
use Rattle.css_relay.specs.TwoHops.{IsTrueResponse, IsAnswerOf, AnswersAreTrue, TrueIsTruthful}
use Rattle.css_relay.specs.TwoHops.{IsRelayed, RelayedAt, TwoHopsAreTrue, TicketIsTrue, AnswerIsTrue, IsTrueDatagram}
use Rattle.css_relay.specs.declared.fault.RelayFault.{RelayFault}
use Rattle.css_relay.proofs.Readings.{ticket_reads}
use Rattle.css_relay.proofs.Responses.{newest_declares, answer_is_true}

-- ---- at a reading
-- the span of an answer that is true holds
span_holds : (own : Local) (reading wall : ℕ) (narrowest : Option Answer)
    → IfSome narrowest (λ answer. Contains own answer reading wall)
    → SpanHolds (option_map (span_of own reading) narrowest) wall
span_holds own reading wall None contains = tt
span_holds own reading wall (Some answer) contains = (contains.low, contains.high)

-- a lawful history that a world explains
pub record IsKnown (world : World) (who tv_error : ℕ) (own : Local) (moment_of : ℕ → ℕ) (history : History) :
    Type 0 where
  pub lawful : IsLawful history
  pub explains : Explains world who tv_error own history moment_of

-- the span at a reading holds what the wall clock shows
pub holds_at : (errors : Errors) (world : World) (who : ℕ) (own : Local) (moment_of : ℕ → ℕ) (reason : Why)
    (reading : ℕ) (history : History) → IsWorldFor errors world who own
    → IsKnown world who errors.tv own moment_of (Clock reason reading ∷ history)
    → SpanHolds (wall_span own reading (accepted_answers own history)) (world (moment_of (length history))).wall
holds_at errors world who own moment_of reason reading history for known =
    span_holds own reading (world (moment_of (length history))).wall (wall_answer own history reading)
    (wall_is_true errors world who own (Clock reason reading ∷ history) moment_of for known.lawful known.explains).0

-- ---- one hop
-- the ticket of a request that is received after a history
pub received_reads : (errors : Errors) (world : World) (who : ℕ) (own : Local) (moment_of : ℕ → ℕ) (reading : ℕ)
    (history : History) (request : List ℕ) (ticket : Ticket) → IsWorldFor errors world who own → IsInRange world
    → IsKnown world who errors.tv own moment_of (Clock why.Take reading ∷ history)
    → received_after own history reading request ≡ Ok ticket
    → IsWithin ticket.half ticket.value (world (moment_of (length history))).wall
received_reads errors world who own moment_of reading history request ticket for range known is =
    ticket_reads (wall_span own reading (accepted_answers own history)) (requested_by (decoded request)) ticket
    (world (moment_of (length history))).wall
    (holds_at errors world who own moment_of why.Take reading history for known) (range.tv (moment_of (length history)))
    is

-- the response to it that is given after a history
pub answered_is_true : (errors : Errors) (world : World) (who : ℕ) (own : Local) (moment_of : ℕ → ℕ) (reading : ℕ)
    (history : History) (ticket : Ticket) (message : Message) (taken : ℕ)
    → IsWorldFor errors world who own → IsInRange world
    → IsKnown world who errors.tv own moment_of (Clock why.Give reading ∷ history)
    → IsWithin ticket.half ticket.value (world taken).wall
    → answered_after own history reading ticket ≡ Ok message
    → IsTrueResponse world errors.tv taken (moment_of (length history)) message
answered_is_true errors world who own moment_of reading history ticket message taken for range known receive is =
    answer_is_true own reading (accepted_answers own history) ticket message world errors.tv taken
    (moment_of (length history)) receive (holds_at errors world who own moment_of why.Give reading history for known)
    (range.tv (moment_of (length history)))
    (newest_declares world errors.tv own moment_of history known.explains.truthful.1) is

-- ---- truthful
pub true_is_truthful : TrueIsTruthful
true_is_truthful world tv_error taken given message is moment_of landed ask older same asked sent between back =
    let here : IsTrueResponse world tv_error taken given landed.message =
    subst (λ (m : Message). IsTrueResponse world tv_error taken given m) (sym same) is in
    record {
      ask = ask;
      received_at = taken;
      transmit_at = given;
      sent_at = given;
      asked = asked;
      received_later = sent;
      transmit_later = between;
      sent_later = omega arith;
      landed_later = back;
      receive = here.receive;
      transmit = here.transmit;
      at_once = λ other. refl;
      declared = here.declared;
      promised_later = λ follow_up. absurd (omega (arith, follow_up, here.response));
    }

-- ---- of one call
-- a history that a companion stands for, with a reading at its end that is for no request
known_at : (companion : Companion) (history : History) (world : World) (who tv_error : ℕ) (moment_of : ℕ → ℕ)
    (reading : ℕ) → StandsFor companion history
    → Explains world who tv_error (own_of companion) (Clock why.Take reading ∷ history) moment_of
    → IsKnown world who tv_error (own_of companion) moment_of (Clock why.Take reading ∷ history)
known_at companion history world who tv_error moment_of reading stands explains = record {
  lawful = record { rises = (tt, stands.client.lawful.rises); asks = (tt, stands.client.lawful.asks) };
  explains = explains;
}

-- the same of a reading for an answer
known_to_give : (companion : Companion) (history : History) (world : World) (who tv_error : ℕ) (moment_of : ℕ → ℕ)
    (reading : ℕ) → StandsFor companion history
    → Explains world who tv_error (own_of companion) (Clock why.Give reading ∷ history) moment_of
    → IsKnown world who tv_error (own_of companion) moment_of (Clock why.Give reading ∷ history)
known_to_give companion history world who tv_error moment_of reading stands explains = record {
  lawful = record { rises = (tt, stands.client.lawful.rises); asks = (tt, stands.client.lawful.asks) };
  explains = explains;
}

-- a ticket by its definition is true
pub ticket_is_true : (companion : Companion) (reading : ℕ) (request : List ℕ) (result : Result Ticket RelayFault)
    → ((history : History) → StandsFor companion history
    → result ≡ received_after (own_of companion) history reading request)
    → TicketIsTrue companion reading result
ticket_is_true companion reading request result value history errors world who moment_of stands for range explains =
    by result (value history stands)
  where
    by : (found : Result Ticket RelayFault) → found ≡ received_after (own_of companion) history reading request
        → IfOk found (λ ticket. IsWithin ticket.half ticket.value (world (moment_of (length history))).wall)
    by (Err fault) is = tt
    by (Ok ticket) is =
        received_reads errors world who (own_of companion) moment_of reading history request ticket for range
        (known_at companion history world who errors.tv moment_of reading stands explains) (sym is)

-- what is known of the wall clock and of the errors, by the history
pub answer_is : (companion : Companion) (history : History) (reading : ℕ) (ticket : Ticket) (span : Option Interval)
    (error : ℕ) → span ≡ wall_span (own_of companion) reading (accepted_answers (own_of companion) history)
    → error ≡ greatest_error (accepted_answers (own_of companion) history)
    → answered span error ticket ≡ answered_after (own_of companion) history reading ticket
answer_is companion history reading ticket span error is_span is_error = rw (is_span, is_error) refl

-- what is read as the response is true
pub datagram_is_true : (companion : Companion) (ticket : Ticket) (reading : ℕ) (result : Result (List ℕ) RelayFault)
    → ((history : History) → StandsFor companion history
    → IfOk result (λ bytes. Responds bytes (answered_after (own_of companion) history reading ticket)))
    → AnswerIsTrue companion ticket reading result
datagram_is_true companion ticket reading result reads history errors world who moment_of taken stands for range
    explains receive = by result (reads history stands)
  where
    by : (found : Result (List ℕ) RelayFault)
        → IfOk found (λ bytes. Responds bytes (answered_after (own_of companion) history reading ticket))
        → IfOk found (IsTrueDatagram world errors.tv taken (moment_of (length history)))
    by (Err fault) reads = tt
    by (Ok bytes) reads =
        let is_true : IsTrueResponse world errors.tv taken (moment_of (length history)) reads.message =
        answered_is_true errors world who (own_of companion) moment_of reading history ticket reads.message taken for
        range (known_to_give companion history world who errors.tv moment_of reading stands explains) receive reads.same
        in
        record {
          message = reads.message;
          read = reads.read;
          true_response = is_true;
          truthful = true_is_truthful world errors.tv taken (moment_of (length history)) reads.message is_true;
        }

-- ---- of a history
-- what came before an entry of a known history, with the entry
found : (world : World) (who tv_error : ℕ) (own : Local) (moment_of : ℕ → ℕ) (sought : Entry)
    (before history : History) → Once (λ entry older. (entry ≡ sought) × (older ≡ before)) history
    → IsKnown world who tv_error own moment_of history → IsKnown world who tv_error own moment_of (sought ∷ before)
found world who tv_error own moment_of sought before [] once known = absurd once
found world who tv_error own moment_of sought before (entry ∷ older) (inl here) known =
    subst (λ (e : Entry). IsKnown world who tv_error own moment_of (e ∷ before)) here.0
    (subst (λ (h : History). IsKnown world who tv_error own moment_of (entry ∷ h)) here.1 known)
found world who tv_error own moment_of sought before (entry ∷ older) (inr later) known =
    found world who tv_error own moment_of sought before older later
    (record {
      lawful = IsLawful-older entry older known.lawful;
      explains = Explains-older world who tv_error own entry older moment_of known.explains;
    })

-- what came before is shorter
shorter : (sought : Entry) (before history : History)
    → Once (λ entry older. (entry ≡ sought) × (older ≡ before)) history → length before < length history
shorter sought before [] once = absurd once
shorter sought before (entry ∷ older) (inl here) =
    subst (λ (h : History). length h < suc (length older)) here.1 (omega arith)
shorter sought before (entry ∷ older) (inr later) = omega (arith, shorter sought before older later)

-- an answer of a known history is true
known_answer : (errors : Errors) (world : World) (who : ℕ) (own : Local) (history : History) (moment_of : ℕ → ℕ)
    (message : Message) → IsWorldFor errors world who own → IsInRange world
    → IsKnown world who errors.tv own moment_of history → (answer : IsAnswerOf own history message)
    → IsTrueResponse world errors.tv (moment_of (length answer.before_take)) (moment_of (length answer.before_give))
    message
known_answer errors world who own history moment_of message for range known answer =
    let given : IsKnown world who errors.tv own moment_of (Clock why.Give answer.give ∷ answer.before_give) =
    found world who errors.tv own moment_of (Clock why.Give answer.give) answer.before_give history answer.given known
    in
    let until : IsKnown world who errors.tv own moment_of answer.before_give = record {
      lawful = IsLawful-older (Clock why.Give answer.give) answer.before_give given.lawful;
      explains =
          Explains-older world who errors.tv own (Clock why.Give answer.give) answer.before_give moment_of
          given.explains;
    } in
    let taken : IsKnown world who errors.tv own moment_of (Clock why.Take answer.take ∷ answer.before_take) =
    found world who errors.tv own moment_of (Clock why.Take answer.take) answer.before_take answer.before_give
    answer.taken until in
    answered_is_true errors world who own moment_of answer.give answer.before_give answer.ticket message
    (moment_of (length answer.before_take)) for range given
    (received_reads errors world who own moment_of answer.take answer.before_take answer.request answer.ticket for range
    taken answer.received) answer.answered

pub answers_are_true : AnswersAreTrue
answers_are_true errors world who own history moment_of message for range lawful explains answer =
    known_answer errors world who own history moment_of message for range
    (record { lawful = lawful; explains = explains }) answer

-- ---- two hops
-- what holds of a value wherever another thing does
some_weaker : {A : Type 0} (P Q : A → Type 0) (o : Option A) → ((x : A) → P x → Q x) → IfSome o P → IfSome o Q
some_weaker P Q None weaker h = tt
some_weaker P Q (Some x) weaker h = weaker x h

each_truthful : (errors : Errors) (world : World) (who : ℕ) (own : Local) (history : History) (moment_of : ℕ → ℕ)
    (second_own : Local) (second_moment_of : ℕ → ℕ) (second_history : History)
    → IsWorldFor errors world who own → IsInRange world → IsKnown world who errors.tv own moment_of history
    → Each (RelayedAt own history moment_of second_own second_moment_of) second_history
    → Each (TruthfulAt world errors.tv second_own second_moment_of) second_history
each_truthful errors world who own history moment_of second_own second_moment_of [] for range known relayed = tt
each_truthful errors world who own history moment_of second_own second_moment_of (entry ∷ older) for range known
    relayed = (
      some_weaker (λ (landed : LandedAnswer). IsTrue (is_possible second_own landed (landed_answers older))
          → IsRelayed own history moment_of second_moment_of landed older)
          (λ (landed : LandedAnswer). IsTrue (is_possible second_own landed (landed_answers older))
          → IsTruthful world errors.tv second_moment_of landed older)
          (landed_answer entry older) (λ landed truth possible. truthful landed (truth possible)) relayed.0,
      each_truthful errors world who own history moment_of second_own second_moment_of older for range known relayed.1,
    )
  where
    truthful : (landed : LandedAnswer) → IsRelayed own history moment_of second_moment_of landed older
        → IsTruthful world errors.tv second_moment_of landed older
    truthful landed relay =
        let answer : IsAnswerOf own history landed.message = relay.answer in
        let fewer : length answer.before_take < length answer.before_give =
        shorter (Clock why.Take answer.take) answer.before_take answer.before_give answer.taken in
        true_is_truthful world errors.tv (moment_of (length answer.before_take)) (moment_of (length answer.before_give))
        landed.message (known_answer errors world who own history moment_of landed.message for range known answer)
        second_moment_of landed relay.ask older refl relay.asked relay.sent_before
        (known.explains.happens.in_order (length answer.before_take) (length answer.before_give) (omega (arith, fewer)))
        relay.landed_after

pub two_hops_are_true : TwoHopsAreTrue
two_hops_are_true errors world who own history moment_of second second_own second_history second_moment_of for
    second_for range lawful explains second_lawful happens relayed =
    let second_explains : Explains world second errors.tv second_own second_history second_moment_of = record {
      happens = happens;
      truthful =
          each_truthful errors world who own history moment_of second_own second_moment_of second_history for range
          (record { lawful = lawful; explains = explains }) relayed;
    } in
    record {
      explains = second_explains;
      contains =
          wall_is_true errors world second second_own second_history second_moment_of second_for second_lawful
          second_explains;
    }
