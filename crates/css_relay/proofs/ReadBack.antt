-- What is read from a response's datagram tells the same, and an answer is no request.
use Rattle.std.proofs.Common.{◌≡◌, ℕ, ◌≤◌, ◌<◌, arith, ap, ◌∙◌, subst, refl, Bool, true, false, cond, List, [], ◌∷◌}
use Rattle.std.proofs.Common.{◌++◌, sym, Option, Some, None, Result, Ok, Err, take}
use Rattle.std.specs.Prelude.{ℤ, pos, negsuc, neg_ℤ, ◌≤ℤ◌, FitsSigned, max, nat_lt, ◌==◌}
use Rattle.std.specs.Int.{w8}
use Rattle.std.specs.Option.{option_to_list, option_and_then}
use Rattle.std.proofs.lemmas.Bool.{ltb-false}
use Rattle.std.proofs.lemmas.Int.{ints}
use Rattle.css_num.specs.Spans.{Interval}
use Rattle.css_model.specs.declared.Stamp.{Stamp}
use Rattle.css_model.specs.declared.Message.{Message}
use Rattle.css_model.specs.declared.WcFault.{WcFault}
use Rattle.css_model.specs.declared.TheConstants.{LIMIT}
use Rattle.css_model.specs.Numbers.{precision_ns, max_error}
use Rattle.css_model.specs.WallClock.{Local}
use Rattle.css_model.specs.Wire.{encoded, decoded, fields, fault, unless_fault, stamp_of}
use Rattle.css_model.specs.World.{World}
use Rattle.css_model.specs.History.{History, is_sleep, LandedAnswer, landed_answer, landed_answers, times_of}
use Rattle.css_model.specs.History.{is_possible, possible_answers, accepted_answers, request_in}
use Rattle.css_model.proofs.Landings.{landed_answer-is}
use Rattle.css_span.specs.Frontiers.{greatest_error}
use Rattle.css_span.specs.WallSpans.{wall_span}
use Rattle.css_wc.proofs.Codec.{IsStamp, IsMessage, fields-encoded}
use Rattle.css_relay.specs.Answers.{Ticket, requested_by, ticket_at, ticket_by, received_after, response_to, answer_at}
use Rattle.css_relay.specs.Answers.{answered_after, datagram_of, answered}
use Rattle.css_relay.specs.Middles.{cut, between, is_beyond}
use Rattle.css_relay.specs.TwoHops.{IsTrueResponse}
use Rattle.css_relay.specs.declared.fault.RelayFault.{RelayFault}
use Rattle.std.specs.Result.{result_ok}
use Rattle.css_relay.proofs.Exponents.{exponents_are_least}
use Rattle.css_relay.proofs.Readings.{same_ok}
use Rattle.css_relay.specs.declared.fault.RelayFault.TheVariants as faults

-- ---- fields
-- the same message with no originate value
pub without_originate : Message → Message
without_originate m = record {
  message_type = m.message_type;
  precision = m.precision;
  error = m.error;
  originate = record { seconds = 0; nanoseconds = 0 };
  receive = m.receive;
  transmit = m.transmit;
}

-- a message is true by its other fields
pub true_as : (world : World) (tv_error taken given : ℕ) (a b : Message)
    → without_originate a ≡ without_originate b → IsTrueResponse world tv_error taken given a
    → IsTrueResponse world tv_error taken given b
unfolding without_originate
true_as world tv_error taken given a b same x =
    let own : IsTrueResponse world tv_error taken given (without_originate a) =
    record { response = x.response; receive = x.receive; transmit = x.transmit; declared = x.declared } in
    let y = subst (λ (m : Message). IsTrueResponse world tv_error taken given m) same own in
    record { response = y.response; receive = y.receive; transmit = y.transmit; declared = y.declared }

-- the originate value changes no other field of the datagram
fields_apart : (m : Message)
    → without_originate (fields (encoded (without_originate m))) ≡ without_originate (fields (encoded m))
unfolding fields encoded without_originate
fields_apart m = refl

twice_without : (m : Message) → without_originate (without_originate m) ≡ without_originate m
unfolding without_originate
twice_without m = refl

decoded_same : (m n : Message) → IsMessage (without_originate m) → decoded (encoded m) ≡ Ok n
    → without_originate m ≡ without_originate n
decoded_same m n h e = by (fault (encoded m)) e
  where
    same : without_originate m ≡ without_originate (fields (encoded m))
    same = sym (twice_without m) ∙ ap without_originate (sym (fields-encoded (without_originate m) h)) ∙ fields_apart m

    by : (o : Option WcFault) → unless_fault o (fields (encoded m)) ≡ Ok n → without_originate m ≡ without_originate n
    by None e = same ∙ ap without_originate (same_ok (fields (encoded m)) n e)
    by (Some first) e = absurd (cc)

-- ---- readings
cut_small : (z : ℤ) → cut z < LIMIT
cut_small (pos number) = omega arith
cut_small (negsuc number) = omega arith

between_small : (span : Interval) → (between (cut span.lo) (cut span.hi)).value < LIMIT
between_small span =
    let low = cut_small span.lo in
    let high = cut_small span.hi in
    omega (arith, low, high)

stamp_small : (value : ℕ) → value < LIMIT → IsStamp (stamp_of value)
stamp_small value small = record { seconds = omega (arith, small); nanoseconds = omega arith }

ticket_small : (wall : Option Interval) (asked : Result Stamp RelayFault) (ticket : Ticket)
    → ticket_by wall asked ≡ Ok ticket → ticket.value < LIMIT
ticket_small wall (Err fault) ticket e = absurd (cc)
ticket_small None (Ok originate) ticket e = absurd (cc)
ticket_small (Some span) (Ok originate) ticket e = by (is_beyond span) e
  where
    by : (b : Bool)
        → ticket_at originate (cond b (Err (faults.Beyond span)) (Ok (between (cut span.lo) (cut span.hi))))
        ≡ Ok ticket
        → ticket.value < LIMIT
    by true e = absurd (cc)
    by false e =
        let middle = between (cut span.lo) (cut span.hi) in
        subst (λ (t : Ticket). t.value < LIMIT)
        (same_ok (record { originate = originate; value = middle.value; half = middle.half }) ticket e)
        (between_small span)

-- ---- the declared error
landed_small : (own : Local) (older : History) (o : Option LandedAnswer)
    → ((landed : LandedAnswer) → o ≡ Some landed → landed.message.error ≤ max_error)
    → greatest_error (accepted_answers own older) ≤ max_error
    → greatest_error (possible_answers own (option_to_list o ++ landed_answers older)) ≤ max_error
landed_small own older None small rest = rest
landed_small own older (Some landed) small rest =
    let fits = small landed refl in
    elim (is_possible own landed (landed_answers older)) as (λ possible. greatest_error
    (option_to_list (cond possible (Some (times_of landed (landed_answers older))) None) ++ accepted_answers own older)
    ≤ max_error) [ true ↦ omega (arith, fits, rest) | false ↦ rest ]

errors_small : (own : Local) (h : History) → greatest_error (accepted_answers own h) ≤ max_error
errors_small own [] = omega arith
errors_small own (entry ∷ older) = by (is_sleep entry) (errors_small own older)
  where
    by : (slept : Bool) → greatest_error (accepted_answers own older) ≤ max_error
        → greatest_error (possible_answers own
        (cond slept [] (option_to_list (landed_answer entry older) ++ landed_answers older))) ≤ max_error
    by true rest = omega arith
    by false rest =
        landed_small own older (landed_answer entry older)
        (λ landed e. (landed_answer-is entry older landed e).error) rest

-- ---- the response
-- a span was known, and a precision is enough
record IsMade (ticket : Ticket) (error : ℕ) (message : Message) : Type 0 where
  span : Interval
  enough : max ticket.half (between (cut span.lo) (cut span.hi)).half ≤ precision_ns (pos 30)
  same : response_to ticket error (between (cut span.lo) (cut span.hi)) ≡ message

made_of : (ticket : Ticket) (error : ℕ) (wall : Option Interval) (message : Message)
    → answered wall error ticket ≡ Ok message → IsMade ticket error message
made_of ticket error None message e = absurd (cc)
made_of ticket error (Some span) message e = known (is_beyond span) e
  where
    response : Message
    response = response_to ticket error (between (cut span.lo) (cut span.hi))

    half : ℕ
    half = max ticket.half (between (cut span.lo) (cut span.hi)).half

    by : (wide : Bool) → nat_lt (precision_ns (pos 30)) half ≡ wide
        → ◌≡◌ {A = Result Message RelayFault} (cond wide (Err (faults.Wide half)) (Ok response)) (Ok message)
        → IsMade ticket error message
    by true test e = absurd (cc)
    by false test e =
        record { span = span; enough = ltb-false (precision_ns (pos 30)) half test; same = same_ok response message e }

    known : (b : Bool)
        → answer_at ticket error (cond b (Err (faults.Beyond span)) (Ok (between (cut span.lo) (cut span.hi))))
        ≡ Ok message
        → IsMade ticket error message
    known true e = absurd (cc)
    known false e = by (nat_lt (precision_ns (pos 30)) half) refl e

fits_byte : (z : ℤ) → neg_ℤ (pos 30) ≤ℤ z → z ≤ℤ pos 30 → FitsSigned w8 z
fits_byte (pos n) low high = record { sfits = omega (arith, ints, high) }
fits_byte (negsuc n) low high = record { sfits = omega (arith, ints, low) }

response_ranges : (ticket : Ticket) (error : ℕ) (message : Message) → ticket.value < LIMIT → error ≤ max_error
    → IsMade ticket error message → IsMessage (without_originate message)
unfolding without_originate
response_ranges ticket error message value small x =
    let middle = between (cut x.span.lo) (cut x.span.hi) in
    let least = exponents_are_least (max ticket.half middle.half) x.enough in
    let low = least.low in
    let high = least.high in
    subst (λ (m : Message). IsMessage (without_originate m)) x.same (record {
      message_type = omega arith;
      precision = fits_byte _ low high;
      error = omega (arith, small);
      originate = record { seconds = omega arith; nanoseconds = omega arith };
      receive = stamp_small ticket.value value;
      transmit = stamp_small middle.value (between_small x.span);
    })

-- what is read from a response's datagram tells the same
pub reads_back : (own : Local) (before_take before_give : History) (take give : ℕ) (request : List ℕ) (ticket : Ticket)
    (message read : Message) → received_after own before_take take request ≡ Ok ticket
    → answered_after own before_give give ticket ≡ Ok message → decoded (encoded message) ≡ Ok read
    → without_originate message ≡ without_originate read
reads_back own before_take before_give take give request ticket message read received is e =
    decoded_same message read
    (response_ranges ticket _ message
    (ticket_small (wall_span own take (accepted_answers own before_take)) (requested_by (decoded request)) ticket
    received) (errors_small own before_give)
    (made_of ticket _ (wall_span own give (accepted_answers own before_give)) message is)) e

-- ---- requests
-- bytes whose field tells another type are no request
type_of_encoded : (message : Message) → (fields (encoded message)).message_type ≡ message.message_type
unfolding encoded fields
type_of_encoded message = refl

no_request : (first : Option WcFault) (message : Message) → message.message_type == 0 ≡ false
    → option_and_then (λ (m : Message). cond (m.message_type == 0) (Some m) None)
    (result_ok (unless_fault first message)) ≡ None
no_request None message e = ap (λ b. cond b (Some message) None) e
no_request (Some first) message e = refl

-- an answer is no request
pub answer_is_no_request : (own : Local) (history : History) (reading : ℕ) (ticket : Ticket) (bytes : List ℕ)
    → datagram_of (answered_after own history reading ticket) ≡ Ok bytes → request_in bytes ≡ None
answer_is_no_request own history reading ticket bytes e = by (answered_after own history reading ticket) refl e
  where
    by : (x : Result Message RelayFault) → answered_after own history reading ticket ≡ x → datagram_of x ≡ Ok bytes
        → request_in bytes ≡ None
    by (Err fault) is e = absurd (cc)
    by (Ok message) is e =
        let x = made_of ticket _ (wall_span own reading (accepted_answers own history)) message is in
        subst (λ (b : List ℕ). request_in b ≡ None) (same_ok (encoded message) bytes e)
        (no_request (fault (encoded message)) (fields (encoded message)) (ap (λ n. n == 0)
        (type_of_encoded message ∙ ap (λ (m : Message). m.message_type) (sym x.same))))
