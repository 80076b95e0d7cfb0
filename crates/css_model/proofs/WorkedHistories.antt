-- What a companion accepts, worked out by hand: the definitions compute to these.
use Rattle.std.proofs.Common.{◌≡◌, ℕ, zero, suc, refl, arith, [], ◌∷◌, Some, None, true, false}
use Rattle.std.specs.Prelude.{pos, negsuc, neg_ℤ, ◌*◌}
use Rattle.css_model.specs.Numbers.{F}
use Rattle.css_model.specs.WallClock.{Answer, Local, lower, upper, lo, hi, scaled_width}
use Rattle.css_model.specs.Wire.{encoded, request_at, fault, fields, stamp_of}
use Rattle.css_model.specs.declared.Message.{Message}
use Rattle.css_model.specs.declared.Why.TheVariants as why
use Rattle.css_model.specs.History.{Slept, Clock, Sent, Took, History, landed_answer, landed_answers, accepted_answers}
use Rattle.css_model.specs.History.{wall_answer, is_asked}
use Rattle.css_model.specs.Explains.{IsLawful}

exact : Local
exact = record { error = 0; precision = 0 }

-- a request at a reading
abbrev asks : ℕ → History → History
asks reading older = Sent 1 (encoded (request_at reading)) ∷ Clock why.Ask reading ∷ older

-- a datagram that lands at a reading
abbrev lands : ℕ → Message → History → History
lands reading message older = Clock why.Land reading ∷ Took 1 (encoded message) ∷ older

-- an answer with these times, of a television with a precision of 2^-30 seconds and an exact clock
abbrev answer : (message_type originate receive transmit : ℕ) → Message
answer message_type originate receive transmit = record {
  message_type = message_type;
  precision = negsuc 29;
  error = 0;
  originate = stamp_of originate;
  receive = stamp_of receive;
  transmit = stamp_of transmit;
}

-- the times of such an answer
abbrev times : (t1 t2 t3 t4 : ℕ) → Answer
times t1 t2 t3 t4 = record { t1 = t1; t2 = t2; t3 = t3; t4 = t4; precision = 1; error = 0 }

-- ---- follow-ups
-- A request that was received twice, at 11100 and at 11300: the first response lands, and then the follow-up of the
-- second.
abbrev received_twice : History
received_twice = lands 2100 (answer 3 1000 11300 12050) (lands 1400 (answer 2 1000 11100 11100) (asks 1000 []))

-- the follow-up isn't paired with a response of another receive value
follow_up_of_another_response : wall_answer exact received_twice 2100 ≡ Some (times 1000 11300 12050 2100)
unfolding encoded fault fields scaled_width lower upper exact
follow_up_of_another_response = refl

span_of_another_response : (lo exact (times 1000 11300 12050 2100) 2100 ≡ pos 12047)
    × (hi exact (times 1000 11300 12050 2100) 2100 ≡ pos 12403)
unfolding lo hi lower upper exact
span_of_another_response = (refl, refl)

-- paired with it, it would contradict itself
wrong_pair_is_impossible : scaled_width exact (times 1000 11300 12050 1400) 2100 ≡ neg_ℤ (pos (344 * F * F))
unfolding scaled_width lower upper exact
wrong_pair_is_impossible = refl

-- a follow-up that follows its response counts from the landing of the response
abbrev in_order : History
in_order = lands 1400 (answer 3 1000 11100 11200) (lands 1300 (answer 2 1000 11100 11100) (asks 1000 []))

follow_up_after_response : accepted_answers exact in_order ≡ times 1000 11100 11200 1300 ∷ times 1000 11100 11100 1300
    ∷ []
unfolding encoded fault fields scaled_width lower upper exact
follow_up_after_response = refl

-- of two copies of a response the first one counts
first_copy_counts : accepted_answers exact (lands 1500 (answer 3 1000 11100 11200)
    (lands 1400 (answer 2 1000 11100 11100) (lands 1300 (answer 2 1000 11100 11100) (asks 1000 []))))
    ≡ times 1000 11100 11200 1300 ∷ times 1000 11100 11100 1400 ∷ times 1000 11100 11100 1300 ∷ []
unfolding encoded fault fields scaled_width lower upper exact
first_copy_counts = refl

-- a follow-up that landed before its response
abbrev follow_up_first : History
follow_up_first = lands 1400 (answer 2 1000 11100 11100) (lands 1300 (answer 3 1000 11100 11200) (asks 1000 []))

follow_up_before_response : wall_answer exact follow_up_first 1400 ≡ Some (times 1000 11100 11200 1300)
unfolding encoded fault fields scaled_width lower upper exact
follow_up_before_response = refl

span_before_response : (lo exact (times 1000 11100 11200 1300) 1400 ≡ pos 11297)
    × (hi exact (times 1000 11100 11200 1300) 1400 ≡ pos 11503)
unfolding lo hi lower upper exact
span_before_response = (refl, refl)

-- a response that contradicts itself isn't accepted, and still times its follow-up
impossible_response_times_its_follow_up : accepted_answers exact
    (lands 1700 (answer 3 1000 5000 5200) (lands 1600 (answer 2 1000 5000 6000) (asks 1000 [])))
    ≡ times 1000 5000 5200 1600 ∷ []
unfolding encoded fault fields scaled_width lower upper exact
impossible_response_times_its_follow_up = refl

-- ---- 65 requests
-- a request at each of the readings 1 to n
abbrev asks_up_to : ℕ → History
asks_up_to zero = []
asks_up_to (suc n) = asks (suc n) (asks_up_to n)

first_of_65_is_forgotten : is_asked (stamp_of 1) (asks_up_to 65) ≡ false
unfolding encoded fault fields
first_of_65_is_forgotten = refl

second_of_65_is_asked : is_asked (stamp_of 2) (asks_up_to 65) ≡ true
unfolding encoded fault fields
second_of_65_is_asked = refl

answer_to_the_forgotten : accepted_answers exact (lands 100 (answer 1 1 5000 5000) (asks_up_to 65)) ≡ []
unfolding encoded fault fields scaled_width lower upper exact
answer_to_the_forgotten = refl

answer_to_the_second : wall_answer exact (lands 100 (answer 1 2 5000 5000) (asks_up_to 65)) 100
    ≡ Some (times 2 5000 5000 100)
unfolding encoded fault fields scaled_width lower upper exact
answer_to_the_second = refl

span_of_the_second : (lo exact (times 2 5000 5000 100) 100 ≡ pos 4997)
    × (hi exact (times 2 5000 5000 100) 100 ≡ pos 5101)
unfolding lo hi lower upper exact
span_of_the_second = (refl, refl)

-- ---- what doesn't land
own_request_is_no_answer : landed_answers (lands 100 (request_at 65) (asks_up_to 65)) ≡ []
unfolding encoded fault fields
own_request_is_no_answer = refl

empty_datagram_is_no_answer : landed_answers (Clock why.Land 100 ∷ Took 1 [] ∷ asks_up_to 65) ≡ []
unfolding encoded fault fields
empty_datagram_is_no_answer = refl

other_readings_land_nothing : landed_answer (Clock why.Turn 100)
    (Took 1 (encoded (answer 1 1000 5000 5200)) ∷ asks 1000 []) ≡ None
other_readings_land_nothing = refl

-- ---- sleeps
nothing_is_accepted_after_a_sleep : accepted_answers exact (Slept ∷ received_twice) ≡ []
nothing_is_accepted_after_a_sleep = refl

late_answer_is_not_asked : accepted_answers exact
    (lands 2200 (answer 1 1000 11100 11200) (asks 2150 (Slept ∷ received_twice))) ≡ []
unfolding encoded fault fields scaled_width lower upper exact
late_answer_is_not_asked = refl

-- a datagram that was received before a sleep, and whose reading comes after it, isn't asked
slept_while_landing : accepted_answers exact (Clock why.Land 8 ∷ Slept ∷ Took 1 (encoded (answer 1 5 6000 6001))
    ∷ asks 5 []) ≡ []
unfolding encoded fault fields scaled_width lower upper exact
slept_while_landing = refl

-- an exchange after a sleep is accepted as ever, and answers from before it are not the narrowest of anything
abbrev asked_again : History
asked_again = lands 14 (answer 1 12 6000 6001) (asks 12 (Slept ∷ lands 8 (answer 1 5 5990 5991) (asks 5 [])))

answer_after_a_sleep : wall_answer exact asked_again 20 ≡ Some (times 12 6000 6001 14)
unfolding encoded fault fields scaled_width lower upper exact
answer_after_a_sleep = refl

span_after_a_sleep : (lo exact (times 12 6000 6001 14) 20 ≡ pos 6004) × (hi exact (times 12 6000 6001 14) 20 ≡ pos 6011)
unfolding lo hi lower upper exact
span_after_a_sleep = (refl, refl)

-- Why readings for requests must rise over a sleep: here the clock shows 1000 for both requests, and the answer to the
-- first is accepted as one to the second. Its span, [5197, 5603], lacks however long the companion slept.
abbrev same_reading_twice : History
same_reading_twice = asks 1000 (Slept ∷ asks 1000 [])

same_reading_twice_is_unlawful : ¬ IsLawful same_reading_twice
unfolding encoded fault fields
same_reading_twice_is_unlawful lawful = omega (arith, lawful.rises.1.0.1.1.0 (omega arith))

late_answer_passes_for_a_new_one :
    accepted_answers exact (lands 1600 (answer 1 1000 5000 5200) same_reading_twice) ≡ times 1000 5000 5200 1600 ∷ []
unfolding encoded fault fields scaled_width lower upper exact
late_answer_passes_for_a_new_one = refl
