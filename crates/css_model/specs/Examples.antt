-- Two histories, each with a world that explains it: the premises of the wall clock's promise can be met.
use Rattle.std.specs.Prelude.{ℕ, ◌+◌, ◌-◌, ◌*◌, ◌≡◌, ℤ, pos, negsuc, min, [], ◌∷◌, length, ◌==◌, if◌then◌else◌, Some}
use Rattle.std.specs.Prelude.{None}
use Rattle.css_model.specs.declared.Message.{Message}
use Rattle.css_model.specs.declared.Why.TheVariants as why
use Rattle.css_model.specs.WallClock.{Answer, Local, lo, hi}
use Rattle.css_model.specs.World.{OwnClock, World, Errors, IsWorldFor, IsInRange}
use Rattle.css_model.specs.Truth.{Contains}
use Rattle.css_model.specs.Wire.{encoded, request_at, stamp_of}
use Rattle.css_model.specs.History.{Slept, Clock, Sent, Took, History, wall_answer}
use Rattle.css_model.specs.Explains.{IsLawful, Explains}

-- A world, and what companion 1 did there up to a reading. Entry and moment have the same number. Then the answer that
-- is the narrowest at the reading, and the two ends of its span.
pub record Example : Type 0 where
  pub errors : Errors
  pub world : World
  pub own : Local
  pub history : History
  pub reading : ℕ
  pub answer : Answer
  pub low : ℤ
  pub high : ℤ

-- the example's world keeps its errors and explains its history, and so the span contains the wall clock
pub record IsExample (example : Example) : Type 0 where
  pub is_world : IsWorldFor example.errors example.world 1 example.own
  pub in_range : IsInRange example.world
  pub lawful : IsLawful (Clock why.Turn example.reading ∷ example.history)
  pub explained : Explains example.world 1 example.errors.tv example.own
      (Clock why.Turn example.reading ∷ example.history) (λ number. number)
  pub narrowest : wall_answer example.own example.history example.reading ≡ Some example.answer
  pub low_end : lo example.own example.answer example.reading ≡ example.low
  pub high_end : hi example.own example.answer example.reading ≡ example.high
  pub contains : Contains example.own example.answer example.reading (example.world (length example.history)).wall

-- ---- one exchange between exact clocks
-- The wall clock is 3800 ns ahead of the companion's, and both keep true time. There are 200 ns between two moments, up
-- to the landing.
abbrev pub exact_world : World
exact_world i = record {
  time = 1000 + 200 * min i 3;
  wall = 4800 + 200 * min i 3;
  companion = λ who. if who == 1 then Some (record { value = 1000 + 200 * min i 3; sleeps = 0 }) else None;
}

-- received at moment 1, answered at moment 2
abbrev pub exact_response : Message
exact_response = record {
  message_type = 1;
  precision = negsuc 29;
  error = 0;
  originate = stamp_of 1000;
  receive = stamp_of 5000;
  transmit = stamp_of 5200;
}

-- asked at moment 0, landed and reported at moment 3
abbrev pub one_exchange : Example
one_exchange = record {
  errors = record { tv = 0; companion = λ who. 0 };
  world = exact_world;
  own = record { error = 0; precision = 0 };
  history =
      Clock why.Land 1600 ∷ Took 1 (encoded exact_response)
      ∷ Sent 1 (encoded (request_at 1000)) ∷ Clock why.Ask 1000
      ∷ [];
  reading = 1600;
  answer = record { t1 = 1000; t2 = 5000; t3 = 5200; t4 = 1600; precision = 1; error = 0 };
  low = pos 5197;
  high = pos 5603;
}

-- ---- a response and its follow-up, after a sleep
-- The television's oscillator is 250 ppm fast and the companion's 500 ppm slow. Between moments 1 and 2 the companion
-- sleeps: 100 ms pass, and its clock stands still. All other moments are half a millisecond apart, up to moment 11.
abbrev pub drifting_world : World
drifting_world i =
    let number = min i 11 in
    let slept = min (i - 1) 1 in
    let clock : OwnClock = record { value = 1000000 + 499750 * (number - slept); sleeps = slept } in
    record {
      time = 500000 * number + 99500000 * slept;
      wall = 5000000000 + 500125 * number + 99524875 * slept;
      companion = λ who. if who == 1 then Some clock else None;
    }

-- an answer of a television that declares 250 ppm and a precision of 2^-20 seconds, which is 954 ns
abbrev pub drifting_answer : (message_type originate receive transmit : ℕ) → Message
drifting_answer message_type originate receive transmit = record {
  message_type = message_type;
  precision = negsuc 19;
  error = 64000;
  originate = stamp_of originate;
  receive = stamp_of receive;
  transmit = stamp_of transmit;
}

-- Asked at moment 0, and again after the sleep at moment 3. The second request is received at moment 5 and answered at
-- moment 6. First a late answer to the first request lands, and isn't asked any more; then the response to the second
-- one, whose transmit value is only its receive value; then the follow-up, which tells when the response was sent.
abbrev pub follow_up_after_sleep : Example
follow_up_after_sleep = record {
  errors = record { tv = 64000; companion = λ who. 128000 };
  world = drifting_world;
  own = record { error = 128000; precision = 1000 };
  history =
      Clock why.Land 5497750 ∷ Took 1 (encoded (drifting_answer 3 1999900 5102025000 5102526000))
      ∷ Clock why.Land 4499000 ∷ Took 1 (encoded (drifting_answer 2 1999900 5102025000 5102025000))
      ∷ Clock why.Land 3498000 ∷ Took 1 (encoded (drifting_answer 1 1000400 5000500000 5000500000))
      ∷ Sent 1 (encoded (request_at 1999900)) ∷ Clock why.Ask 1999900
      ∷ Slept
      ∷ Sent 1 (encoded (request_at 1000400)) ∷ Clock why.Ask 1000400
      ∷ [];
  reading = 5998000;
  answer = record { t1 = 1999900; t2 = 5102025000; t3 = 5102526000; t4 = 4499000; precision = 954; error = 64000 };
  low = pos 5104020921;
  high = pos 5106029058;
}
