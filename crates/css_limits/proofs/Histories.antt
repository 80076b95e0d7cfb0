-- The histories of a response, and of a response and its follow-up, have limits.
use Rattle.std.proofs.Common.{◌≡◌, ℕ, zero, suc, ◌+◌, ◌-◌, ◌*◌, ◌^◌, ◌<◌, ◌≤◌, min, []}
use Rattle.std.proofs.Common.{arith, ap, sym, ◌∙◌, subst, refl, inl, inr, length, true}
use Rattle.std.specs.Prelude.{ℤ, pos, negsuc, Some, ◌==◌, List, ⊤}
use Rattle.std.proofs.lemmas.Int.{ints}
use Rattle.std.proofs.lemmas.Option.{MatchOption-at_some}
use Rattle.css_model.specs.declared.Stamp.{Stamp}
use Rattle.css_model.specs.declared.Message.{Message}
use Rattle.css_model.specs.declared.Why.TheVariants as why
use Rattle.css_model.specs.Numbers.{precision_ns, max_error}
use Rattle.css_model.specs.WallClock.{Local}
use Rattle.css_model.specs.World.{Reads}
use Rattle.css_model.specs.Wire.{stamp_of, is_same_stamp}
use Rattle.css_model.specs.History.{Clock, LandedAnswer, landed_answer, is_promise_of}
use Rattle.css_model.specs.Explains.{IsTruthful, WasAsked}
use Rattle.css_limits.specs.Worlds.{Shown, item, world_of, declared}
use Rattle.css_limits.specs.Worlds.{latest_first, latest_last, earliest_first, earliest_last}
use Rattle.css_limits.specs.Limits.{MayShow, IsDeclared, HasRun}
use Rattle.css_limits.specs.Histories.{Trip, IsTrip, Told, taken, times, told_by_response, Explained, HasLimits}
use Rattle.css_limits.specs.Histories.{ResponsesHaveLimits}
use Rattle.css_limits.specs.Histories.{Followed, IsFollowed, told_by_follow_up, FollowUpsHaveLimits}
use Rattle.css_model.proofs.Landings.{landed_answer-is}
use Rattle.css_limits.proofs.Times.{up_is, cancel_lt}
use Rattle.css_limits.proofs.Lists.{reads_of}
use Rattle.css_limits.proofs.Open.{IsOpen}
use Rattle.css_limits.proofs.Moments.{latest_later, earliest_later}
use Rattle.css_limits.proofs.Bounds.{latest-high, earliest-low}
use Rattle.css_limits.proofs.Limits.{open_of, Fits, latest_fits, earliest_fits}

-- powers of 2 are above 0
power_above : (n : ℕ) → 0 < 2 ^ n
power_above zero = omega arith
power_above (suc n) = omega (arith, power_above n)

-- a precision is at least a nanosecond
at_least_one : (exponent : ℤ) → 1 ≤ precision_ns exponent
at_least_one (pos n) = omega (arith, power_above n)
at_least_one (negsuc n) =
    let up = up_is 1000000000 (2 ^ suc n) (power_above (suc n)) in
    let above : 0 < precision_ns (negsuc n) =
    cancel_lt 0 (precision_ns (negsuc n)) (2 ^ suc n) (omega (arith, up.reached)) in
    omega arith

-- what a datagram declares
pub declared_by : (trip : Trip) (message : Message) → message.error ≤ max_error → IsDeclared (times trip message)
declared_by trip message small = record { error = small; precise = at_least_one message.precision }

-- a number equals itself
same_number : (n : ℕ) → (n == n) ≡ true
same_number n = grind arith

-- a stamp is the same as itself
pub same_stamp : (s : Stamp) → is_same_stamp s s ≡ true
same_stamp s = rw (same_number s.seconds, same_number s.nanoseconds) refl

-- the answer lands
pub landed_is : (trip : Trip) → IsTrip trip
    → landed_answer (Clock why.Land trip.landed) (taken trip)
    ≡ Some (record { message = trip.message; reading = trip.landed })
landed_is trip is =
    rw (is.answer, is.request, is.originate, same_stamp (stamp_of trip.asked)) refl

-- the request of a trip is entry 0
pub asked_first : (trip : Trip) (originate : Stamp) (number : ℕ) → WasAsked originate number (taken trip) → number ≡ 0
asked_first trip originate number (inl took) = absurd (let none = took.0 in cc)
asked_first trip originate number (inr (inl sent)) = omega (arith, sent.2, ap length sent.1.just_before)
asked_first trip originate number (inr (inr (inl clock))) = absurd (let none = clock.0 in cc)
asked_first trip originate number (inr (inr (inr none))) = absurd none

-- and it was asked there
was_asked : (trip : Trip) (originate : Stamp) → IsTrip trip → originate ≡ stamp_of trip.asked
    → WasAsked originate 0 (taken trip)
was_asked trip originate is same =
    inr (inl (
      is.request ∙ ap Some (sym same),
      record { reading = trip.asked; before = []; just_before = refl; same = same },
      refl,
    ))

-- a world that explains a history has the exchange
may_of : (own : Local) (who : ℕ) (trip : Trip) (told : Told) (reading wall : ℕ)
    → (e : Explained own who told reading wall)
    → e.truthful.ask ≡ 0 → e.truthful.sent_at ≤ e.moment_of 3 → 3 ≤ length told.older
    → Reads e.world who (e.moment_of 0) own.precision trip.asked 0
    → Reads e.world who (e.moment_of 3) own.precision trip.landed 0
    → Reads e.world who (e.moment_of (length told.older + 1)) own.precision reading 0
    → MayShow own (times trip told.landed.message) reading wall
may_of own who trip told reading wall e first sent long asked landed last =
    let truth = e.truthful in
    record {
      errors = e.errors;
      world = e.world;
      who = who;
      exchange = record {
        asked = e.moment_of 0;
        received = truth.received_at;
        transmitted = truth.transmit_at;
        landed = e.moment_of 3;
      };
      sleeps = 0;
      moment = e.moment_of (length told.older + 1);
      is_world = e.is_world;
      declared = truth.declared;
      timed = record {
        received_later = subst (λ n. e.moment_of n ≤ truth.received_at) first truth.received_later;
        transmitted_later = truth.transmit_later;
        landed_later = omega (arith, truth.sent_later, sent);
        t1 = asked;
        t2 = truth.receive;
        t3 = truth.transmit;
        t4 = landed;
      };
      later = e.explains.happens.in_order 3 (length told.older + 1) (omega (arith, long));
      reads = last;
      shows = e.shows;
    }

-- the moment of each entry, where one more moment comes before the last reading
abbrev pub response_moment : ℕ → ℕ
response_moment number = number + min 1 (number - 3)

-- a world of six moments that has the exchange explains the history of a response
response_explained : (own : Local) (who : ℕ) (trip : Trip) (reading : ℕ) → IsTrip trip
    → (first : Shown) (later : List Shown) → Fits own (times trip trip.message) trip.landed reading first later
    → Explained own who (told_by_response trip) reading (item first later 5).wall
response_explained own who trip reading is first later fits =
    let truth : IsTruthful (world_of first later) trip.message.error response_moment
    (record { message = trip.message; reading = trip.landed }) (taken trip) = record {
      ask = 0;
      received_at = 1;
      transmit_at = 2;
      sent_at = 2;
      asked = was_asked trip trip.message.originate is is.originate;
      received_later = omega arith;
      transmit_later = omega arith;
      sent_later = omega arith;
      landed_later = omega arith;
      receive = fits.t2;
      transmit = fits.t3;
      at_once = λ _. refl;
      declared = omega arith;
      promised_later = λ _. (tt, (tt, (tt, tt)));
    } in
    record {
      errors = declared own (times trip trip.message);
      world = world_of first later;
      moment_of = response_moment;
      is_world = fits.is_world who;
      explains = record {
        happens = record {
          in_order = λ i j h. omega arith;
          reads = (
            reads_of who own.precision reading 5 first later fits.last,
            (
              reads_of who own.precision trip.landed 3 first later fits.t4,
              (tt, (tt, (reads_of who own.precision trip.asked 0 first later fits.t1, tt))),
            ),
          );
        };
        truthful = (tt, (rw (landed_is trip is) (λ _. truth), (tt, (tt, (tt, tt)))));
      };
      truthful = truth;
      shows = refl;
    }

-- two such worlds, whose wall clocks are near the ends, are limits
limits_of : (own : Local) (who : ℕ) (told : Told) (between reading : ℕ) → IsOpen own told.answer
    → HasRun own told.answer → told.answer.t4 + 2 * own.precision + 1 ≤ reading
    → told.answer.t4 ≤ between → between ≤ reading
    → ((first : Shown) (later : List Shown) → Fits own told.answer between reading first later
    → Explained own who told reading (item first later 5).wall)
    → HasLimits 4 own who told reading
limits_of own who told between reading given old late after before explained =
    let answer = told.answer in
    let by_least = explained (earliest_first own answer) (earliest_later own answer between reading)
    (earliest_fits own answer between reading given old after before late) in
    let by_greatest = explained (latest_first own answer) (latest_later own answer between reading)
    (latest_fits own answer between reading given after before) in
    let low = earliest-low own answer between reading given late in
    let high = latest-high own answer reading given (omega (arith, late)) in
    record {
      least = (earliest_last own answer between reading).wall;
      least_explained = by_least;
      low_enough = low;
      greatest = (latest_last own answer reading).wall;
      greatest_explained = by_greatest;
      high_enough = high;
      none_narrower = λ bottom top value always above below.
          let first = always (earliest_last own answer between reading).wall by_least in
          let last = always (latest_last own answer reading).wall by_greatest in
          (omega (arith, ints, first.0, low), omega (arith, ints, last.1, high));
    }

pub responses_have_limits : ResponsesHaveLimits 4
responses_have_limits own who trip reading wall is usual old e =
    let told = told_by_response trip in
    let truth = e.truthful in
    let reads = e.explains.happens.reads in
    let first = asked_first trip trip.message.originate truth.ask truth.asked in
    let small = landed_answer-is (Clock why.Land trip.landed) (taken trip) told.landed (landed_is trip is) in
    let may = may_of own who trip told reading wall e first truth.landed_later (omega arith) reads.1.1.1.1.0 reads.1.0
    reads.0 in
    let given = open_of own told.answer reading wall (declared_by trip trip.message small.error) usual may in
    limits_of own who told trip.landed reading given old usual.late (omega arith) (omega (arith, usual.late))
    (response_explained own who trip reading is)

-- ---- follow-ups
-- the follow-up has the request's originate value
originate_is : (f : Followed) (reading : ℕ) → IsFollowed f reading
    → f.message.originate ≡ stamp_of f.trip.asked
originate_is f reading is = sym (ap (λ (m : Message). m.originate) is.response) ∙ is.trip.originate

-- it lands
follow_up_is : (f : Followed) (reading : ℕ) → IsFollowed f reading
    → landed_answer (Clock why.Land f.landed) (told_by_follow_up f).older
    ≡ Some (record { message = f.message; reading = f.landed })
follow_up_is f reading is =
    rw (is.follow_up, is.trip.request, originate_is f reading is, same_stamp (stamp_of f.trip.asked)) refl

-- the response promised it
promised : (f : Followed) (reading : ℕ) → IsFollowed f reading
    → is_promise_of (record { message = f.trip.message; reading = f.trip.landed }) f.message ≡ true
promised f reading is =
    rw (is.response, same_stamp f.message.originate, same_stamp f.message.receive) refl

-- the request is entry 0
asked_before : (f : Followed) (originate : Stamp) (number : ℕ)
    → WasAsked originate number (told_by_follow_up f).older → number ≡ 0
asked_before f originate number (inl took) = absurd (let none = took.0 in cc)
asked_before f originate number (inr (inl clock)) = absurd (let none = clock.0 in cc)
asked_before f originate number (inr (inr rest)) = asked_first f.trip originate number rest

-- the moment of each entry: the follow-up is taken and lands at one
abbrev pub follow_up_moment : ℕ → ℕ
follow_up_moment number = number - min 1 (number - 4)

-- the response is truthful in such a world
response_true : (own : Local) (f : Followed) (reading : ℕ) (first : Shown) (later : List Shown) → IsFollowed f reading
    → Fits own (times f.trip f.message) f.landed reading first later
    → IsTruthful (world_of first later) f.message.error follow_up_moment
    (record { message = f.trip.message; reading = f.trip.landed }) (taken f.trip)
response_true own f reading first later is fits =
    let asked = was_asked f.trip f.message.originate is.trip (originate_is f reading is) in
    let made : Message = record f.message { message_type = 2; transmit = f.message.receive } in
    let truth : IsTruthful (world_of first later) f.message.error follow_up_moment
    (record { message = made; reading = f.trip.landed }) (taken f.trip) = record {
      ask = 0;
      received_at = 1;
      transmit_at = 1;
      sent_at = 2;
      asked = asked;
      received_later = omega arith;
      transmit_later = omega arith;
      sent_later = omega arith;
      landed_later = omega arith;
      receive = fits.t2;
      transmit = fits.t2;
      at_once = λ other. absurd (other refl);
      declared = omega arith;
      promised_later = λ h. absurd (omega arith);
    } in
    subst (λ (m : Message). IsTruthful (world_of first later) f.message.error follow_up_moment
    (record { message = m; reading = f.trip.landed }) (taken f.trip)) (sym is.response) truth

-- and so is the follow-up
follow_up_true : (own : Local) (f : Followed) (reading : ℕ) (first : Shown) (later : List Shown) → IsFollowed f reading
    → Fits own (times f.trip f.message) f.landed reading first later
    → IsTruthful (world_of first later) f.message.error follow_up_moment
    (told_by_follow_up f).landed (told_by_follow_up f).older
follow_up_true own f reading first later is fits =
    let asked = was_asked f.trip f.message.originate is.trip (originate_is f reading is) in
    record {
      ask = 0;
      received_at = 1;
      transmit_at = 2;
      sent_at = 2;
      asked = inr (inr asked);
      received_later = omega arith;
      transmit_later = omega arith;
      sent_later = omega arith;
      landed_later = omega arith;
      receive = fits.t2;
      transmit = fits.t3;
      at_once = λ _. refl;
      declared = omega arith;
      promised_later = λ _. (tt, (rw (landed_is f.trip is.trip) (λ _. omega arith), (tt, (tt, (tt, tt)))));
    }

-- a world of six moments that has the exchange, and the follow-up's landing, explains the history
follow_up_explained : (own : Local) (who : ℕ) (f : Followed) (reading : ℕ) → IsFollowed f reading
    → (first : Shown) (later : List Shown) → Fits own (times f.trip f.message) f.landed reading first later
    → Explained own who (told_by_follow_up f) reading (item first later 5).wall
follow_up_explained own who f reading is first later fits =
    let by_response = response_true own f reading first later is fits in
    let by_follow_up = follow_up_true own f reading first later is fits in
    let read_first = reads_of who own.precision f.trip.asked 0 first later fits.t1 in
    let read_landed = reads_of who own.precision f.trip.landed 3 first later fits.t4 in
    let read_between = reads_of who own.precision f.landed 4 first later fits.before_last in
    record {
      errors = declared own (times f.trip f.message);
      world = world_of first later;
      moment_of = follow_up_moment;
      is_world = fits.is_world who;
      explains = record {
        happens = record {
          in_order = λ i j h. omega arith;
          reads = (
            reads_of who own.precision reading 5 first later fits.last,
            (read_between, (tt, (read_landed, (tt, (tt, (read_first, tt)))))),
          );
        };
        truthful = (
          tt,
          (
            rw (follow_up_is f reading is) (λ _. by_follow_up),
            (tt, (rw (landed_is f.trip is.trip) (λ _. by_response), (tt, (tt, (tt, tt))))),
          ),
        );
      };
      truthful = by_follow_up;
      shows = refl;
    }

pub follow_ups_have_limits : FollowUpsHaveLimits 4
follow_ups_have_limits own who f reading wall is usual old e =
    let told = told_by_follow_up f in
    let truth = e.truthful in
    let reads = e.explains.happens.reads in
    let first = asked_before f f.message.originate truth.ask truth.asked in
    let response : LandedAnswer = record { message = f.trip.message; reading = f.trip.landed } in
    let sent : truth.sent_at ≤ e.moment_of 3 =
    MatchOption-at_some ⊤ (λ (z : LandedAnswer). is_promise_of z f.message ≡ true → truth.sent_at ≤ e.moment_of 3)
    response (landed_is f.trip is.trip) (truth.promised_later is.message_type).1.0 (promised f reading is) in
    let small = landed_answer-is (Clock why.Land f.landed) told.older told.landed (follow_up_is f reading is) in
    let may = may_of own who f.trip told reading wall e first sent (omega arith) reads.1.1.1.1.1.1.0 reads.1.1.1.0
    reads.0 in
    let given = open_of own told.answer reading wall (declared_by f.trip f.message small.error) usual may in
    limits_of own who told f.landed reading given old usual.late is.later is.earlier
    (follow_up_explained own who f reading is)
