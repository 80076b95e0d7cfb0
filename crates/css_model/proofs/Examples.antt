-- The two examples hold.
use Rattle.std.proofs.Common.{◌≡◌, ℕ, ◌+◌, ◌-◌, ◌*◌, min, refl, arith, [], ◌∷◌, length, drop, inl, inr, ap}
use Rattle.std.specs.Prelude.{Some, None, ◌==◌, if◌then◌else◌, ⊤}
use Rattle.std.proofs.lemmas.Option.{cond_some, MatchOption-at_some}
use Rattle.css_model.specs.Numbers.{IsWithin}
use Rattle.css_model.specs.WallClock.{Answer, lower, upper, lo, hi, scaled_width}
use Rattle.css_model.specs.World.{OwnClock, Reads, IsWorldFor, IsInRange}
use Rattle.css_model.specs.Truth.{Contains}
use Rattle.css_model.specs.Wire.{encoded, fault, fields, stamp_of}
use Rattle.css_model.specs.declared.Why.TheVariants as why
use Rattle.css_model.specs.History.{Clock, Each, wall_answer}
use Rattle.css_model.specs.Explains.{RisesAt, AsksAt, IsLawful, IsJustAsked, WasAsked, IsTruthful, HappensIn, Explains}
use Rattle.css_model.specs.Examples.{Example, IsExample, exact_world, one_exchange, drifting_world, drifting_answer}
use Rattle.css_model.specs.Examples.{follow_up_after_sleep}
use Rattle.css_model.proofs.Wall.{wall_is_true}

-- the clock that a companion has is the one that the world gives companion 1
same_clock : (who : ℕ) (clock a : OwnClock) → (if who == 1 then Some clock else None) ≡ Some a
    → (clock.value ≡ a.value) × (clock.sleeps ≡ a.sleeps)
same_clock who clock a e =
    let same = cond_some (who == 1) clock a e in
    (ap (λ (c : OwnClock). c.value) same.1, ap (λ (c : OwnClock). c.sleeps) same.1)

-- what the law of the wall clock then says of an example
contains_of : (e : Example) → IsWorldFor e.errors e.world 1 e.own → IsLawful (Clock why.Turn e.reading ∷ e.history)
    → Explains e.world 1 e.errors.tv e.own (Clock why.Turn e.reading ∷ e.history) (λ number. number)
    → wall_answer e.own e.history e.reading ≡ Some e.answer
    → Contains e.own e.answer e.reading (e.world (length e.history)).wall
contains_of e is_world lawful explained narrowest =
    MatchOption-at_some ⊤ (λ (a : Answer). Contains e.own a e.reading (e.world (length e.history)).wall) e.answer
    narrowest
    (wall_is_true e.errors e.world 1 e.own (Clock why.Turn e.reading ∷ e.history) (λ number. number) is_world lawful
    explained).0

-- ---- one exchange between exact clocks
-- exact clocks keep an error of 0
exact_is_world : IsWorldFor one_exchange.errors exact_world 1 one_exchange.own
exact_is_world = record {
  keeps = record {
    order = λ i j h. omega arith;
    tv = λ i j h. omega arith;
    sleeps = λ who i j a b h p q. omega (arith, same_clock who _ a p, same_clock who _ b q);
    companion = λ who i j a b h p q e. omega (arith, same_clock who _ a p, same_clock who _ b q);
  };
  declared = omega arith;
  ranges = record { error = omega arith; precision = omega arith };
}

-- and show less than the limit
exact_in_range : IsInRange exact_world
exact_in_range = record { tv = λ i. omega arith; companion = λ who i a p. omega (arith, same_clock who _ a p) }

-- the request tells its reading
exact_lawful : IsLawful (Clock why.Turn 1600 ∷ one_exchange.history)
unfolding encoded fault fields
exact_lawful = record {
  rises = (tt, (tt, (tt, (tt, (tt, tt)))));
  asks = (tt, (tt, (tt, (record { reading = 1000; before = []; just_before = refl; same = refl }, (tt, tt)))));
}

-- the companion's clock at a moment of the exact world
exact_reads : (i reading : ℕ) → 1000 + 200 * min i 3 ≡ reading → Reads exact_world 1 i 0 reading 0
exact_reads i reading e =
    record {
      clock = record { value = 1000 + 200 * min i 3; sleeps = 0 };
      shows = refl;
      awake = refl;
      near =
          omega arith;
    }

-- the readings are exact, and so is the response
exact_explained : Explains exact_world 1 0 one_exchange.own (Clock why.Turn 1600 ∷ one_exchange.history)
    (λ number. number)
unfolding encoded fault fields scaled_width lower upper
exact_explained = record {
  happens = record {
    in_order = λ i j h. h;
    reads = (exact_reads 4 1600 refl, (exact_reads 3 1600 refl, (tt, (tt, (exact_reads 0 1000 refl, tt)))));
  };
  truthful = (
    tt,
    (
      (λ _. record {
        ask = 0;
        received_at = 1;
        transmit_at = 2;
        sent_at = 2;
        asked = inr (inl (refl, record { reading = 1000; before = []; just_before = refl; same = refl }, refl));
        received_later = omega arith;
        transmit_later = omega arith;
        sent_later = omega arith;
        landed_later = omega arith;
        receive = omega arith;
        transmit = omega arith;
        at_once = λ _. refl;
        declared = omega arith;
        promised_later = λ h. absurd (omega arith);
      }),
      (tt, (tt, (tt, tt))),
    ),
  );
}

-- it is accepted, and alone
exact_narrowest : wall_answer one_exchange.own one_exchange.history 1600 ≡ Some one_exchange.answer
unfolding encoded fault fields scaled_width lower upper
exact_narrowest = refl

-- its span
exact_ends : (lo one_exchange.own one_exchange.answer 1600 ≡ one_exchange.low)
    × (hi one_exchange.own one_exchange.answer 1600 ≡ one_exchange.high)
unfolding lo hi lower upper
exact_ends = (refl, refl)

-- so the first example holds
pub one_exchange_holds : IsExample one_exchange
one_exchange_holds = record {
  is_world = exact_is_world;
  in_range = exact_in_range;
  lawful = exact_lawful;
  explained = exact_explained;
  narrowest = exact_narrowest;
  low_end = exact_ends.0;
  high_end = exact_ends.1;
  contains = contains_of one_exchange exact_is_world exact_lawful exact_explained exact_narrowest;
}

-- ---- a response and its follow-up, after a sleep
-- a clock that is 250 ppm fast and one that is 500 ppm slow while awake keep these errors
drifting_is_world : IsWorldFor follow_up_after_sleep.errors drifting_world 1 follow_up_after_sleep.own
drifting_is_world = record {
  keeps = record {
    order = λ i j h. omega arith;
    tv = λ i j h. omega arith;
    sleeps = λ who i j a b h p q. omega (arith, same_clock who _ a p, same_clock who _ b q);
    companion = λ who i j a b h p q e. omega (arith, same_clock who _ a p, same_clock who _ b q);
  };
  declared = omega arith;
  ranges = record { error = omega arith; precision = omega arith };
}

-- and show less than the limit
drifting_in_range : IsInRange drifting_world
drifting_in_range = record { tv = λ i. omega arith; companion = λ who i a p. omega (arith, same_clock who _ a p) }

-- the second request's reading is above the first one's, which is before the sleep
drifting_rises : Each RisesAt (Clock why.Turn 5998000 ∷ follow_up_after_sleep.history)
drifting_rises =
    (tt, (tt, (tt, (tt, (tt, (tt, (tt, (tt, ((tt, (tt, ((λ _. omega arith), tt))), (tt, (tt, (tt, tt))))))))))))

-- both requests tell the reading before them
abbrev first_asked : IsJustAsked (stamp_of 1000400) (drop 10 follow_up_after_sleep.history)
first_asked = record { reading = 1000400; before = []; just_before = refl; same = refl }

abbrev second_asked : IsJustAsked (stamp_of 1999900) (drop 7 follow_up_after_sleep.history)
second_asked =
    record { reading = 1999900; before = drop 8 follow_up_after_sleep.history; just_before = refl; same = refl }

drifting_asks : Each AsksAt (Clock why.Turn 5998000 ∷ follow_up_after_sleep.history)
unfolding encoded fault fields
drifting_asks =
    let from_first : Each AsksAt (drop 9 follow_up_after_sleep.history) = (first_asked, (tt, tt)) in
    let from_second : Each AsksAt (drop 6 follow_up_after_sleep.history) = (second_asked, (tt, (tt, from_first))) in
    (tt, (tt, (tt, (tt, (tt, (tt, (tt, from_second)))))))

-- so the history is lawful
drifting_lawful : IsLawful (Clock why.Turn 5998000 ∷ follow_up_after_sleep.history)
drifting_lawful = record { rises = drifting_rises; asks = drifting_asks }

-- the companion's clock at a moment of the drifting world
drifting_reads : (i reading sleeps : ℕ) → min (i - 1) 1 ≡ sleeps
    → IsWithin 1000 reading (1000000 + 499750 * (min i 11 - min (i - 1) 1))
    → Reads drifting_world 1 i 1000 reading sleeps
drifting_reads i reading sleeps slept near = record {
  clock = record { value = 1000000 + 499750 * (min i 11 - min (i - 1) 1); sleeps = min (i - 1) 1 };
  shows = refl;
  awake = slept;
  near = near;
}

-- each reading is within 1000 ns of the companion's clock
drifting_happens : HappensIn drifting_world 1 follow_up_after_sleep.own
    (Clock why.Turn 5998000 ∷ follow_up_after_sleep.history) (λ number. number)
drifting_happens =
    let turn = drifting_reads 11 5998000 1 refl (omega arith) in
    let follow_up = drifting_reads 10 5497750 1 refl (omega arith) in
    let response = drifting_reads 8 4499000 1 refl (omega arith) in
    let late = drifting_reads 6 3498000 1 refl (omega arith) in
    let second = drifting_reads 3 1999900 1 refl (omega arith) in
    let first = drifting_reads 0 1000400 0 refl (omega arith) in
    record {
      in_order = λ i j h. h;
      reads = (turn, (follow_up, (tt, (response, (tt, (late, (tt, (tt, (second, (tt, (tt, (first, tt))))))))))));
    }

-- the response and its follow-up tell of the second request
drifting_asked : WasAsked (stamp_of 1999900) 3 (drop 6 follow_up_after_sleep.history)
unfolding encoded fault fields
drifting_asked = inl (refl, second_asked, refl)

-- the response is truthful, though its transmit value was read before its sending
drifting_response : IsTruthful drifting_world 64000 (λ number. number)
    (record { message = drifting_answer 2 1999900 5102025000 5102025000; reading = 4499000 })
    (drop 3 follow_up_after_sleep.history)
drifting_response = record {
  ask = 3;
  received_at = 5;
  transmit_at = 5;
  sent_at = 6;
  asked = inr (inr (inr drifting_asked));
  received_later = omega arith;
  transmit_later = omega arith;
  sent_later = omega arith;
  landed_later = omega arith;
  receive = omega arith;
  transmit = omega arith;
  at_once = λ other. absurd (other refl);
  declared = omega arith;
  promised_later = λ h. absurd (omega arith);
}

-- the follow-up is truthful: its response landed after its sending
drifting_follow_up : IsTruthful drifting_world 64000 (λ number. number)
    (record { message = drifting_answer 3 1999900 5102025000 5102526000; reading = 5497750 })
    (drop 1 follow_up_after_sleep.history)
unfolding encoded fault fields
drifting_follow_up = record {
  ask = 3;
  received_at = 5;
  transmit_at = 6;
  sent_at = 6;
  asked = inr (inr (inr (inr (inr drifting_asked))));
  received_later = omega arith;
  transmit_later = omega arith;
  sent_later = omega arith;
  landed_later = omega arith;
  receive = omega arith;
  transmit = omega arith;
  at_once = λ _. refl;
  declared = omega arith;
  promised_later = λ _. (tt, ((λ _. omega arith), (tt, (tt, (tt, (tt, (tt, (tt, (tt, (tt, tt))))))))));
}

-- so the world explains the history; the late answer landed nothing
drifting_explained : Explains drifting_world 1 64000 follow_up_after_sleep.own
    (Clock why.Turn 5998000 ∷ follow_up_after_sleep.history) (λ number. number)
unfolding encoded fault fields scaled_width lower upper
drifting_explained = record {
  happens = drifting_happens;
  truthful = (
    tt,
    (
      (λ _. drifting_follow_up),
      (tt, ((λ _. drifting_response), (tt, (tt, (tt, (tt, (tt, (tt, (tt, (tt, tt)))))))))),
    ),
  );
}

-- of the two the follow-up is the narrowest
drifting_narrowest : wall_answer follow_up_after_sleep.own follow_up_after_sleep.history 5998000
    ≡ Some follow_up_after_sleep.answer
unfolding encoded fault fields scaled_width lower upper
drifting_narrowest = refl

-- its span
drifting_ends : (lo follow_up_after_sleep.own follow_up_after_sleep.answer 5998000 ≡ follow_up_after_sleep.low)
    × (hi follow_up_after_sleep.own follow_up_after_sleep.answer 5998000 ≡ follow_up_after_sleep.high)
unfolding lo hi lower upper
drifting_ends = (refl, refl)

-- so the second example holds
pub follow_up_after_sleep_holds : IsExample follow_up_after_sleep
follow_up_after_sleep_holds = record {
  is_world = drifting_is_world;
  in_range = drifting_in_range;
  lawful = drifting_lawful;
  explained = drifting_explained;
  narrowest = drifting_narrowest;
  low_end = drifting_ends.0;
  high_end = drifting_ends.1;
  contains = contains_of follow_up_after_sleep drifting_is_world drifting_lawful drifting_explained drifting_narrowest;
}
