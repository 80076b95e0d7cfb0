-- The example of two hops holds.
use Rattle.std.proofs.Common.{◌≡◌, refl, arith, [], drop, inl, inr}
use Rattle.std.specs.Prelude.{Some}
use Rattle.css_model.specs.WallClock.{lower, upper, lo, hi, scaled_width}
use Rattle.css_model.specs.Wire.{encoded, fault, fields, request_at, stamp_of}
use Rattle.css_model.specs.History.{Each, wall_answer}
use Rattle.css_model.specs.Explains.{IsJustAsked, IsLawful, HappensIn, Explains}
use Rattle.css_relay.specs.Precisions.{exponent_for}
use Rattle.css_relay.specs.TwoHops.{IsAnswerOf, RelayedAt}
use Rattle.css_relay.proofs.TwoHops.{two_hops_are_true}
use Rattle.css_premises.specs.Drifting.{drifting, errors, own}
use Rattle.css_premises.specs.Hops.{IsHops, second_of, relayed, relayed_exchange}
use Rattle.css_premises.proofs.Drifting.{is_world, in_range, first_reads, second_reads}

-- ---- the relay
abbrev first_asked : IsJustAsked (stamp_of 1000400) (drop 7 relayed_exchange.history)
first_asked = record { reading = 1000400; before = []; just_before = refl; same = refl }

lawful : IsLawful relayed_exchange.history
unfolding encoded fault fields
lawful = record {
  rises = (tt, (tt, (tt, (tt, (tt, (tt, (tt, (tt, tt))))))));
  asks = (
    tt,
    (tt, (tt, (tt, (tt, (tt, (first_asked, (tt, tt))))))),
  );
}

explained : Explains drifting 1 64000 own relayed_exchange.history (λ number. number)
unfolding encoded fault fields scaled_width lower upper
explained = record {
  happens = record {
    in_order = λ i j h. h;
    reads = (
      tt,
      (
        first_reads 6 3999000 (omega arith),
        (
          first_reads 5 3499000 (omega arith),
          (tt, (first_reads 3 2500000 (omega arith), (tt, (tt, (first_reads 0 1000400 (omega arith), tt))))),
        ),
      ),
    );
  };
  truthful = (
    tt,
    (
      tt,
      (
        tt,
        (
          tt,
          (
            (λ _. record {
              ask = 0;
              received_at = 1;
              transmit_at = 2;
              sent_at = 2;
              asked = inr (inl (refl, first_asked, refl));
              received_later = omega arith;
              transmit_later = omega arith;
              sent_later = omega arith;
              landed_later = omega arith;
              receive = omega arith;
              transmit = omega arith;
              at_once = λ _. refl;
              declared = omega arith;
              promised_later = λ h. absurd (omega arith);
            }),
            (tt, (tt, (tt, tt))),
          ),
        ),
      ),
    ),
  );
}

-- what it answered, by its history
answer_of : IsAnswerOf own relayed_exchange.history relayed
unfolding encoded fault fields scaled_width lower upper lo hi exponent_for
answer_of = record {
  request = encoded (request_at 4000000);
  ticket = record { originate = stamp_of 4000000; value = 5002499364; half = 504069 };
  take = 3499000;
  give = 3999000;
  before_take = drop 3 relayed_exchange.history;
  before_give = drop 2 relayed_exchange.history;
  taken = inl (refl, refl);
  given = inr (inl (refl, refl));
  received = refl;
  answered = refl;
}

-- ---- the second companion
second_lawful : IsLawful (second_of relayed_exchange)
unfolding encoded fault fields
second_lawful = record {
  rises = (tt, (tt, (tt, (tt, (tt, tt)))));
  asks = (tt, (tt, (tt, (record { reading = 4000000; before = []; just_before = refl; same = refl }, (tt, tt)))));
}

second_happens : HappensIn drifting 2 own (second_of relayed_exchange) relayed_exchange.second_moment_of
second_happens = record {
  in_order = λ i j h. omega arith;
  reads = (
    second_reads 8 6000400 (omega arith),
    (second_reads 7 5500000 (omega arith), (tt, (tt, (second_reads 4 4000000 (omega arith), tt)))),
  );
}

-- its answer is the relay's
is_relayed : Each (RelayedAt own relayed_exchange.history (λ number. number) own relayed_exchange.second_moment_of)
    (second_of relayed_exchange)
unfolding answer_of encoded fault fields scaled_width lower upper
is_relayed = (
  tt,
  (
    (λ _. record {
      answer = answer_of;
      ask = 0;
      asked = inr (inl (refl, record { reading = 4000000; before = []; just_before = refl; same = refl }, refl));
      sent_before = omega arith;
      landed_after = omega arith;
    }),
    (tt, (tt, (tt, tt))),
  ),
)

-- it is accepted, and alone
narrowest : wall_answer own relayed_exchange.second_history 6000400 ≡ Some relayed_exchange.answer
unfolding encoded fault fields scaled_width lower upper
narrowest = refl

-- its span
ends : (lo own relayed_exchange.answer 6000400 ≡ relayed_exchange.low)
    × (hi own relayed_exchange.answer 6000400 ≡ relayed_exchange.high)
unfolding lo hi lower upper
ends = (refl, refl)

-- so the example holds
pub relayed_exchange_holds : IsHops relayed_exchange
relayed_exchange_holds = record {
  is_world = is_world 1;
  second_is_world = is_world 2;
  in_range = in_range;
  lawful = lawful;
  explained = explained;
  second_lawful = second_lawful;
  second_happens = second_happens;
  relayed = is_relayed;
  narrowest = narrowest;
  low_end = ends.0;
  high_end = ends.1;
  contains =
      two_hops_are_true errors drifting 1 own relayed_exchange.history (λ number. number) 2 own
      (second_of relayed_exchange) relayed_exchange.second_moment_of (is_world 1) (is_world 2) in_range lawful explained
      second_lawful second_happens is_relayed;
}
