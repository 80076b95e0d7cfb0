-- A relay and a second companion in one world: the premises of two hops can be met.
use Rattle.std.specs.Prelude.{ℕ, ◌+◌, ◌≡◌, ℤ, pos, negsuc, [], ◌∷◌, Some}
use Rattle.css_model.specs.declared.Message.{Message}
use Rattle.css_model.specs.declared.Why.TheVariants as why
use Rattle.css_model.specs.WallClock.{Answer, Local, lo, hi}
use Rattle.css_model.specs.World.{World, Errors, IsWorldFor, IsInRange}
use Rattle.css_model.specs.Wire.{encoded, request_at}
use Rattle.css_model.specs.History.{Clock, Sent, Took, History, Each, wall_answer}
use Rattle.css_model.specs.Explains.{IsLawful, HappensIn, Explains}
use Rattle.css_relay.specs.TwoHops.{RelayedAt, IsTrueAtLast}
use Rattle.css_premises.specs.Drifting.{drifting, errors, own, response}

-- A world, what companion 1 did there as a relay, and what companion 2 did up to a reading. Entry and moment of the
-- relay have the same number. Then the answer that is the narrowest at the reading, and the two ends of its span.
pub record Hops : Type 0 where
  pub errors : Errors
  pub world : World
  pub own : Local
  pub history : History
  pub second_own : Local
  pub second_history : History
  pub second_moment_of : ℕ → ℕ
  pub reading : ℕ
  pub answer : Answer
  pub low : ℤ
  pub high : ℤ

-- what companion 2 did, with the reading
abbrev pub second_of : Hops → History
second_of hops = Clock why.Turn hops.reading ∷ hops.second_history

-- All premises of two hops are met, and so the second companion's spans contain the wall clock. One of them is known at
-- the reading.
pub record IsHops (hops : Hops) : Type 0 where
  pub is_world : IsWorldFor hops.errors hops.world 1 hops.own
  pub second_is_world : IsWorldFor hops.errors hops.world 2 hops.second_own
  pub in_range : IsInRange hops.world
  pub lawful : IsLawful hops.history
  pub explained : Explains hops.world 1 hops.errors.tv hops.own hops.history (λ number. number)
  pub second_lawful : IsLawful (second_of hops)
  pub second_happens : HappensIn hops.world 2 hops.second_own (second_of hops) hops.second_moment_of
  pub relayed :
      Each (RelayedAt hops.own hops.history (λ number. number) hops.second_own hops.second_moment_of) (second_of hops)
  pub narrowest : wall_answer hops.second_own hops.second_history hops.reading ≡ Some hops.answer
  pub low_end : lo hops.second_own hops.answer hops.reading ≡ hops.low
  pub high_end : hi hops.second_own hops.answer hops.reading ≡ hops.high
  pub contains :
      IsTrueAtLast hops.world 2 hops.errors.tv hops.second_own (second_of hops) hops.second_moment_of

-- what the relay answers: the middles of its span, with the precision that covers half of it, which is nearly a
-- millisecond
abbrev pub relayed : Message
relayed = response (negsuc 9) 4000000 5002499364 5002999364

-- The relay asks at moment 0, and its answer lands at moment 3. Companion 2 asks at moment 4, the relay takes its
-- request at moment 5 and answers at moment 6, and that lands at moment 7. At moment 8 companion 2 reads its clock.
abbrev pub relayed_exchange : Hops
relayed_exchange = record {
  errors = errors;
  world = drifting;
  own = own;
  history =
      Sent 9 (encoded relayed) ∷ Clock why.Give 3999000
      ∷ Clock why.Take 3499000 ∷ Took 9 (encoded (request_at 4000000))
      ∷ Clock why.Land 2500000 ∷ Took 1 (encoded (response (negsuc 19) 1000400 5000500000 5001000000))
      ∷ Sent 1 (encoded (request_at 1000400)) ∷ Clock why.Ask 1000400
      ∷ [];
  second_own = own;
  second_history =
      Clock why.Land 5500000 ∷ Took 1 (encoded relayed)
      ∷ Sent 1 (encoded (request_at 4000000)) ∷ Clock why.Ask 4000000
      ∷ [];
  second_moment_of = λ number. number + 4;
  reading = 6000400;
  answer =
      record { t1 = 4000000; t2 = 5002499364; t3 = 5002999364; t4 = 5500000; precision = 976563; error = 64000 };
  low = pos 5002520825;
  high = pos 5005479832;
}
