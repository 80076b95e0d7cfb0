-- The examples of an agreement and of a contradiction hold.
use Rattle.std.proofs.Common.{◌≡◌, ◌≤◌, refl, arith, [], ◌∷◌}
use Rattle.std.specs.Prelude.{pos, ◌≤ℤ◌, All}
use Rattle.std.proofs.lemmas.Int.{ints}
use Rattle.std.proofs.lemmas.List.Elements.{All-cons, All-nil}
use Rattle.css_model.specs.WallClock.{Answer, lower, upper, lo, hi}
use Rattle.css_agree.specs.Agreements.{IsShared, IsTruthful, LiesIn, Contradict}
use Rattle.css_agree.proofs.Truth.{agreement_is_true, contradiction_is_false}
use Rattle.css_premises.specs.Drifting.{drifting, errors, own}
use Rattle.css_premises.specs.Answers.{AreTruthful, IsContradiction, late_answer, late_request}
use Rattle.css_premises.specs.Answers.{opposite_delays, answer_anew, set_anew}
use Rattle.css_premises.proofs.Drifting.{is_world, first_reads}

-- what holds of two holds of each of them
both : (P : Answer → Type 0) (a b : Answer) → P a → P b → All P (a ∷ b ∷ [])
both P a b p q = All-cons P a (b ∷ []) p (All-cons P b [] q (All-nil P))

-- ---- the ends of the spans at the reading
late_answer_ends : (lo own late_answer 5998000 ≡ pos 5003493922) × (hi own late_answer 5998000 ≡ pos 5005004708)
unfolding lo hi lower upper
late_answer_ends = (refl, refl)

late_request_ends : (lo own late_request 5998000 ≡ pos 5004997295) × (hi own late_request 5998000 ≡ pos 5006505083)
unfolding lo hi lower upper
late_request_ends = (refl, refl)

answer_anew_ends : (lo own answer_anew 5998000 ≡ pos 6004997295) × (hi own answer_anew 5998000 ≡ pos 6006505083)
unfolding lo hi lower upper
answer_anew_ends = (refl, refl)

-- ---- the agreement
is_shared : IsShared own 5998000 opposite_delays.added opposite_delays.span
is_shared =
    let first = late_answer_ends in
    let last = late_request_ends in
    record {
      low = late_request;
      high = late_answer;
      greatest_low = record {
        is_among = (0, omega arith, refl);
        greatest = both (λ other. lo own other 5998000 ≤ℤ lo own late_request 5998000) late_request late_answer
            (omega (arith, ints)) (omega (arith, ints, first.0, last.0));
      };
      least_high = record {
        is_among = (1, omega arith, refl);
        least = both (λ other. hi own late_answer 5998000 ≤ℤ hi own other 5998000) late_request late_answer
            (omega (arith, ints, first.1, last.1)) (omega (arith, ints));
      };
      lower_end = omega (arith, ints, last.0);
      upper_end = omega (arith, ints, first.1);
      ordered = omega (arith, ints);
      lies_in_each = both (LiesIn own 5998000 opposite_delays.span) late_request late_answer
          (record { low = omega (arith, ints, last.0); high = omega (arith, ints, last.1) })
          (record { low = omega (arith, ints, first.0); high = omega (arith, ints, first.1) });
    }

-- both answers tell of exchanges of the world
late_answer_truthful : IsTruthful errors drifting 1 own 0 10 late_answer
late_answer_truthful = record {
  exchange = record { asked = 0; received = 0; transmitted = 1; landed = 4 };
  timed = record {
    received_later = omega arith;
    transmitted_later = omega arith;
    landed_later = omega arith;
    t1 = first_reads 0 1000000 (omega arith);
    t2 = omega arith;
    t3 = omega arith;
    t4 = first_reads 4 2999000 (omega arith);
  };
  landed = omega arith;
  declared = omega arith;
}

late_request_truthful : IsTruthful errors drifting 1 own 0 10 late_request
late_request_truthful = record {
  exchange = record { asked = 5; received = 8; transmitted = 8; landed = 8 };
  timed = record {
    received_later = omega arith;
    transmitted_later = omega arith;
    landed_later = omega arith;
    t1 = first_reads 5 3498750 (omega arith);
    t2 = omega arith;
    t3 = omega arith;
    t4 = first_reads 8 4998000 (omega arith);
  };
  landed = omega arith;
  declared = omega arith;
}

-- so the example holds
pub opposite_delays_hold : AreTruthful opposite_delays
opposite_delays_hold =
    let declared = both (λ answer. answer.error ≤ 25600000) late_request late_answer (omega arith) (omega arith) in
    let reads = first_reads 10 5998000 (omega arith) in
    let truthful = both (IsTruthful errors drifting 1 own 0 10) late_request late_answer late_request_truthful
    late_answer_truthful in
    record {
      declared = declared;
      is_shared = is_shared;
      is_world = is_world 1;
      reads = reads;
      truthful = truthful;
      contains = agreement_is_true own 5998000 opposite_delays.added opposite_delays.span declared is_shared errors
          drifting 1 0 10 (is_world 1) reads truthful;
    }

-- ---- the contradiction
contradict : Contradict own 5998000 set_anew.added answer_anew late_answer
contradict =
    let first = late_answer_ends in
    let last = answer_anew_ends in
    record {
      greatest_low = record {
        is_among = (0, omega arith, refl);
        greatest = both (λ other. lo own other 5998000 ≤ℤ lo own answer_anew 5998000) answer_anew late_answer
            (omega (arith, ints)) (omega (arith, ints, first.0, last.0));
      };
      least_high = record {
        is_among = (1, omega arith, refl);
        least = both (λ other. hi own late_answer 5998000 ≤ℤ hi own other 5998000) answer_anew late_answer
            (omega (arith, ints, first.1, last.1)) (omega (arith, ints));
      };
      apart = omega (arith, ints, first.1, last.0);
    }

pub set_anew_holds : IsContradiction set_anew
set_anew_holds =
    let declared = both (λ answer. answer.error ≤ 25600000) answer_anew late_answer (omega arith) (omega arith) in
    record {
      declared = declared;
      contradict = contradict;
      one_is_false =
          contradiction_is_false own 5998000 set_anew.added answer_anew late_answer declared contradict;
    }
