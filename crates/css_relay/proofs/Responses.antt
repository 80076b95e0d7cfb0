-- A response is true where its ticket and its middle read the wall clock, and some accepted answer was true.
use Rattle.std.proofs.Common.{◌≡◌, ℕ, ◌≤◌, ◌<◌, arith, subst, sym, refl, Bool, true, false, cond, List, [], ◌∷◌, ◌++◌}
use Rattle.std.specs.Prelude.{pos, max, nat_lt, Option, Some, None, IfSome, IsTrue, Result, Ok, Err}
use Rattle.std.specs.Option.{option_to_list}
use Rattle.std.proofs.lemmas.Bool.{ltb-false}
use Rattle.css_num.specs.Spans.{Interval}
use Rattle.css_model.specs.declared.Message.{Message}
use Rattle.css_model.specs.declared.TheConstants.{LIMIT}
use Rattle.css_model.specs.Numbers.{IsWithin, precision_ns}
use Rattle.css_model.specs.WallClock.{Answer, Local}
use Rattle.css_model.specs.Wire.{reading_of, stamp_of}
use Rattle.css_model.specs.World.{World}
use Rattle.css_model.specs.History.{History, Each, is_sleep, LandedAnswer, landed_answer, landed_answers}
use Rattle.css_model.specs.History.{times_of, is_possible, possible_answers, accepted_answers}
use Rattle.css_model.specs.Explains.{IsTruthful, TruthfulAt}
use Rattle.css_model.proofs.Requests.{reading_of-stamp_of}
use Rattle.css_span.specs.Frontiers.{greatest_error}
use Rattle.css_span.specs.WallSpans.{wall_span}
use Rattle.css_client.specs.Standing.{SpanHolds}
use Rattle.css_relay.specs.Answers.{Ticket, response_to, unless_wide, answer_at, answered}
use Rattle.css_relay.specs.Middles.{middle_known}
use Rattle.css_relay.specs.Precisions.{exponent_for}
use Rattle.css_relay.specs.TwoHops.{IsTrueResponse}
use Rattle.css_relay.specs.declared.fault.RelayFault.{RelayFault}
use Rattle.css_relay.specs.declared.fault.RelayFault.TheVariants as faults
use Rattle.css_relay.specs.declared.middle.Middle.{Middle}
use Rattle.css_relay.proofs.Exponents.{exponents_are_least}
use Rattle.css_relay.proofs.Readings.{same_ok, known_reads}

-- ---- the response
-- a reading on the wire reads what it did, within any wider distance
told_within : (value half distance wall : ℕ) → IsWithin half value wall → half ≤ distance
    → IsWithin distance (reading_of (stamp_of value)) wall
told_within value half distance wall within wider =
    subst (λ (n : ℕ). IsWithin distance n wall) (sym (reading_of-stamp_of value))
    (omega (arith, within.0, wider), omega (arith, within.1, wider))

response_is_true : (ticket : Ticket) (error : ℕ) (middle : Middle) (message : Message) (world : World)
    (tv_error taken given : ℕ)
    → IsWithin ticket.half ticket.value (world taken).wall → IsWithin middle.half middle.value (world given).wall
    → tv_error ≤ error → unless_wide ticket error middle ≡ Ok message
    → IsTrueResponse world tv_error taken given message
response_is_true ticket error middle message world tv_error taken given receive transmit declared is =
    by (nat_lt (precision_ns (pos 30)) (max ticket.half middle.half)) refl is
  where
    by : (wide : Bool) → nat_lt (precision_ns (pos 30)) (max ticket.half middle.half) ≡ wide
        → ◌≡◌ {A = Result Message RelayFault}
        (cond wide (Err (faults.Wide (max ticket.half middle.half))) (Ok (response_to ticket error middle)))
        (Ok message)
        → IsTrueResponse world tv_error taken given message
    by true test is = absurd (cc)
    by false test is =
        let enough : max ticket.half middle.half ≤ precision_ns (exponent_for (max ticket.half middle.half)) =
        (exponents_are_least (max ticket.half middle.half)
        (ltb-false (precision_ns (pos 30)) (max ticket.half middle.half) test)).enough in
        subst (λ (m : Message). IsTrueResponse world tv_error taken given m)
        (same_ok (response_to ticket error middle) message is)
        (record {
          response = refl;
          receive =
              told_within ticket.value ticket.half (precision_ns (exponent_for (max ticket.half middle.half)))
              (world taken).wall receive (omega (arith, enough));
          transmit =
              told_within middle.value middle.half (precision_ns (exponent_for (max ticket.half middle.half)))
              (world given).wall transmit (omega (arith, enough));
          declared = declared;
        })

at_middle : (ticket : Ticket) (error : ℕ) (found : Result Middle RelayFault) (message : Message) (world : World)
    (tv_error taken given : ℕ)
    → IsWithin ticket.half ticket.value (world taken).wall
    → ((middle : Middle) → found ≡ Ok middle → IsWithin middle.half middle.value (world given).wall)
    → tv_error ≤ error → answer_at ticket error found ≡ Ok message
    → IsTrueResponse world tv_error taken given message
at_middle ticket error (Err fault) message world tv_error taken given receive transmit declared is = absurd (cc)
at_middle ticket error (Ok middle) message world tv_error taken given receive transmit declared is =
    response_is_true ticket error middle message world tv_error taken given receive (transmit middle refl) declared is

answered_is_true : (span : Option Interval) (ticket : Ticket) (error : ℕ) (message : Message) (world : World)
    (tv_error taken given : ℕ)
    → IsWithin ticket.half ticket.value (world taken).wall → SpanHolds span (world given).wall
    → (world given).wall < LIMIT → tv_error ≤ error → answered span error ticket ≡ Ok message
    → IsTrueResponse world tv_error taken given message
answered_is_true span ticket error message world tv_error taken given receive holds range declared is =
    at_middle ticket error (middle_known span) message world tv_error taken given receive
    (λ middle known. known_reads span middle (world given).wall holds range known) declared is

-- ---- the declared error
-- the newest answer, if there is one, declares at least this error
abbrev pub NewestDeclares : ℕ → List Answer → Type 0
NewestDeclares error [] = Unit {0}
NewestDeclares error (answer ∷ older) = error ≤ answer.error

newest_possible : (world : World) (tv_error : ℕ) (own : Local) (moment_of : ℕ → ℕ) (older : History)
    (landed : LandedAnswer) (possible : Bool) → is_possible own landed (landed_answers older) ≡ possible
    → (IsTrue (is_possible own landed (landed_answers older)) → IsTruthful world tv_error moment_of landed older)
    → NewestDeclares tv_error (accepted_answers own older)
    → NewestDeclares tv_error
    (option_to_list (cond possible (Some (times_of landed (landed_answers older))) None) ++ accepted_answers own older)
newest_possible world tv_error own moment_of older landed true is truth rest = (truth is).declared
newest_possible world tv_error own moment_of older landed false is truth rest = rest

newest_landed : (world : World) (tv_error : ℕ) (own : Local) (moment_of : ℕ → ℕ) (older : History)
    (found : Option LandedAnswer)
    → IfSome found (λ landed.
    IsTrue (is_possible own landed (landed_answers older)) → IsTruthful world tv_error moment_of landed older)
    → NewestDeclares tv_error (accepted_answers own older)
    → NewestDeclares tv_error (possible_answers own (option_to_list found ++ landed_answers older))
newest_landed world tv_error own moment_of older None truth rest = rest
newest_landed world tv_error own moment_of older (Some landed) truth rest =
    newest_possible world tv_error own moment_of older landed (is_possible own landed (landed_answers older)) refl truth
    rest

-- an accepted answer that is truthful declares no less than the television's error
pub newest_declares : (world : World) (tv_error : ℕ) (own : Local) (moment_of : ℕ → ℕ) (history : History)
    → Each (TruthfulAt world tv_error own moment_of) history
    → NewestDeclares tv_error (accepted_answers own history)
newest_declares world tv_error own moment_of [] truth = tt
newest_declares world tv_error own moment_of (entry ∷ older) truth =
    by (is_sleep entry) (newest_declares world tv_error own moment_of older truth.1)
  where
    by : (slept : Bool) → NewestDeclares tv_error (accepted_answers own older)
        → NewestDeclares tv_error
        (possible_answers own (cond slept [] (option_to_list (landed_answer entry older) ++ landed_answers older)))
    by true rest = tt
    by false rest =
        newest_landed world tv_error own moment_of older (landed_answer entry older) truth.0 rest

-- an answer declares the greatest error of some accepted ones
declares_enough : (own : Local) (reading : ℕ) (accepted : List Answer) (ticket : Ticket) (message : Message)
    (tv_error : ℕ) → NewestDeclares tv_error accepted
    → answered (wall_span own reading accepted) (greatest_error accepted) ticket ≡ Ok message
    → tv_error ≤ greatest_error accepted
declares_enough own reading [] ticket message tv_error declares is = absurd (cc)
declares_enough own reading (answer ∷ older) ticket message tv_error declares is =
    let newest : tv_error ≤ answer.error = declares in omega (arith, newest)

-- ---- both
pub answer_is_true : (own : Local) (reading : ℕ) (accepted : List Answer) (ticket : Ticket) (message : Message)
    (world : World) (tv_error taken given : ℕ)
    → IsWithin ticket.half ticket.value (world taken).wall
    → SpanHolds (wall_span own reading accepted) (world given).wall → (world given).wall < LIMIT
    → NewestDeclares tv_error accepted
    → answered (wall_span own reading accepted) (greatest_error accepted) ticket ≡ Ok message
    → IsTrueResponse world tv_error taken given message
answer_is_true own reading accepted ticket message world tv_error taken given receive holds range declares is =
    answered_is_true (wall_span own reading accepted) ticket (greatest_error accepted) message world tv_error taken
    given receive holds range (declares_enough own reading accepted ticket message tv_error declares is) is
