-- The example of second hops holds.
use Rattle.std.proofs.Common.{◌≡◌, refl, arith, [], ◌∷◌, drop, inl, inr, codes, false}
use Rattle.std.specs.Prelude.{pos, negsuc, Some, None}
use Rattle.css_cii.specs.States.{empty}
use Rattle.css_model.specs.declared.Kind.TheVariants as kind
use Rattle.css_model.specs.declared.Why.TheVariants as why
use Rattle.css_model.specs.WallClock.{lower, upper, lo, hi, scaled_width}
use Rattle.css_model.specs.Wire.{encoded, fault, fields, request_at, stamp_of}
use Rattle.css_model.specs.History.{Clock, Dialling, Dialled, NoneCame, Sent, Took, TookNone, Quiet, Heard}
use Rattle.css_model.specs.History.{Each, wall_answer}
use Rattle.css_model.specs.Explains.{RisesAt, AsksAt, IsJustAsked, IsLawful, IsTruthful, TruthfulAt, ReadsAt}
use Rattle.css_model.specs.Explains.{HappensIn, Explains}
use Rattle.css_outside.specs.declared.calls.Heard.TheVariants as heard
use Rattle.css_outside.specs.declared.limit.Limit.TheVariants as limit
use Rattle.css_drive.specs.Proper.{IsProper}
use Rattle.css_drive_relay.specs.Due.{due, IsProperRelay}
use Rattle.css_drive_relay.specs.Ran.{nothing_begun, plan_of}
use Rattle.css_drive_relay.specs.SecondHop.{FromRunAt}
use Rattle.css_drive_relay.specs.declared.config.RelayRun.{RelayRun}
use Rattle.css_drive_relay.specs.declared.plan.Plan.{Plan}
use Rattle.css_drive_relay.proofs.SecondHop.{second_hops_are_true}
use Rattle.css_premises.specs.Drifting.{drifting, errors, own, response}
use Rattle.css_premises.specs.Runs.{television, wall_clock, told_text, first_turn, second_turn, given, moment_of}
use Rattle.css_premises.specs.Runs.{run_history}
use Rattle.css_premises.specs.Runs.{second_history, second_read, second_moment_of, accepted, HasSecondHop}
use Rattle.css_premises.proofs.OnLiterals.{wall_clock_on_literals, states_on_literals, addresses_on_literals}
use Rattle.css_premises.proofs.Drifting.{is_world, in_range, first_reads, second_reads}

-- the run that makes these calls: at most three turns, and one request of its own
abbrev run : RelayRun
run = record {
  companion = record { selector = []; stem = []; local = own };
  cii = television;
  host = codes "r";
  port = 6690;
  limit = limit.Turns 3;
  ask_every = 1000000000000;
  limit_range = (omega arith, omega arith);
  requests_apart = omega arith;
  requests_come = omega arith;
}

abbrev plan : Plan
plan = plan_of run nothing_begun

-- ---- each call is the one that is due
-- the first turn
dials : IsProperRelay plan (drop 2 first_turn)
unfolding empty
dials =
    let turn : IsProper (due plan) (drop 5 first_turn) =
    IsProper.More (Clock why.Turn 1499750 ∷ []) (record { reading = 1499750; slept = false }, refl) IsProper.Empty in
    let dial : IsProper (due plan) (drop 3 first_turn) =
    IsProper.More (Dialled kind.Cii 1 ∷ Dialling kind.Cii television ∷ []) (inl (1, refl)) turn in
    IsProper.More (TookNone ∷ []) ([], None, refl) dial

hears : IsProperRelay plan first_turn
unfolding empty
hears =
    let none : IsProper (due plan) (drop 1 first_turn) = IsProper.More (NoneCame ∷ []) (None, refl) dials in
    IsProper.More (Heard 1 told_text ∷ []) (heard.Text told_text, refl) none

-- ---- the second turn
asks : IsProperRelay plan (drop 4 second_turn)
unfolding wall_clock_on_literals states_on_literals addresses_on_literals
asks =
    let turn : IsProper (due plan) (drop 8 second_turn) =
    IsProper.More (Clock why.Turn 4498250 ∷ []) (record { reading = 4498250; slept = false }, refl) hears in
    let dial : IsProper (due plan) (drop 6 second_turn) =
    IsProper.More {older = drop 8 second_turn} (Dialled kind.Wc 2 ∷ Dialling kind.Wc wall_clock ∷ [])
    (inl (2, refl)) turn in
    let clock : IsProper (due plan) (drop 5 second_turn) =
    IsProper.More (Clock why.Ask 5997500 ∷ []) (record { reading = 5997500; slept = false }, refl) dial in
    IsProper.More (Sent 2 (encoded (request_at 5997500)) ∷ []) refl clock

lands : IsProperRelay plan second_turn
unfolding wall_clock_on_literals states_on_literals addresses_on_literals
lands =
    let response = encoded (response (negsuc 19) 5997500 5005501375 5006001500) in
    let took : IsProper (due plan) (drop 3 second_turn) =
    IsProper.More (Took 2 response ∷ []) (response, Some (2, 32), refl) asks in
    let land : IsProper (due plan) (drop 2 second_turn) =
    IsProper.More (Clock why.Land 7496750 ∷ []) (record { reading = 7496750; slept = false }, refl) took in
    let none : IsProper (due plan) (drop 1 second_turn) = IsProper.More (NoneCame ∷ []) (None, refl) land in
    IsProper.More (Quiet 1 ∷ []) (heard.Quiet, refl) none

-- ---- the third turn
takes : IsProperRelay plan (drop 2 run_history)
unfolding wall_clock_on_literals states_on_literals addresses_on_literals
takes =
    let request = encoded (request_at 10500850) in
    let turn : IsProper (due plan) (drop 4 run_history) =
    IsProper.More (Clock why.Turn 8996000 ∷ []) (record { reading = 8996000; slept = false }, refl) lands in
    let took : IsProper (due plan) (drop 3 run_history) =
    IsProper.More (Took 9 request ∷ []) (request, Some (9, 32), refl) turn in
    IsProper.More (Clock why.Take 9995500 ∷ []) (record { reading = 9995500; slept = false }, refl) took

answers : IsProperRelay plan run_history
unfolding wall_clock_on_literals states_on_literals addresses_on_literals
answers =
    let give : IsProper (due plan) (drop 1 run_history) =
    IsProper.More (Clock why.Give 10495250 ∷ []) (record { reading = 10495250; slept = false }, refl) takes in
    IsProper.More (Sent 9 (encoded given) ∷ []) refl give

-- ---- what the run did can happen
abbrev asked : IsJustAsked (stamp_of 5997500) (drop 10 run_history)
asked = record { reading = 5997500; before = drop 11 run_history; just_before = refl; same = refl }

rises_first : Each RisesAt first_turn
rises_first = (tt, (tt, (tt, (tt, (tt, (tt, tt))))))

rises_second : Each RisesAt second_turn
rises_second = (
  tt,
  (
    tt,
    (
      tt,
      (
        tt,
        (
          tt,
          (
            (tt, (tt, (tt, (tt, (tt, (tt, (tt, (tt, (tt, tt))))))))),
            (tt, (tt, (tt, rises_first))),
          ),
        ),
      ),
    ),
  ),
)

rises : Each RisesAt run_history
rises = (tt, (tt, (tt, (tt, (tt, rises_second)))))

-- its one request tells the reading before it
asks_second : Each AsksAt second_turn
unfolding encoded fault fields
asks_second =
    let first : Each AsksAt first_turn = (tt, (tt, (tt, (tt, (tt, (tt, tt)))))) in
    (tt, (tt, (tt, (tt, (asked, (tt, (tt, (tt, (tt, first)))))))))

asks_all : Each AsksAt run_history
unfolding encoded fault fields
asks_all = (tt, (tt, (tt, (tt, (tt, asks_second)))))

lawful : IsLawful run_history
lawful = record { rises = rises; asks = asks_all }

-- the television's answer is truthful
landed : IsTruthful drifting 64000 moment_of
    (record { message = response (negsuc 19) 5997500 5005501375 5006001500; reading = 7496750 }) (drop 8 run_history)
unfolding encoded fault fields
landed = record {
  ask = 9;
  received_at = 11;
  transmit_at = 12;
  sent_at = 12;
  asked = inr (inl (refl, asked, refl));
  received_later = omega arith;
  transmit_later = omega arith;
  sent_later = omega arith;
  landed_later = omega arith;
  receive = omega arith;
  transmit = omega arith;
  at_once = λ _. refl;
  declared = omega arith;
  promised_later = λ h. absurd (omega arith);
}

-- each reading is what the relay's clock shows
reads_first : Each (ReadsAt drifting 1 own moment_of) first_turn
reads_first = (tt, (tt, (tt, (tt, (tt, (first_reads 1 1499750 (omega arith), tt))))))

reads_second : Each (ReadsAt drifting 1 own moment_of) second_turn
reads_second =
    let land = first_reads 13 7496750 (omega arith) in
    let ask = first_reads 10 5997500 (omega arith) in
    let turn = first_reads 7 4498250 (omega arith) in
    (tt, (tt, (land, (tt, (tt, (ask, (tt, (tt, (turn, reads_first)))))))))

reads : Each (ReadsAt drifting 1 own moment_of) run_history
reads =
    let give = first_reads 19 10495250 (omega arith) in
    let take = first_reads 18 9995500 (omega arith) in
    let turn = first_reads 16 8996000 (omega arith) in
    (tt, (give, (take, (tt, (turn, reads_second)))))

truthful_second : Each (TruthfulAt drifting 64000 own moment_of) second_turn
unfolding encoded fault fields scaled_width lower upper
truthful_second =
    let first : Each (TruthfulAt drifting 64000 own moment_of) first_turn =
    (tt, (tt, (tt, (tt, (tt, (tt, tt)))))) in
    (tt, (tt, ((λ _. landed), (tt, (tt, (tt, (tt, (tt, (tt, first)))))))))

explained : Explains drifting 1 64000 own run_history moment_of
explained = record {
  happens = record { in_order = λ i j h. omega arith; reads = reads };
  truthful = (tt, (tt, (tt, (tt, (tt, truthful_second)))));
}

-- ---- the second companion
abbrev second_asked : IsJustAsked (stamp_of 10500850) (drop 3 second_history)
second_asked = record { reading = 10500850; before = []; just_before = refl; same = refl }

second_lawful : IsLawful second_read
unfolding encoded fault fields
second_lawful = record {
  rises = (tt, (tt, (tt, (tt, (tt, tt)))));
  asks = (tt, (tt, (tt, (second_asked, (tt, tt)))));
}

second_happens : HappensIn drifting 2 own second_read second_moment_of
second_happens = record {
  in_order = λ i j h. omega arith;
  reads = (
    second_reads 21 12501050 (omega arith),
    (second_reads 20 12001000 (omega arith), (tt, (tt, (second_reads 17 10500850 (omega arith), tt)))),
  );
}

-- its answer was sent by the run
from_run : Each (FromRunAt run_history moment_of own second_moment_of) second_read
unfolding encoded fault fields scaled_width lower upper
from_run = (
  tt,
  (
    (λ _. record {
      peer = 9;
      bytes = encoded given;
      give = 10495250;
      before = drop 2 run_history;
      sent = inl (refl, refl);
      read = refl;
      ask = 0;
      asked = inr (inl (refl, second_asked, refl));
      sent_before = omega arith;
      landed_after = omega arith;
    }),
    (tt, (tt, (tt, tt))),
  ),
)

-- it is accepted, and alone
narrowest : wall_answer own second_history 12501050 ≡ Some accepted
unfolding encoded fault fields scaled_width lower upper
narrowest = refl

-- its span
ends : (lo own accepted 12501050 ≡ pos 5009021238) × (hi own accepted 12501050 ≡ pos 5011980645)
unfolding lo hi lower upper
ends = (refl, refl)

-- so the example holds
pub has_second_hop : HasSecondHop
has_second_hop = record {
  run = run;
  clock = refl;
  proper = answers;
  is_world = is_world 1;
  second_is_world = is_world 2;
  in_range = in_range;
  lawful = lawful;
  explained = explained;
  second_lawful = second_lawful;
  second_happens = second_happens;
  from_run = from_run;
  narrowest = narrowest;
  low_end = ends.0;
  high_end = ends.1;
  contains =
      second_hops_are_true errors drifting 1 plan run_history moment_of 2 own second_read second_moment_of
      answers (is_world 1) (is_world 2) in_range lawful explained second_lawful second_happens from_run;
}
