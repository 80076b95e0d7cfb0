-- A relay's whole run and a second companion in one world: the premises of second hops can be met.
use Rattle.std.specs.Prelude.{ℕ, ◌+◌, ◌≡◌, pos, negsuc, codes, List, [], ◌∷◌, Some}
use Rattle.css_model.specs.declared.Kind.TheVariants as kind
use Rattle.css_model.specs.declared.Message.{Message}
use Rattle.css_model.specs.declared.Why.TheVariants as why
use Rattle.css_model.specs.WallClock.{Answer, lo, hi}
use Rattle.css_model.specs.World.{IsWorldFor, IsInRange}
use Rattle.css_model.specs.Wire.{encoded, request_at}
use Rattle.css_model.specs.History.{Address, Clock, Dialling, Dialled, NoneCame, Sent, Took, TookNone}
use Rattle.css_model.specs.History.{Quiet, Heard, History, Each, wall_answer}
use Rattle.css_model.specs.Explains.{IsLawful, HappensIn, Explains}
use Rattle.css_relay.specs.TwoHops.{IsTrueAtLast}
use Rattle.css_drive_relay.specs.Due.{IsProperRelay}
use Rattle.css_drive_relay.specs.Ran.{nothing_begun, plan_of}
use Rattle.css_drive_relay.specs.SecondHop.{FromRunAt}
use Rattle.css_drive_relay.specs.declared.config.RelayRun.{RelayRun}
use Rattle.css_premises.specs.Drifting.{drifting, errors, own, response}

-- the television, and its wall clock, which a text of CSS-CII tells
abbrev pub television : Address
television = record { host = codes "a"; port = 80; path = [] }

abbrev pub wall_clock : Address
wall_clock = record { host = codes "a"; port = 1; path = [] }

abbrev pub told_text : List ℕ
told_text = codes "{\"wcUrl\":\"udp://a:1\"}"

-- ---- the relay's calls, turn by turn, the newest first
-- In its first turn the relay dials the television, and hears where the wall clock is.
abbrev pub first_turn : History
first_turn =
    Heard 1 told_text ∷ NoneCame ∷ TookNone ∷ Dialled kind.Cii 1 ∷ Dialling kind.Cii television
    ∷ Clock why.Turn 1499750
    ∷ []

-- In its second turn it dials the wall clock and asks it, and an answer lands.
abbrev pub second_turn : History
second_turn =
    Quiet 1 ∷ NoneCame ∷ Clock why.Land 7496750
    ∷ Took 2 (encoded (response (negsuc 19) 5997500 5005501375 5006001500))
    ∷ Sent 2 (encoded (request_at 5997500)) ∷ Clock why.Ask 5997500
    ∷ Dialled kind.Wc 2 ∷ Dialling kind.Wc wall_clock
    ∷ Clock why.Turn 4498250
    ∷ first_turn

-- what it answers in its third turn
abbrev pub given : Message
given = response (negsuc 9) 10500850 5009000377 5009500127

-- In its third turn it takes a request, and answers.
abbrev pub run_history : History
run_history =
    Sent 9 (encoded given) ∷ Clock why.Give 10495250
    ∷ Clock why.Take 9995500 ∷ Took 9 (encoded (request_at 10500850))
    ∷ Clock why.Turn 8996000
    ∷ second_turn

-- when each call of the relay comes
abbrev pub moment_of : ℕ → ℕ
moment_of number = number + 1

-- ---- the second companion
-- It asks at moment 17, and the answer lands at moment 20.
abbrev pub second_history : History
second_history =
    Clock why.Land 12001000 ∷ Took 1 (encoded given)
    ∷ Sent 1 (encoded (request_at 10500850)) ∷ Clock why.Ask 10500850
    ∷ []

-- at moment 21 it reads its clock
abbrev pub second_read : History
second_read = Clock why.Turn 12501050 ∷ second_history

abbrev pub second_moment_of : ℕ → ℕ
second_moment_of number = number + 17

-- the answer that it accepts
abbrev pub accepted : Answer
accepted = record {
  t1 = 10500850;
  t2 = 5009000377;
  t3 = 5009500127;
  t4 = 12001000;
  precision = 976563;
  error = 64000;
}

-- All premises of second hops are met by a first visit with these calls, each of which comes at the moment after its
-- number. So the second companion's spans contain the wall clock, and one of them is known.
pub record HasSecondHop : Type 0 where
  pub run : RelayRun
  pub clock : run.companion.local ≡ own
  pub proper : IsProperRelay (plan_of run nothing_begun) run_history
  pub is_world : IsWorldFor errors drifting 1 run.companion.local
  pub second_is_world : IsWorldFor errors drifting 2 own
  pub in_range : IsInRange drifting
  pub lawful : IsLawful run_history
  pub explained : Explains drifting 1 errors.tv run.companion.local run_history moment_of
  pub second_lawful : IsLawful second_read
  pub second_happens : HappensIn drifting 2 own second_read second_moment_of
  pub from_run : Each (FromRunAt run_history moment_of own second_moment_of) second_read
  pub narrowest : wall_answer own second_history 12501050 ≡ Some accepted
  pub low_end : lo own accepted 12501050 ≡ pos 5009021238
  pub high_end : hi own accepted 12501050 ≡ pos 5011980645
  pub contains : IsTrueAtLast drifting 2 errors.tv own second_read second_moment_of
