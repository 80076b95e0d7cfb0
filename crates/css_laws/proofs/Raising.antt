-- What becomes of a line depends on lines' numbers only where it names them.
use Rattle.std.proofs.Common.{arith, ◌≡◌, ℕ, ◌+◌, ap, sym, ◌∙◌, refl, Bool, true, false, cond, List}
use Rattle.std.specs.Prelude.{◌&&◌, Option, Some, None, Result, Ok, Err}
use Rattle.css_model.specs.History.{accepted_answers}
use Rattle.css_span.specs.WallSpans.{wall_span}
use Rattle.css_player.specs.declared.command.PlayerFault.{PlayerFault}
use Rattle.css_tv.specs.Outcomes.{Outcome}
use Rattle.css_tv.specs.declared.event.TvEvent.{TvEvent}
use Rattle.css_tv.specs.declared.fault.TvFault.{TvFault}
use Rattle.css_tv.specs.declared.fault.TvFault.TheVariants as tv
use Rattle.css_companion.specs.Meanings.{report_after, assigned_after}
use Rattle.css_meaning.specs.declared.fault.WorldFault.TheVariants.{Absent, Player}
use Rattle.css_meaning.specs.Sessions.{setup_of}
use Rattle.css_meaning.specs.Verdicts.{local_of, tested, can_exchange, can_talk, refused_by, outcome_after, played}
use Rattle.css_meaning.specs.Verdicts.{printed_for}
use Rattle.css_laws.specs.Numbers.{raised_line, raised_lines, raised_fault, Said, Nothing, Span, Reported, said_text}
use Rattle.css_laws.specs.Numbers.{NumbersDontMatter}
use Rattle.css_laws.proofs.Names.{result_and, result_map_both, Header, Line, Verb, Take, Give, Land, Wall, Print}
use Rattle.css_laws.proofs.Names.{WorldFault, Numbered, event_by, Ends, ends_of}
use Rattle.css_laws.proofs.Readings.{raised_test, both-raised, requests-raised, tickets-raised, made_for-raised}
use Rattle.css_laws.proofs.Readings.{is_given-raised, ends-raised, tested-raised}

-- ---- what can happen
exchange-raised : (header : Header) (older : List Numbered) (who : ℕ) (verb : Verb)
    → can_exchange header (raised_lines older) who verb ≡ can_exchange header older who verb
exchange-raised header older who (Take request r) = simp (requests-raised older)
exchange-raised header older who (Give take r) = simp (tickets-raised header older, is_given-raised take older)
exchange-raised header older who (Land datagram r) = simp (made_for-raised header older)
exchange-raised header older who _ = refl

-- ---- what is said
-- after what the ends did
abbrev said_with : Header → Ends → Line → Verb → Said
said_with header ends line (Wall reading) =
    Span (wall_span (local_of line.who header) reading
    (accepted_answers (local_of line.who header) (ends.own line.who))) line.w
said_with header ends line (Print reading) =
    Reported (report_after (local_of line.who header) (setup_of line.who header).selector (ends.own line.who) reading)
    (assigned_after (setup_of line.who header).selector (ends.own line.who) line.w)
said_with header ends line _ = Nothing

printed-with : (header : Header) (older : List Numbered) (now : Numbered) (verb : Verb)
    → printed_for header older now verb ≡ said_text now.number (said_with header (ends_of header older) now.line verb)
printed-with header older now verb = grind arith

-- ---- the line
-- what becomes of a line that can be exchanged, after what the ends did, where this is said
abbrev carried_with : {A : Type 0} → Ends → ℕ → Verb → (exchange : Bool) → A → Result A WorldFault
carried_with ends who verb exchange said =
    cond (exchange && can_talk who ends.tv (ends.own who) verb)
    (result_and (played ends.tv (event_by who ends.tv (ends.own who) verb)) (Ok said)) (Err Absent)

-- faults that name no line are renamed to themselves
record KeepsOthers (rename : WorldFault → WorldFault) : Type 0 where
  absent : rename Absent ≡ Absent
  player : (fault : PlayerFault) → rename (Player fault) ≡ Player fault

carried-map : {A : Type 0} (f : Said → A) (rename : WorldFault → WorldFault) → KeepsOthers rename → (ends : Ends)
    (who : ℕ) (verb : Verb) (exchange : Bool) (said : Said) → carried_with ends who verb exchange (f said)
    ≡ result_map_both f rename (carried_with ends who verb exchange said)
carried-map {A} f rename keeps ends who verb exchange said =
    by (exchange && can_talk who ends.tv (ends.own who) verb) (event_by who ends.tv (ends.own who) verb)
  where
    refused : (outcome : Result Outcome TvFault) → result_and (refused_by outcome) (Ok (f said))
        ≡ result_map_both f rename (result_and (refused_by outcome) (Ok said))
    refused (Ok done) = refl
    refused (Err (tv.Player fault)) = ap Err (sym (keeps.player fault))
    refused (Err tv.Memory) = refl

    by : (b : Bool) (event : Option TvEvent) → cond b (result_and (played ends.tv event) (Ok (f said))) (Err Absent)
        ≡ result_map_both f rename (cond b (result_and (played ends.tv event) (Ok said)) (Err Absent))
    by false event = ap Err (sym keeps.absent)
    by true None = refl
    by true (Some e) = refused (outcome_after ends.tv e)

-- a test that is renamed to itself
same-test : (test : Result (Unit {0}) WorldFault) → test ≡ result_map_both (λ u. u) (λ fault. fault) test
same-test test = grind arith

-- the law
pub numbers_raised : NumbersDontMatter
numbers_raised header older now =
    let n = now.number in
    let who = now.line.who in
    let verb = now.line.verb in
    let ends = ends_of header older in
    let exchange = can_exchange header older who verb in
    let said = said_with header ends now.line verb in
    let carried : Result Said WorldFault = carried_with ends who verb exchange said in
    let test = tested header older now in
    let next = raised_lines older in
    let same : WorldFault → WorldFault = λ fault. fault in
    record {
      said = result_and test carried;
      first = simp (
        printed-with header older now verb,
        carried-map (said_text n) same (record { absent = refl; player = λ fault. refl }) ends who verb exchange said,
      ) (ap (λ (t : Result (Unit {0}) WorldFault). result_and t (result_map_both (said_text n) same carried))
          (same-test test)
          ∙ both-raised same (λ u. u) (said_text n) test carried);
      second = simp (tested-raised header older now, printed-with header next (raised_line now) verb)
          (ap (λ (e : Ends). result_and (raised_test test) (carried_with e who verb (can_exchange header next who verb)
          (said_text (n + 1) (said_with header e now.line verb)))) (ends-raised header older))
          ∙ ap (λ (b : Bool). result_and (raised_test test) (carried_with ends who verb b (said_text (n + 1) said)))
          (exchange-raised header older who verb)
          ∙ ap (result_and (raised_test test)) (carried-map (said_text (n + 1)) raised_fault
          (record { absent = refl; player = λ fault. refl }) ends who verb exchange said)
          ∙ both-raised raised_fault (λ u. u) (said_text (n + 1)) test carried;
    }
