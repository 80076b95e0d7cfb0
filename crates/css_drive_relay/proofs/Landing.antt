-- What a relay's run makes of a datagram that lands.
use Rattle.std.proofs.Common.{arith, ◌≡◌, ◌∙◌, ap, sym, subst, refl, ℕ, List, [], ◌∷◌, ◌++◌, Bool, true, false, inl}
use Rattle.std.specs.Prelude.{is_some, not}
use Rattle.css_agree.specs.Disagreements.{contradicts}
use Rattle.css_agree.specs.Keeping.{Kept}
use Rattle.css_client.proofs.Judging as judging
use Rattle.css_client.specs.Landings.{judged_of}
use Rattle.css_companion.specs.Standing.{own_of}
use Rattle.css_drive.proofs.CompanionSteps.{knows_plain, lawful_plain}
use Rattle.css_drive.specs.CompanionStanding.{Shown}
use Rattle.css_drive.specs.declared.driven.Driven.{Driven}
use Rattle.css_drive.specs.declared.driven.Driven.TheVariants as driven
use Rattle.css_drive.specs.declared.parting.Parting.TheVariants as parting
use Rattle.css_drive_relay.specs.Due.{from_taken}
use Rattle.css_drive_relay.specs.Places.{Served, Taken, landed, landed_at}
use Rattle.css_drive_relay.specs.Standing.{HasRead, IsAt, Knows, Runs, Stands, Stops, facts_in, goes_on_at, cut_if}
use Rattle.css_drive_relay.specs.Standing.{stood}
use Rattle.css_drive_relay.specs.declared.live.Live.{Live}
use Rattle.css_drive_relay.specs.declared.plan.Plan.{Plan}
use Rattle.css_drive_relay.proofs.Steps as steps
use Rattle.css_model.specs.History.{Clock, History, Slept, Took, accepted_answers, request_in}
use Rattle.css_model.specs.WallClock.{Local}
use Rattle.css_model.specs.declared.Why.TheVariants as why
use Rattle.css_outside.specs.Outsides.{sleep_entries}
use Rattle.css_outside.specs.declared.calls.Clocked.{Clocked}
use Rattle.css_relay.specs.Agreeing.{Agrees, Compares, IsAgreementOf}
use Rattle.css_relay.specs.Relays.{Relay, StandsFor}
use Rattle.css_span.specs.Frontiers.{Answers}

-- after a sleep nothing is asked any more, so nothing contradicts
nothing_asked : (own : Local) (h : History) (reading : ℕ) (bytes : List ℕ) (answers : Answers)
    → contradicts own reading (judged_of own (Slept ∷ h) reading bytes) answers ≡ false
nothing_asked own h reading bytes answers = grind arith

module _ {plan : Plan} {start now mid : Shown} {live later : Live} {history : History} {peer : ℕ} {bytes : List ℕ}
    {clocked : Clocked} (s : Stands plan start now live.relay (stood live (Taken peer bytes))
    (Took peer bytes ∷ history))
    (none : is_some (request_in bytes) ≡ false) (r : HasRead now mid live later why.Land clocked) where
  abbrev own : Local
  own = plan.run.companion.local

  -- the calls with the reading, which may have told a sleep
  abbrev calls : Bool → History
  calls slept = Clock why.Land clocked.reading ∷ sleep_entries slept ++ (Took peer bytes ∷ history)

  abbrev RunsTo : Bool → Type 0
  RunsTo slept = Runs plan start mid (landed_at plan clocked.reading
      (sleep_entries slept ++ (Took peer bytes ∷ history))
      (Taken peer bytes) (facts_in later)) (calls slept)

  runs : RunsTo clocked.slept
  runs = steps.runs_read {live = live} {clocked = clocked} s.runs (ap from_taken none) r _ refl

  -- memory ran out after the reading
  pub memory : {is : Live} (ended : Driven) → ended ≡ driven.Memory → Stops plan start mid is ended
  memory ended e =
      steps.stops_by_memory runs (lawful_plain (Clock why.Land clocked.reading) _
      (steps.lawful (steps.knows_read r s.knows)) refl refl) ended e

  pub asleep : clocked.slept ≡ true → IsAt (goes_on_at (λ f. Served) true) plan start mid later
  asleep e = (calls true, record { runs = now_runs; knows = now_knows })
    where
      now_runs : Runs plan start mid (stood later Served) (calls true)
      now_runs =
          subst (λ (b : Bool). Runs plan start mid (landed b (facts_in later)) (calls true))
          (nothing_asked own (Took peer bytes ∷ history) clocked.reading bytes []) (subst RunsTo e runs)

      asleep_knows : Knows plan later.relay (Slept ∷ Took peer bytes ∷ history)
      asleep_knows =
          subst (λ (b : Bool). Knows plan later.relay (sleep_entries b ++ (Took peer bytes ∷ history))) e
          (steps.knows_read r s.knows)

      now_knows : Knows plan later.relay (calls true)
      now_knows = record {
        companion =
            knows_plain (Clock why.Land clocked.reading) asleep_knows.companion refl refl refl refl refl refl refl;
        wc_url = asleep_knows.wc_url;
        agrees = record {
          local = asleep_knows.agrees.local;
          stands = inl (judging.landings_are_judged own history peer clocked.reading bytes).asleep;
        };
      }

  module _ (e : clocked.slept ≡ false) (k : Knows plan live.relay history) where
    -- what the relay knows where no sleep was told
    pub read_before : Knows plan later.relay history
    read_before =
        subst (λ (b : Bool). Knows plan later.relay (sleep_entries b ++ history)) e (steps.knows_read r k)

    pub read_taken : Knows plan later.relay (Took peer bytes ∷ history)
    read_taken =
        subst (λ (b : Bool). Knows plan later.relay (sleep_entries b ++ (Took peer bytes ∷ history))) e
        (steps.knows_read r s.knows)

    -- the run after a comparison that told so
    pub compared : {agree : Kept} {told : Bool} → (let own = own_of later.relay.companion in
        Compares own clocked.reading (judged_of own (Took peer bytes ∷ history) clocked.reading bytes)
        (accepted_answers own (Took peer bytes ∷ history)) agree told)
        → Runs plan start mid (landed told (facts_in later)) (calls false) × Agrees own agree (calls false)
    compared {agree} {told} c =
        let now : Compares own clocked.reading (judged_of own (Took peer bytes ∷ history) clocked.reading bytes)
        (accepted_answers own (Took peer bytes ∷ history)) agree told =
        subst (λ (x : Local). Compares x clocked.reading (judged_of x (Took peer bytes ∷ history) clocked.reading bytes)
        (accepted_answers x (Took peer bytes ∷ history)) agree told) read_taken.companion.local c in (
          subst (λ (b : Bool). Runs plan start mid (landed b (facts_in later)) (calls false)) (sym now.told_so)
              (subst RunsTo e runs),
          subst (IsAgreementOf own agree)
              (sym (judging.landings_are_judged own history peer clocked.reading bytes).accepted) now.agrees,
        )

    -- what a comparison goes by
    pub before : Agrees (own_of later.relay.companion) later.relay.agree (Took peer bytes ∷ history)
    before =
        subst (λ (x : Local). Agrees x later.relay.agree (Took peer bytes ∷ history)) (sym read_taken.companion.local)
        read_taken.agrees

    -- what the relay knows once the companion took the datagram in
    pub knows_landed : (compared is : Relay) → compared ≡ record later.relay { agree = compared.agree }
        → StandsFor is.companion (calls false)
        → is.companion ≡ record compared.companion { client = is.companion.client }
        → own_of is.companion ≡ own_of compared.companion → is.wc_url ≡ compared.wc_url → is.agree ≡ compared.agree
        → Agrees own compared.agree (calls false) → Knows plan is (calls false)
    knows_landed compared is rest stands keeps own_so url agree agrees =
        let same = ap {A = Relay} (λ x. x.companion) rest in
        record {
          companion = record {
            stands = stands;
            setup = ap (λ x. x.setup) keeps ∙ ap (λ x. x.setup) same ∙ read_before.companion.setup;
            local = own_so ∙ ap own_of same ∙ read_before.companion.local;
          };
          wc_url = url ∙ ap {A = Relay} (λ x. x.wc_url) rest ∙ read_before.wc_url;
          agrees = subst (λ (x : Kept). Agrees own x (calls false)) (sym agree) agrees;
        }

-- an answer contradicts those before it, or none does
pub goes : {plan : Plan} {start mid : Shown} (later : Live) (is : Relay) (told : Bool) {history : History}
    → Runs plan start mid (landed told (facts_in later)) history → Knows plan is history
    → IsAt (goes_on_at (λ f. Served) (not told)) plan start mid
    (cut_if told parting.Disagree (record later { relay = is }))
goes later is true {history} runs k = (history, record { runs = runs; knows = k })
goes later is false {history} runs k = (history, record { runs = runs; knows = k })
