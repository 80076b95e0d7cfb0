-- How hang-ups come to the end of a visit, and visits to what a relay comes to.
use Rattle.std.proofs.Common.{◌≡◌, ◌∙◌, ◌≤◌, ◌+◌, ap, sym, subst, refl, arith, ℕ, suc, add-one, List, [], ◌∷◌, ◌++◌}
use Rattle.std.proofs.Common.{append-nil, append_assoc, true, false, Option, Some, None, Result, Ok, Err, inl, inr}
use Rattle.std.specs.Prelude.{◌⊎◌, is_some, MatchResult}
use Rattle.std.specs.Option.{option_to_list}
use Rattle.std.specs.Result.{IsErrAnd}
use Rattle.css_model.specs.History.{History, HungUp, Listening}
use Rattle.css_outside.specs.Outsides.{Counts, with_entries}
use Rattle.css_drive.proofs.CompanionEnds.{no_entries}
use Rattle.css_drive.proofs.CompanionSteps.{told_more}
use Rattle.css_drive.specs.CompanionStanding.{Adds, Fails, IsFault, Shown, hung}
use Rattle.css_drive.specs.Ends.{CountsDialFaults, CountsNetFault}
use Rattle.css_drive.specs.Proper.{Empty}
use Rattle.css_drive.specs.Visits.{IsFollowed, entries_of, last_entries, most_visits, why}
use Rattle.css_drive.specs.declared.driven.Driven.{Driven}
use Rattle.css_drive.specs.declared.driven.Driven.TheVariants as driven
use Rattle.css_drive.specs.declared.parting.Parting.{Parting}
use Rattle.css_drive_relay.specs.Places.{Facts, progress_of}
use Rattle.css_drive_relay.specs.Ran.{IsLast, IsRelayEnd, begun_by, facts_after, HasStayed, hang_ups, hung_all}
use Rattle.css_drive_relay.specs.Ran.{nothing_begun, plan_of, visits_of}
use Rattle.css_drive_relay.specs.Standing.{Hangs, HasTried, IsStop, Stops, facts_in}
use Rattle.css_drive_relay.specs.Staying.{BeginsBy, CountsTries, EndsBy, GoesOn, HasTriedBy, IsDone, Makes, SoFar}
use Rattle.css_drive_relay.specs.Staying.{Stays}
use Rattle.css_drive_relay.specs.declared.begun.Begun.{Begun}
use Rattle.css_drive_relay.specs.declared.config.RelayRun.{RelayRun}
use Rattle.css_drive_relay.specs.declared.live.Live.{Live}
use Rattle.css_drive_relay.specs.declared.plan.Plan.{Plan}
use Rattle.css_drive_relay.specs.declared.visits.Visited.{Visited}
use Rattle.css_drive_relay.specs.declared.visits.Visited.TheVariants as visited

-- a `?` that ends the function
pub err_so : {T E : Type 0} (P : Result T E → Type 0) (e : E) (r : Result T E) → IsErrAnd r (λ x. x ≡ e) → P (Err e)
    → P r
err_so P e (Ok value) is p = absurd is
err_so P e (Err x) is p = subst (λ y. P (Err y)) (sym is) p

-- ---- hang-ups
-- of these sessions these are left to be hung up, and these hang-ups were made
pub record Hanging (old now : Shown) (all left : List ℕ) : Type 0 where
  pub made : History
  pub parts : hung_all all ≡ hung_all left ++ made
  pub told : now.told ≡ with_entries made old.told
  pub counts : now.counts ≡ old.counts

pub none_hung : (old : Shown) (all : List ℕ) → Hanging old old all all
none_hung old all = record {
  made = [];
  parts = sym (append-nil (hung_all all));
  told = no_entries old.told;
  counts = refl;
}

pub one_hung : {old now next : Shown} {all left rest : List ℕ} {peer : ℕ} → Hanging old now all left
    → left ≡ peer ∷ rest → Adds now next (HungUp peer ∷ []) → Hanging old next all rest
one_hung {old} {now} {next} {rest = rest} {peer} h e a = record {
  made = HungUp peer ∷ h.made;
  parts = h.parts ∙ ap (λ xs. hung_all xs ++ h.made) e ∙ append_assoc (hung_all rest) (HungUp peer ∷ []) h.made;
  told = told_more old.told now.told next.told (HungUp peer ∷ []) h.made h.told a.told;
  counts = a.same ∙ h.counts;
}

pub all_hung : {old now : Shown} {all left : List ℕ} {done : Unit {0}} → Hanging old now all left → left ≡ []
    → Hangs old now (hung_all all) (Ok done)
all_hung h e = record {
  made = h.made;
  left = [];
  parts = h.parts ∙ ap (λ xs. hung_all xs ++ h.made) e;
  told = h.told;
  ends = (refl, ap {A = Counts} (λ x. x.faults) h.counts);
}

pub hanging_fails : {old now next : Shown} {all left : List ℕ} {ended : Driven} → Hanging old now all left
    → Fails now next None ended → Hangs old next (hung_all all) (Err ended)
hanging_fails {now = now} {next} {left = left} {ended} h f = record {
  made = h.made;
  left = hung_all left;
  parts = h.parts;
  told = f.told ∙ h.told;
  ends = (
    f.end,
    subst (λ (n : ℕ). CountsNetFault n next.counts.faults ended) (ap {A = Counts} (λ x. x.faults) h.counts) f.counted,
  );
}

-- the last one
pub last_hung : {old now next : Shown} {all left : List ℕ} {peer : ℕ} (result : Result (Unit {0}) Driven)
    → Hanging old now all left → left ≡ peer ∷ []
    → MatchResult result (λ _. Adds now next (HungUp peer ∷ [])) (Fails now next None)
    → Hangs old next (hung_all all) result
last_hung (Ok done) h e a = all_hung (one_hung h e a) refl
last_hung (Err ended) h e f = hanging_fails h f

-- the accepted ones are hung up, and that of the television is left, if it is open
pub left_last : {peers : List ℕ} {television left : Option ℕ} → peers ≡ [] → television ≡ left
    → peers ++ option_to_list television ≡ option_to_list left
left_last {television = television} {left} none is =
    ap (λ xs. xs ++ option_to_list television) none ∙ ap option_to_list is

-- ---- a visit
pub fault_end : (ended : Driven) → IsFault ended → IsRelayEnd ended
fault_end ended f = grind (arith, f)

-- a run that no fault ended counted none
no_fault : (before now : ℕ) (ended : Driven) → (IsFault ended → ⊥) → CountsNetFault before now ended → now ≡ before
no_fault before now ended not_fault c = grind (arith, not_fault, c)

counts_on : (before mid now : ℕ) (ended : Driven) → mid ≡ before → CountsNetFault mid now ended
    → CountsNetFault before now ended
counts_on before mid now ended e c = subst (λ (n : ℕ). CountsNetFault n now ended) e c

counts_none : (before now : ℕ) (ended : Driven) → (IsFault ended → ⊥) → now ≡ before
    → CountsNetFault before now ended
counts_none before now ended not_fault e = grind (arith, not_fault, e)

some_words : (words : Option (List ℕ)) → is_some words ≡ true → (said : List ℕ) × (words ≡ Some said)
some_words words e = grind (arith, e)

no_words : (words : Option (List ℕ)) → is_some words ≡ false → words ≡ None
no_words words e = grind (arith, e)

-- a run that no other one follows ended as a relay does
last_kind : (ended : Driven) (cause : Option Parting) → IsStop ended → why ended cause ≡ None → IsRelayEnd ended
last_kind ended cause kind none = grind (arith, kind, none)

module _ {plan : Plan} {start now : Shown} {live : Live} {ended : Driven} (x : Stops plan start now live ended) where
  -- a fault ended it, or one of the hang-ups
  broken : {next : Shown} {fault : Driven} (made left : History) → IsFault fault
      → hang_ups (progress_of plan x.history).facts ≡ left ++ made → next.told ≡ with_entries made now.told
      → CountsNetFault start.counts.faults next.counts.faults fault → Makes plan start next (visited.Over fault)
  broken {next} {fault} made left is hangs told counted = record {
    visit = record { history = x.history; hung = made; ended = ended };
    last = record {
      visited = x.visited made;
      ends = inr (record { fault = is; left = left; hangs = hangs });
    };
    told = told_more start.told now.told next.told made x.history x.told told;
    faults = counted;
    kind = fault_end fault is;
  }

  pub breaks : IsFault ended → Makes plan start now (visited.Over ended)
  breaks fault =
      broken [] (hang_ups (progress_of plan x.history).facts) fault (sym (append-nil _)) (no_entries now.told) x.counted

  module _ (not_fault : IsFault ended → ⊥) where
    -- what the variables say is what the calls say
    facts : facts_in live ≡ (progress_of plan x.history).facts
    facts = let known = x.known in grind (arith, not_fault, known)

    -- a hang-up failed
    pub unhung : {next : Shown} {fault : Driven} → Hangs now next (hang_ups (facts_in live)) (Err fault)
        → Makes plan start next (visited.Over fault)
    unhung {fault = fault} h =
        broken h.made h.left h.ends.0 (ap hang_ups (sym facts) ∙ h.parts) h.told
        (counts_on _ _ _ fault (no_fault _ _ ended not_fault x.counted) h.ends.1)

    module _ {next : Shown} (h : Hangs now next (hang_ups (facts_in live)) (Ok (tt {0}))) where
      hangs : h.made ≡ hang_ups (progress_of plan x.history).facts
      hangs = sym (ap hang_ups (sym facts) ∙ h.parts ∙ ap (λ xs. xs ++ h.made) h.ends.0)

      told : next.told ≡ with_entries (h.made ++ x.history) start.told
      told = told_more start.told now.told next.told h.made x.history x.told h.told

      faults_same : next.counts.faults ≡ start.counts.faults
      faults_same = h.ends.1 ∙ no_fault _ _ ended not_fault x.counted

      cause : live.parting ≡ (progress_of plan x.history).facts.parting
      cause = ap {A = Facts} (λ f. f.parting) facts

      -- another visit follows
      pub follows : is_some (why ended live.parting) ≡ true → (begun : Begun) → begun ≡ begun_by plan (facts_in live)
          → Makes plan start next (visited.Next begun)
      follows some begun e =
          let words = some_words (why ended live.parting) some in
          record {
            visit = record { history = x.history; hung = h.made; ended = ended };
            followed = record {
              visited = x.visited h.made;
              words = words.0;
              has_cause = ap (why ended) (sym cause) ∙ words.1;
              hangs = hangs;
            };
            next_so = e ∙ ap (begun_by plan) facts;
            told = told;
            faults = faults_same;
          }

      -- none does
      pub ends : is_some (why ended live.parting) ≡ false → Makes plan start next (visited.Over ended)
      ends none =
          let no = ap (why ended) (sym cause) ∙ no_words (why ended live.parting) none in
          record {
            visit = record { history = x.history; hung = h.made; ended = ended };
            last = record {
              visited = x.visited h.made;
              ends = inl (record { no_cause = no; ended_so = refl; hangs = hangs });
            };
            told = told;
            faults = counts_none _ _ ended not_fault faults_same;
            kind = last_kind ended _ x.kind no;
          }

-- ---- all visits
pub so_far_first : (run : RelayRun) (begun : Begun) (start : Shown) → begun ≡ nothing_begun
    → SoFar run begun start start 0
so_far_first run begun start e = record {
  visits = [];
  followed = tt;
  begun_so = e;
  told = no_entries start.told;
  faults = refl;
  counted = refl;
}

pub so_far_next : {run : RelayRun} {begun next : Begun} {start mid now : Shown} {count : ℕ}
    → SoFar run begun start mid count → GoesOn (plan_of run begun) mid now next → SoFar run next start now (count + 1)
so_far_next {run} {begun} {next} {start} {mid} {now} {count} s f = record {
  visits = f.visit ∷ s.visits;
  followed = (
    subst (λ (x : Begun). IsFollowed (visits_of run) x f.visit) s.begun_so f.followed,
    s.followed,
  );
  begun_so = f.next_so ∙ ap (λ (x : Begun). begun_by (plan_of run x) (facts_after (plan_of run x) f.visit)) s.begun_so;
  told = told_more start.told mid.told now.told (f.visit.hung ++ f.visit.history) (entries_of s.visits) s.told f.told;
  faults = f.faults ∙ s.faults;
  counted = ap suc s.counted ∙ sym (add-one count);
}

pub so_far_ends : {run : RelayRun} {begun : Begun} {start mid now : Shown} {count : ℕ} {ended : Driven}
    → SoFar run begun start mid count → IsDone (plan_of run begun) mid now ended → Stays run start now ended
so_far_ends {run} {begun} {start} {mid} {now} {ended = ended} s d = record {
  visits = s.visits;
  followed = s.followed;
  last = Some d.visit;
  is_end = subst (λ (x : Begun). IsLast (plan_of run x) d.visit ended) s.begun_so d.last;
  told = told_more start.told mid.told now.told (d.visit.hung ++ d.visit.history) (entries_of s.visits) s.told d.told;
  faults = counts_on _ _ _ ended s.faults d.faults;
  kind = d.kind;
}

pub so_far_most : {run : RelayRun} {begun : Begun} {start now : Shown} {count : ℕ}
    → SoFar run begun start now count → count ≡ most_visits → Stays run start now driven.Done
so_far_most s most = record {
  visits = s.visits;
  followed = s.followed;
  last = None;
  is_end = (s.counted ∙ most, refl);
  told = s.told;
  faults = s.faults;
  kind = tt;
}

-- a run that never began for want of memory
pub unbegun : (plan : Plan) (now : Shown) → Makes plan now now (visited.Over driven.Memory)
unbegun plan now = record {
  visit = record { history = []; hung = []; ended = driven.Memory };
  last = record {
    visited = record { proper = Empty; lawful = record { rises = tt; asks = tt }; numbered = tt; ends = tt };
    ends = inr (record { fault = tt; left = []; hangs = refl });
  };
  told = no_entries now.told;
  faults = refl;
  kind = tt;
}

-- what a visit's dials came to
pub tries : (plan : Plan) (before now later : Counts) (live : Live) (ended : Driven) (result : Visited)
    → later.dial_faults ≡ now.dial_faults → BeginsBy (begun_by plan (facts_in live)) result → EndsBy ended result
    → IsFault ended ⊎ HasTried plan before now live.own
    → ((turns : ℕ) → ended ≡ driven.Unreachable turns
    → (1 ≤ live.own.made) × (plan.begun.reached ≡ false) × (live.own.cii ≡ None))
    → CountsTries before later result
tries plan before now later live ended result same begins ends tried unreached =
    grind (arith, same, begins, ends, tried, unreached)

pub tries_first : (plan : Plan) (before now : Counts) (live : Live) → live.own.made ≡ plan.begun.turns
    → HasTriedBy before now plan.begun → HasTried plan before now live.own
tries_first plan before now live made tried some reached none = tried (omega (arith, some, made)) reached

-- and those of the last one
pub last_dials : (before now : Counts) (ended : Driven) → before.dial_faults ≤ now.dial_faults
    → CountsTries before now (visited.Over ended)
    → CountsDialFaults before.dial_faults now.dial_faults ended
last_dials before now ended le tries = grind (arith, le, tries)

-- a relay that listened has made its visits
pub stayed : {run : RelayRun} (start mid now : Shown) {ended : Driven}
    → mid.told ≡ with_entries (Listening run.host run.port ∷ []) start.told → Stays run mid now ended
    → HasStayed run start.told now.told ended
stayed {run} start mid now listened s = record {
  visits = s.visits;
  followed = s.followed;
  last = s.last;
  is_end = s.is_end;
  grew = told_more start.told mid.told now.told (last_entries s.last ++ entries_of s.visits)
      (Listening run.host run.port ∷ []) listened s.told;
}
