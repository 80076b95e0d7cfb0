-- How a run's history goes on by a call.
use Rattle.std.proofs.Common.{◌≡◌, ℕ, ◌≤◌, ◌<◌, arith, ap, sym, ◌∙◌, subst, refl, Bool, true, false, cond, List, []}
use Rattle.std.proofs.Common.{◌∷◌, ◌++◌, append_assoc, Option, Some, None, eq-eqb, inl, inr, Result, Ok, Err}
use Rattle.std.specs.Prelude.{IfSome, MatchResult, IsErrAnd, ◌||◌, IfOk, ◌<◌}
use Rattle.css_drive.specs.CompanionStanding.{Shown, facts_of, KnowsPeers, Stands, Knows, KnowsUnder, Comes, Stops}
use Rattle.css_drive.specs.CompanionStanding.{IsEndBy, IsSo, Fails, Adds, HasDialled, dial_entries, GivesPlace}
use Rattle.css_drive.specs.CompanionStanding.{asked_after, IsRefusal, HasRead, Goes, IsDue, TakesIn, from_text}
use Rattle.css_drive.specs.CompanionStanding.{after_text, kind_for, open_of, IsFault}
use Rattle.std.proofs.lemmas.Bool.{ne_eqb, or_from}
use Rattle.std.proofs.lemmas.Bool.Decides.{nat_tests}
use Rattle.css_model.specs.declared.Kind.{Kind}
use Rattle.css_model.specs.declared.Failure.{Failure}
use Rattle.css_model.specs.declared.Kind.TheVariants as kind
use Rattle.css_model.specs.Explains.{IsLawful, IsJustAsked}
use Rattle.css_model.specs.History.{Address, Dialling, Dialled, History, Entry, NotDialled, Took, Heard, is_sleep}
use Rattle.css_model.specs.History.{Closed, asking_at, request_by, landed_answer, sleeps, Each}
use Rattle.css_outside.specs.Outsides.{with_entries, Counts, clock_entries, sleep_entries, heard_entries, wrote_entries}
use Rattle.css_outside.specs.declared.fault.OutFault.{OutFault}
use Rattle.css_companion.specs.Meanings.{kind_of, is_ts, is_cii, state_of, cii_text, ts_text, opens_ts, closes_ts}
use Rattle.css_companion.specs.Standing.{Companion}
use Rattle.css_companion.specs.declared.config.CompanionConfig.{CompanionConfig}
use Rattle.css_drive.specs.CompanionDue.{due, dial_to, place, from_cii, from_wc, from_ts, from_ask, from_take}
use Rattle.css_drive.specs.CompanionDue.{from_ts_text, from_end, unless_refused, refusal_of}
use Rattle.css_drive.specs.CompanionTurns.{dialled, dialled_by, opened, ended_by, open_after, newest, is_peer}
use Rattle.css_drive.specs.CompanionTurns.{asked_turn, is_asking}
use Rattle.css_drive.specs.Ends.{MayEnd, IsNetFault, CountsNetFault}
use Rattle.css_drive.specs.Notes.{Note, noted, dial_notes, standpoint, session_at, slept_notes, landing_notes}
use Rattle.css_drive.specs.Notes.{heard_notes, wrote_notes}
use Rattle.css_drive.specs.Stages.{At, DialsTold, HearsOnce}
use Rattle.css_drive.specs.Proper.{Due, Dial, MayAdd, More, Now, TakeDatagram, TakeText, SendText}
use Rattle.css_drive.specs.declared.companion_live.Live.{Live}
use Rattle.css_drive.specs.declared.config.DriveConfig.{DriveConfig}
use Rattle.css_drive.specs.declared.driven.Driven.{Driven}
use Rattle.css_drive.specs.declared.driven.Driven.TheVariants as driven
use Rattle.css_model.specs.declared.Why.{Why}
use Rattle.css_model.specs.declared.Why.TheVariants as why
use Rattle.css_address.specs.declared.fault.AddressFault.{AddressFault}
use Rattle.css_cii.specs.declared.name.CiiName.{CiiName}
use Rattle.css_cii.specs.declared.name.CiiName.TheVariants.{WcUrl, TsUrl}
use Rattle.css_cii.specs.declared.state.State.{State}
use Rattle.css_outside.specs.declared.calls.Heard.{Heard as Answer}
use Rattle.css_outside.specs.declared.calls.Heard.TheVariants as answer
use Rattle.css_outside.specs.declared.calls.Clocked.{Clocked}
use Rattle.css_outside.specs.declared.calls.Wrote.{Wrote as Outcome}
use Rattle.css_outside.specs.declared.calls.Wrote.TheVariants as outcome
use Rattle.css_companion.specs.Contents.{told}
use Rattle.css_companion.specs.declared.binding.Binding.{Binding}
use Rattle.css_companion.specs.declared.binding.Binding.TheVariants.{Both}
use Rattle.css_companion.specs.Aside.{IsAside}
use Rattle.css_companion.proofs.Telling as telling
use Rattle.css_model.specs.declared.Stamp.{Stamp}
use Rattle.css_companion.specs.declared.fault.CompanionFault.{CompanionFault}
use Rattle.css_drive.specs.declared.session.Session.{Session}
use Rattle.css_drive.specs.declared.session.Session.TheVariants as session

-- ---- what is told
pub told_more : (before old new : Option History) (call history : History) → old ≡ with_entries history before
    → new ≡ with_entries call old → new ≡ with_entries (call ++ history) before
told_more None old new call history e f = f ∙ ap (λ o. with_entries call o) e
told_more (Some h) old new call history e f =
    f ∙ ap (λ o. with_entries call o) e ∙ ap Some (sym (append_assoc call history h))

-- ---- peers
pub peers_later : (n m : ℕ) (history : History) → n ≤ m → KnowsPeers n history → KnowsPeers m history
peers_later n m history le k = λ wanted peer e. (omega (arith, le, (k wanted peer e).0), (k wanted peer e).1)

peers_dialled : (n q : ℕ) (k : Kind) (to : Address) (history : History) → KnowsPeers n history → n < q
    → KnowsPeers q (Dialled k q ∷ Dialling k to ∷ history)
peers_dialled n q k to history known lt wanted peer e =
    let was = known wanted peer in grind (arith, nat_tests, lt, was, e)

-- what is open after an entry was dialled last, if what was open before was
open_last : (new ended was first : Option ℕ) (p : ℕ) → (was ≡ Some p → first ≡ Some p)
    → open_after new ended was ≡ Some p → newest new first ≡ Some p
open_last new ended was first p older e = grind (arith, older, e)

-- a session that is opens was dialled
pub opened_dialled : (wanted : Kind) (history : History) (p : ℕ) → opened wanted history ≡ Some p
    → dialled wanted history ≡ Some p
opened_dialled wanted [] p e = absurd (cc)
opened_dialled wanted (entry ∷ older) p e =
    open_last (dialled_by wanted entry) (ended_by entry) (opened wanted older) (dialled wanted older) p
    (opened_dialled wanted older p) e

-- ---- counts
-- nothing is counted at an end that is no fault of the outside
pub counts_same : (before now : ℕ) (ended : Driven) → (IsNetFault ended → ⊥) → now ≡ before
    → CountsNetFault before now ended
counts_same before now (driven.NetFault failure) never e = absurd (never tt)
counts_same before now _ never e = e

-- ---- ends
-- an end that neither the outside nor an observer makes, or want of memory
abbrev pub IsOwn : Driven → Type 0
IsOwn (driven.NetFault failure) = ⊥
IsOwn driven.WriteFault = ⊥
IsOwn _ = Unit {0}

own_so : (over : Option OutFault) (ended : Driven) → IsOwn ended → IsSo over ended
own_so over ended own = grind (arith, own)

pub own_quiet : (ended : Driven) → IsOwn ended → IsNetFault ended → ⊥
own_quiet ended own n = grind (arith, own, n)

-- nothing was told, and it ends by a fault
pub fault_ends : (d : Due) (ended : Driven) → IsFault ended → MayEnd d ended
fault_ends d ended f = grind (arith, f)

-- a call that was not made or failed
fails_end : (d : Due) (over : Option OutFault) (ended : Driven) → IsEndBy over ended → MayEnd d ended × IsSo over ended
fails_end d over ended f = grind (arith, f)

-- a `?` that ends the function
pub at_err : {T E : Type 0} (P : T → Type 0) (Q : E → Type 0) (e : E) (r : Result T E) → IsErrAnd r (λ x. x ≡ e) → Q e
    → MatchResult r P Q
at_err P Q e (Ok v) h q = absurd h
at_err P Q e (Err x) h q = subst Q (sym h) q

-- a call failed, and the observer isn't over
pub fails_over : {old new : Shown} {over : Option OutFault} {ended : Driven} → over ≡ None → Fails old new None ended
    → Fails old new over ended
fails_over {old} {new} {over} {ended} e f = subst (λ (o : Option OutFault). Fails old new o ended) (sym e) f

-- ---- steps
module _ {config : DriveConfig} {before now : Shown} {saw : List Note → Type 0} {live : Live} {history : History}
    (s : Stands config before now saw live history) where
  -- a call that is due is added, and the observer saw its notes
  pub stands_saw : (d : Due) → due config history ≡ d → (call : History) → MayAdd d call → (next : Shown)
      → next.told ≡ with_entries call now.told → next.counts.faults ≡ now.counts.faults
      → KnowsPeers next.counts.peers (call ++ history) → (after : List Note → Type 0)
      → after (noted config (call ++ history)) → {later : Live} → facts_of config (call ++ history) ≡ later
      → Stands config before next after later (call ++ history)
  stands_saw d is-due call may next told faults peers after notes facts =
      let P : Due → Type 0 = λ x. MayAdd x call in
      record {
        told = told_more before.told now.told next.told call history s.told told;
        faults = faults ∙ s.faults;
        proper = More call (subst P (sym is-due) may) s.proper;
        facts = facts;
        peers = peers;
        saw_so = notes;
      }

  -- one that opens no session
  pub stands_adds : (d : Due) → due config history ≡ d → (call : History) → MayAdd d call
      → KnowsPeers now.counts.peers (call ++ history) → {next : Shown} → Adds now next call
      → {after : List Note → Type 0} → after (noted config (call ++ history)) → {later : Live}
      → facts_of config (call ++ history) ≡ later → Stands config before next after later (call ++ history)
  stands_adds d is-due call may peers {next} adds {after} notes facts =
      let same : next.counts.peers ≡ now.counts.peers = ap (λ x. x.peers) adds.same in
      stands_saw d is-due call may next adds.told (ap (λ x. x.faults) adds.same)
      (peers_later _ _ (call ++ history) (omega (arith, same)) peers) after notes facts

  -- a dial
  pub stands_tried : (k : Kind) (to : Address) → due config history ≡ Dial k to → (tried : Result ℕ Failure)
      → {next : Shown} → HasDialled now next k to tried → {after : List Note → Type 0}
      → after (dial_notes (standpoint config (Dialling k to ∷ history)) k tried ++ noted config history)
      → {later : Live} → facts_of config (dial_entries k to tried ++ history) ≡ later
      → Stands config before next after later (dial_entries k to tried ++ history)
  stands_tried k to d (Err f) {next} t {after} notes facts =
      stands_saw (Dial k to) d (dial_entries k to (Err f)) (inr (f, refl)) next t.told t.faults
      (peers_later now.counts.peers next.counts.peers history t.later s.peers) after notes facts
  stands_tried k to d (Ok q) {next} t {after} notes facts =
      stands_saw (Dial k to) d (dial_entries k to (Ok q)) (inl (q, refl)) next t.told t.faults
      (peers_later q next.counts.peers (dial_entries k to (Ok q) ++ history) t.peer.1
      (peers_dialled now.counts.peers q k to history s.peers t.peer.0)) after notes facts

  -- the run came to this history
  pub comes : {companion : Companion} → Knows config.companion companion history → (at : History → Type 0) → at history
      → Comes config before now saw live companion at
  comes k at next = record { history = history; known = k; stands = s; next = next }

  -- the run ends, with nothing more told
  pub stops_here : IsLawful history → (over : Option OutFault) → (ended : Driven) → IsOwn ended
      → MayEnd (due config history) ended → Stops config before now saw over ended
  stops_here lawful over ended own ends = record {
    history = history;
    told = s.told;
    counted = counts_same before.counts.faults now.counts.faults ended (own_quiet ended own) s.faults;
    proper = s.proper;
    lawful = lawful;
    ends = ends;
    saw_so = s.saw_so;
    so = own_so over ended own;
  }

  -- for want of memory
  pub stops_by_memory : IsLawful history → (over : Option OutFault) → (ended : Driven) → ended ≡ driven.Memory
      → Stops config before now saw over ended
  stops_by_memory lawful over ended e =
      let P : Driven → Type 0 = λ x. Stops config before now saw over x in
      subst P (sym e) (stops_here lawful over driven.Memory tt tt)

  -- a call was not made, or failed
  pub stops_by_fault : IsLawful history → {next : Shown} {over : Option OutFault} {ended : Driven}
      → Fails now next over ended → {after : List Note → Type 0} → after (noted config history)
      → Stops config before next after over ended
  stops_by_fault lawful {next} {over} {ended} f notes =
      let P : ℕ → Type 0 = λ n. CountsNetFault n next.counts.faults ended in
      record {
        history = history;
        told = f.told ∙ s.told;
        counted = subst P s.faults f.counted;
        proper = s.proper;
        lawful = lawful;
        ends = (fails_end (due config history) over ended f.end).0;
        saw_so = notes;
        so = (fails_end (due config history) over ended f.end).1;
      }

  -- and a `?` ends the function
  pub failed : {T : Type 0} (P : T → Type 0) (result : Result T Driven) → {companion : Companion}
      → Knows config.companion companion history → {next : Shown} {over : Option OutFault} {ended : Driven}
      → IsErrAnd result (λ x. x ≡ ended) → Fails now next over ended → (after : List Note → Type 0)
      → after (noted config history) → MatchResult result P (Stops config before next after over)
  failed P result k is f after notes = at_err P _ _ result is (stops_by_fault k.stands.client.lawful f notes)

-- ---- steps of a turn
-- a second step goes on from where the first came
infixl 10 ◌>=>◌
pub ◌>=>◌ : {W : Type 0} {config : DriveConfig} {old mid : Shown} {saw after : W → List Note → Type 0}
    {live later : Live} {companion told : Companion} {when at : History → Type 0} {P : Shown → W → Type 0}
    → ((before : Shown) (started : W) (history : History) → Stands config before old (saw started) live history
    → Knows config.companion companion history → when history → Comes config before mid (after started) later told at)
    → ((before : Shown) (started : W) (history : History) → Stands config before mid (after started) later history
    → Knows config.companion told history → at history → P before started)
    → (before : Shown) (started : W) (history : History) → Stands config before old (saw started) live history
    → Knows config.companion companion history → when history → P before started
first >=> second = λ before started history s k w.
    let x = first before started history s k w in second before started x.history x.stands x.known x.next

-- a step that ended with Err leads anywhere
pub leads_err : {W T : Type 0} {config : DriveConfig} {old now : Shown} {saw after : W → List Note → Type 0}
    {live : Live} {companion : Companion} {when : History → Type 0} {over : Option OutFault} {ended : Driven}
    (P : Shown → W → T → Type 0) (result : Result T Driven) → IsErrAnd result (λ x. x ≡ ended)
    → ((before : Shown) (started : W) (history : History) → Stands config before old (saw started) live history
    → Knows config.companion companion history → when history → Stops config before now (after started) over ended)
    → (before : Shown) (started : W) (history : History) → Stands config before old (saw started) live history
    → Knows config.companion companion history → when history
    → MatchResult result (P before started) (Stops config before now (after started) over)
leads_err P result is step = λ before started history s k w.
    at_err _ _ _ result is (step before started history s k w)

pub ends_by : (d e : Due) (ended : Driven) → d ≡ e → MayEnd e ended → MayEnd d ended
ends_by d e ended is m = let P : Due → Type 0 = λ x. MayEnd x ended in subst P (sym is) m

-- the address of the wall clock that is told
abbrev pub wc_place : State → Option (Result Address AddressFault)
wc_place state = place kind.Wc state.wc_url

-- ---- entries that tell a companion nothing
pub lawful_plain : (entry : Entry) (history : History) → IsLawful history → asking_at entry ≡ None
    → request_by entry ≡ None → IsLawful (entry ∷ history)
lawful_plain entry history l asks sends =
    record {
      rises = (
        subst (λ (o : Option ℕ). IfSome o (λ reading. Each (λ earlier older. IfSome (asking_at earlier) (λ
            asked. sleeps older < sleeps history → asked < reading)) history)) (sym asks) tt,
        l.rises,
      );
      asks = (
        subst (λ (o : Option Stamp). IfSome o (λ originate. IsJustAsked originate history)) (sym sends) tt,
        l.asks,
      );
    }

-- an entry that tells a companion nothing
pub knows_plain : {binding : Binding} {own : CompanionConfig} {companion : Companion} (entry : Entry)
    {history : History} → KnowsUnder binding own companion history → is_sleep entry ≡ false → asking_at entry ≡ None
    → request_by entry ≡ None → landed_answer entry history ≡ None → cii_text entry history ≡ None
    → ts_text entry history ≡ None → (opens_ts entry || closes_ts entry history) ≡ false
    → KnowsUnder binding own companion (entry ∷ history)
knows_plain entry {history} k awake asks sends lands cii ts end =
    let aside : IsAside entry history = record {
      client = record { awake = awake; asks_none = asks; sends_none = sends; lands_none = lands };
      no_cii = cii;
      no_ts = ts;
      no_edge = end;
    } in
    record { stands = telling.stands_aside _ _ entry k.stands aside; setup = k.setup; local = k.local }

-- nor does a dial that fails or begins, or a session that isn't one of CSS-TS
pub knows_dialling : {binding : Binding} {own : CompanionConfig} {companion : Companion} (k : Kind) (to : Address)
    {history : History} → KnowsUnder binding own companion history
    → KnowsUnder binding own companion (Dialling k to ∷ history)
knows_dialling k to knows = knows_plain (Dialling k to) knows refl refl refl refl refl refl refl

pub knows_tried : {binding : Binding} {own : CompanionConfig} {companion : Companion} (k : Kind) (to : Address)
    (tried : Result ℕ Failure) {history : History} → IfOk tried (λ p. opens_ts (Dialled k p) ≡ false)
    → KnowsUnder binding own companion history → KnowsUnder binding own companion (dial_entries k to tried ++ history)
knows_tried k to (Err f) other knows =
    knows_plain (NotDialled k f) (knows_dialling k to knows) refl refl refl refl refl refl refl
knows_tried k to (Ok p) other knows =
    knows_plain (Dialled k p) (knows_dialling k to knows) refl refl refl refl refl refl (or_from _ _ other refl)

-- ---- what is due
module _ {config : DriveConfig} {before now : Shown} {saw : List Note → Type 0} {live : Live} {history : History}
    (s : Stands config before now saw live history) where
  -- ---- dials
  pub cii_due : due config history ≡ from_cii config history → live.cii ≡ None
      → due config history ≡ Dial kind.Cii config.cii
  cii_due d none = d ∙ rw (ap {A = Live} (λ x. x.cii) s.facts ∙ none)

  pub wc_due : due config history ≡ from_wc config history → live.wc ≡ None → (state : State)
      → state ≡ state_of history → (p : Option (Result Address AddressFault)) → place kind.Wc state.wc_url ≡ p
      → due config history ≡ dial_to None kind.Wc WcUrl p (from_ts config history)
  wc_due d none state told p at = let f = s.facts in grind (arith, d, none, told, at, f)

  pub ts_due : due config history ≡ from_ts config history → live.ts ≡ None → (state : State)
      → state ≡ state_of history → (p : Option (Result Address AddressFault)) → place kind.Ts state.ts_url ≡ p
      → due config history ≡ dial_to None kind.Ts TsUrl p (from_ask config history)
  ts_due d none state told p at = let f = s.facts in grind (arith, d, none, told, at, f)

  -- ---- requests and datagrams
  pub ask_due : due config history ≡ from_ask config history → {p : ℕ} → live.wc ≡ Some p
      → is_asking config.ask_every live.turn live.asked ≡ true → due config history ≡ Now why.Ask
  ask_due d e is = let f = s.facts in grind (arith, d, e, is, f)

  pub take_due : due config history ≡ from_take config history → {p : ℕ} → live.wc ≡ Some p
      → due config history ≡ TakeDatagram
  take_due d e = d ∙ rw (ap {A = Live} (λ x. x.wc) s.facts ∙ e)

  -- ---- whose session it is
  last : (which : Session) {p : ℕ} → open_of which live ≡ Some p → dialled (kind_for which) history ≡ Some p
  last session.Cii {p} e = opened_dialled kind.Cii history p (ap {A = Live} (λ x. x.cii_open) s.facts ∙ e)
  last session.Ts {p} e = opened_dialled kind.Ts history p (ap {A = Live} (λ x. x.ts_open) s.facts ∙ e)

  pub open_kind : (which : Session) {p : ℕ} → open_of which live ≡ Some p → kind_of p history ≡ Some (kind_for which)
  open_kind which {p} e = (s.peers (kind_for which) p (last which e)).1

-- ---- readings
-- a sleep that a reading told
slept_facts : (config : DriveConfig) (history : History) (slept : Bool)
    → facts_of config (sleep_entries slept ++ history)
    ≡ record (facts_of config history) { asked = asked_after slept (asked_turn history) }
slept_facts config history slept = grind arith

slept_peers : (peers : ℕ) (history : History) (slept : Bool) → KnowsPeers peers history
    → KnowsPeers peers (sleep_entries slept ++ history)
slept_peers peers history true k = k
slept_peers peers history false k = k

pub slept_noted : (config : DriveConfig) (history : History) (slept : Bool)
    → noted config (sleep_entries slept ++ history)
    ≡ slept_notes (standpoint config history) slept ++ noted config history
slept_noted config history slept = grind arith

-- after a reading the run stands
module _ {config : DriveConfig} {before now next : Shown} {saw : List Note → Type 0} {live later : Live}
    {was is : Companion} {w : Why} {clocked : Clocked} {history : History}
    (s : Stands config before now saw live history) (r : HasRead now next live later was is w clocked) where
  pub read_facts : facts_of config (sleep_entries clocked.slept ++ history) ≡ later
  read_facts =
      slept_facts config history clocked.slept
      ∙ ap {A = Live} (λ x. record x { asked = asked_after clocked.slept x.asked }) s.facts ∙ sym r.only

  pub stands_read : due config history ≡ Now w → {after : List Note → Type 0}
      → after (noted config (clock_entries w clocked ++ history)) → {last : Live}
      → facts_of config (clock_entries w clocked ++ history) ≡ last
      → Stands config before next after last (clock_entries w clocked ++ history)
  stands_read d {after} notes facts =
      stands_saw s (Now w) d (clock_entries w clocked) (clocked, refl) next r.told r.faults
      (peers_later _ _ (clock_entries w clocked ++ history) (omega (arith, r.peers))
      (slept_peers _ history clocked.slept s.peers)) after notes facts

-- after one for a request, and after one for a landing
pub stands_asked : {config : DriveConfig} {before now next : Shown} {saw after : List Note → Type 0} {live later : Live}
    {was is : Companion} {history : History} → Stands config before now saw live history
    → due config history ≡ Now why.Ask → (clocked : Clocked) → HasRead now next live later was is why.Ask clocked
    → after (slept_notes (standpoint config history) clocked.slept ++ noted config history)
    → Stands config before next after later (clock_entries why.Ask clocked ++ history)
stands_asked {config} {after = after} {history = history} s d clocked r notes =
    stands_read s r d (subst after (sym (slept_noted config history clocked.slept)) notes) (read_facts s r)

landed_notes : (config : DriveConfig) (clocked : Clocked) (p : ℕ) (bytes : List ℕ) (history : History)
    → noted config (clock_entries why.Land clocked ++ (Took p bytes ∷ history))
    ≡ landing_notes (standpoint config (Took p bytes ∷ history)) clocked bytes ++ noted config history
landed_notes config clocked p bytes history = grind arith

pub stands_landed : {config : DriveConfig} {before now next : Shown} {saw after : List Note → Type 0}
    {live later : Live} {was is : Companion} {history : History} {p : ℕ} {bytes : List ℕ}
    → Stands config before now saw live (Took p bytes ∷ history) → (clocked : Clocked)
    → HasRead now next live later was is why.Land clocked
    → after (landing_notes (standpoint config (Took p bytes ∷ history)) clocked bytes ++ noted config history)
    → Stands config before next after later (clock_entries why.Land clocked ++ (Took p bytes ∷ history))
stands_landed {config} {after = after} {history = history} {p = p} {bytes = bytes} s clocked r notes =
    stands_read s r refl (subst after (sym (landed_notes config clocked p bytes history)) notes) (read_facts s r)

-- ---- sessions that end
-- a session of another kind has another peer
pub other_open : (history : History) (o : Option ℕ) (is other : Kind) (p : ℕ)
    → ((q : ℕ) → o ≡ Some q → kind_of q history ≡ Some is) → kind_of p history ≡ Some other
    → (Some is ≡ Some other → ⊥) → is_peer o p ≡ false
other_open history None is other p opens k never = refl
other_open history (Some q) is other p opens k never =
    ne_eqb q p (λ e. never (sym (opens q refl) ∙ ap (λ x. kind_of x history) e ∙ k))

module _ {config : DriveConfig} {before now : Shown} {saw : List Note → Type 0} {live : Live} {history : History}
    (s : Stands config before now saw live history) where
  -- ---- which session it is
  session_is : (which : Session) {p : ℕ} → open_of which live ≡ Some p → session_at p history ≡ Some which
  session_is session.Cii {p} e = rw (last s session.Cii e, eq-eqb p p refl)
  session_is session.Ts {p} e =
      let other = other_open history (dialled kind.Cii history) kind.Cii kind.Ts p (λ q x. (s.peers kind.Cii q x).1)
      (open_kind s session.Ts e) (λ x. cc) in rw (other, last s session.Ts e, eq-eqb p p refl)

  -- ---- what it is to be asked
  text_due : (which : Session) → due config history ≡ from_text which config history → {p : ℕ}
      → open_of which live ≡ Some p → due config history ≡ TakeText p
  text_due which d at = let f = s.facts in grind (arith, d, at, f)

-- ---- notes
pub heard_noted : (config : DriveConfig) (p : ℕ) (said : Answer) (which : Session) (history : History)
    → session_at p history ≡ Some which
    → noted config (heard_entries p said ++ history)
    ≡ heard_notes which (standpoint config history) said ++ noted config history
heard_noted config p said which history e = grind (arith, e)

pub wrote_noted : (config : DriveConfig) (p : ℕ) (text : List ℕ) (wrote : Outcome) (history : History)
    → session_at p history ≡ Some session.Ts
    → noted config (wrote_entries p text wrote ++ history)
    ≡ wrote_notes (standpoint config history) wrote ++ noted config history
wrote_noted config p text wrote history e = grind (arith, e)

-- ---- texts
-- what is due after a session was asked for a text
pub asked : (which : Session) (config : DriveConfig) (entry : Entry) (p : ℕ) (history : History)
    → kind_of p history ≡ Some (kind_for which)
    → due config (entry ∷ history)
    ≡ cond (is_ts (kind_of p history)) (from_end config (entry ∷ history)) (from_ts_text config (entry ∷ history))
    → due config (entry ∷ history) ≡ after_text which config (entry ∷ history)
asked which config entry p history is e = grind (arith, is, e)

-- and where it gave one
heard : (which : Session) (config : DriveConfig) (p : ℕ) (bytes : List ℕ) (history : History)
    → kind_of p history ≡ Some (kind_for which)
    → due config (Heard p bytes ∷ history)
    ≡ unless_refused (refusal_of (cond (is_cii (Some (kind_for which))) (Some bytes) None) history)
    (after_text which config (Heard p bytes ∷ history))
heard which config p bytes history is = grind (arith, is)

-- a refused text ends the run so
pub refusal_ends : (refusal : Option CompanionFault) (rest : Due) (ended : Driven) → IsRefusal refusal ended
    → MayEnd (unless_refused refusal rest) ended
refusal_ends refusal rest ended r = grind (arith, r)

pub refusal_own : (refusal : Option CompanionFault) (ended : Driven) → IsRefusal refusal ended → IsOwn ended
refusal_own refusal ended r = grind (arith, r)

-- a text was taken in, or is refused and ends the run
pub text_goes : {T : Type 0} {config : DriveConfig} {before now : Shown} {saw : List Note → Type 0} {live : Live}
    {p : ℕ} {bytes : List ℕ} {history : History} → Stands config before now saw live (Heard p bytes ∷ history)
    → IsLawful history → (which : Session) → kind_of p history ≡ Some (kind_for which) → (over : Option OutFault)
    → (is : Companion) (result : Result T Driven) → TakesIn Both config.companion which p bytes history is result
    → Goes config before now saw over live is (λ _. IsDue config (after_text which)) result
text_goes {config} {p = p} {bytes = bytes} {history = history} s lawful which k over is (Ok _) taken =
    comes s taken.1 _ (heard which config p bytes history k
    ∙ ap (λ x. unless_refused x (after_text which config (Heard p bytes ∷ history))) taken.0)
text_goes {config} {p = p} {bytes = bytes} {history = history} s lawful which k over is (Err ended) refused =
    stops_here s (lawful_plain (Heard p bytes) history lawful refl refl) over ended (refusal_own _ ended refused)
    (ends_by _ _ ended (heard which config p bytes history k) (refusal_ends _ _ ended refused))

-- and so it is a stage that hears a session
pub text_heard : {binding : Binding} (over : Option OutFault) (which : Session) {p : ℕ} {text : List ℕ} {old : At}
    (new : At) → Adds old.shown new.shown (heard_entries p (answer.Text text)) → new.live ≡ old.live
    → (result : Result Bool Driven) → IfOk result (λ came. came ≡ true)
    → ((own : CompanionConfig) (h : History) → kind_of p h ≡ Some (kind_for which)
    → KnowsUnder binding own old.companion h → TakesIn binding own which p text h new.companion result)
    → HearsOnce binding over which (Some p) old new result
text_heard over which {text = text} new a live (Ok value) came takes =
    (answer.Text text, record { called = a; live = live; known = takes }, came)
text_heard over which {text = text} new a live (Err ended) came takes = inr (answer.Text text, a, live, takes)

-- ---- counts
-- a call that went well and is no dial
pub plain_adds : {old new : Shown} {call : History} → new.told ≡ with_entries call old.told
    → new.counts ≡ record old.counts { faults = new.counts.faults } → new.counts.faults ≡ old.counts.faults
    → Adds old new call
plain_adds {old} told same faults =
    record { told = told; same = same ∙ ap {A = ℕ} {B = Counts} (λ n. record old.counts { faults = n }) faults }

-- ---- a session is asked for a text, or sent one
module _ {config : DriveConfig} {before now : Shown} {saw : List Note → Type 0} {live : Live} {history : History}
    (s : Stands config before now saw live history) where
  pub session_said : (which : Session) → due config history ≡ from_text which config history → {p : ℕ}
      → open_of which live ≡ Some p → (said : Answer) → {next : Shown} → Adds now next (heard_entries p said)
      → {after : List Note → Type 0}
      → after (heard_notes which (standpoint config history) said ++ noted config history) → {later : Live}
      → facts_of config (heard_entries p said ++ history) ≡ later
      → Stands config before next after later (heard_entries p said ++ history)
  session_said which d {p} at said adds {after} notes facts =
      stands_adds s (TakeText p) (text_due s which d at) (heard_entries p said) (said, refl) (peers said) adds
      (subst after (sym (heard_noted config p said which history (session_is s which at))) notes) facts
    where
      peers : (a : Answer) → KnowsPeers now.counts.peers (heard_entries p a ++ history)
      peers answer.Quiet = s.peers
      peers (answer.Text text) = s.peers
      peers answer.Closed = s.peers

  pub ts_sent : {p : ℕ} → live.ts_open ≡ Some p → {text : List ℕ} → due config history ≡ SendText p text
      → (sent : Outcome) → {next : Shown} → Adds now next (wrote_entries p text sent) → {after : List Note → Type 0}
      → after (wrote_notes (standpoint config history) sent ++ noted config history) → {later : Live}
      → facts_of config (wrote_entries p text sent ++ history) ≡ later
      → Stands config before next after later (wrote_entries p text sent ++ history)
  ts_sent {p} at {text} is-due sent adds {after} notes facts =
      stands_adds s (SendText p text) is-due (wrote_entries p text sent) (sent, refl) (peers sent) adds
      (subst after (sym (wrote_noted config p text sent history (session_is s session.Ts at))) notes) facts
    where
      peers : (o : Outcome) → KnowsPeers now.counts.peers (wrote_entries p text o ++ history)
      peers outcome.Sent = s.peers
      peers outcome.Gone = s.peers

-- ---- ends by an address
-- a bad address ends the run
pub bad_stops : {config : DriveConfig} {before now : Shown} {saw : List Note → Type 0} {live : Live}
    {history : History} → Stands config before now saw live history → IsLawful history → {over : Option OutFault}
    → (property : CiiName) (told : Option (Result Address AddressFault)) (k : Kind) (rest : Due) (ended : Driven)
    → GivesPlace property told (Err ended) → due config history ≡ dial_to None k property told rest
    → Stops config before now saw over ended
bad_stops s lawful property told k rest driven.Memory g d = stops_by_memory s lawful _ driven.Memory refl
bad_stops {config} {before} {now} {saw} s lawful {over} property told k rest _ g d =
    let P : Driven → Type 0 = λ x. Stops config before now saw over x in
    subst P (sym g.1) (stops_here s lawful over (driven.BadUrl property) tt (d
    ∙ ap (λ x. dial_to None k property x rest) g.2))

-- and it is a stage that dials what a property tells
pub told_err : {T : Type 0} (over : Option OutFault) (k : Kind) (property : CiiName) (old new : At) (ended : Driven)
    (found told : Option (Result Address AddressFault)) → found ≡ told → new ≡ old
    → (result : Result T Driven) → IsErrAnd result (λ x. x ≡ ended) → GivesPlace property found (Err ended)
    → DialsTold over k property None told old new result
told_err over k property old new ended found told e same result is g =
    subst (λ (x : Option (Result Address AddressFault)). DialsTold over k property None x old new result) e (by found g)
  where
    memory : (to : Address) (ended : Driven) → GivesPlace property (Some (Ok to)) (Err ended) → ended ≡ driven.Memory
    memory to driven.Memory g = refl
    memory to _ g = let bad = g.2 in absurd (cc)

    by : (found : Option (Result Address AddressFault)) → GivesPlace property found (Err ended)
        → DialsTold over k property None found old new result
    by (Some (Ok to)) g = at_err _ _ _ result is (inr (ap {A = At} (λ x. x.shown) same, memory to ended g))
    by None g = at_err _ _ _ result is (same, g)
    by (Some (Err bad)) g = at_err _ _ _ result is (same, g)
