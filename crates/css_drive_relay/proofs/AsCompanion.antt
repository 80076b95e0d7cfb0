-- What a relay's run makes of the calls of its companion.
use Rattle.std.proofs.Common.{arith, ◌≡◌, ℕ, ap, ap₂, ◌∙◌, refl, Bool, true, false, cond, [], ◌∷◌, ◌++◌, Option, Some}
use Rattle.std.proofs.Common.{None, sym, subst, inl, inr, Result, Ok, Err, eq-eqb}
use Rattle.std.specs.Prelude.{MatchResult, is_some, not, ◌&&◌, ◌⊎◌}
use Rattle.css_model.specs.declared.Kind.{Kind}
use Rattle.css_model.specs.declared.Failure.{Failure}
use Rattle.css_model.specs.declared.Kind.TheVariants as kind
use Rattle.css_model.specs.declared.Why.{Why}
use Rattle.css_model.specs.declared.Why.TheVariants as why
use Rattle.css_model.specs.History.{Address, Closed, Dialled, Heard, History, Quiet, Sent}
use Rattle.css_model.specs.Wire.{encoded, request_at}
use Rattle.css_address.specs.declared.fault.AddressFault.{AddressFault}
use Rattle.css_cii.specs.declared.name.CiiName.TheVariants.{WcUrl}
use Rattle.css_companion.specs.Meanings.{kind_of, is_ts, opens_ts}
use Rattle.css_companion.specs.Standing.{Companion}
use Rattle.css_companion.specs.declared.binding.Binding.TheVariants.{WallClock}
use Rattle.css_outside.specs.Outsides.{clock_entries, heard_entries}
use Rattle.css_outside.specs.declared.calls.Clocked.{Clocked}
use Rattle.css_outside.specs.declared.calls.Heard.{Heard as Answer}
use Rattle.css_outside.specs.declared.calls.Heard.TheVariants as answer
use Rattle.css_relay.specs.Lending.{with_companion}
use Rattle.css_relay.specs.Relays.{relayed_state}
use Rattle.css_drive.specs.CompanionDue.{dial_first, dial_to, place, send_to}
use Rattle.css_drive.specs.CompanionStanding as companions
use Rattle.css_drive.specs.CompanionStanding.{Shown, GivesPlace, IsRefusal, dial_entries, still}
use Rattle.css_drive.specs.CompanionTurns.{is_asking, unless}
use Rattle.css_drive.specs.Proper.{Due, Dial, Now, SendDatagram, TakeDatagram}
use Rattle.css_drive.specs.Stages.{At, Dials, DialsOnce, DialsTold, with_dial, Reads, AsksOnce, Hears, HearsOnce}
use Rattle.css_drive.specs.Stages.{is_text, refusal_by, with_answer, at_of}
use Rattle.css_drive.specs.declared.companion_live.Live.{Live as Own}
use Rattle.css_drive.specs.declared.driven.Driven.{Driven}
use Rattle.css_drive.specs.declared.driven.Driven.TheVariants as driven
use Rattle.css_drive.specs.declared.session.Session.TheVariants as session
use Rattle.css_drive.proofs.CompanionSteps.{lawful_plain}
use Rattle.css_drive_relay.specs.Due.{due_at, from_ask, from_cii, from_take, from_wc}
use Rattle.css_drive_relay.specs.Places.{Asked, Asking, Begun, Called, Facts, Place, Progress, Requested, Welcomed}
use Rattle.css_drive_relay.specs.Places.{published, welcomed}
use Rattle.css_drive.specs.declared.parting.Parting.TheVariants as parting
use Rattle.css_relay.specs.Agreeing.{Agrees}
use Rattle.css_drive_relay.specs.Standing.{Comes, DialsAndAsks, HasRead, IsAt, Knows, Runs, Stands, Stops, facts_in}
use Rattle.css_drive_relay.specs.Standing.{cut_if, goes_on_at, stood}
use Rattle.css_drive_relay.specs.declared.plan.Plan.{Plan}
use Rattle.css_drive_relay.specs.declared.live.Live.{Live}
use Rattle.css_drive_relay.proofs.Steps as steps

-- where its run as a companion is
abbrev pub now_at : Shown → Live → At
now_at shown live = at_of shown live.own live.relay.companion

-- the variables once that run is there
abbrev pub with_at : Live → At → Live
with_at live at = record live { own = at.live; relay = with_companion live.relay at.companion }

pub has_read : (live : Live) {own : Own} {is : Companion} {now next : Shown} {w : Why} {clocked : Clocked}
    → companions.HasRead now next live.own own live.relay.companion is w clocked
    → HasRead now next live (record live { own = own; relay = with_companion live.relay is }) w clocked
has_read live r = record { read = r; rest = refl }

pub reads : (live : Live) (own : Own) (is : Companion) (now next : Shown) (w : Why) (result : Result Clocked Driven)
    → companions.Calls now next None (λ old new. companions.HasRead old new live.own own live.relay.companion is w)
    result
    → companions.Calls now next None (λ old new. HasRead old new live (record live {
      own = own;
      relay = with_companion live.relay is;
    }) w) result
reads live own is now next w (Ok clocked) r = has_read live r
reads live own is now next w (Err ended) f = f

module _ (live : Live) {plan : Plan} {start now : Shown} {history : History} {spot : Place}
    (s : Stands plan start now live.relay (stood live spot) history) where
  -- ---- dials
  tried : (k : Kind) (to : Address) → ((q : ℕ) → opens_ts (Dialled k q) ≡ false)
      → due_at plan (facts_in live) history spot ≡ Dial k to → {new : At} → Dials k to (now_at now live) new
      → (h : History) × Stands plan start new.shown (with_companion live.relay new.companion)
      (stood (with_at live new) (Called k)) h
  tried k to opens is {new} d =
      let P : Own → Companion → Type 0 = λ own companion. Stands plan start new.shown
      (with_companion live.relay companion) (stood (record live { own = own }) (Called k))
      (dial_entries k to d.tried ++ history) in
      let stands = steps.stands_as (steps.dialled live s k to is opens d.tried d.called)
      (stood (record live { own = with_dial k d.tried live.own }) (Called k)) (by k d.tried) in (
        dial_entries k to d.tried ++ history,
        subst (λ own. P own new.companion) (sym d.live) (subst (P (with_dial k d.tried live.own)) (sym d.same) stands),
      )
    where
      by : (k : Kind) (tried : Result ℕ Failure) → ◌≡◌ {A = Progress} (steps.called k tried (facts_in live))
          (stood (record live { own = with_dial k tried live.own }) (Called k))
      by k tried = grind arith

  -- nothing was called
  same : (to : Facts → History → Due) {new : At} → new ≡ now_at now live
      → due_at plan (facts_in live) history spot ≡ to (facts_in live) history
      → Comes to plan start new.shown (with_at live new)
  same to e is =
      subst (λ (a : At). Comes to plan start a.shown (with_at live a)) (sym e) (history, spot, s, is)

  pub goes_cii : (known : Option ℕ) → live.own.cii ≡ known
      → due_at plan (facts_in live) history spot ≡ from_cii plan (facts_in live) history → (new : At)
      (result : Result (Unit {0}) Driven) → DialsOnce None kind.Cii known plan.run.cii (now_at now live) new result
      → MatchResult result (λ _. Comes (from_wc plan) plan start new.shown (with_at live new))
      (Stops plan start new.shown (with_at live new))
  goes_cii None e is new (Ok done) d =
      let x = tried kind.Cii plan.run.cii (λ q. refl)
      (is ∙ ap (λ o. dial_first o plan.run.cii (from_wc plan (facts_in live) history)) e) d in
      (x.0, Called kind.Cii, x.1, refl)
  goes_cii None e is new (Err ended) f = steps.stops_by_fault s.runs (steps.lawful s.knows) f
  goes_cii (Some q) e is new (Ok done) x =
      same (from_wc plan) x (is ∙ ap (λ o. dial_first o plan.run.cii (from_wc plan (facts_in live) history)) e)
  goes_cii (Some q) e is new (Err ended) never = absurd never

  stops : (new : At) {ended : Driven} → new ≡ now_at now live → Stops plan start now live ended
      → Stops plan start new.shown (with_at live new) ended
  stops new {ended} e x = subst (λ (a : At). Stops plan start a.shown (with_at live a) ended) (sym e) x

  bad : (told : Option (Result Address AddressFault)) (ended : Driven) → GivesPlace WcUrl told (Err ended)
      → due_at plan (facts_in live) history spot ≡ dial_to None kind.Wc WcUrl told
      (from_ask plan (facts_in live) history)
      → Stops plan start now live ended
  bad told driven.Memory g d = steps.stops_by_memory s.runs (steps.lawful s.knows) driven.Memory refl
  bad told _ g d =
      subst (λ (x : Driven). Stops plan start now live x) (sym g.1) (steps.stops_here s.runs (steps.lawful s.knows)
      (driven.BadUrl WcUrl) (inr refl) tt tt
      (d ∙ ap (λ x. dial_to None kind.Wc WcUrl x (from_ask plan (facts_in live) history)) g.2))

  pub goes_wc : (known : Option ℕ) (told : Option (Result Address AddressFault)) → live.own.wc ≡ known
      → place kind.Wc live.relay.companion.state.wc_url ≡ told
      → due_at plan (facts_in live) history spot ≡ from_wc plan (facts_in live) history → (new : At)
      (result : Result (Unit {0}) Driven) → DialsTold None kind.Wc WcUrl known told (now_at now live) new result
      → MatchResult result (λ _. Comes (from_ask plan) plan start new.shown (with_at live new))
      (Stops plan start new.shown (with_at live new))
  goes_wc known told e t is new result d = by known told (due known told e t) result d
    where
      rest : Due
      rest = from_ask plan (facts_in live) history

      due : (known : Option ℕ) (told : Option (Result Address AddressFault)) → live.own.wc ≡ known
          → place kind.Wc live.relay.companion.state.wc_url ≡ told
          → due_at plan (facts_in live) history spot ≡ dial_to known kind.Wc WcUrl told rest
      due known told e t = let state = s.knows.companion.stands.state in grind (arith, is, e, t, state)

      by : (known : Option ℕ) (told : Option (Result Address AddressFault))
          → due_at plan (facts_in live) history spot ≡ dial_to known kind.Wc WcUrl told rest
          → (result : Result (Unit {0}) Driven) → DialsTold None kind.Wc WcUrl known told (now_at now live) new result
          → MatchResult result (λ _. Comes (from_ask plan) plan start new.shown (with_at live new))
          (Stops plan start new.shown (with_at live new))
      by (Some q) told is (Ok done) x = same (from_ask plan) x is
      by (Some q) told is (Err ended) never = absurd never
      by None (Some (Ok to)) is (Ok done) d =
          let x = tried kind.Wc to (λ q. refl) is d in (x.0, Called kind.Wc, x.1, refl)
      by None (Some (Ok to)) is (Err ended) (inl f) = steps.stops_by_fault s.runs (steps.lawful s.knows) f
      by None (Some (Ok to)) is (Err ended) (inr x) =
          subst (λ (shown : Shown). Stops plan start shown (with_at live new) ended) (sym x.0)
          (steps.stops_by_memory s.runs (steps.lawful s.knows) ended x.1)
      by None (Some (Err b)) is (Ok done) x = let never = x.0 in absurd (cc)
      by None (Some (Err b)) is (Err ended) x = stops new x.0 (bad (Some (Err b)) ended x.1 is)
      by None None is (Ok done) x = same (from_ask plan) x.1 is
      by None None is (Err ended) x = stops new x.0 (bad None ended x.1 is)

  -- ---- requests
  asks_if : (known : Option ℕ) (time : Bool) → live.own.wc ≡ known
      → is_asking plan.run.ask_every live.own.turn live.own.asked ≡ time
      → due_at plan (facts_in live) history spot ≡ from_ask plan (facts_in live) history
      → due_at plan (facts_in live) history spot ≡ cond (is_some known && time) (Now why.Ask) TakeDatagram
  asks_if known time e is due =
      due ∙ ap₂ (λ (o : Option ℕ) (c : Bool). cond (is_some o && c) (Now why.Ask) TakeDatagram) e is

  asking : (peer : ℕ) → live.own.wc ≡ Some peer → is_asking plan.run.ask_every live.own.turn live.own.asked ≡ true
      → due_at plan (facts_in live) history spot ≡ from_ask plan (facts_in live) history → {mid : At}
      {after : Companion}
      → (r : Reads peer (now_at now live) mid after)
      → Runs plan start mid.shown (stood (with_at live mid) (Asking r.clocked.reading))
      (clock_entries why.Ask r.clocked ++ history)
  asking peer e time is r =
      steps.runs_read {live = live} {clocked = r.clocked} s.runs (asks_if (Some peer) true e time is)
      (has_read live r.read) _ refl

  sending : {peer : ℕ} {mid : At} {after : Companion} → (r : Reads peer (now_at now live) mid after)
      → Knows plan (with_companion live.relay after) (Sent peer r.bytes ∷ clock_entries why.Ask r.clocked ++ history)
  sending r = steps.learns (steps.knows_read (has_read live r.read) s.knows) (λ own. r.known own _) (λ a. a)

  pub goes_ask : (known : Option ℕ) (time : Bool) → live.own.wc ≡ known
      → is_asking plan.run.ask_every live.own.turn live.own.asked ≡ time
      → due_at plan (facts_in live) history spot ≡ from_ask plan (facts_in live) history → (new : At)
      (result : Result (Unit {0}) Driven) → AsksOnce None known time (now_at now live) new result
      → MatchResult result (λ _. Comes from_take plan start new.shown (with_at live new))
      (Stops plan start new.shown (with_at live new))
  goes_ask (Some peer) true e time is new (Ok done) r =
      let own = r.reads.read.only in
      let wc = ap {A = Own} (λ x. x.wc) own ∙ e in
      let sent = Sent peer r.reads.bytes in (
        sent ∷ clock_entries why.Ask r.reads.clocked ++ history,
        Requested,
        record {
          runs = subst (λ own. Runs plan start new.shown (stood (record live { own = own }) Requested)
              (sent ∷ clock_entries why.Ask r.reads.clocked ++ history)) (sym r.live)
              (steps.runs_on (asking peer e time is r.reads) sent (steps.may_as
              (ap (λ o. send_to o (encoded (request_at r.reads.clocked.reading))) wc
              ∙ ap (λ b. SendDatagram peer b) (sym r.reads.request)) (sent ∷ []) refl) (λ o. o) r.sent);
          knows = sending r.reads;
        },
        refl,
      )
  goes_ask (Some peer) true e time is new (Err ended) (inl f) = steps.stops_by_fault s.runs (steps.lawful s.knows) f
  goes_ask (Some peer) true e time is new (Err ended) (inr (mid, reads, f)) =
      let l = steps.lawful (sending reads) in
      steps.stops_by_fault (asking peer e time is reads) (record { rises = l.rises.1; asks = l.asks.1 }) f
  goes_ask (Some peer) false e time is new (Ok done) x =
      same from_take x (asks_if (Some peer) false e time is)
  goes_ask (Some peer) false e time is new (Err ended) never = absurd never
  goes_ask None b e time is new (Ok done) x = same from_take x (asks_if None b e time is)
  goes_ask None b e time is new (Err ended) never = absurd never

-- ---- all three
pub all_three : (to : Address) (every : ℕ) (old a b : At)
    → DialsOnce None kind.Cii old.live.cii to old a (Ok (tt {0}))
    → DialsTold None kind.Wc WcUrl a.live.wc (place kind.Wc a.companion.state.wc_url) a b (Ok (tt {0}))
    → (new : At) (result : Result (Unit {0}) Driven)
    → AsksOnce None b.live.wc (is_asking every b.live.turn b.live.asked) b new result
    → DialsAndAsks to every old new result
all_three to every old a b cii wc new (Ok done) asks = (a, b, cii, wc, asks)
all_three to every old a b cii wc new (Err ended) asks = inr (inr (a, b, cii, wc, asks))

pub goes_calls : (live : Live) {plan : Plan} {start now : Shown} {history : History}
    → Stands plan start now live.relay (stood live Begun) history → (new : At) (result : Result (Unit {0}) Driven)
    → DialsAndAsks plan.run.cii plan.run.ask_every (now_at now live) new result
    → MatchResult result (λ _. Comes from_take plan start new.shown (with_at live new))
    (Stops plan start new.shown (with_at live new))
goes_calls live s new (Ok done) (a, b, cii, wc, asks) =
    let x = goes_cii live s _ refl refl a (Ok tt) cii in
    let y = goes_wc (with_at live a) x.2 _ _ refl refl x.3 b (Ok tt) wc in
    goes_ask (with_at live b) y.2 _ _ refl refl y.3 new (Ok tt) asks
goes_calls live s new (Err ended) (inl cii) = goes_cii live s _ refl refl new (Err ended) cii
goes_calls live s new (Err ended) (inr (inl (a, cii, wc))) =
    let x = goes_cii live s _ refl refl a (Ok tt) cii in
    goes_wc (with_at live a) x.2 _ _ refl refl x.3 new (Err ended) wc
goes_calls live s new (Err ended) (inr (inr (a, b, cii, wc, asks))) =
    let x = goes_cii live s _ refl refl a (Ok tt) cii in
    let y = goes_wc (with_at live a) x.2 _ _ refl refl x.3 b (Ok tt) wc in
    goes_ask (with_at live b) y.2 _ _ refl refl y.3 new (Err ended) asks

-- ---- the television's session
module _ (live : Live) {plan : Plan} {start now : Shown} {history : History}
    (s : Stands plan start now live.relay (stood live (welcomed (facts_in live))) history) (new : At) where
  -- nothing came, and the session is as it was
  abbrev pub IsQuiet : At → Type 0
  IsQuiet a = IsAt (λ f. Asked f.peers) plan start a.shown (with_at live a) × (a.live.cii_open ≡ live.own.cii_open)

  -- the session closed, which ends the visit
  abbrev pub HasClosed : At → Type 0
  HasClosed a = ((h : History) × Stands plan start a.shown (with_companion live.relay a.companion) (record {
    facts = record (facts_in (with_at live a)) { parting = Some (parting.Closed session.Cii) };
    place = Asked [];
  }) h) × (is_some live.own.cii_open ≡ true) × (a.live.cii_open ≡ None)

  -- whether a text came, which the relay publishes
  abbrev pub HearsSo : Bool → Type 0
  HearsSo true = (h : History) × Stands plan start new.shown (with_companion live.relay new.companion)
      (published (relayed_state live.relay.wc_url new.companion.state) (facts_in (with_at live new))) h
  HearsSo false = IsQuiet new ⊎ HasClosed new

  -- which of the two is told by the session before and after
  pub closed_if : IsQuiet new ⊎ HasClosed new → (closed : Bool)
      → closed ≡ (is_some live.own.cii_open && not (is_some new.live.cii_open))
      → IsAt (goes_on_at (λ f. Asked f.peers) (not closed)) plan start new.shown
      (cut_if closed (parting.Closed session.Cii) (with_at live new))
  closed_if found closed e = grind (arith, found, e)

  module _ (p : ℕ) (e : live.own.cii_open ≡ Some p) where
    asked : Stands plan start now live.relay (stood live (Welcomed p)) history
    asked = steps.asked_next live s (Some p) e

    its_kind : kind_of p history ≡ Some kind.Cii
    its_kind = steps.its_kind s.runs e

    none : still live.own.cii_open p ≡ None
    none = ap (λ o. still o p) e ∙ ap (λ b. unless b (Some p)) (eq-eqb p p refl)

    quiet : companions.Adds now new.shown (Quiet p ∷ [])
        → Runs plan start new.shown (stood live (Asked live.peers.items)) (Quiet p ∷ history)
    quiet a = (steps.stands_on asked (Quiet p) (answer.Quiet, refl) tt a).runs

    -- how far the run is once the session closed
    abbrev over : Own → Progress
    over own = record {
      facts = record (facts_in (record live { own = own })) { parting = Some (parting.Closed session.Cii) };
      place = Asked [];
    }

    closed : companions.Adds now new.shown (Closed p ∷ [])
        → Runs plan start new.shown (over (companions.without p live.own)) (Closed p ∷ history)
    closed a =
        subst (λ (o : Option ℕ). Runs plan start new.shown (record {
          facts = record (facts_in live) { television = o; parting = Some (parting.Closed session.Cii) };
          place = Asked [];
        }) (Closed p ∷ history)) (sym none) (steps.stands_on asked (Closed p) (answer.Closed, refl)
        (ap is_ts its_kind) a).runs

    -- what the relay knows then
    knows : (said : Answer) → Hears WallClock session.Cii p said (now_at now live) new
        → (Agrees plan.run.companion.local live.relay.agree history
        → Agrees plan.run.companion.local live.relay.agree (heard_entries p said ++ history))
        → Knows plan (with_companion live.relay new.companion) (heard_entries p said ++ history)
    knows said h agrees = steps.learns s.knows (λ own k. (h.known own history its_kind k).1) agrees

    heard : (said : Answer) → Hears WallClock session.Cii p said (now_at now live) new → HearsSo (is_text said)
    heard answer.Quiet h = inl (
      (
        Quiet p ∷ history,
        record {
          runs = subst (λ own. Runs plan start new.shown (stood (record live { own = own }) (Asked live.peers.items))
              (Quiet p ∷ history)) (sym h.live) (quiet h.called);
          knows = knows answer.Quiet h (λ a. a);
        },
      ),
      ap {A = Own} (λ own. own.cii_open) h.live,
    )
    heard answer.Closed h = inr (
      (
        Closed p ∷ history,
        record {
          runs = subst (λ own. Runs plan start new.shown (over own) (Closed p ∷ history)) (sym h.live)
              (closed h.called);
          knows = knows answer.Closed h (λ a. a);
        },
      ),
      ap is_some e,
      ap {A = Own} (λ own. own.cii_open) h.live ∙ none,
    )
    heard (answer.Text text) h = (
      _,
      subst (λ own. Stands plan start new.shown (with_companion live.relay new.companion)
          (published (relayed_state live.relay.wc_url new.companion.state) (facts_in (record live { own = own })))
          (Heard p text ∷ history))
          (sym h.live) (steps.taken_in live p asked text h.called (h.known _ history its_kind s.knows.companion).0 _
          (knows (answer.Text text) h (λ a. a))),
    )

    memory : (ended : Driven) → IsRefusal None ended → ended ≡ driven.Memory
    memory ended r = grind (arith, r)

    refused : (said : Answer) (ended : Driven) → companions.Adds now new.shown (heard_entries p said)
        → new.live ≡ with_answer p said live.own
        → IsRefusal (refusal_by WallClock session.Cii said history) ended
        → Stops plan start new.shown (with_at live new) ended
    refused answer.Quiet ended a same r =
        steps.stops_by_memory (quiet a) (lawful_plain (Quiet p) history (steps.lawful s.knows) refl refl) ended
        (memory ended r)
    refused answer.Closed ended a same r =
        steps.stops_by_memory (closed a) (lawful_plain (Closed p) history (steps.lawful s.knows) refl refl) ended
        (memory ended r)
    refused (answer.Text text) ended a same r =
        steps.refused live p asked {later = with_at live new}
        (ap {A = Own} (λ own. facts_in (record live { own = own })) same) text a ended r

  pub goes_hear : (o : Option ℕ) → live.own.cii_open ≡ o → (result : Result Bool Driven)
      → HearsOnce WallClock None session.Cii o (now_at now live) new result
      → MatchResult result HearsSo (Stops plan start new.shown (with_at live new))
  goes_hear None e (Ok told) x =
      subst HearsSo (sym x.0) (inl (subst IsQuiet (sym x.1) (steps.here (steps.asked_next live s None e), refl)))
  goes_hear None e (Err ended) never = absurd never
  goes_hear (Some p) e (Ok told) (said, h, is) = subst HearsSo (sym is) (heard p e said h)
  goes_hear (Some p) e (Err ended) (inl f) = steps.stops_by_fault s.runs (steps.lawful s.knows) f
  goes_hear (Some p) e (Err ended) (inr (said, a, same, refusal)) =
      refused p e said ended a same (refusal _ history (its_kind p e) s.knows.companion)
