-- How the variables of a relay's run stand for its history.
use Rattle.std.specs.Prelude.{◌≡◌, ◌≤◌, ◌<◌, ◌+◌, ℕ, List, [], ◌∷◌, ◌++◌, None, ◌⊎◌, Result, Ok, Err, Option}
use Rattle.std.specs.Prelude.{MatchResult, OnOk, IfErr, ⊤, Bool, true, false, Some, if◌then◌else◌}
use Rattle.css_model.specs.declared.Kind.TheVariants as kind
use Rattle.css_model.specs.declared.Why.{Why}
use Rattle.css_model.specs.History.{History, Address, Dialled, Accepted, Took}
use Rattle.css_cii.specs.declared.name.CiiName.TheVariants.{WcUrl}
use Rattle.css_outside.specs.Faults.{HasRisen}
use Rattle.css_outside.specs.Outsides.{Counts, with_entries}
use Rattle.css_outside.specs.declared.calls.Clocked.{Clocked}
use Rattle.css_companion.specs.Standing.{Companion}
use Rattle.css_companion.specs.declared.binding.Binding.TheVariants.{WallClock}
use Rattle.css_drive.specs.declared.companion_live.Live.{Live as Own}
use Rattle.css_relay.specs.Agreeing.{Agrees}
use Rattle.css_relay.specs.Lending.{with_companion}
use Rattle.css_relay.specs.Relays.{Relay, wc_url_of}
use Rattle.css_drive.specs.CompanionDue.{place}
use Rattle.css_drive.specs.CompanionStanding as companions
use Rattle.css_drive.specs.CompanionStanding.{Shown, shown, IsEarly, IsFault}
use Rattle.css_drive.specs.CompanionTurns.{is_asking}
use Rattle.css_drive.specs.Stages.{At, DialsOnce, DialsTold, AsksOnce}
use Rattle.css_drive.specs.Ends.{CountsNetFault}
use Rattle.css_drive.specs.Proper.{Due}
use Rattle.css_drive.specs.TvRan.{AreNumbered}
use Rattle.css_drive.specs.declared.driven.Driven.{Driven}
use Rattle.css_drive.specs.declared.driven.Driven.TheVariants as driven
use Rattle.css_drive.specs.declared.parting.Parting.{Parting}
use Rattle.css_drive_relay.specs.Places.{Place, Asked, Served, Taken, Facts, Progress, progress_of, telling}
use Rattle.css_drive_relay.specs.Ran.{IsRelayEnd, IsVisit}
use Rattle.css_drive_relay.specs.Due.{due_at, IsProperRelay}
use Rattle.css_drive_relay.specs.declared.plan.Plan.{Plan}
use Rattle.css_drive_relay.specs.declared.live.Live.{Live}
use Rattle.css_drive_relay.specs.declared.sessions.Visit.{Visit}
use Rattle.css_drive_relay.specs.declared.sessions.Visit.TheVariants as visit

-- ---- what the variables say of the history
abbrev pub facts_in : Live → Facts
facts_in live = record {
  turns = live.own.made;
  first = live.own.first;
  turn = live.own.turn;
  asked = live.own.asked;
  cii = live.own.cii;
  wc = live.own.wc;
  television = live.own.cii_open;
  state = live.state;
  peers = live.peers.items;
  parting = live.parting;
}

-- the relay is the configuration's, its companion stands for the history, and so does the agreement of its answers
pub record Knows (plan : Plan) (relay : Relay) (history : History) : Type 0 where
  pub companion : companions.KnowsUnder WallClock plan.run.companion relay.companion history
  pub wc_url : relay.wc_url ≡ wc_url_of plan.run.host plan.run.port
  pub agrees : Agrees plan.run.companion.local relay.agree history

-- Each peer that was dialled or accepted has a number below this one, and a greater one than those before it.
abbrev pub AreInOrder : ℕ → History → Type 0
AreInOrder n [] = ⊤
AreInOrder n (Dialled kind peer ∷ older) = (peer < n) × AreInOrder peer older
AreInOrder n (Accepted peer kind ∷ older) = (peer < n) × AreInOrder peer older
AreInOrder n (_ ∷ older) = AreInOrder n older

-- the facts that the variables say, at a place
abbrev pub stood : Live → Place → Progress
stood live place = record { facts = facts_in live; place = place }

-- The run has this history since `start`, it is proper, and it has come so far. Its sessions came in order of peer. No
-- call other than a dial has failed.
pub record Runs (plan : Plan) (start now : Shown) (p : Progress) (history : History) : Type 0 where
  pub told : now.told ≡ with_entries history start.told
  pub faults : now.counts.faults ≡ start.counts.faults
  pub proper : IsProperRelay plan history
  pub progress : progress_of plan history ≡ p
  pub ordered : AreInOrder (now.counts.peers + 1) history
  pub numbered : AreNumbered history

-- and the relay knows of it
pub record Stands (plan : Plan) (start now : Shown) (relay : Relay) (p : Progress) (history : History)
    : Type 0 where
  pub runs : Runs plan start now p history
  pub knows : Knows plan relay history

-- these accepted sessions are still to be visited so
abbrev pub visiting : Visit → List ℕ → Facts → Place
visiting (visit.Tell text) left f = telling text left f
visiting visit.Hear left f = Asked left

-- an end of a visit's run
abbrev pub IsStop : Driven → Type 0
IsStop (driven.BadCii text reason) = ⊤
IsStop (driven.Moved property old new) = ⊤
IsStop (driven.BadUrl WcUrl) = ⊤
IsStop ended = IsRelayEnd ended

-- The visit's run ended as it may. Unless a fault ended it, the variables are those of its calls.
pub record Stops (plan : Plan) (start now : Shown) (live : Live) (ended : Driven) : Type 0 where
  pub history : History
  pub told : now.told ≡ with_entries history start.told
  pub visited : (hung : History) → IsVisit plan (record { history = history; hung = hung; ended = ended })
  pub counted : CountsNetFault start.counts.faults now.counts.faults ended
  pub kind : IsStop ended
  pub known : IsFault ended ⊎ (facts_in live ≡ (progress_of plan history).facts)

-- ---- parts of the loop
-- the facts at the place that they say
abbrev pub placed : (Facts → Place) → Facts → Progress
placed place f = record { facts = f; place = place f }

-- the run has come to a place
abbrev pub IsAt : (Facts → Place) → Plan → Shown → Shown → Live → Type 0
IsAt place plan start now live =
    (history : History) × Stands plan start now live.relay (placed place (facts_in live)) history

-- to where `to` says what is due
abbrev pub Comes : (Facts → History → Due) → Plan → Shown → Shown → Live → Type 0
Comes to plan start now live =
    (history : History) × (place : Place) × Stands plan start now live.relay (stood live place) history
    × (due_at plan (facts_in live) history place ≡ to (facts_in live) history)

-- A part leads from this progress to where `to` says, by what it answers, or the run ends.
abbrev pub LeadsBy : {O T : Type 0} → (O → Option History) → (O → Counts) → Plan → O → O → Live → Live
    → (Facts → Progress) → (T → Plan → Shown → Shown → Live → Type 0) → Result T Driven → Type 0
LeadsBy told counts plan old new was is from to result = (start : Shown) (history : History)
    → Stands plan start (shown (told old) (counts old)) was.relay (from (facts_in was)) history
    → MatchResult result (λ value. to value plan start (shown (told new) (counts new)) is)
    (Stops plan start (shown (told new) (counts new)) is)

-- whatever it answers
abbrev pub Leads : {O T : Type 0} → (O → Option History) → (O → Counts) → Plan → O → O → Live → Live
    → (Facts → Progress) → (Plan → Shown → Shown → Live → Type 0) → Result T Driven → Type 0
Leads told counts plan old new was is from to result =
    LeadsBy told counts plan old new was is from (λ _. to) result

-- The same from where `from` says what is due.
abbrev pub Goes : {O T : Type 0} → (O → Option History) → (O → Counts) → Plan → O → O → Live → Live
    → (Facts → History → Due) → (T → Plan → Shown → Shown → Live → Type 0) → Result T Driven → Type 0
Goes told counts plan old new was is from to result = (start : Shown) (history : History) (at : Place)
    → Stands plan start (shown (told old) (counts old)) was.relay (stood was at) history
    → due_at plan (facts_in was) history at ≡ from (facts_in was) history
    → MatchResult result (λ value. to value plan start (shown (told new) (counts new)) is)
    (Stops plan start (shown (told new) (counts new)) is)

-- A turn goes on at this place, or the visit is over and the turn with it.
abbrev pub goes_on_at : (Facts → Place) → Bool → Facts → Place
goes_on_at place true f = place f
goes_on_at place false f = Asked []

-- The same of a datagram that was just taken and is no request.
abbrev pub Lands : {O : Type 0} → (O → Option History) → (O → Counts) → Plan → O → O → Live → Live → ℕ → List ℕ
    → Result Bool Driven → Type 0
Lands told counts plan old new was is peer bytes result = (start : Shown) (history : History)
    → Stands plan start (shown (told old) (counts old)) was.relay (stood was (Taken peer bytes))
    (Took peer bytes ∷ history)
    → Knows plan was.relay history
    → MatchResult result (λ on. IsAt (goes_on_at (λ f. Served) on) plan start (shown (told new) (counts new)) is)
    (Stops plan start (shown (told new) (counts new)) is)

-- the visit is cut short for a reason
abbrev pub cut_if : Bool → Parting → Live → Live
cut_if is_cut parting live = record live { parting = if is_cut then Some parting else live.parting }

-- What every call leaves as it is, of what the relay keeps as a companion. Failed dials are counted, the companion
-- knows no reading above the last one, and no end comes that is one of turns that are made.
pub record Stays {T : Type 0} (old new : Counts) (before now : Own) (was is : Companion) (result : Result T Driven)
    : Type 0 where
  pub made : now.made ≡ before.made
  pub dialled : now.cii ≡ None → before.cii ≡ None
  pub dials : old.dial_faults ≤ new.dial_faults
  pub floor : was.client.floor ≤ old.last → OnOk result (is.client.floor ≤ new.last)
  pub early : IfErr result IsEarly

-- so does every stage of a turn
abbrev pub Keeps : {T : Type 0} → Counts → Counts → Live → Live → Result T Driven → Type 0
Keeps old new before now result =
    Stays old new before.own now.own before.relay.companion now.relay.companion result

-- The session of CSS-CII is dialled, then the wall clock, and then it is asked: all three went well, or the first that
-- didn't ended the run.
abbrev pub DialsAndAsks : Address → ℕ → At → At → Result (Unit {0}) Driven → Type 0
DialsAndAsks to every old new result =
    let Cii : At → At → Result (Unit {0}) Driven → Type 0 = λ a b. DialsOnce None kind.Cii a.live.cii to a b in
    let Wc : At → At → Result (Unit {0}) Driven → Type 0 = λ a b.
    DialsTold None kind.Wc WcUrl a.live.wc (place kind.Wc a.companion.state.wc_url) a b in
    let Asks : At → At → Result (Unit {0}) Driven → Type 0 = λ a b.
    AsksOnce None a.live.wc (is_asking every a.live.turn a.live.asked) a b in
    MatchResult result (λ _. (a : At) × (b : At) × Cii old a (Ok tt) × Wc a b (Ok tt) × Asks b new (Ok tt))
    (λ ended. Cii old new (Err ended) ⊎ ((a : At) × Cii old a (Ok tt) × Wc a new (Err ended))
    ⊎ ((a : At) × (b : At) × Cii old a (Ok tt) × Wc a b (Ok tt) × Asks b new (Err ended)))

-- The clock was read as a companion reads it, and nothing else changed.
pub record HasRead (old new : Shown) (before now : Live) (why : Why) (clocked : Clocked) : Type 0 where
  pub read : companions.HasRead old new before.own now.own before.relay.companion now.relay.companion why clocked
  pub rest : now ≡ record before { own = now.own; relay = with_companion before.relay now.relay.companion }

-- ---- dials
-- Where no dial of CSS-CII succeeded by now, one failed since.
abbrev pub HasDialled : Counts → Counts → Own → Type 0
HasDialled before now own = own.cii ≡ None → HasRisen before.dial_faults now.dial_faults

-- So it is of all turns, if one was made.
abbrev pub HasTried : Plan → Counts → Counts → Own → Type 0
HasTried plan before now own = 1 ≤ own.made → plan.begun.reached ≡ false → HasDialled before now own

-- it holds, unless a fault ended the run
abbrev pub UnlessFault : {T : Type 0} → Type 0 → Result T Driven → Type 0
UnlessFault holds result = MatchResult result (λ _. holds) (λ ended. IsFault ended ⊎ holds)

-- ---- hang-ups
-- Of these hang-ups, the newest of which stands first, all were made, or those before one that failed.
pub record Hangs (old new : Shown) (wanted : History) (result : Result (Unit {0}) Driven) : Type 0 where
  pub made : History
  pub left : History
  pub parts : wanted ≡ left ++ made
  pub told : new.told ≡ with_entries made old.told
  pub ends : MatchResult result (λ _. (left ≡ []) × (new.counts.faults ≡ old.counts.faults))
      (λ ended. IsFault ended × CountsNetFault old.counts.faults new.counts.faults ended)
