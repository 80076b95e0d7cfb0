-- How the variables of a companion's run stand for its history.
use Rattle.std.specs.Prelude.{◌≡◌, ◌≤◌, ◌<◌, ℕ, List, Bool, true, false, [], ◌∷◌, ◌++◌, Option, Some, None, Result, Ok}
use Rattle.std.specs.Prelude.{Err, MatchResult, OnOk, IfErr, IfOk, is_some, nat_lt, ◌&&◌, ◌||◌, if◌then◌else◌}
use Rattle.std.specs.Prelude.{length, not, ⊤, ◌+◌, unwrap_or}
use Rattle.css_model.specs.declared.TheConstants.{LIMIT}
use Rattle.css_model.specs.declared.Why.{Why}
use Rattle.css_model.specs.declared.Kind.{Kind}
use Rattle.css_model.specs.declared.Failure.{Failure}
use Rattle.css_model.specs.declared.Kind.TheVariants as kind
use Rattle.css_model.specs.Explains.{IsLawful}
use Rattle.css_model.specs.History.{Address, Dialling, Dialled, NotDialled, Heard, HungUp, History}
use Rattle.css_outside.specs.Faults.{HasRisen}
use Rattle.css_outside.specs.Outsides.{Counts, with_entries, clock_entries, sleep_entries}
use Rattle.css_outside.specs.declared.calls.Clocked.{Clocked}
use Rattle.css_outside.specs.declared.calls.Wrote.{Wrote as Outcome}
use Rattle.css_outside.specs.declared.calls.Wrote.TheVariants as outcome
use Rattle.css_companion.specs.Meanings.{kind_of, is_cii}
use Rattle.css_companion.specs.Standing.{Companion, StandsUnder, own_of, wanted_by}
use Rattle.css_companion.specs.declared.binding.Binding.{Binding}
use Rattle.css_companion.specs.declared.binding.Binding.TheVariants.{Both}
use Rattle.css_companion.specs.declared.config.CompanionConfig.{CompanionConfig}
use Rattle.css_address.specs.declared.fault.AddressFault.{AddressFault}
use Rattle.css_cii.specs.declared.name.CiiName.{CiiName}
use Rattle.css_companion.specs.declared.fault.CompanionFault.{CompanionFault}
use Rattle.css_outside.specs.declared.fault.OutFault.{OutFault}
use Rattle.css_outside.specs.declared.fault.OutFault.TheVariants as fault
use Rattle.css_drive.specs.CompanionTurns.{first_turn, this_turn, turns, dialled, opened, asked_turn, is_peer, unless}
use Rattle.css_drive.specs.CompanionTurns.{goes_on, is_late}
use Rattle.css_drive.specs.CompanionReports.{due_reports, KeepsPromises}
use Rattle.css_drive.specs.CompanionDue.{due, due_at, from_hang_ups, final, end_by, IsProperRun, Point, point_of}
use Rattle.css_drive.specs.CompanionDue.{text_sent, text_gone, from_cii_text, from_ts_text, from_end}
use Rattle.css_drive.specs.CompanionDue.{refusal_under}
use Rattle.css_drive.specs.Ends.{MayEnd, CountsNetFault}
use Rattle.css_drive.specs.Notes.{Note, noted}
use Rattle.css_drive.specs.Proper.{Due, Now}
use Rattle.css_drive.specs.declared.companion_live.Live.{Live}
use Rattle.css_drive.specs.declared.companion_live.Run.{Run}
use Rattle.css_drive.specs.declared.config.DriveConfig.{DriveConfig}
use Rattle.css_drive.specs.declared.driven.Driven.{Driven}
use Rattle.css_drive.specs.declared.driven.Driven.TheVariants as driven
use Rattle.css_drive.specs.declared.session.Session.{Session}
use Rattle.css_drive.specs.declared.session.Session.TheVariants as session

-- what an outside tells, and what it counts
pub record Shown : Type 0 where
  pub told : Option History
  pub counts : Counts

abbrev pub shown : Option History → Counts → Shown
shown told counts = record { told = told; counts = counts }

-- ---- what the variables say of the history
-- what a run has to know of its history
abbrev pub facts_of : DriveConfig → History → Live
facts_of config history = record {
  first = first_turn history;
  turn = this_turn history;
  asked = asked_turn history;
  made = turns history;
  reported = length (due_reports config history);
  cii = dialled kind.Cii history;
  wc = dialled kind.Wc history;
  ts = dialled kind.Ts history;
  cii_open = opened kind.Cii history;
  ts_open = opened kind.Ts history;
}

-- nothing was called yet
abbrev pub no_calls : Live
no_calls = record {
  first = None;
  turn = None;
  asked = None;
  made = 0;
  reported = 0;
  cii = None;
  wc = None;
  ts = None;
  cii_open = None;
  ts_open = None;
}

-- a turn begins, at this reading
abbrev pub begun_at : ℕ → Live → Live
begun_at reading live =
    record live { first = Some (unwrap_or live.first reading); turn = Some reading; made = live.made + 1 }

-- the peer of the last dial of a kind is known as such, and has a number up to this one
abbrev pub KnowsPeers : ℕ → History → Type 0
KnowsPeers peers history =
    (wanted : Kind) (peer : ℕ) → dialled wanted history ≡ Some peer
    → (peer ≤ peers) × (kind_of peer history ≡ Some wanted)

-- The run has this history since `before`, and it is proper. The variables say what they have to of it, and the
-- observer saw its notes. No call other than a dial has failed.
pub record Stands (config : DriveConfig) (before now : Shown) (saw : List Note → Type 0) (live : Live)
    (history : History) : Type 0 where
  pub told : now.told ≡ with_entries history before.told
  pub faults : now.counts.faults ≡ before.counts.faults
  pub proper : IsProperRun config history
  pub facts : facts_of config history ≡ live
  pub peers : KnowsPeers now.counts.peers history
  pub saw_so : saw (noted config history)

-- the companion is the configuration's, and stands for the history, where these addresses bind it
pub record KnowsUnder (binding : Binding) (own : CompanionConfig) (companion : Companion) (history : History)
    : Type 0 where
  pub stands : StandsUnder binding companion history
  pub setup : companion.setup ≡ wanted_by own
  pub local : own_of companion ≡ own.local

-- the same where both addresses bind
abbrev pub Knows : CompanionConfig → Companion → History → Type 0
Knows own companion history = KnowsUnder Both own companion history

-- The run came to a history of this kind.
pub record Comes (config : DriveConfig) (before now : Shown) (saw : List Note → Type 0) (live : Live)
    (companion : Companion) (at : History → Type 0) : Type 0 where
  pub history : History
  pub known : Knows config.companion companion history
  pub stands : Stands config before now saw live history
  pub next : at history

-- An observer that is over ends no run by a fault of the outside, and one that isn't over by no fault of a write.
abbrev pub IsSo : Option OutFault → Driven → Type 0
IsSo over (driven.NetFault failure) = over ≡ None
IsSo over driven.WriteFault = over ≡ None → ⊥
IsSo over _ = ⊤

-- The run ended.
pub record Stops (config : DriveConfig) (before now : Shown) (saw : List Note → Type 0) (over : Option OutFault)
    (ended : Driven) : Type 0 where
  pub history : History
  pub told : now.told ≡ with_entries history before.told
  pub counted : CountsNetFault before.counts.faults now.counts.faults ended
  pub proper : IsProperRun config history
  pub lawful : IsLawful history
  pub ends : MayEnd (due config history) ended
  pub saw_so : saw (noted config history)
  pub so : IsSo over ended

-- The run came there, or ended.
abbrev pub Goes : {T : Type 0} → DriveConfig → Shown → Shown → (List Note → Type 0) → Option OutFault → Live
    → Companion → (T → History → Type 0) → Result T Driven → Type 0
Goes config before now saw over live companion at result =
    MatchResult result (λ value. Comes config before now saw live companion (at value))
    (Stops config before now saw over)

-- ---- stages
-- what an outside tells and counts in a run
abbrev pub shown_of : {O W : Type 0} → (O → Option History) → (O → Counts) → Run O W → Shown
shown_of told counts run = shown (told run.outside.now) (counts run.outside.now)

-- the run comes from a history of this kind to one of that kind, or ends
abbrev pub LeadsFrom : {O W T : Type 0} → (O → Option History) → (O → Counts) → (W → W → List Note → Type 0)
    → (W → Option OutFault) → DriveConfig → Run O W → Run O W → (History → Type 0) → (T → History → Type 0)
    → Result T Driven → Type 0
LeadsFrom {O} {W} told counts saw over config old new when at result =
    (before : Shown) (started : W) (history : History)
    → Stands config before (shown_of told counts old) (saw started old.observer.now) old.live.now history
    → Knows config.companion old.companion.now history → when history
    → Goes config before (shown_of told counts new) (saw started new.observer.now) (over new.observer.now) new.live.now
    new.companion.now at result

-- after a history this is due
abbrev pub IsDue : DriveConfig → (DriveConfig → History → Due) → History → Type 0
IsDue config to history = due config history ≡ to config history

-- the run comes from where `from` says what is due to where `to` does, or ends
abbrev pub Leads : {O W T : Type 0} → (O → Option History) → (O → Counts) → (W → W → List Note → Type 0)
    → (W → Option OutFault) → DriveConfig → Run O W → Run O W → (DriveConfig → History → Due)
    → (DriveConfig → History → Due) → Result T Driven → Type 0
Leads told counts saw over config old new from to result =
    LeadsFrom told counts saw over config old new (IsDue config from) (λ _. IsDue config to) result

-- a reading is due
abbrev pub a_reading : Why → DriveConfig → History → Due
a_reading why config history = Now why

-- the turn is at this point, and what follows there is due
abbrev pub IsAt : DriveConfig → Point → History → Type 0
IsAt config point history = (point_of history ≡ point) × (due config history ≡ due_at config point history)

-- the point after a text was sent, or was gone
abbrev pub spoken : Outcome → Point → Point
spoken outcome.Sent point = text_sent point
spoken outcome.Gone point = text_gone point

-- what is due where a session is to be heard, and what after it
abbrev pub from_text : Session → DriveConfig → History → Due
from_text session.Cii config history = from_cii_text config history
from_text session.Ts config history = from_ts_text config history

abbrev pub after_text : Session → DriveConfig → History → Due
after_text session.Cii config history = from_ts_text config history
after_text session.Ts config history = from_end config history

-- ---- single calls
-- a fault of the outside, or want of memory
abbrev pub IsFault : Driven → Type 0
IsFault (driven.NetFault failure) = ⊤
IsFault driven.Memory = ⊤
IsFault _ = ⊥

-- an end that comes in a turn
abbrev pub IsEarly : Driven → Type 0
IsEarly (driven.Spent turns) = ⊥
IsEarly (driven.Unreachable turns) = ⊥
IsEarly _ = ⊤

-- the end that an observer makes that is over, or a fault of the outside
abbrev pub IsEndBy : Option OutFault → Driven → Type 0
IsEndBy None ended = IsFault ended
IsEndBy (Some (fault.Failed failure)) ended = ended ≡ driven.WriteFault
IsEndBy (Some fault.Memory) ended = ended ≡ driven.Memory

-- the end of a run that would end so, but for an observer that is over
abbrev pub final_end : Option OutFault → Driven → Driven
final_end None ended = ended
final_end (Some (fault.Failed failure)) ended = driven.WriteFault
final_end (Some fault.Memory) ended = driven.Memory

-- a call was not made, or failed, and told nothing
pub record Fails (old new : Shown) (over : Option OutFault) (ended : Driven) : Type 0 where
  pub told : new.told ≡ old.told
  pub counted : CountsNetFault old.counts.faults new.counts.faults ended
  pub dials : new.counts.dial_faults ≡ old.counts.dial_faults
  pub end : IsEndBy over ended
  pub early : IsEarly ended

-- a call went as it is said of one that goes well, or was not made or failed
abbrev pub Calls : {T : Type 0} → Shown → Shown → Option OutFault → (Shown → Shown → T → Type 0) → Result T Driven
    → Type 0
Calls old new over well result = MatchResult result (well old new) (Fails old new over)

-- a call that is no dial and reads no clock went well
pub record Adds (old new : Shown) (entries : History) : Type 0 where
  pub told : new.told ≡ with_entries entries old.told
  pub same : new.counts ≡ old.counts

-- the address of a property, if it is told; or the end by a bad one, or for want of memory
abbrev pub GivesPlace : CiiName → Option (Result Address AddressFault) → Result (Option Address) Driven → Type 0
GivesPlace property told (Ok None) = told ≡ None
GivesPlace property told (Ok (Some to)) = told ≡ Some (Ok to)
GivesPlace property told (Err driven.Memory) = ⊤
GivesPlace property told (Err ended) = (bad : AddressFault) × (ended ≡ driven.BadUrl property) × (told ≡ Some (Err bad))

-- the entries of a dial, which failed or gave a peer
abbrev pub dial_entries : Kind → Address → Result ℕ Failure → History
dial_entries kind to (Err failure) = NotDialled kind failure ∷ Dialling kind to ∷ []
dial_entries kind to (Ok peer) = Dialled kind peer ∷ Dialling kind to ∷ []

-- a dial was tried
pub record HasDialled (old new : Shown) (kind : Kind) (to : Address) (tried : Result ℕ Failure) : Type 0 where
  pub told : new.told ≡ with_entries (dial_entries kind to tried) old.told
  pub faults : new.counts.faults ≡ old.counts.faults
  pub later : old.counts.peers ≤ new.counts.peers
  pub peer : IfOk tried (λ peer. (old.counts.peers < peer) × (peer ≤ new.counts.peers))

-- after a sleep no request was sent any more
abbrev pub asked_after : Bool → Option ℕ → Option ℕ
asked_after true asked = None
asked_after false asked = asked

-- The clock was read, and where the machine slept the companion knows.
pub record HasRead (old new : Shown) (before now : Live) (was is : Companion) (why : Why) (clocked : Clocked)
    : Type 0 where
  pub told : new.told ≡ with_entries (clock_entries why clocked) old.told
  pub faults : new.counts.faults ≡ old.counts.faults
  pub peers : new.counts.peers ≡ old.counts.peers
  pub last : new.counts.last ≡ clocked.reading
  pub below : clocked.reading < LIMIT
  pub floor : is.client.floor ≤ clocked.reading
  pub known : {binding : Binding} (own : CompanionConfig) (history : History) → KnowsUnder binding own was history
      → KnowsUnder binding own is (sleep_entries clocked.slept ++ history)
  pub only : now ≡ record before { asked = asked_after clocked.slept before.asked }

-- what is open of a session once that of a peer is over
abbrev pub still : Option ℕ → ℕ → Option ℕ
still session peer = unless (is_peer session peer) session

abbrev pub without : ℕ → Live → Live
without peer live = record live { cii_open = still live.cii_open peer; ts_open = still live.ts_open peer }

-- the kind of a session
abbrev pub kind_for : Session → Kind
kind_for session.Cii = kind.Cii
kind_for session.Ts = kind.Ts

-- the peer of a session that is open
abbrev pub open_of : Session → Live → Option ℕ
open_of session.Cii live = live.cii_open
open_of session.Ts live = live.ts_open

-- a call ended the run as a text is refused, or for want of memory
abbrev pub IsRefusal : Option CompanionFault → Driven → Type 0
IsRefusal refusal driven.Memory = ⊤
IsRefusal None ended = ⊥
IsRefusal (Some fault) ended = ended ≡ end_by fault

-- the companion took a text of a session in, or it is refused
abbrev pub TakesIn : {T : Type 0} → Binding → CompanionConfig → Session → ℕ → List ℕ → History → Companion
    → Result T Driven → Type 0
TakesIn binding own which peer text history is result =
    let refusal = refusal_under binding (if is_cii (Some (kind_for which)) then Some text else None) history in
    MatchResult result (λ _. (refusal ≡ None) × KnowsUnder binding own is (Heard peer text ∷ history))
    (IsRefusal refusal)

-- the run hangs up the sessions that are open, to end so
pub record Hangs (config : DriveConfig) (before now : Shown) (saw : List Note → Type 0) (live : Live) (end : Driven)
    : Type 0 where
  pub history : History
  pub stands : Stands config before now saw live history
  pub lawful : IsLawful history
  pub first : due config history ≡ from_hang_ups end history
  pub final_so : final config history ≡ end

-- the entries of a hang-up, where the session is open
abbrev pub hung : Option ℕ → History
hung None = []
hung (Some peer) = HungUp peer ∷ []

-- ---- runs
-- An observer's run ended so: it saw all, but where a write failed or memory ran out.
abbrev pub IsEndOf : Option OutFault → Driven → Type 0
IsEndOf None ended = ended ≡ driven.WriteFault → ⊥
IsEndOf (Some (fault.Failed failure)) ended = ended ≡ driven.WriteFault
IsEndOf (Some fault.Memory) ended = ended ≡ driven.Memory

-- A run's calls since `before` are these, and each was due. The run ended where it may, and the observer saw its notes.
pub record Made (config : DriveConfig) (before now : Option History) (saw : List Note → Type 0)
    (over : Option OutFault) (ended : Driven) : Type 0 where
  pub history : History
  pub told : now ≡ with_entries history before
  pub proper : IsProperRun config history
  pub ends : MayEnd (due config history) ended
  pub promised : KeepsPromises config history
  pub saw_so : saw (noted config history)
  pub so : IsEndOf over ended

-- ---- counts
-- a run's parts are the same places
pub record Names {O W : Type 0} (old new : Run O W) : Type 0 where
  pub outside : new.outside.ghost_name ≡ old.outside.ghost_name
  pub observer : new.observer.ghost_name ≡ old.observer.ghost_name
  pub companion : new.companion.ghost_name ≡ old.companion.ghost_name
  pub live : new.live.ghost_name ≡ old.live.ghost_name

-- What every stage of a turn does. Failed dials are counted, and the companion knows no reading above the last one.
pub record Stays {O W T : Type 0} (counts : O → Counts) (old new : Run O W) (result : Result T Driven) : Type 0 where
  pub names : Names old new
  pub made : new.live.now.made ≡ old.live.now.made
  pub dialled : new.live.now.cii ≡ None → old.live.now.cii ≡ None
  pub dials : (counts old.outside.now).dial_faults ≤ (counts new.outside.now).dial_faults
  pub floor : old.companion.now.client.floor ≤ (counts old.outside.now).last
      → OnOk result (new.companion.now.client.floor ≤ (counts new.outside.now).last)
  pub early : IfErr result IsEarly

-- where a turn was begun, and no dial of CSS-CII succeeded, one has failed since; after the last report it is no matter
abbrev pub HasTried : DriveConfig → ℕ → ℕ → Live → Type 0
HasTried config started now live =
    live.reported < config.reports → (live.first ≡ None → ⊥) → live.cii ≡ None → HasRisen started now

-- whether another turn follows
abbrev pub is_another : DriveConfig → Live → Bool
is_another config live =
    nat_lt live.reported config.reports && goes_on config.limit live.first live.turn live.made

-- whether the calls of a turn follow its report
abbrev pub is_calling : DriveConfig → Live → Bool
is_calling config live =
    nat_lt live.reported config.reports && not (is_late config.limit live.first live.turn)

-- how a run ends that makes no turn any more, where so many reports were asked for
abbrev pub ending_of : ℕ → Live → Driven
ending_of reports live =
    if nat_lt live.reported reports
    then (if is_some live.cii || (is_some live.wc || is_some live.ts)
    then driven.Spent live.made
    else driven.Unreachable live.made)
    else driven.Done
