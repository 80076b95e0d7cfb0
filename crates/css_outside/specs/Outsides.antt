-- What each call of an outside adds to its history, and what is counted.
use Rattle.std.specs.Prelude.{◌≡◌, ℕ, ◌<◌, ◌≤◌, List, [], ◌∷◌, ◌++◌, take, Bool, true, false}
use Rattle.std.specs.Prelude.{IsTrue, Option, Some, None, Result, Ok, Err, MatchResult, ⊤}
use Rattle.std.specs.Option.{option_map}
use Rattle.css_model.specs.declared.TheConstants.{LIMIT}
use Rattle.css_model.specs.declared.Why.{Why}
use Rattle.css_model.specs.declared.Kind.{Kind}
use Rattle.css_model.specs.declared.Kind.TheVariants as kind
use Rattle.css_model.specs.History.{Address, History, Slept, Clock, Dialling, Dialled, NotDialled, Accepted}
use Rattle.css_model.specs.History.{NoneCame, Took, TookNone, Quiet, Heard, Closed, Wrote, Gone}
use Rattle.css_outside.specs.Faults.{CountsCall, CountsDialFault}
use Rattle.css_outside.specs.declared.calls.Clocked.{Clocked}
use Rattle.css_outside.specs.declared.calls.Heard.{Heard as SessionHeard}
use Rattle.css_outside.specs.declared.calls.Heard.TheVariants as heard
use Rattle.css_outside.specs.declared.calls.Wrote.{Wrote as Outcome}
use Rattle.css_outside.specs.declared.calls.Wrote.TheVariants as outcome
use Rattle.css_outside.specs.declared.fault.OutFault.{OutFault}
use Rattle.css_outside.specs.declared.fault.OutFault.TheVariants as fault

-- ---- what is told
-- a history, where it is told, with the entries of one more call
abbrev pub with_entries : History → Option History → Option History
with_entries entries told = option_map (λ history. entries ++ history) told

-- a call that is Ok adds its entries, and any other call adds none
abbrev pub Tells : {T : Type 0} → Option History → Option History → Result T OutFault → (T → History) → Type 0
Tells before now result entries =
    MatchResult result (λ answer. now ≡ with_entries (entries answer) before) (λ _. now ≡ before)

-- a dial that fails is told too
abbrev pub TellsDial : Option History → Option History → Kind → Address → Result ℕ OutFault → Type 0
TellsDial before now kind to (Ok peer) = now ≡ with_entries (Dialled kind peer ∷ Dialling kind to ∷ []) before
TellsDial before now kind to (Err (fault.Failed failure)) =
    now ≡ with_entries (NotDialled kind failure ∷ Dialling kind to ∷ []) before
TellsDial before now kind to (Err fault.Memory) = now ≡ before

-- ---- the entries of a call, the newest first
abbrev pub sleep_entries : Bool → History
sleep_entries true = Slept ∷ []
sleep_entries false = []

-- a reading, and before it the sleep that was noticed with it
abbrev pub clock_entries : Why → Clocked → History
clock_entries why clocked = Clock why clocked.reading ∷ sleep_entries clocked.slept

abbrev pub opening_entries : Option (ℕ × Kind) → History
opening_entries None = NoneCame ∷ []
opening_entries (Some (peer, kind)) = Accepted peer kind ∷ []

-- the datagram that stands at the front of these bytes
abbrev pub datagram_entries : List ℕ → Option (ℕ × ℕ) → History
datagram_entries bytes None = TookNone ∷ []
datagram_entries bytes (Some (peer, count)) = Took peer (take count bytes) ∷ []

abbrev pub heard_entries : ℕ → SessionHeard → History
heard_entries peer heard.Quiet = Quiet peer ∷ []
heard_entries peer (heard.Text text) = Heard peer text ∷ []
heard_entries peer heard.Closed = Closed peer ∷ []

abbrev pub wrote_entries : ℕ → List ℕ → Outcome → History
wrote_entries peer bytes outcome.Sent = Wrote peer bytes ∷ []
wrote_entries peer bytes outcome.Gone = Gone peer ∷ []

-- ---- what is counted
-- How often a dial has failed, and how often any other call; the greatest reading so far, and the greatest number of a
-- peer so far, each 0 where there was none.
pub record Counts : Type 0 where
  pub dial_faults : ℕ
  pub faults : ℕ
  pub last : ℕ
  pub peers : ℕ

-- a call other than a dial, which reads no clock and opens no session
pub record CountsPlain {T : Type 0} (before now : Counts) (result : Result T OutFault) : Type 0 where
  pub faults : CountsCall before.faults now.faults result
  pub same : now ≡ record before { faults = now.faults }

-- a reading is below LIMIT and not below any before; one that was told with a sleep is above each before
pub record IsNextReading (last : ℕ) (clocked : Clocked) : Type 0 where
  pub below : clocked.reading < LIMIT
  pub rises : last ≤ clocked.reading
  pub above : IsTrue clocked.slept → last < clocked.reading

-- the clock is read
pub record CountsClock (before now : Counts) (result : Result Clocked OutFault) : Type 0 where
  pub faults : CountsCall before.faults now.faults result
  pub same : now ≡ record before { faults = now.faults; last = now.last }
  pub reading : MatchResult result (λ clocked. IsNextReading before.last clocked × (now.last ≡ clocked.reading))
      (λ _. now.last ≡ before.last)

-- a dial: each peer has a number that no peer had before
pub record CountsDial (before now : Counts) (result : Result ℕ OutFault) : Type 0 where
  pub faults : MatchResult result (λ _. now.dial_faults ≡ before.dial_faults)
      (CountsDialFault before.dial_faults now.dial_faults)
  pub same : now ≡ record before { dial_faults = now.dial_faults; peers = now.peers }
  pub peer : MatchResult result (λ peer. (before.peers < peer) × (now.peers ≡ peer)) (λ _. now.peers ≡ before.peers)

-- sessions are of CSS-CII or of CSS-TS
abbrev pub IsSession : Kind → Type 0
IsSession kind.Wc = ⊥
IsSession kind.Cii = ⊤
IsSession kind.Ts = ⊤

-- the session that came, if one did, is of CSS-CII or CSS-TS, and its peer has a number that no peer had before
abbrev pub OpensNext : ℕ → ℕ → Option (ℕ × Kind) → Type 0
OpensNext before now None = now ≡ before
OpensNext before now (Some (peer, opened)) = (before < peer) × (now ≡ peer) × IsSession opened

pub record CountsOpening (before now : Counts) (result : Result (Option (ℕ × Kind)) OutFault) : Type 0 where
  pub faults : CountsCall before.faults now.faults result
  pub same : now ≡ record before { faults = now.faults; peers = now.peers }
  pub peer : MatchResult result (OpensNext before.peers now.peers) (λ _. now.peers ≡ before.peers)

-- a datagram's bytes fit the room for them
abbrev pub FitsRoom : Option (ℕ × ℕ) → Type 0
FitsRoom None = ⊤
FitsRoom (Some (peer, count)) = count ≤ 64
