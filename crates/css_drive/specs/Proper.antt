-- Which histories an end may have: each call is the one that is due after the calls before it.
use Rattle.std.specs.Prelude.{◌≡◌, ◌⊎◌, ℕ, List, [], ◌∷◌, ◌++◌, Option}
use Rattle.css_model.specs.declared.Why.{Why}
use Rattle.css_model.specs.declared.Kind.{Kind}
use Rattle.css_model.specs.declared.Failure.{Failure}
use Rattle.css_model.specs.History.{Address, Listening, Dialling, Dialled, NotDialled, Sent, HungUp, History}
use Rattle.css_outside.specs.Outsides.{clock_entries, opening_entries, datagram_entries, heard_entries, wrote_entries}
use Rattle.css_outside.specs.declared.calls.Clocked.{Clocked}
use Rattle.css_outside.specs.declared.calls.Heard.{Heard as SessionHeard}
use Rattle.css_outside.specs.declared.calls.Wrote.{Wrote as Outcome}
use Rattle.css_drive.specs.declared.driven.Driven.{Driven}

-- what comes next: a call of the outside, or the end
pub data Due : Type 0 where
  Listen : (host : List ℕ) → (port : ℕ) → Due
  Now : (why : Why) → Due
  Dial : (kind : Kind) → (to : Address) → Due
  Accept : Due
  SendDatagram : (peer : ℕ) → (bytes : List ℕ) → Due
  TakeDatagram : Due
  TakeText : (peer : ℕ) → Due
  SendText : (peer : ℕ) → (bytes : List ℕ) → Due
  HangUp : (peer : ℕ) → Due
  Ends : (driven : Driven) → Due

-- The entries that a call may add which is due, the newest first. A call that fails adds none, but for a dial.
abbrev pub MayAdd : Due → History → Type 0
MayAdd (Listen host port) call = call ≡ Listening host port ∷ []
MayAdd (Now why) call = (clocked : Clocked) × (call ≡ clock_entries why clocked)
MayAdd (Dial kind to) call =
    ((peer : ℕ) × (call ≡ Dialled kind peer ∷ Dialling kind to ∷ []))
    ⊎ ((failure : Failure) × (call ≡ NotDialled kind failure ∷ Dialling kind to ∷ []))
MayAdd Accept call = (came : Option (ℕ × Kind)) × (call ≡ opening_entries came)
MayAdd (SendDatagram peer bytes) call = call ≡ Sent peer bytes ∷ []
MayAdd TakeDatagram call = (room : List ℕ) × (came : Option (ℕ × ℕ)) × (call ≡ datagram_entries room came)
MayAdd (TakeText peer) call = (heard : SessionHeard) × (call ≡ heard_entries peer heard)
MayAdd (SendText peer bytes) call = (outcome : Outcome) × (call ≡ wrote_entries peer bytes outcome)
MayAdd (HangUp peer) call = call ≡ HungUp peer ∷ []
MayAdd (Ends driven) call = ⊥

-- Each call is the one that is due after the entries before it, where `due` says what that is.
pub data IsProper (due : History → Due) : History → Type 0 where
  Empty : IsProper due []
  More : {older : History} → (call : History) → MayAdd (due older) call → IsProper due older
      → IsProper due (call ++ older)
