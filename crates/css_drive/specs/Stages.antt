-- What a stage of a companion's turn calls, whatever loop makes it.
use Rattle.std.specs.Prelude.{◌≡◌, ◌⊎◌, ℕ, List, [], ◌∷◌, ◌++◌, Bool, true, false, Option, Some, None, Result, Ok, Err}
use Rattle.std.specs.Prelude.{MatchResult, if◌then◌else◌}
use Rattle.css_model.specs.declared.Kind.{Kind}
use Rattle.css_model.specs.declared.Failure.{Failure}
use Rattle.css_model.specs.declared.Kind.TheVariants as kind
use Rattle.css_model.specs.declared.Why.TheVariants as why
use Rattle.css_model.specs.History.{Address, Clock, Sent, Took, History}
use Rattle.css_model.specs.Wire.{encoded, request_at}
use Rattle.css_address.specs.declared.fault.AddressFault.{AddressFault}
use Rattle.css_cii.specs.declared.name.CiiName.{CiiName}
use Rattle.css_companion.specs.Meanings.{kind_of, is_cii}
use Rattle.css_companion.specs.Standing.{Companion}
use Rattle.css_companion.specs.declared.binding.Binding.{Binding}
use Rattle.css_companion.specs.declared.config.CompanionConfig.{CompanionConfig}
use Rattle.css_companion.specs.declared.fault.CompanionFault.{CompanionFault}
use Rattle.css_outside.specs.Outsides.{Counts, clock_entries, heard_entries}
use Rattle.css_outside.specs.declared.calls.Clocked.{Clocked}
use Rattle.css_outside.specs.declared.calls.Heard.{Heard as Answer}
use Rattle.css_outside.specs.declared.calls.Heard.TheVariants as answer
use Rattle.css_outside.specs.declared.fault.OutFault.{OutFault}
use Rattle.css_drive.specs.CompanionDue.{refusal_under}
use Rattle.css_drive.specs.CompanionStanding.{Shown, shown_of, Fails, Adds, HasDialled, HasRead, IsRefusal}
use Rattle.css_drive.specs.CompanionStanding.{KnowsUnder}
use Rattle.css_drive.specs.CompanionStanding.{kind_for, without, GivesPlace}
use Rattle.css_drive.specs.declared.companion_live.Live.{Live}
use Rattle.css_drive.specs.declared.companion_live.Run.{Run}
use Rattle.css_drive.specs.declared.driven.Driven.{Driven}
use Rattle.css_drive.specs.declared.driven.Driven.TheVariants as driven
use Rattle.css_drive.specs.declared.session.Session.{Session}

-- what a run's outside shows, its variables, and its companion
pub record At : Type 0 where
  pub shown : Shown
  pub live : Live
  pub companion : Companion

abbrev pub at_of : Shown → Live → Companion → At
at_of shown live companion = record { shown = shown; live = live; companion = companion }

abbrev pub at : {O W : Type 0} → (O → Option History) → (O → Counts) → Run O W → At
at told counts run = at_of (shown_of told counts run) run.live.now run.companion.now

-- ---- dials
-- the variables after a dial
abbrev pub with_dial : Kind → Result ℕ Failure → Live → Live
with_dial kind (Err failure) live = live
with_dial kind.Cii (Ok peer) live = record live { cii = Some peer; cii_open = Some peer }
with_dial kind.Wc (Ok peer) live = record live { wc = Some peer }
with_dial kind.Ts (Ok peer) live = record live { ts = Some peer; ts_open = Some peer }

-- a dial was tried
pub record Dials (kind : Kind) (to : Address) (old new : At) : Type 0 where
  pub tried : Result ℕ Failure
  pub called : HasDialled old.shown new.shown kind to tried
  pub live : new.live ≡ with_dial kind tried old.live
  pub same : new.companion ≡ old.companion

-- a dial is tried, where none of this kind succeeded
abbrev pub DialsOnce : {T : Type 0} → Option OutFault → Kind → Option ℕ → Address → At → At → Result T Driven → Type 0
DialsOnce over kind None to old new result =
    MatchResult result (λ _. Dials kind to old new) (Fails old.shown new.shown over)
DialsOnce over kind (Some peer) to old new result = MatchResult result (λ _. new ≡ old) (λ _. ⊥)

-- The same of the address of a property: where it tells none nothing is called, and a bad one ends the run.
abbrev pub DialsTold : {T : Type 0} → Option OutFault → Kind → CiiName → Option ℕ
    → Option (Result Address AddressFault) → At → At → Result T Driven → Type 0
DialsTold over kind property (Some peer) told old new result = MatchResult result (λ _. new ≡ old) (λ _. ⊥)
DialsTold over kind property None (Some (Ok to)) old new result =
    MatchResult result (λ _. Dials kind to old new)
    (λ ended. Fails old.shown new.shown over ended ⊎ ((new.shown ≡ old.shown) × (ended ≡ driven.Memory)))
DialsTold over kind property None told old new result =
    MatchResult result (λ _. (told ≡ None) × (new ≡ old))
    (λ ended. (new ≡ old) × GivesPlace property told (Err ended))

-- ---- requests
-- the clock was read for a request, which is known once it is sent
pub record Reads (peer : ℕ) (old mid : At) (after : Companion) : Type 0 where
  pub clocked : Clocked
  pub read : HasRead old.shown mid.shown old.live mid.live old.companion mid.companion why.Ask clocked
  pub bytes : List ℕ
  pub request : bytes ≡ encoded (request_at clocked.reading)
  pub known : {binding : Binding} (own : CompanionConfig) (history : History)
      → KnowsUnder binding own mid.companion history
      → KnowsUnder binding own after (Sent peer bytes ∷ Clock why.Ask clocked.reading ∷ history)

-- and it was sent
pub record Requests (peer : ℕ) (old new : At) : Type 0 where
  pub mid : At
  pub reads : Reads peer old mid new.companion
  pub sent : Adds mid.shown new.shown (Sent peer reads.bytes ∷ [])
  pub live : new.live ≡ record mid.live { asked = mid.live.turn }

-- it was not
abbrev pub FailsAsking : Option OutFault → ℕ → At → At → Driven → Type 0
FailsAsking over peer old new ended = Fails old.shown new.shown over ended
    ⊎ ((mid : At) × Reads peer old mid new.companion × Fails mid.shown new.shown over ended)

-- a request is sent, where the wall clock was dialled and it is time
abbrev pub AsksOnce : {T : Type 0} → Option OutFault → Option ℕ → Bool → At → At → Result T Driven → Type 0
AsksOnce over (Some peer) true old new result =
    MatchResult result (λ _. Requests peer old new) (FailsAsking over peer old new)
AsksOnce over wc time old new result = MatchResult result (λ _. new ≡ old) (λ _. ⊥)

-- ---- datagrams
-- the clock was read for a datagram of these bytes, and the companion took it in
pub record Lands (bytes : List ℕ) (old new : At) : Type 0 where
  pub clocked : Clocked
  pub awake : Companion
  pub read : HasRead old.shown new.shown old.live new.live old.companion awake why.Land clocked
  pub known : {binding : Binding} (own : CompanionConfig) (peer : ℕ) (history : History)
      → KnowsUnder binding own old.companion history
      → KnowsUnder binding own new.companion (clock_entries why.Land clocked ++ (Took peer bytes ∷ history))

-- it was not
abbrev pub FailsLanding : Option OutFault → At → At → Driven → Type 0
FailsLanding over old new ended = Fails old.shown new.shown over ended
    ⊎ ((clocked : Clocked) × (awake : Companion)
    × HasRead old.shown new.shown old.live new.live old.companion awake why.Land clocked × (ended ≡ driven.Memory))

-- ---- sessions
-- the variables after a session was asked for a text
abbrev pub with_answer : ℕ → Answer → Live → Live
with_answer peer answer.Closed live = without peer live
with_answer peer _ live = live

-- whether it is a text
abbrev pub is_text : Answer → Bool
is_text (answer.Text text) = true
is_text _ = false

-- the fault of a text of a session after a history, if it is refused
abbrev pub refusal_by : Binding → Session → Answer → History → Option CompanionFault
refusal_by binding which (answer.Text text) history =
    refusal_under binding (if is_cii (Some (kind_for which)) then Some text else None) history
refusal_by binding which _ history = None

-- the session was asked, and the companion told what came, where these addresses bind it
pub record Hears (binding : Binding) (which : Session) (peer : ℕ) (said : Answer) (old new : At) : Type 0 where
  pub called : Adds old.shown new.shown (heard_entries peer said)
  pub live : new.live ≡ with_answer peer said old.live
  pub known : (own : CompanionConfig) (history : History) → kind_of peer history ≡ Some (kind_for which)
      → KnowsUnder binding own old.companion history
      → (refusal_by binding which said history ≡ None)
      × KnowsUnder binding own new.companion (heard_entries peer said ++ history)

-- it wasn't, or its text is refused
abbrev pub FailsHearing : Binding → Option OutFault → Session → ℕ → At → At → Driven → Type 0
FailsHearing binding over which peer old new ended = Fails old.shown new.shown over ended
    ⊎ ((said : Answer) × Adds old.shown new.shown (heard_entries peer said)
    × (new.live ≡ with_answer peer said old.live)
    × ((own : CompanionConfig) (history : History)
    → kind_of peer history ≡ Some (kind_for which) → KnowsUnder binding own old.companion history
    → IsRefusal (refusal_by binding which said history) ended))

-- a session is asked, where it is open, and whether a text came is told
abbrev pub HearsOnce : Binding → Option OutFault → Session → Option ℕ → At → At → Result Bool Driven → Type 0
HearsOnce binding over which (Some peer) old new result =
    MatchResult result (λ told. (said : Answer) × Hears binding which peer said old new × (told ≡ is_text said))
    (FailsHearing binding over which peer old new)
HearsOnce binding over which None old new result = MatchResult result (λ told. (told ≡ false) × (new ≡ old)) (λ _. ⊥)
