-- A companion that has read its clock for nothing yet has nothing to forget in a sleep.
use Rattle.std.proofs.Common.{◌≡◌, ap, sym, subst, ◌∙◌, refl, List, [], ◌∷◌}
use Rattle.std.specs.Prelude.{ℕ, map, take, Option, None, All, IfSome, ◌<◌}
use Rattle.std.proofs.lemmas.Bool.{false≢true}
use Rattle.std.proofs.lemmas.List.Elements.{All-head}
use Rattle.css_model.specs.declared.Stamp.{Stamp}
use Rattle.css_model.specs.Wire.{stamp_of}
use Rattle.css_model.specs.History.{Slept, History, Each, sleeps, asking_at, requests, LandedAnswer}
use Rattle.css_model.specs.History.{landed_answers, possible_answers}
use Rattle.css_span.specs.Frontiers as frontiers
use Rattle.css_client.specs.Clients.{Client, local_of, first_landed, RemembersOnly}
use Rattle.css_client.specs.Standing as clients
use Rattle.css_companion.specs.Standing as companions
use Rattle.css_audit.specs.Entries.{history_in, last_in}
use Rattle.css_audit.specs.declared.input.RecordLine.{RecordLine}
use Rattle.css_audit.specs.declared.input.RecordLine.TheVariants as lines

-- nothing was asked, nothing landed, and the clock was read for no request
record IsFresh (history : History) : Type 0 where
  pub requests : requests history ≡ []
  pub landed : landed_answers history ≡ []
  pub asking : Each (λ entry older. asking_at entry ≡ None) history

-- ---- lines without a reading
fresh-lines : (older : List RecordLine) → last_in older ≡ None → IsFresh (history_in older)
fresh-lines [] e = record { requests = refl; landed = refl; asking = (refl, (refl, tt)) }
fresh-lines (lines.Slept ∷ older) e =
    let before = fresh-lines older e in
    record { requests = refl; landed = refl; asking = (refl, before.asking) }
fresh-lines (lines.Turn reading ∷ older) e = absurd (cc)
fresh-lines (lines.Ask reading ∷ older) e = absurd (cc)
fresh-lines (lines.Land reading bytes ∷ older) e = absurd (cc)
fresh-lines (lines.Cii bytes ∷ older) e =
    let before = fresh-lines older e in
    record { requests = before.requests; landed = before.landed; asking = (refl, before.asking) }
fresh-lines (lines.Ts bytes ∷ older) e =
    let before = fresh-lines older e in
    record { requests = before.requests; landed = before.landed; asking = (refl, before.asking) }
fresh-lines (lines.ClosedCii ∷ older) e =
    let before = fresh-lines older e in
    record { requests = before.requests; landed = before.landed; asking = (refl, before.asking) }
fresh-lines (lines.ClosedTs ∷ older) e =
    let before = fresh-lines older e in
    record { requests = before.requests; landed = before.landed; asking = (refl, before.asking) }
fresh-lines (lines.Report words ∷ older) e = fresh-lines older e

-- ---- a sleep
-- no request is kept where none was made
none_mapped : (asked : List ℕ) → [] ≡ map stamp_of asked → asked ≡ []
none_mapped [] e = refl
none_mapped (reading ∷ asked) e = absurd (cc)

-- nothing stands in a list of which each element is impossible
none_held : {A : Type 0} (P : A → Type 0) (xs : List A) → ((x : A) → P x → ⊥) → All P xs → xs ≡ []
none_held P [] never all = refl
none_held P (x ∷ xs) never all = absurd (never x (All-head P x xs all))

none_asked : (client : Client) (slept : ℕ) (history : History)
    → Each (λ entry older. asking_at entry ≡ None) history → Each (clients.IsBelow client slept) history
none_asked client slept [] h = tt
none_asked client slept (entry ∷ older) h = (
  subst (λ (asking : Option ℕ). IfSome asking (λ asked.
      (asked < client.after_sleep) × (sleeps older < slept → asked < client.floor))) (sym h.0) tt,
  none_asked client slept older h.1,
)

client-sleeps : (client : Client) (history : History) → IsFresh history → clients.StandsFor client history
    → clients.StandsFor client (Slept ∷ history)
client-sleeps client history fresh stands =
    let none : client.asked ≡ [] =
    none_mapped client.asked (sym (ap (λ (rs : List Stamp). take 64 rs) fresh.requests) ∙ stands.asked) in
    let only : RemembersOnly [] client.promises =
    subst (λ (asked : List ℕ). RemembersOnly asked client.promises) none stands.only in
    let nothing : client.promises ≡ [] =
    none_held _ client.promises (λ promise h. false≢true h) only.of_asked in
    record {
      lawful = record { rises = (tt, stands.lawful.rises); asks = (tt, stands.lawful.asks) };
      asked = ap (λ (asked : List ℕ). map stamp_of asked) (sym none);
      promises = λ follow_up current. ap (first_landed follow_up.originate follow_up.receive) nothing;
      only = stands.only;
      rising = stands.rising;
      estimate = subst (λ (landed : List LandedAnswer).
          frontiers.StandsFor client.estimate (possible_answers (local_of client) landed)) fresh.landed
          stands.estimate;
      below = (tt, none_asked client (sleeps (Slept ∷ history)) history fresh.asking);
    }

-- the companion stands for the sleep too
pub sleeps-fresh : (companion : companions.Companion) (older : List RecordLine) → last_in older ≡ None
    → companions.StandsFor companion (history_in older) → companions.StandsFor companion (Slept ∷ history_in older)
sleeps-fresh companion older e stands = record {
  client = client-sleeps companion.client (history_in older) (fresh-lines older e) stands.client;
  state = stands.state;
  texts = stands.texts;
  control = stands.control;
  closed = stands.closed;
}
