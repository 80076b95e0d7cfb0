-- What an entry of one session tells of it, and of another one.
use Rattle.std.proofs.Common.{◌≡◌, ℕ, ap, refl, Bool, true, false, cond, not, ◌==◌, List, ◌∷◌, arith, ◌||◌, ◌&&◌, Some}
use Rattle.std.proofs.Common.{None, is_some, eq-eqb}
use Rattle.css_model.specs.declared.Kind.{Kind as Dialling}
use Rattle.css_model.specs.History.{Closed}
use Rattle.css_tv.specs.declared.event.TvEvent.TheVariants as event
use Rattle.css_companion.specs.Meanings.{kind_of}
use Rattle.css_meaning.specs.Sessions.{is_open, was_opened, heard_from, written_to, received_from}
use Rattle.css_meaning.proofs.Names.{cons_option, option_or, History, Dialled, Heard, Wrote, TvEvent}

-- ---- the session itself
module _ (peer : ℕ) where
  -- its peer is its own
  itself : (peer == peer) ≡ true
  itself = eq-eqb peer peer refl

  -- it is of the kind with which it was dialled
  pub dialled-kind : (d : Dialling) (own : History) → kind_of peer (Dialled d peer ∷ own) ≡ Some d
  dialled-kind d own = ap (λ b. option_or (cond b (Some d) None) (kind_of peer own)) itself

  -- so it was opened
  pub dialled-was : (d : Dialling) (own : History) → was_opened peer (Dialled d peer ∷ own) ≡ true
  dialled-was d own = ap is_some (dialled-kind d own)

  -- and is open
  pub dialled-open : (d : Dialling) (own : History) → is_open peer (Dialled d peer ∷ own) ≡ true
  dialled-open d own = ap (λ b. b || is_open peer own) itself

  -- until it closes
  pub closed-open : (own : History) → is_open peer (Closed peer ∷ own) ≡ false
  closed-open own = ap (λ b. not b && is_open peer own) itself

  -- a text of it is heard
  pub heard-one : (bytes : List ℕ) (own : History)
      → heard_from peer (Heard peer bytes ∷ own) ≡ bytes ∷ heard_from peer own
  heard-one bytes own = ap (λ b. cons_option (cond b (Some bytes) None) (heard_from peer own)) itself

  -- or written
  pub wrote-one : (bytes : List ℕ) (own : History)
      → written_to peer (Wrote peer bytes ∷ own) ≡ bytes ∷ written_to peer own
  wrote-one bytes own = ap (λ b. cons_option (cond b (Some bytes) None) (written_to peer own)) itself

  -- or received
  pub received-one : (bytes : List ℕ) (events : List TvEvent)
      → received_from peer (event.Heard peer bytes ∷ events) ≡ bytes ∷ received_from peer events
  received-one bytes events = ap (λ b. cons_option (cond b (Some bytes) None) (received_from peer events)) itself

-- ---- another one
module _ (peer other : ℕ) (differs : (other == peer) ≡ false) where
  -- it doesn't change its kind
  pub dialled-kind_apart : (d : Dialling) (own : History) → kind_of peer (Dialled d other ∷ own) ≡ kind_of peer own
  dialled-kind_apart d own = ap (λ b. option_or (cond b (Some d) None) (kind_of peer own)) differs

  -- or whether it was opened
  pub dialled-was_apart : (d : Dialling) (own : History) → was_opened peer (Dialled d other ∷ own) ≡ was_opened peer own
  dialled-was_apart d own = ap is_some (dialled-kind_apart d own)

  -- or is open
  pub dialled-open_apart : (d : Dialling) (own : History) → is_open peer (Dialled d other ∷ own) ≡ is_open peer own
  dialled-open_apart d own = ap (λ b. b || is_open peer own) differs

  pub closed-open_apart : (own : History) → is_open peer (Closed other ∷ own) ≡ is_open peer own
  closed-open_apart own = ap (λ b. not b && is_open peer own) differs

  -- or its texts
  pub heard-apart : (bytes : List ℕ) (own : History) → heard_from peer (Heard other bytes ∷ own) ≡ heard_from peer own
  heard-apart bytes own = ap (λ b. cons_option (cond b (Some bytes) None) (heard_from peer own)) differs

  pub wrote-apart : (bytes : List ℕ) (own : History) → written_to peer (Wrote other bytes ∷ own) ≡ written_to peer own
  wrote-apart bytes own = ap (λ b. cons_option (cond b (Some bytes) None) (written_to peer own)) differs

  pub received-apart : (bytes : List ℕ) (events : List TvEvent)
      → received_from peer (event.Heard other bytes ∷ events) ≡ received_from peer events
  received-apart bytes events = ap (λ b. cons_option (cond b (Some bytes) None) (received_from peer events)) differs

-- ---- events
-- whether an event is of this peer's session
abbrev pub concerns : ℕ → TvEvent → Bool
concerns peer (event.Opened p k) = p == peer
concerns peer (event.Heard p bytes) = p == peer
concerns peer (event.Closed p) = p == peer
concerns peer _ = false

-- an event that isn't of a session brings no text of it
pub received_not : (peer : ℕ) (e : TvEvent) (events : List TvEvent) → concerns peer e ≡ false
    → received_from peer (e ∷ events) ≡ received_from peer events
received_not peer e events other = grind (arith, other)
