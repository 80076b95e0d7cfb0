-- What a companion did on its sessions at accepted lines.
use Rattle.std.proofs.Common.{◌≡◌, ◌≤◌, ℕ, ◌⊎◌, inl, inr, refl, sym, ap, ◌∙◌, arith, true, false, not, ◌==◌, List, []}
use Rattle.std.proofs.Common.{◌∷◌, Some, None, is_some}
use Rattle.css_model.specs.declared.Kind.{Kind as Dialling}
use Rattle.css_model.specs.declared.Kind.TheVariants as session
use Rattle.css_model.specs.History.{Closed}
use Rattle.css_num.specs.declared.protocol.Kind.TheVariants as kind
use Rattle.css_sessions.specs.Told.{texts_of_lived}
use Rattle.css_companion.specs.Meanings.{kind_of}
use Rattle.css_meaning.specs.Sessions.{peer_of, is_open, was_opened, written_to, told_to}
use Rattle.css_meaning.specs.Happened.{Numbered, events_of, history_of}
use Rattle.css_meaning.specs.Accepted.{AreAccepted}
use Rattle.css_meaning.proofs.Names.{and_parts, History, Dialled, Kind, TvEvent, Header}
use Rattle.css_meaning.proofs.Peers.{ts_of}
use Rattle.css_meaning.proofs.Staged.{IsKeptBy, each_end, never_opened}

-- ---- open sessions
-- an open session was opened
pub open_was : (peer : ℕ) (own : History) → is_open peer own ≡ true → was_opened peer own ≡ true
open_was peer [] is = absurd (cc)
open_was peer (Dialled kind other ∷ older) is =
    let before = open_was peer older in grind (arith, is, before)
open_was peer (Closed other ∷ older) is =
    open_was peer older (and_parts (not (other == peer)) (is_open peer older) is).1
open_was peer (_ ∷ older) is = open_was peer older is

-- ---- the kind of a session
-- the kind with which a session is dialled
abbrev pub dialled_as : Kind → Dialling
dialled_as kind.Cii = session.Cii
dialled_as kind.Ts = session.Ts

-- a session of companion `who` is dialled with its own kind, if it is dialled
abbrev pub IsOfKind : ℕ → Kind → List TvEvent → History → Type 0
IsOfKind who k events own = (kind_of (peer_of who k) own ≡ None) ⊎ (kind_of (peer_of who k) own ≡ Some (dialled_as k))

-- so each verb keeps the kinds
keeps_kind : (header : Header) (who : ℕ) (k : Kind) → 1 ≤ who → IsKeptBy header who (IsOfKind who k)
keeps_kind header who k first made v events own range can below staged staging before = grind (arith, first, before)

-- an open session of a companion has its own kind
pub open_kind : (header : Header) (lines : List Numbered) (who : ℕ) (k : Kind) → 1 ≤ who → AreAccepted header lines
    → is_open (peer_of who k) (history_of who header lines) ≡ true
    → kind_of (peer_of who k) (history_of who header lines) ≡ Some (dialled_as k)
open_kind header lines who k first accepted is =
    by (each_end header who (IsOfKind who k) first (inl refl) (keeps_kind header who k first)
    (λ e events own other sound staged staging before. before) lines accepted)
  where
    own : History
    own = history_of who header lines

    was : is_some (kind_of (peer_of who k) own) ≡ true
    was = open_was (peer_of who k) own is

    by : IsOfKind who k (events_of header lines) own → kind_of (peer_of who k) own ≡ Some (dialled_as k)
    by (inl none) = absurd (let no : false ≡ true = ap is_some (sym none) ∙ was in cc)
    by (inr some) = some

-- ---- texts
-- nothing is written to a session that was never opened
abbrev pub IsUnwritten : ℕ → Kind → List TvEvent → History → Type 0
IsUnwritten who k events own = was_opened (peer_of who k) own ≡ false → written_to (peer_of who k) own ≡ []

-- so each verb keeps it unwritten
keeps_unwritten : (header : Header) (who : ℕ) (k : Kind) → 1 ≤ who → IsKeptBy header who (IsUnwritten who k)
keeps_unwritten header who k first made v events own range can below staged staging before =
    let was = open_was (ts_of who) own in grind (arith, first, can, was, before)

-- nothing was written to a session that was never opened
pub unwritten : (header : Header) (lines : List Numbered) (who : ℕ) (k : Kind) → 1 ≤ who → AreAccepted header lines
    → was_opened (peer_of who k) (history_of who header lines) ≡ false
    → written_to (peer_of who k) (history_of who header lines) ≡ []
unwritten header lines who k first accepted =
    each_end header who (IsUnwritten who k) first (λ never. refl) (keeps_unwritten header who k first)
    (λ e events own other sound staged staging before. before) lines accepted

-- and the television told it nothing
pub untold : (header : Header) (lines : List Numbered) (who : ℕ) (k : Kind) → 1 ≤ who → AreAccepted header lines
    → was_opened (peer_of who k) (history_of who header lines) ≡ false
    → told_to (peer_of who k) (events_of header lines) ≡ []
untold header lines who k first accepted never =
    ap texts_of_lived (never_opened header lines who k first accepted never)
