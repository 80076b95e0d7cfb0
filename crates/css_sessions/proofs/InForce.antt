-- The windows that the sessions keep are those in force by the accepted calls.
use Rattle.std.proofs.Common.{◌≡◌, ℕ, ◌+◌, ◌<◌, Bool, true, false, not, cond, eqb, ltb, List, [], ◌∷◌, Option, Some}
use Rattle.std.proofs.Common.{None, refl, sym, ap, ap₂, ◌∙◌, arith}
use Rattle.std.specs.Prelude.{⊤, map, filter, option_map}
use Rattle.std.specs.List.{filter_map, cons_option}
use Rattle.std.proofs.lemmas.Bool.Decides.{nat_tests}
use Rattle.css_player.specs.Player.{Player}
use Rattle.css_cii.specs.declared.state.State.{State}
use Rattle.css_tsmsg.specs.declared.setup.Setup.{Setup}
use Rattle.css_tsmsg.specs.declared.bound.Presentation.{Presentation}
use Rattle.css_window.specs.Demand.{Demand}
use Rattle.css_num.specs.declared.protocol.Kind.{Kind}
use Rattle.css_num.specs.declared.protocol.Kind.TheVariants as kind
use Rattle.css_sessions.specs.declared.session.Session.{Session}
use Rattle.css_sessions.specs.declared.session.Talk.{Talk}
use Rattle.css_sessions.specs.declared.session.Talk.TheVariants as talk
use Rattle.css_sessions.specs.Offsets.{control_for}
use Rattle.css_sessions.specs.Kept.{Kept, Event, Opened, SetUp, Published, Closed, Presented, Dropped, Rising, talk_of}
use Rattle.css_sessions.specs.Kept.{begun, with_session, with_talk, renewed, windowed, windowed_at, by_presentation}
use Rattle.css_sessions.specs.Kept.{no_window, window_in, windows_in}
use Rattle.css_sessions.specs.Told.{Life, CiiLife, Unset, TsLife, Lived, born, set_life, grown_life, living, ended}
use Rattle.css_sessions.specs.Told.{when, life_of, state_of, presented_in, window_of, with_peer, peers_of, windows_of}
use Rattle.css_sessions.specs.Told.{sessions_of, IsLawful, StandsFor}
use Rattle.css_sessions.proofs.Telling.{kept, kept_of, is_kept}

-- ---- the peers of the open sessions
abbrev pub peers : List Session → List ℕ
peers ss = map (λ s. s.peer) ss

peers-with_session : (new : Session) (ss : List Session) → peers (with_session new ss) ≡ with_peer new.peer (peers ss)
peers-with_session new [] = refl
peers-with_session new (s ∷ ss) = go (ltb s.peer new.peer) (peers-with_session new ss) where
  go : (b : Bool) → peers (with_session new ss) ≡ with_peer new.peer (peers ss)
      → peers (cond b (s ∷ with_session new ss) (new ∷ s ∷ ss)) ≡ cond b (s.peer ∷ with_peer new.peer (peers ss))
      (new.peer ∷ s.peer ∷ peers ss)
  go true ih = ap (λ ps. s.peer ∷ ps) ih
  go false ih = refl

peers-with_talk : (p : ℕ) (t : Talk) (ss : List Session) → peers (with_talk p t ss) ≡ peers ss
peers-with_talk p t [] = refl
peers-with_talk p t (s ∷ ss) = go (eqb s.peer p) (peers-with_talk p t ss) where
  go : (b : Bool) → peers (with_talk p t ss) ≡ peers ss
      → peers (cond b (record { peer = s.peer; talk = t } ∷ ss) (s ∷ with_talk p t ss)) ≡ s.peer ∷ peers ss
  go true ih = refl
  go false ih = ap (λ ps. s.peer ∷ ps) ih

peers-mapped : (k : Talk → Talk) (ss : List Session)
    → peers (map (λ s. record { peer = s.peer; talk = k s.talk }) ss) ≡ peers ss
peers-mapped k [] = refl
peers-mapped k (s ∷ ss) = ap (λ ps. s.peer ∷ ps) (peers-mapped k ss)

peers-renewed : (player : Player) (ss : List Session) → peers (map (renewed player) ss) ≡ peers ss
peers-renewed player [] = refl
peers-renewed player (s ∷ ss) = ap (λ ps. s.peer ∷ ps) (peers-renewed player ss)

peers-windowed : (f : Setup → Option Demand → Option Demand) (ss : List Session)
    → peers (map (windowed f) ss) ≡ peers ss
peers-windowed f [] = refl
peers-windowed f (s ∷ ss) = ap (λ ps. s.peer ∷ ps) (peers-windowed f ss)

peers-windowed_at : (p : ℕ) (f : Setup → Option Demand → Option Demand) (ss : List Session)
    → peers (map (windowed_at p f) ss) ≡ peers ss
peers-windowed_at p f [] = refl
peers-windowed_at p f (s ∷ ss) = go (eqb s.peer p) (peers-windowed_at p f ss) where
  go : (b : Bool) → peers (map (windowed_at p f) ss) ≡ peers ss
      → peers (cond b (windowed f s) s ∷ map (windowed_at p f) ss) ≡ s.peer ∷ peers ss
  go true ih = ap (λ ps. s.peer ∷ ps) ih
  go false ih = ap (λ ps. s.peer ∷ ps) ih

peers-without : (p : ℕ) (ss : List Session)
    → peers (filter (λ s. not (eqb s.peer p)) ss) ≡ filter (λ q. not (eqb q p)) (peers ss)
peers-without p [] = refl
peers-without p (s ∷ ss) = go (eqb s.peer p) (peers-without p ss) where
  go : (b : Bool) → peers (filter (λ s. not (eqb s.peer p)) ss) ≡ filter (λ q. not (eqb q p)) (peers ss)
      → peers (cond (not b) (s ∷ filter (λ s. not (eqb s.peer p)) ss) (filter (λ s. not (eqb s.peer p)) ss))
      ≡ cond (not b) (s.peer ∷ filter (λ q. not (eqb q p)) (peers ss)) (filter (λ q. not (eqb q p)) (peers ss))
  go true ih = ih
  go false ih = ap (λ ps. s.peer ∷ ps) ih

pub peers_are : (h : List Event) → peers (sessions_of h).list ≡ peers_of h
peers_are [] = refl
peers_are (Opened p k ∷ h) =
    peers-with_session (record { peer = p; talk = begun k }) (sessions_of h).list ∙ ap (with_peer p) (peers_are h)
peers_are (SetUp p u player ∷ h) =
    peers-with_talk p (talk.Ts u (control_for u player) None) (sessions_of h).list ∙ peers_are h
peers_are (Published s player ∷ h) = peers-renewed player (sessions_of h).list ∙ peers_are h
peers_are (Presented p q player ∷ h) = peers-windowed_at p (by_presentation q player) (sessions_of h).list ∙ peers_are h
peers_are (Dropped ∷ h) = peers-windowed no_window (sessions_of h).list ∙ peers_are h
peers_are (Closed p ∷ h) = peers-without p (sessions_of h).list ∙ ap (filter (λ q. not (eqb q p))) (peers_are h)

-- ---- only a session with a setup has a window
abbrev pub LifeHas : Life → Option Demand → Type 0
LifeHas (CiiLife s ss) w = w ≡ None
LifeHas Unset w = w ≡ None
LifeHas (TsLife u p ps) w = ⊤

abbrev pub Has : Option Lived → Option Demand → Type 0
Has None w = w ≡ None
Has (Some l) w = LifeHas l.life w

has_none : (o : Option Lived) → Has o None
has_none None = refl
has_none (Some l) = go l.life where
  go : (life : Life) → LifeHas life None
  go (CiiLife s ss) = refl
  go Unset = refl
  go (TsLife u p ps) = tt

born_has : (b : Bool) (k : Kind) (s : State) (w : Option Demand) (o : Option Lived) → Has o w → (b ≡ true → o ≡ None)
    → Has (when b (λ _. Some (born k s)) o) w
born_has false k s w o h fresh = h
born_has true k s w None h fresh = go k where
  go : (k : Kind) → Has (Some (born k s)) w
  go kind.Cii = h
  go kind.Ts = h
born_has true k s w (Some l) h fresh = absurd (let no : Some l ≡ None = fresh refl in cc)

grown_has : (s : State) (p : Player) (w : Option Demand) (o : Option Lived) → Has o w
    → Has (option_map (living (grown_life s p)) o) w
grown_has s p w None h = h
grown_has s p w (Some l) h = go l.life l.over h where
  go : (life : Life) (over : Bool) → LifeHas life w
      → Has (Some (living (grown_life s p) (record { life = life; over = over }))) w
  go life true h = h
  go (CiiLife t ss) false h = h
  go Unset false h = h
  go (TsLife u q ps) false h = tt

set_has : (b : Bool) (u : Setup) (p : Player) (w : Option Demand) (o : Option Lived) → Has o w
    → Has (when b (option_map (living (set_life u p))) o) (when b (λ _. None) w)
set_has false u p w o h = h
set_has true u p w o h = has_none (option_map (living (set_life u p)) o)

presented_has : (b : Bool) (q : Presentation) (p : Player) (w : Option Demand) (o : Option Lived) → Has o w
    → Has o (when b (presented_in q p o) w)
presented_has false q p w o h = h
presented_has true q p w None h = h
presented_has true q p w (Some l) h = go l.life l.over h where
  go : (life : Life) (over : Bool) → LifeHas life w
      → Has (Some (record { life = life; over = over })) (presented_in q p
      (Some (record { life = life; over = over })) w)
  go (CiiLife t ss) over h = h
  go Unset over h = h
  go (TsLife u v ps) over h = tt

ended_has : (b : Bool) (w : Option Demand) (o : Option Lived) → Has o w → Has (when b (option_map ended) o) w
ended_has false w o h = h
ended_has true w None h = h
ended_has true w (Some l) h = h

number_same : (p q : ℕ) → eqb p q ≡ true → p ≡ q
number_same p q h = grind (arith, nat_tests)

has_window : (h : List Event) (peer : ℕ) → IsLawful h → Has (life_of peer h) (window_of peer h)
has_window [] peer lawful = refl
has_window (Opened p k ∷ h) peer lawful =
    born_has (eqb p peer) k (state_of h) (window_of peer h) (life_of peer h) (has_window h peer lawful.0)
    (λ is. ap (λ q. life_of q h) (sym (number_same p peer is)) ∙ lawful.1)
has_window (SetUp p u player ∷ h) peer lawful =
    set_has (eqb p peer) u player (window_of peer h) (life_of peer h) (has_window h peer lawful.0)
has_window (Published s player ∷ h) peer lawful =
    grown_has s player (window_of peer h) (life_of peer h) (has_window h peer lawful.0)
has_window (Presented p q player ∷ h) peer lawful =
    presented_has (eqb p peer) q player (window_of peer h) (life_of peer h) (has_window h peer lawful.0)
has_window (Dropped ∷ h) peer lawful = has_none (life_of peer h)
has_window (Closed p ∷ h) peer lawful =
    ended_has (eqb p peer) (window_of peer h) (life_of peer h) (has_window h peer lawful.0)

-- ---- the windows of the open sessions
-- the talk of each peer has this window
abbrev pub Gives : (ℕ → Option Demand) → ℕ → Option Talk → Type 0
Gives w peer None = ⊤
Gives w peer (Some t) = window_in t ≡ w peer

kept_gives : (w : ℕ → Option Demand) (peer : ℕ) (o : Option Lived) → Has o (w peer) → Gives w peer (kept (w peer) o)
kept_gives w peer None h = tt
kept_gives w peer (Some l) h = go l.life l.over h where
  go : (life : Life) (over : Bool) → LifeHas life (w peer)
      → Gives w peer (cond over None (Some (kept_of (w peer) life)))
  go life true h = tt
  go (CiiLife s ss) false h = sym h
  go Unset false h = sym h
  go (TsLife u p ps) false h = refl

lower_absent : (peer n : ℕ) (ss : List Session) → peer < n → Rising n ss → talk_of peer ss ≡ None
lower_absent peer n [] low h = refl
lower_absent peer n (s ∷ ss) low h =
    let other : eqb s.peer peer ≡ false = grind (arith, nat_tests, h.0) in
    rw other (lower_absent peer (s.peer + 1) ss (omega (arith, h.0)) h.1)

same_number : (n : ℕ) → eqb n n ≡ true
same_number n = grind (arith, nat_tests)

later_gives : (w : ℕ → Option Demand) (n : ℕ) (s : Session) (ss : List Session) → Rising n (s ∷ ss)
    → ((peer : ℕ) → Gives w peer (talk_of peer (s ∷ ss))) → (peer : ℕ) → Gives w peer (talk_of peer ss)
later_gives w n s ss h gives peer = go (eqb s.peer peer) refl (gives peer) where
  go : (b : Bool) → eqb s.peer peer ≡ b → Gives w peer (cond b (Some s.talk) (talk_of peer ss))
      → Gives w peer (talk_of peer ss)
  go true is given = rw (lower_absent peer (s.peer + 1) ss (grind (arith, nat_tests)) h.1) tt
  go false is given = given

pub windows_by_peer : (w : ℕ → Option Demand) (n : ℕ) (ss : List Session) → Rising n ss
    → ((peer : ℕ) → Gives w peer (talk_of peer ss)) → windows_in ss ≡ filter_map w (peers ss)
windows_by_peer w n [] h gives = refl
windows_by_peer w n (s ∷ ss) h gives =
    let here : window_in s.talk ≡ w s.peer = first (eqb s.peer s.peer) (same_number s.peer) (gives s.peer) in
    ap₂ (λ (o : Option Demand) (ws : List Demand). cons_option o ws) here
    (windows_by_peer w (s.peer + 1) ss h.1 (later_gives w n s ss h gives))
  where
    first : (b : Bool) → b ≡ true → Gives w s.peer (cond b (Some s.talk) (talk_of s.peer ss))
        → window_in s.talk ≡ w s.peer
    first true is given = given
    first false is given = absurd (cc)

pub windows_are : (h : List Event) → IsLawful h → windows_in (sessions_of h).list ≡ windows_of h
windows_are h lawful =
    let before = is_kept h lawful in
    let w : ℕ → Option Demand = λ peer. window_of peer h in
    windows_by_peer w 0 (sessions_of h).list before.rising (λ peer. gives_at peer before.talks) ∙ ap (filter_map w)
    (peers_are h)
  where
    gives_at : (peer : ℕ) → ((p : ℕ) → talk_of p (sessions_of h).list ≡ kept (window_of p h) (life_of p h))
        → Gives (λ p. window_of p h) peer (talk_of peer (sessions_of h).list)
    gives_at peer talks =
        rw (talks peer) (kept_gives (λ p. window_of p h) peer (life_of peer h) (has_window h peer lawful))

pub windows_stand : (ss : Kept) (h : List Event) → StandsFor ss h → windows_in ss.list ≡ windows_of h
windows_stand ss h stands = ap (λ (k : Kept). windows_in k.list) stands.same ∙ windows_are h stands.lawful
