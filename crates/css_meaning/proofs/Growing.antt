-- What a session was told only grows.
use Rattle.std.proofs.Common.{◌≡◌, ℕ, refl, ap, sym, subst, ◌∙◌, append_assoc, Bool, true, false, cond, ◌==◌, List, []}
use Rattle.std.proofs.Common.{◌∷◌, ◌++◌, Option, Some, None, IfSome, option_map, Result, Ok, Err, reverse, eqb-true}
use Rattle.std.proofs.Common.{option_to_list}
use Rattle.css_cii.specs.States.{difference, is_empty}
use Rattle.css_sessions.specs.Offsets.{control_for}
use Rattle.css_sessions.specs.Kept.{Event as SessionsCall, Opened, SetUp, Published, Closed, Presented, Dropped}
use Rattle.css_sessions.specs.Kept.{same_control}
use Rattle.css_sessions.specs.ReadBack.{cii_states, ts_controls}
use Rattle.css_sessions.specs.Told.{TsLife, set_life, grown_life, state_of, texts_of, sessions_of, IsAccepted, IsLawful}
use Rattle.css_sessions.specs.Told.{Life, CiiLife, Unset, Lived, born, living, ended, when, latest, life_of, said_to}
use Rattle.css_tv.proofs.More.{texts_all}
use Rattle.css_tv.specs.Outcomes.{Outcome, outcome_at, said_after}
use Rattle.css_meaning.specs.Arrived.{states_of_life, states_of_lived}
use Rattle.css_meaning.specs.Sessions.{addresses}
use Rattle.css_meaning.proofs.Names.{append-nil, Control, Player, State, Setup, Kind, Calls, calls_of, with_outcome}
use Rattle.css_meaning.proofs.Names.{TvEvent, TvFault}
use Rattle.css_meaning.proofs.Staging.{IsStaged, IsSound, stage_by, staged_event}

-- ---- lists
-- the newest stand first, and what was there before stays
pub record Grows {A : Type 0} (old new : List A) : Type 0 where
  pub news : List A
  pub is : new ≡ news ++ old

module _ {A : Type 0} where
  -- nothing new
  pub grows_not : (xs : List A) → Grows xs xs
  grows_not xs = record { news = []; is = refl }

  -- one more
  pub grows_by_one : (x : A) (xs : List A) → Grows xs (x ∷ xs)
  grows_by_one x xs = record { news = x ∷ []; is = refl }

  -- from nothing anything grows
  pub grows_from_none : (xs : List A) → Grows [] xs
  grows_from_none xs = record { news = xs; is = sym (append-nil xs) }

  -- what has grown grows on
  pub grows_on : (xs ys zs : List A) → Grows xs ys → Grows ys zs → Grows xs zs
  grows_on xs ys zs first second = record {
    news = second.news ++ first.news;
    is = second.is ∙ ap (λ l. second.news ++ l) first.is ∙ sym (append_assoc second.news first.news xs);
  }

-- ---- texts
-- the texts of lawful calls grow
texts_grow : (peer : ℕ) (calls h : List SessionsCall) → IsLawful (calls ++ h)
    → Grows (texts_of peer h) (texts_of peer (calls ++ h))
texts_grow peer calls h lawful =
    record { news = reverse (said_to peer (said_after calls (sessions_of h))); is = texts_all calls h lawful peer }

-- ---- states and controls
-- the published controls that a session was told, the newest first
abbrev pub controls_of_life : Life → List Control
controls_of_life (CiiLife s ss) = []
controls_of_life Unset = []
controls_of_life (TsLife u p ps) = ts_controls u p ps

-- of a session that may not be there
abbrev pub controls_of_lived : Option Lived → List Control
controls_of_lived None = []
controls_of_lived (Some lived) = controls_of_life lived.life

-- the states and the controls that a session was told grow
pub record LifeGrows (old new : Option Lived) : Type 0 where
  pub states : Grows (states_of_lived old) (states_of_lived new)
  pub controls : Grows (controls_of_lived old) (controls_of_lived new)

-- a life that stays
life_same : (o : Option Lived) → LifeGrows o o
life_same o = record { states = grows_not (states_of_lived o); controls = grows_not (controls_of_lived o) }

-- one more, unless it is the same
one_grows : {A : Type 0} (b : Bool) (x : A) (xs : List A) → Grows xs (cond b xs (x ∷ xs))
one_grows true x xs = grows_not xs
one_grows false x xs = grows_by_one x xs

-- one that is born
born_grows : (b : Bool) (k : Kind) (s : State) (o : Option Lived) → (b ≡ true → o ≡ None)
    → LifeGrows o (when b (λ _. Some (born k s)) o)
born_grows false k s o fresh = life_same o
born_grows true k s o fresh =
    let new = Some (born k s) in
    subst (λ (old : Option Lived). LifeGrows old new) (sym (fresh refl)) (record {
      states = grows_from_none (states_of_lived new);
      controls = grows_from_none (controls_of_lived new);
    })

-- by a change of a life that isn't over
abbrev GrowsLiving : (Life → Life) → Lived → Type 0
GrowsLiving change lived = LifeGrows (Some lived) (Some (living change lived))

-- one that is set up
set_grows : (b : Bool) (u : Setup) (p : Player) (o : Option Lived)
    → LifeGrows o (when b (option_map (living (set_life u p))) o)
set_grows false u p o = life_same o
set_grows true u p None = life_same None
set_grows true u p (Some l) = go l.life l.over where
  go : (life : Life) (over : Bool) → GrowsLiving (set_life u p) (record { life = life; over = over })
  go life true = life_same (Some (record { life = life; over = true }))
  go (CiiLife s ss) false = life_same (Some (record { life = CiiLife s ss; over = false }))
  go Unset false = record { states = grows_not []; controls = grows_from_none (ts_controls u p []) }
  go (TsLife v q ps) false = life_same (Some (record { life = TsLife v q ps; over = false }))

-- one to which something is published
published_grows : (s : State) (p : Player) (o : Option Lived) → LifeGrows o (option_map (living (grown_life s p)) o)
published_grows s p None = life_same None
published_grows s p (Some l) = go l.life l.over where
  go : (life : Life) (over : Bool) → GrowsLiving (grown_life s p) (record { life = life; over = over })
  go life true = life_same (Some (record { life = life; over = true }))
  go (CiiLife t ss) false = record {
    states = one_grows (is_empty (difference (latest t ss) s)) s (cii_states t ss);
    controls = grows_not [];
  }
  go Unset false = life_same (Some (record { life = Unset; over = false }))
  go (TsLife u q ps) false =
      let new = control_for u p in
      record {
        states = grows_not [];
        controls = one_grows (same_control (control_for u (latest q ps)) new) new (ts_controls u q ps);
      }

-- and one that ends
ended_grows : (b : Bool) (o : Option Lived) → LifeGrows o (when b (option_map ended) o)
ended_grows false o = life_same o
ended_grows true None = life_same None
ended_grows true (Some l) = record {
  states = grows_not (states_of_life l.life);
  controls = grows_not (controls_of_life l.life);
}

-- by one accepted call
call_grows : (peer : ℕ) (call : SessionsCall) (h : List SessionsCall) → IsAccepted call h
    → LifeGrows (life_of peer h) (life_of peer (call ∷ h))
call_grows peer (Opened p k) h fresh =
    born_grows (p == peer) k (state_of h) (life_of peer h)
    (λ is. ap (λ q. life_of q h) (sym (eqb-true p peer is)) ∙ fresh)
call_grows peer (SetUp p u player) h accepted = set_grows (p == peer) u player (life_of peer h)
call_grows peer (Published s player) h accepted = published_grows s player (life_of peer h)
call_grows peer (Presented p q player) h accepted = life_same (life_of peer h)
call_grows peer Dropped h accepted = life_same (life_of peer h)
call_grows peer (Closed p) h accepted = ended_grows (p == peer) (life_of peer h)

-- and by lawful calls
calls_grow : (peer : ℕ) (calls h : List SessionsCall) → IsLawful (calls ++ h)
    → LifeGrows (life_of peer h) (life_of peer (calls ++ h))
calls_grow peer [] h lawful = life_same (life_of peer h)
calls_grow peer (call ∷ calls) h lawful =
    let old = life_of peer h in
    let before = life_of peer (calls ++ h) in
    let new = life_of peer (call ∷ (calls ++ h)) in
    let first = calls_grow peer calls h lawful.0 in
    let second = call_grows peer call (calls ++ h) lawful.1 in
    record {
      states = grows_on (states_of_lived old) (states_of_lived before) (states_of_lived new) first.states second.states;
      controls = grows_on (controls_of_lived old) (controls_of_lived before) (controls_of_lived new)
          first.controls second.controls;
    }

-- ---- an event
-- What a peer's session was told by the calls of a television grows: its texts, and the states and the controls that
-- they tell.
pub record ToldGrows (peer : ℕ) (old new : List SessionsCall) : Type 0 where
  pub texts : Grows (texts_of peer old) (texts_of peer new)
  pub lives : LifeGrows (life_of peer old) (life_of peer new)

-- so they do by an outcome whose calls are lawful
outcome_grows : (peer : ℕ) (r : Result Outcome TvFault) (calls : Calls) → IsLawful (with_outcome r calls).sessions
    → ToldGrows peer calls.sessions (with_outcome r calls).sessions
outcome_grows peer (Err fault) calls lawful =
    record { texts = grows_not (texts_of peer calls.sessions); lives = life_same (life_of peer calls.sessions) }
outcome_grows peer (Ok o) calls lawful = record {
  texts = texts_grow peer o.called calls.sessions lawful;
  lives = calls_grow peer o.called calls.sessions lawful;
}

-- What a session was told grows by an event whose parts are in range.
pub event_grows : (peer : ℕ) (events : List TvEvent) (e : TvEvent) → IsStaged addresses (calls_of addresses events)
    → IsSound e (calls_of addresses events).sessions
    → ToldGrows peer (calls_of addresses events).sessions (calls_of addresses (e ∷ events)).sessions
event_grows peer events e staged sound =
    let calls = calls_of addresses events in
    outcome_grows peer (outcome_at e (stage_by addresses calls)) calls
    (staged_event addresses events e staged sound).sessions.lawful

-- so it does by the event of a verb, if there is one
pub some_grows : (peer : ℕ) (o : Option TvEvent) (events : List TvEvent)
    → IsStaged addresses (calls_of addresses events) → IfSome o (λ e. IsSound e (calls_of addresses events).sessions)
    → ToldGrows peer (calls_of addresses events).sessions (calls_of addresses (option_to_list o ++ events)).sessions
some_grows peer None events staged sound =
    let h = (calls_of addresses events).sessions in
    record { texts = grows_not (texts_of peer h); lives = life_same (life_of peer h) }
some_grows peer (Some e) events staged sound = event_grows peer events e staged sound
