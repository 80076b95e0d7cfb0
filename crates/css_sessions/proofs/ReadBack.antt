-- Each text of a session reads as what it was written for.
use Rattle.std.proofs.Common.{◌≡◌, ℕ, zero, suc, Bool, true, false, cond, eqb, List, [], ◌∷◌, ◌++◌, take, Option, Some}
use Rattle.std.proofs.Common.{None, Result, Ok, refl, sym, ap, ◌∙◌, subst}
use Rattle.std.specs.Prelude.{⊤, map, reverse, All, option_map}
use Rattle.std.proofs.lemmas.List.{reverse-append}
use Rattle.std.proofs.lemmas.List.Elements.{All-head, All-tail}
use Rattle.std.proofs.lemmas.Bool.{and_parts}
use Rattle.std.specs.Cmp.{signed_Decides, unsigned_Decides}
use Rattle.css_num.specs.declared.control.Control.{Control}
use Rattle.css_num.specs.declared.control.Control.TheVariants.{Available, Unavailable}
use Rattle.css_player.specs.Player.{Player}
use Rattle.css_cii.specs.Messages.{message_of}
use Rattle.css_cii.specs.States.{empty, difference, full_change, is_empty, Tells, TellsChange, TellsExactly}
use Rattle.css_cii.specs.States.{IsSessionFrom, last_from}
use Rattle.css_cii.specs.Texts.{change_text, EachIn, EachOf, RatesAreInRange}
use Rattle.css_cii.specs.declared.state.State.{State}
use Rattle.css_cii.specs.declared.change.Change.{Change}
use Rattle.css_cii.specs.declared.change.Told.{Told}
use Rattle.css_cii.specs.declared.change.Told.TheVariants as told
use Rattle.css_cii.specs.declared.fault.CiiFault.{CiiFault}
use Rattle.css_cii.proofs.Laws.{message_reads}
use Rattle.css_cii.proofs.Same.{same_where_empty}
use Rattle.css_cii.proofs.Sessions.{difference-exact}
use Rattle.css_cii.proofs.Utf8.{difference-utf8, full-utf8, empty-utf8}
use Rattle.css_tsmsg.specs.Controls.{control_text, control_of, IsInRange}
use Rattle.css_tsmsg.specs.declared.fault.TsFault.{TsFault}
use Rattle.css_tsmsg.specs.declared.setup.Setup.{Setup}
use Rattle.css_tsmsg.proofs.ReadBack.{control_reads}
use Rattle.css_num.specs.declared.protocol.Kind.{Kind}
use Rattle.css_num.specs.declared.protocol.Kind.TheVariants as kind
use Rattle.css_sessions.specs.declared.session.Session.{Session}
use Rattle.css_sessions.specs.declared.session.Talk.{Talk}
use Rattle.css_sessions.specs.Offsets.{control_for}
use Rattle.css_sessions.specs.Kept.{Event, Opened, SetUp, Published, Closed, Presented, Dropped, difference_text}
use Rattle.css_sessions.specs.Kept.{full_text, other_control, same_control, talk_of}
use Rattle.css_sessions.specs.Told.{Life, CiiLife, Unset, TsLife, Lived, born, set_life, grown_life, living, ended}
use Rattle.css_sessions.specs.Told.{when, life_of, state_of, window_of, latest, with_text, cii_texts, ts_texts}
use Rattle.css_sessions.specs.Told.{IsReadable, IsControlled, IsLawful, AreTellable, sessions_of}
use Rattle.css_sessions.specs.ReadBack.{cii_states, cii_changes, ts_controls, ReadsAsStates, ReadsAsControls}
use Rattle.css_sessions.specs.ReadBack.{IsReadBack, AreReadBack}
use Rattle.css_sessions.proofs.Telling.{kept, is_kept}

-- ---- one change
range_told : (old new : Option (List _)) (change : Told (List _)) → TellsExactly old new change
    → EachIn RatesAreInRange new → EachOf RatesAreInRange change
range_told old new told.Unsaid exact h = tt
range_told old new (told.Said value) exact h = subst (EachIn RatesAreInRange) (sym exact.0) h

pub range_after : (old new : Option (List _)) (change : Told (List _)) → TellsExactly old new change
    → EachOf RatesAreInRange change → EachIn RatesAreInRange old → EachIn RatesAreInRange new
range_after old new told.Unsaid exact h k = subst (EachIn RatesAreInRange) exact k
range_after old new (told.Said value) exact h k = subst (EachIn RatesAreInRange) exact.0 h

difference_reads : (old new : State) → IsReadable new
    → message_of (change_text (difference old new)) ≡ Ok (difference old new)
difference_reads old new h =
    let exact = difference-exact old new in
    message_reads (difference old new) (difference-utf8 old new h.utf8)
    (range_told old.timelines new.timelines (difference old new).timelines exact.timelines h.in_range)

full_in_range : (s : State) → EachIn RatesAreInRange s.timelines → EachOf RatesAreInRange (full_change s).timelines
unfolding full_change
full_in_range s h = h

full_reads : (s : State) → IsReadable s → message_of (full_text s) ≡ Ok (full_change s)
unfolding full_text
full_reads s h = message_reads (full_change s) (full-utf8 s h.utf8) (full_in_range s h.in_range)

empty_in_range : EachIn RatesAreInRange empty.timelines
unfolding empty
empty_in_range = tt

-- ---- what is told at each message
full_tells : (before s : State) → TellsChange before s (full_change s)
unfolding full_change
full_tells before s = record {
  protocol_version = refl;
  mrs_url = refl;
  content_id = refl;
  content_id_status = refl;
  presentation_status = refl;
  wc_url = refl;
  ts_url = refl;
  te_url = refl;
  timelines = refl;
}

at_least : {T : Type 0} (old new : Option T) (change : Told T) → TellsExactly old new change → Tells old new change
at_least old new told.Unsaid h = h
at_least old new (told.Said value) h = h.0

difference_tells : (old new : State) → TellsChange old new (difference old new)
difference_tells old new =
    let h = difference-exact old new in
    let c = difference old new in
    record {
      protocol_version = at_least _ _ c.protocol_version h.protocol_version;
      mrs_url = at_least _ _ c.mrs_url h.mrs_url;
      content_id = at_least _ _ c.content_id h.content_id;
      content_id_status = at_least _ _ c.content_id_status h.content_id_status;
      presentation_status = at_least _ _ c.presentation_status h.presentation_status;
      wc_url = at_least _ _ c.wc_url h.wc_url;
      ts_url = at_least _ _ c.ts_url h.ts_url;
      te_url = at_least _ _ c.te_url h.te_url;
      timelines = at_least _ _ c.timelines h.timelines;
    }

-- ---- the messages of a session
last_pushed : (b : State) (ss : List State) (s : State) → last_from b (ss ++ s ∷ []) ≡ s
last_pushed b [] s = refl
last_pushed b (x ∷ ss) s = last_pushed x ss s

session_more : (b : State) (ss : List State) (cs : List Change) (s : State) (c : Change) → IsSessionFrom b ss cs
    → TellsChange (last_from b ss) s c → IsSessionFrom b (ss ++ s ∷ []) (cs ++ c ∷ [])
session_more b [] [] s c h tells = (tells, tt)
session_more b [] (x ∷ cs) s c h tells = absurd h
session_more b (x ∷ ss) [] s c h tells = absurd h
session_more b (x ∷ ss) (y ∷ cs) s c h tells = (h.0, session_more x ss cs s c h.1 tells)

session_prefix : (k : ℕ) (b : State) (ss : List State) (cs : List Change) → IsSessionFrom b ss cs
    → IsSessionFrom b (take k ss) (take k cs)
session_prefix zero b ss cs h = tt
session_prefix (suc k) b [] [] h = tt
session_prefix (suc k) b [] (y ∷ cs) h = absurd h
session_prefix (suc k) b (x ∷ ss) [] h = absurd h
session_prefix (suc k) b (x ∷ ss) (y ∷ cs) h = (h.0, session_prefix k x ss cs h.1)

pushed : {X : Type 0} (x : X) (xs : List X) → reverse (x ∷ xs) ≡ reverse xs ++ x ∷ []
pushed x xs = reverse-append (x ∷ []) xs

session_grown : (b : State) (ss : List State) (cs : List Change) (s : State) (c : Change)
    → IsSessionFrom b (reverse ss) (reverse cs) → TellsChange (last_from b (reverse ss)) s c
    → IsSessionFrom b (reverse (s ∷ ss)) (reverse (c ∷ cs))
session_grown b ss cs s c h tells =
    subst (λ xs. IsSessionFrom b xs (reverse (c ∷ cs))) (sym (pushed s ss))
    (subst (IsSessionFrom b (reverse ss ++ s ∷ [])) (sym (pushed c cs))
    (session_more b (reverse ss) (reverse cs) s c h tells))

last_grown : (b : State) (ss : List State) (s : State) → last_from b (reverse (s ∷ ss)) ≡ s
last_grown b ss s = ap (last_from b) (pushed s ss) ∙ last_pushed b (reverse ss) s

-- the states that were told, each by its change
record IsTelling (b s : State) (ss : List State) : Type 0 where
  pub session : IsSessionFrom b (reverse (cii_states s ss)) (reverse (cii_changes s ss))
  pub last : last_from b (reverse (cii_states s ss)) ≡ latest s ss
  pub newest : (other : State) → latest other (cii_states s ss) ≡ latest s ss

telling : (b s : State) (ss : List State) → IsTelling b s ss
telling b s [] = record { session = (full_tells b s, tt); last = refl; newest = λ other. refl }
telling b s (state ∷ ss) = go (is_empty (difference (latest s ss) state)) refl (telling b s ss) where
  go : (e : Bool) → is_empty (difference (latest s ss) state) ≡ e → IsTelling b s ss → IsTelling b s (state ∷ ss)
  go true is before =
      let same = same_where_empty (latest s ss) state is in
      record {
        session = rw is before.session;
        last = rw is (before.last ∙ same);
        newest = λ other. rw is (before.newest other ∙ same);
      }
  go false is before =
      record {
        session =
            rw is
            (session_grown b (cii_states s ss) (cii_changes s ss) state (difference (latest s ss) state) before.session
            (rw before.last (difference_tells (latest s ss) state)));
        last = rw is (last_grown b (cii_states s ss) state);
        newest = λ other. rw is refl;
      }

-- each state is readable
abbrev pub AreReadable : State → List State → Type 0
AreReadable s [] = IsReadable s
AreReadable s (state ∷ ss) = AreReadable s ss × IsReadable state

texts_read : (s : State) (ss : List State) → AreReadable s ss
    → map message_of (cii_texts s ss) ≡ map Ok (cii_changes s ss)
unfolding difference_text
texts_read s [] h = ap (λ (r : Result Change CiiFault). r ∷ []) (full_reads s h)
texts_read s (state ∷ ss) h = go (is_empty (difference (latest s ss) state)) (texts_read s ss h.0) where
  go : (e : Bool) → map message_of (cii_texts s ss) ≡ map Ok (cii_changes s ss)
      → map message_of
      (with_text (cond e None (Some (change_text (difference (latest s ss) state)))) (cii_texts s ss)) ≡ map Ok
      (cond e (cii_changes s ss) (difference (latest s ss) state ∷ cii_changes s ss))
  go true ih = ih
  go false ih =
      ap (λ (r : Result Change CiiFault). r ∷ map message_of (cii_texts s ss)) (difference_reads
      (latest s ss) state h.1)
      ∙ ap (λ rs. Ok (difference (latest s ss) state) ∷ rs) ih

pub reads_as_states : (s : State) (ss : List State) → AreReadable s ss → ReadsAsStates s ss
reads_as_states s ss h =
    let all = telling empty s ss in
    record {
      texts = texts_read s ss h;
      session = λ k. session_prefix k empty (reverse (cii_states s ss)) (reverse (cii_changes s ss)) all.session;
      newest = all.newest;
    }

-- ---- the controls of a session
pub same_is : (a b : Control) → same_control a b ≡ true → a ≡ b
unfolding same_control
same_is Unavailable Unavailable h = refl
same_is Unavailable (Available c w s) h = absurd (cc)
same_is (Available c w s) Unavailable h = absurd (cc)
same_is (Available c w s) (Available d v t) h =
    let outer = and_parts _ _ h in
    let inner = and_parts _ _ outer.0 in
    rw ((signed_Decides c d).0 inner.0, (unsigned_Decides w v).0 inner.1, (signed_Decides s t).0 outer.1) refl

-- each control is in range
abbrev pub AreInRange : Setup → Player → List Player → Type 0
AreInRange u p [] = IsInRange (control_for u p)
AreInRange u p (player ∷ ps) = AreInRange u p ps × IsInRange (control_for u player)

controls_read : (u : Setup) (p : Player) (ps : List Player) → AreInRange u p ps
    → map control_of (ts_texts u p ps) ≡ map Ok (ts_controls u p ps)
unfolding other_control
controls_read u p [] h = ap (λ (r : Result Control TsFault). r ∷ []) (control_reads (control_for u p) h)
controls_read u p (player ∷ ps) h =
    go (same_control (control_for u (latest p ps)) (control_for u player)) (controls_read u p ps h.0) where
      go : (e : Bool) → map control_of (ts_texts u p ps) ≡ map Ok (ts_controls u p ps)
          → map control_of (with_text (cond e None (Some (control_text (control_for u player))))
          (ts_texts u p ps)) ≡ map Ok
          (cond e (ts_controls u p ps) (control_for u player ∷ ts_controls u p ps))
      go true ih = ih
      go false ih =
          ap (λ (r : Result Control TsFault). r ∷ map control_of (ts_texts u p ps))
          (control_reads (control_for u player) h.1)
          ∙ ap (λ rs. Ok (control_for u player) ∷ rs) ih

newest_control : (u : Setup) (p : Player) (ps : List Player) (other : Control)
    → latest other (ts_controls u p ps) ≡ control_for u (latest p ps)
newest_control u p [] other = refl
newest_control u p (player ∷ ps) other =
    go (same_control (control_for u (latest p ps)) (control_for u player)) refl (newest_control u p ps other) where
      go : (e : Bool) → same_control (control_for u (latest p ps)) (control_for u player) ≡ e
          → latest other (ts_controls u p ps) ≡ control_for u (latest p ps)
          → latest other (cond e (ts_controls u p ps) (control_for u player ∷ ts_controls u p ps)) ≡
          control_for u player
      go true is ih = ih ∙ same_is (control_for u (latest p ps)) (control_for u player) is
      go false is ih = refl

reads_as_controls : (u : Setup) (p : Player) (ps : List Player) → AreInRange u p ps → ReadsAsControls u p ps
reads_as_controls u p ps h = record { texts = controls_read u p ps h; newest = newest_control u p ps }

-- ---- the texts of each session
abbrev pub IsReady : Life → Type 0
IsReady (CiiLife s ss) = AreReadable s ss
IsReady Unset = ⊤
IsReady (TsLife u p ps) = AreInRange u p ps

abbrev pub AreReady : Option Lived → Type 0
AreReady None = ⊤
AreReady (Some l) = IsReady l.life

pub state_ready : (h : List Event) → AreTellable h → IsReadable (state_of h)
state_ready [] t = record { utf8 = empty-utf8; in_range = empty_in_range }
state_ready (Opened p k ∷ h) t = state_ready h t.0
state_ready (SetUp p u player ∷ h) t = state_ready h t.0
state_ready (Published s player ∷ h) t = t.1.0
state_ready (Presented p q player ∷ h) t = state_ready h t.0
state_ready (Dropped ∷ h) t = state_ready h t.0
state_ready (Closed p ∷ h) t = state_ready h t.0

born_ready : (b : Bool) (k : Kind) (s : State) (o : Option Lived) → IsReadable s → AreReady o
    → AreReady (when b (λ _. Some (born k s)) o)
born_ready false k s o r h = h
born_ready true kind.Cii s o r h = r
born_ready true kind.Ts s o r h = tt

set_ready : (b : Bool) (u : Setup) (p : Player) (o : Option Lived) → IsInRange (control_for u p) → AreReady o
    → AreReady (when b (option_map (living (set_life u p))) o)
set_ready false u p o r h = h
set_ready true u p None r h = tt
set_ready true u p (Some l) r h = go l.life l.over h where
  go : (life : Life) (over : Bool) → IsReady life
      → AreReady (Some (living (set_life u p) (record { life = life; over = over })))
  go life true h = h
  go (CiiLife s ss) false h = h
  go Unset false h = r
  go (TsLife v q ps) false h = h

-- the talk of a peer, where it is open, is told a control in range
abbrev pub IsControlledIn : Player → Option Talk → Type 0
IsControlledIn player None = ⊤
IsControlledIn player (Some t) = IsControlled player t

controlled_of : (player : Player) (peer : ℕ) (ss : List Session) → All (λ s. IsControlled player s.talk) ss
    → IsControlledIn player (talk_of peer ss)
controlled_of player peer [] h = tt
controlled_of player peer (s ∷ ss) h =
    go (eqb s.peer peer) (controlled_of player peer ss (All-tail (λ s. IsControlled player s.talk) s ss h)) where
      go : (b : Bool) → IsControlledIn player (talk_of peer ss)
          → IsControlledIn player (cond b (Some s.talk) (talk_of peer ss))
      go true ih = All-head (λ s. IsControlled player s.talk) s ss h
      go false ih = ih

grown_ready : (s : State) (p : Player) (w : Option _) (o : Option Lived) → IsReadable s → IsControlledIn p (kept w o)
    → AreReady o → AreReady (option_map (living (grown_life s p)) o)
grown_ready s p w None r c h = tt
grown_ready s p w (Some l) r c h = go l.life l.over c h where
  go : (life : Life) (over : Bool) → IsControlledIn p (kept w (Some (record { life = life; over = over })))
      → IsReady life → AreReady (Some (living (grown_life s p) (record { life = life; over = over })))
  go life true c h = h
  go (CiiLife t ss) false c h = (h, r)
  go Unset false c h = tt
  go (TsLife u q ps) false c h = (h, c)

ended_ready : (b : Bool) (o : Option Lived) → AreReady o → AreReady (when b (option_map ended) o)
ended_ready false o h = h
ended_ready true None h = h
ended_ready true (Some l) h = h

ready : (h : List Event) (peer : ℕ) → IsLawful h → AreTellable h → AreReady (life_of peer h)
ready [] peer lawful t = tt
ready (Opened p k ∷ h) peer lawful t =
    born_ready (eqb p peer) k (state_of h) (life_of peer h) (state_ready h t.0) (ready h peer lawful.0 t.0)
ready (SetUp p u player ∷ h) peer lawful t =
    set_ready (eqb p peer) u player (life_of peer h) t.1 (ready h peer lawful.0 t.0)
ready (Published s player ∷ h) peer lawful t =
    grown_ready s player (window_of peer h) (life_of peer h) t.1.0
    (subst (IsControlledIn player) ((is_kept h lawful.0).talks peer)
    (controlled_of player peer (sessions_of h).list t.1.1)) (ready h peer lawful.0 t.0)
ready (Presented p q player ∷ h) peer lawful t = ready h peer lawful.0 t.0
ready (Dropped ∷ h) peer lawful t = ready h peer lawful.0 t.0
ready (Closed p ∷ h) peer lawful t = ended_ready (eqb p peer) (life_of peer h) (ready h peer lawful.0 t.0)

read_of : (o : Option Lived) → AreReady o → AreReadBack o
read_of None h = tt
read_of (Some l) h = go l.life h where
  go : (life : Life) → IsReady life → IsReadBack life
  go (CiiLife s ss) h = reads_as_states s ss h
  go Unset h = tt
  go (TsLife u p ps) h = reads_as_controls u p ps h

pub read_back : (peer : ℕ) (h : List Event) → IsLawful h → AreTellable h → AreReadBack (life_of peer h)
read_back peer h lawful t = read_of (life_of peer h) (ready h peer lawful t)
