-- What the texts of a television tell: each of a CSS-CII session its state, and each of a CSS-TS session its control.
use Rattle.std.proofs.Common.{◌≡◌, ℕ, zero, suc, ◌+◌, ◌-◌, ◌<◌, ◌≤◌, refl, ap, sym, subst, subst₂, ◌∙◌, arith, Bool}
use Rattle.std.proofs.Common.{true, false, cond, ◌==◌, List, [], ◌∷◌, ◌++◌, length, drop, reverse, eqb-true}
use Rattle.std.proofs.Common.{length-append}
use Rattle.std.specs.Prelude.{⊤, Option, Some, None, IfSome, map, bytes_eq, Ok}
use Rattle.std.proofs.Math.Seq.{drop-append-add}
use Rattle.std.proofs.lemmas.Slice.Eq.{bytes_eq-Decides}
use Rattle.css_cii.specs.Messages.{message_of}
use Rattle.css_cii.specs.States.{empty, difference, is_empty, Tells, TellsChange, IsSession, IsSessionFrom, last_from}
use Rattle.css_cii.specs.declared.change.Change.{Change}
use Rattle.css_cii.specs.declared.change.Told.{Told}
use Rattle.css_cii.specs.declared.change.Told.TheVariants.{Unsaid, Said}
use Rattle.css_cii.specs.declared.name.CiiName.{CiiName}
use Rattle.css_cii.specs.declared.name.CiiName.TheVariants.{WcUrl, TsUrl}
use Rattle.css_tsmsg.specs.Controls.{control_of}
use Rattle.css_sessions.specs.ReadBack.{cii_states, cii_changes, ts_controls, ReadsAsStates, ReadsAsControls}
use Rattle.css_sessions.specs.Told.{cii_texts, ts_texts, latest as latest_of}
use Rattle.css_companion.specs.Contents.{moved, move_of}
use Rattle.css_companion.specs.Published.{latest, TellsState}
use Rattle.css_companion.specs.declared.fault.CompanionFault.TheVariants as fault
use Rattle.css_meaning.specs.Numbering.{numbered}
use Rattle.css_meaning.specs.Sessions.{addresses}
use Rattle.css_meaning.proofs.Names.{AllByRecursion, reverse-append, take_all, Control, Player, State, Setup}
use Rattle.css_meaning.proofs.Talking.{HasAddresses}

-- ---- lists beside each other
-- Each text stands for an item, after the older ones. In both lists the newest stands first.
abbrev pub AreSaid : {A : Type 0} → (List ℕ → List A → A → Type 0) → List (List ℕ) → List A → Type 0
AreSaid Says [] [] = ⊤
AreSaid Says [] (item ∷ items) = ⊥
AreSaid Says (text ∷ texts) [] = ⊥
AreSaid Says (text ∷ texts) (item ∷ items) = Says text items item × AreSaid Says texts items

-- the items whose texts came: the first ones, as many as texts were heard
abbrev pub come : {A : Type 0} → List (List ℕ) → List A → List A
come heard items = drop (length items - length heard) items

module _ {A : Type 0} (Says : List ℕ → List A → A → Type 0) where
  -- there are as many
  pub as_many : (texts : List (List ℕ)) (items : List A) → AreSaid Says texts items → length texts ≡ length items
  as_many [] [] said = refl
  as_many [] (item ∷ items) said = absurd said
  as_many (text ∷ texts) [] said = absurd said
  as_many (text ∷ texts) (item ∷ items) said = ap suc (as_many texts items said.1)

  -- The text that comes after so many stands for the item that comes after so many.
  pub record Comes (items : List A) (before : ℕ) (text : List ℕ) : Type 0 where
    pub item : A
    pub few : before < length items
    pub now : drop (length items - suc before) items ≡ item ∷ drop (length items - before) items
    pub says : Says text (drop (length items - before) items) item

  -- so it does in lists that stand beside each other
  pub comes_next : (texts : List (List ℕ)) (items : List A) (before : ℕ) (text : List ℕ) → AreSaid Says texts items
      → numbered (suc before) texts ≡ Some text → Comes items before text
  comes_next [] [] before text said is = absurd (cc)
  comes_next [] (item ∷ items) before text said is = absurd said
  comes_next (first ∷ texts) [] before text said is = absurd said
  comes_next (first ∷ texts) (item ∷ items) before text said is =
      go (suc before == suc (length texts)) refl (comes_next texts items before text said.1) is
    where
      go : (b : Bool) → (suc before == suc (length texts)) ≡ b
          → (numbered (suc before) texts ≡ Some text → Comes items before text)
          → cond b (Some first) (numbered (suc before) texts) ≡ Some text → Comes (item ∷ items) before text
      go true same rest is =
          let last : suc before ≡ suc (length texts) = eqb-true (suc before) (suc (length texts)) same in
          let many = as_many texts items said.1 in
          let all : suc (length items) - suc before ≡ zero = omega (arith, last, many) in
          let one : suc (length items) - before ≡ suc zero = omega (arith, last, many) in
          record {
            item = item;
            few = omega (arith, last, many);
            now = rw (all, one) refl;
            says = rw one (subst (λ t. Says t items item) (let t : first ≡ text = cc in t) said.0);
          }
      go false other rest is =
          let later = rest is in
          let less = later.few in
          let now : suc (length items) - suc before ≡ suc (length items - suc before) = omega (arith, less) in
          let old : suc (length items) - before ≡ suc (length items - before) = omega (arith, less) in
          record {
            item = later.item;
            few = omega (arith, less);
            now = rw (now, old) later.now;
            says = rw old later.says;
          }

-- what has come stays so, where more is told
pub come_grown : {A : Type 0} (heard : List (List ℕ)) (news items : List A) → length heard ≤ length items
    → come heard (news ++ items) ≡ come heard items
come_grown heard news items few =
    let more : length (news ++ items) - length heard ≡ length news + (length items - length heard) =
    omega (arith, length-append news items) in
    rw more (drop-append-add news items (length items - length heard))

-- ---- addresses
-- an address that stays isn't moved
stays_put : (property : CiiName) (old new : Option (List ℕ)) (change : Told (List ℕ))
    → IfSome old (λ address. new ≡ Some address) → Tells old new change → moved property old change ≡ None
stays_put property None new change same tells = refl
stays_put property (Some address) new Unsaid same tells = refl
stays_put property (Some address) new (Said None) same tells = refl
stays_put property (Some address) new (Said (Some told)) same tells =
    let is : Some address ≡ Some told = sym (tells ∙ same) in
    let equal : bytes_eq address told ≡ true = (bytes_eq-Decides address told).1 (let t : address ≡ told = cc in t) in
    ap (λ b. cond b None (Some (fault.Moved property address told))) equal

-- an address that is there is this one
abbrev IsAt : Option (List ℕ) → List ℕ → Type 0
IsAt old address = IfSome old (λ before. Some address ≡ Some before)

-- the addresses of a state, as far as they are there, are those of a schedule's television
pub record IsAtAddresses (state : State) : Type 0 where
  pub wc_url : IsAt state.wc_url addresses.wc_url
  pub ts_url : IsAt state.ts_url addresses.ts_url

-- so it is where it is known
known_at : (old : Option (List ℕ)) (address : List ℕ) → old ≡ Some address → IsAt old address
known_at None address is = tt
known_at (Some before) address is = sym is

-- those of the last published state are, and before the first one there are none
latest_at : (states : List State) → AllByRecursion HasAddresses states → IsAtAddresses (latest states)
unfolding empty
latest_at [] all = record { wc_url = tt; ts_url = tt }
latest_at (state ∷ earlier) all = record {
  wc_url = known_at state.wc_url addresses.wc_url all.0.wc_url;
  ts_url = known_at state.ts_url addresses.ts_url all.0.ts_url;
}

-- so no address is moved by a change to a published state
none_moves : (before state : State) (change : Change) → IsAtAddresses before → HasAddresses state
    → TellsChange before state change → move_of before change ≡ None
none_moves before state change old new tells =
    let wc = at before.wc_url state.wc_url addresses.wc_url old.wc_url new.wc_url in
    let ts = at before.ts_url state.ts_url addresses.ts_url old.ts_url new.ts_url in
    rw (
      stays_put WcUrl before.wc_url state.wc_url change.wc_url wc tells.wc_url,
      stays_put TsUrl before.ts_url state.ts_url change.ts_url ts tells.ts_url,
    ) refl
  where
    at : (o p : Option (List ℕ)) (address : List ℕ) → IsAt o address → p ≡ Some address → IfSome o (λ a. p ≡ Some a)
    at None p address is new = tt
    at (Some a) p address is new = new ∙ is

-- ---- states
-- a text tells a state after the last earlier one
abbrev pub TellsAfter : List ℕ → List State → State → Type 0
TellsAfter text earlier state = TellsState text (latest earlier) state

-- the last state is the one that was put behind the others
last_pushed : (b : State) (ss : List State) (s : State) → last_from b (ss ++ s ∷ []) ≡ s
last_pushed b [] s = refl
last_pushed b (x ∷ ss) s = last_pushed x ss s

-- the other way round, the newest comes last
pushed : {X : Type 0} (x : X) (xs : List X) → reverse (x ∷ xs) ≡ reverse xs ++ x ∷ []
pushed x xs = reverse-append (x ∷ []) xs

-- the last of states is the newest one
last_is : (states : List State) → last_from empty (reverse states) ≡ latest states
last_is [] = refl
last_is (s ∷ ss) = ap (last_from empty) (pushed s ss) ∙ last_pushed empty (reverse ss) s

-- no messages are a session of no states alone
none_short : (b : State) (ss : List State) (s : State) → IsSessionFrom b (ss ++ s ∷ []) [] → ⊥
none_short b [] s h = h
none_short b (x ∷ ss) s h = h

-- and there is none of messages without states
none_long : (b : State) (cs : List Change) (c : Change) → IsSessionFrom b [] (cs ++ c ∷ []) → ⊥
none_long b [] c h = h
none_long b (x ∷ cs) c h = h

-- the newest message of a session tells the newest state after the one before
split_last : (b : State) (ss : List State) (cs : List Change) (s : State) (c : Change)
    → IsSessionFrom b (ss ++ s ∷ []) (cs ++ c ∷ []) → IsSessionFrom b ss cs × TellsChange (last_from b ss) s c
split_last b [] [] s c h = (tt, h.0)
split_last b [] (y ∷ cs) s c h = absurd (none_long s cs c h.1)
split_last b (x ∷ ss) [] s c h = absurd (none_short x ss s h.1)
split_last b (x ∷ ss) (y ∷ cs) s c h =
    let rest = split_last x ss cs s c h.1 in
    ((h.0, rest.0), rest.1)

-- so it is of messages, the newest of which stands first
newest_tells : (ss : List State) (cs : List Change) (s : State) (c : Change)
    → IsSession (reverse (s ∷ ss)) (reverse (c ∷ cs))
    → IsSession (reverse ss) (reverse cs) × TellsChange (latest ss) s c
newest_tells ss cs s c h =
    let split = split_last empty (reverse ss) (reverse cs) s c (subst₂ IsSession (pushed s ss) (pushed c cs) h) in
    (split.0, subst (λ (b : State). TellsChange b s c) (last_is ss) split.1)

-- texts that are read as the messages of a session tell its states
are_told : (texts : List (List ℕ)) (states : List State) (changes : List Change) → map message_of texts ≡ map Ok changes
    → IsSession (reverse states) (reverse changes) → AllByRecursion HasAddresses states
    → AreSaid TellsAfter texts states
are_told [] [] [] read session all = tt
are_told [] [] (c ∷ changes) read session all = absurd (cc)
are_told [] (s ∷ states) [] read session all =
    absurd (none_short empty (reverse states) s (subst (λ xs. IsSession xs []) (pushed s states) session))
are_told [] (s ∷ states) (c ∷ changes) read session all = absurd (cc)
are_told (text ∷ texts) [] [] read session all = absurd (cc)
are_told (text ∷ texts) [] (c ∷ changes) read session all =
    absurd (none_long empty (reverse changes) c (subst (IsSession []) (pushed c changes) session))
are_told (text ∷ texts) (s ∷ states) [] read session all = absurd (cc)
are_told (text ∷ texts) (s ∷ states) (c ∷ changes) read session all =
    let split = newest_tells states changes s c session in
    let stays = none_moves (latest states) s c (latest_at states all.1) all.0 split.1 in (
      record { change = c; read = cc; tells = split.1; stays = stays },
      are_told texts states changes (cc) split.0 all.1,
    )

-- the states that were told are among those that were published
states_addressed : (s : State) (ss : List State) → AllByRecursion HasAddresses (s ∷ ss)
    → AllByRecursion HasAddresses (cii_states s ss)
states_addressed s [] all = all
states_addressed s (state ∷ ss) all =
    go (is_empty (difference (latest_of s ss) state)) (states_addressed s ss (all.0, all.1.1))
  where
    go : (b : Bool) → AllByRecursion HasAddresses (cii_states s ss)
        → AllByRecursion HasAddresses (cond b (cii_states s ss) (state ∷ cii_states s ss))
    go true rest = rest
    go false rest = (all.1.0, rest)

-- Each text of a CSS-CII session tells its state.
pub states_told : (s : State) (ss : List State) → ReadsAsStates s ss → AllByRecursion HasAddresses (s ∷ ss)
    → AreSaid TellsAfter (cii_texts s ss) (cii_states s ss)
states_told s ss reads all =
    let states = reverse (cii_states s ss) in
    let changes = reverse (cii_changes s ss) in
    let many = length states + length changes in
    let session : IsSession states changes =
    subst₂ IsSession (take_all many states (omega arith)) (take_all many changes (omega arith)) (reads.session many) in
    are_told (cii_texts s ss) (cii_states s ss) (cii_changes s ss) reads.texts session (states_addressed s ss all)

-- ---- controls
-- a text reads as a control
abbrev pub ReadsAs : List ℕ → List Control → Control → Type 0
ReadsAs text earlier control = control_of text ≡ Ok control

-- texts that read as controls
are_read : (texts : List (List ℕ)) (controls : List Control) → map control_of texts ≡ map Ok controls
    → AreSaid ReadsAs texts controls
are_read [] [] read = tt
are_read [] (c ∷ controls) read = absurd (cc)
are_read (text ∷ texts) [] read = absurd (cc)
are_read (text ∷ texts) (c ∷ controls) read = (cc, are_read texts controls (cc))

-- Each text of a CSS-TS session reads as its control.
pub controls_told : (u : Setup) (p : Player) (ps : List Player) → ReadsAsControls u p ps
    → AreSaid ReadsAs (ts_texts u p ps) (ts_controls u p ps)
controls_told u p ps reads = are_read (ts_texts u p ps) (ts_controls u p ps) reads.texts
