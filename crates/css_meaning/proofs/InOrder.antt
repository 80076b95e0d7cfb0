-- The k-th text of a session of a companion tells the k-th state or control, and none is refused.
use Rattle.std.proofs.Common.{◌≡◌, ℕ, ◌+◌, ◌-◌, ◌≤◌, drop, refl, ap, sym, subst, ◌∙◌, arith, Bool, true, false, cond}
use Rattle.std.proofs.Common.{List, [], ◌∷◌, ◌++◌, length, length-append}
use Rattle.std.specs.Prelude.{Option, Some, None, IfSome, is_some, Result, Ok}
use Rattle.std.specs.Option.{option_map, option_to_list}
use Rattle.css_model.specs.declared.Kind.{Kind as Dialling}
use Rattle.css_model.specs.declared.Kind.TheVariants as session
use Rattle.css_cii.specs.States.{applied}
use Rattle.css_tsmsg.specs.Controls.{control_of}
use Rattle.css_tsmsg.specs.Setups.{IsUtf8Setup}
use Rattle.css_num.specs.declared.protocol.Kind.TheVariants as kind
use Rattle.css_sessions.specs.ReadBack.{IsReadBack, AreReadBack}
use Rattle.css_sessions.specs.Told.{Life, CiiLife, Unset, TsLife, Lived, texts_of_life, texts_of_lived}
use Rattle.css_sessions.proofs.ReadBack.{read_back}
use Rattle.css_companion.specs.Contents.{told, next_number}
use Rattle.css_companion.specs.Meanings.{kind_of, is_cii, is_ts, cii_text, ts_text, texts_of, state_of, control_by}
use Rattle.css_companion.specs.Published.{latest, TellsState, TellsNewest, TellsStates}
use Rattle.css_schedule.specs.declared.line.Verb.TheVariants as verb
use Rattle.css_meaning.specs.Arrived.{states_of_lived, states_come, IsToldInOrder}
use Rattle.css_meaning.specs.Sessions.{addresses, peer_of, setup_of, is_open, was_opened, heard_from, told_to}
use Rattle.css_meaning.specs.Sessions.{next_down}
use Rattle.css_meaning.specs.Happened.{Numbered, hearing, event_by, done_by, events_of, history_of}
use Rattle.css_meaning.specs.Verdicts.{IsDeclared, can_talk}
use Rattle.css_meaning.specs.Accepted.{AreAccepted}
use Rattle.css_meaning.proofs.Names.{option_or, and_parts, not-true, Message, History, Heard, Control, State, TsFault}
use Rattle.css_meaning.proofs.Names.{Setup, Kind, calls_of, TvEvent, told_is_published, Header, IsCount, Verb}
use Rattle.css_meaning.proofs.Peers.{cii_of, ts_of, cii-ts, ts-cii}
use Rattle.css_meaning.proofs.Entries.{heard-one, heard-apart}
use Rattle.css_meaning.proofs.Ends.{events_with}
use Rattle.css_meaning.proofs.Staging.{IsStaged, IsSound, sound_by}
use Rattle.css_meaning.proofs.Staged.{IsKeptBy, IsKeptApart, each_end}
use Rattle.css_meaning.proofs.Growing.{controls_of_life, controls_of_lived, LifeGrows, some_grows}
use Rattle.css_meaning.proofs.Lives.{lived_after}
use Rattle.css_meaning.proofs.Talking.{HasCii, HasTs, Exchanged, exchanged, IsLifeOf, HasTalked, cii_live, ts_live}
use Rattle.css_meaning.proofs.Talking.{ts_never}
use Rattle.css_meaning.proofs.Talked.{talked_start, talked_kept, talked_apart, setup_utf8}
use Rattle.css_meaning.proofs.Telling.{AreSaid, Comes, comes_next, come, come_grown, TellsAfter, states_told, ReadsAs}
use Rattle.css_meaning.proofs.Telling.{controls_told}

-- ---- what each text tells
-- each text of a CSS-CII session tells its state
cii_told : (k : Option Dialling) (live : Bool) (lived : Option Lived) → HasCii k live lived → AreReadBack lived
    → AreSaid TellsAfter (texts_of_lived lived) (states_of_lived lived)
cii_told None live lived has read = rw has.0 tt
cii_told (Some session.Cii) live lived has read =
    rw has.is (states_told has.first has.later (rw has.is at read) has.addressed)
cii_told (Some _) live lived has read = absurd has

-- each text of a life of CSS-TS reads as its control
life_told : (setup : Setup) (received : List (List ℕ)) (life : Life) → IsLifeOf setup received life → IsReadBack life
    → AreSaid ReadsAs (texts_of_life life) (controls_of_life life)
life_told setup [] (CiiLife s ss) of read = absurd (cc)
life_told setup (text ∷ older) (CiiLife s ss) of read =
    absurd (let other : CiiLife s ss ≡ TsLife setup of.0 of.1 = of.2 in cc)
life_told setup received Unset of read = tt
life_told setup received (TsLife u p ps) of read = controls_told u p ps read

-- so does each text of a CSS-TS session
ts_told : (setup : Setup) (k : Option Dialling) (live : Bool) (lived : Option Lived) (x : Exchanged)
    → HasTs setup k live lived x → AreReadBack lived → AreSaid ReadsAs (texts_of_lived lived) (controls_of_lived lived)
ts_told setup None live lived x has read = rw has.life tt
ts_told setup (Some session.Ts) live lived x has read =
    rw has.is (life_told setup x.received has.life has.of (rw has.is at read))
ts_told setup (Some _) live lived x has read = absurd has

-- ---- what was heard
-- the states that the session of CSS-CII of companion `who` was told
abbrev pub states_after : ℕ → List TvEvent → List State
states_after who events = states_of_lived (lived_after (cii_of who) events)

-- and the controls that its session of CSS-TS was told
abbrev pub controls_after : ℕ → List TvEvent → List Control
controls_after who events = controls_of_lived (lived_after (ts_of who) events)

-- what the newest control is read as
abbrev pub newest : List Control → Option (Result Control TsFault)
newest [] = None
newest (control ∷ earlier) = Some (Ok control)

-- Texts that a companion heard of its two sessions tell the first states and controls, as many as they are.
pub record HearsSo (events : List TvEvent) (who : ℕ) (own : History) (cii ts : List (List ℕ)) : Type 0 where
  pub cii_few : length cii ≤ length (states_after who events)
  pub tells : TellsStates (come cii (states_after who events)) own
  pub ts_few : length ts ≤ length (controls_after who events)
  pub control : control_by own ≡ newest (come ts (controls_after who events))

-- the texts that companion `who` heard do so
abbrev pub IsHearing : ℕ → List TvEvent → History → Type 0
IsHearing who events own = HearsSo events who own (heard_from (cii_of who) own) (heard_from (ts_of who) own)

-- so it stays where the television tells more
hears_on : (who : ℕ) (old new : List TvEvent) (own : History)
    → LifeGrows (lived_after (cii_of who) old) (lived_after (cii_of who) new)
    → LifeGrows (lived_after (ts_of who) old) (lived_after (ts_of who) new)
    → IsHearing who old own → IsHearing who new own
hears_on who old new own one two before =
    let cii = heard_from (cii_of who) own in
    let ts = heard_from (ts_of who) own in
    let states = one.states in
    let controls = two.controls in
    let more_states : length (states_after who new) ≡ length states.news + length (states_after who old) =
    ap length states.is ∙ length-append states.news (states_after who old) in
    let more_controls : length (controls_after who new) ≡ length controls.news + length (controls_after who old) =
    ap length controls.is ∙ length-append controls.news (controls_after who old) in
    record {
      cii_few = omega (arith, more_states, before.cii_few);
      tells = subst (λ xs. TellsStates xs own) (sym (ap (come cii) states.is
          ∙ come_grown cii states.news (states_after who old) before.cii_few)) before.tells;
      ts_few = omega (arith, more_controls, before.ts_few);
      control = before.control ∙ ap newest (sym (ap (come ts) controls.is
          ∙ come_grown ts controls.news (controls_after who old) before.ts_few));
    }

-- the same texts, of the sessions as they are known
hears_as : (events : List TvEvent) (who : ℕ) (own : History) (cii ts cii_now ts_now : List (List ℕ)) → cii_now ≡ cii
    → ts_now ≡ ts → HearsSo events who own cii ts → HearsSo events who own cii_now ts_now
hears_as events who own cii ts cii_now ts_now one two is = rw one (rw two is)

module _ (header : Header) (who : ℕ) (first : 1 ≤ who) (events : List TvEvent) (own : History)
    (talked : HasTalked header who events own) where
  -- the peers of its sessions
  abbrev cii : ℕ
  cii = cii_of who

  abbrev ts : ℕ
  ts = ts_of who

  -- the texts of a session are read back
  pub back : (peer : ℕ) → AreReadBack (lived_after peer events)
  back peer =
      let stands = talked.staging.staged.sessions in
      read_back peer (calls_of addresses events).sessions stands.lawful stands.tellable

  -- each text of the session of CSS-CII tells its state
  pub states_said : AreSaid TellsAfter (told_to cii events) (states_after who events)
  states_said = cii_told (kind_of cii own) (is_open cii own) (lived_after cii events) talked.cii (back cii)

  -- and each of CSS-TS reads as its control
  pub controls_said : AreSaid ReadsAs (told_to ts events) (controls_after who events)
  controls_said =
      ts_told (setup_of who header) (kind_of ts own) (is_open ts own) (lived_after ts events) (exchanged who events own)
      talked.ts (back ts)

  -- the next text of the session of CSS-CII tells the next state
  pub state_comes : (bytes : List ℕ) → next_down who kind.Cii events own ≡ Some bytes
      → Comes TellsAfter (states_after who events) (length (heard_from cii own)) bytes
  state_comes bytes next =
      comes_next TellsAfter (told_to cii events) (states_after who events) (length (heard_from cii own)) bytes
      states_said next

  -- that of CSS-TS reads as the next control
  pub control_comes : (bytes : List ℕ) → next_down who kind.Ts events own ≡ Some bytes
      → Comes ReadsAs (controls_after who events) (length (heard_from ts own)) bytes
  control_comes bytes next =
      comes_next ReadsAs (told_to ts events) (controls_after who events) (length (heard_from ts own)) bytes
      controls_said next

  -- so what was heard is in order with it
  cii_heard : (bytes : List ℕ) → is_open cii own ≡ true → next_down who kind.Cii events own ≡ Some bytes
      → IsHearing who events own → IsHearing who events (Heard cii bytes ∷ own)
  cii_heard bytes live next before =
      let after = Heard cii bytes ∷ own in
      let comes = state_comes bytes next in
      let is = (cii_live header who events own talked live).0 in
      let text : cii_text (Heard cii bytes) own ≡ Some bytes = ap (λ k. cond (is_cii k) (Some bytes) None) is in
      let none : ts_text (Heard cii bytes) own ≡ None = ap (λ k. cond (is_ts k) (Some bytes) None) is in
      let Newest : Option (List ℕ) → List State → Type 0 =
      λ o states. TellsNewest o states (λ earlier. TellsStates earlier own) in
      let so : HearsSo events who after (bytes ∷ heard_from cii own) (heard_from ts own) = record {
        cii_few = comes.few;
        tells = rw text (rw comes.now (comes.says, before.tells));
        ts_few = before.ts_few;
        control = ap (λ o. option_or (option_map control_of o) (control_by own)) none ∙ before.control;
      } in
      hears_as events who after _ _ _ _ (heard-one cii bytes own) (heard-apart ts cii (cii-ts who first) bytes own) so

  -- that of CSS-TS too
  ts_heard : (bytes : List ℕ) → is_open ts own ≡ true → next_down who kind.Ts events own ≡ Some bytes
      → IsHearing who events own → IsHearing who events (Heard ts bytes ∷ own)
  ts_heard bytes live next before =
      let after = Heard ts bytes ∷ own in
      let comes = control_comes bytes next in
      let is = (ts_live header who events own talked live).0 in
      let none : cii_text (Heard ts bytes) own ≡ None = ap (λ k. cond (is_cii k) (Some bytes) None) is in
      let text : ts_text (Heard ts bytes) own ≡ Some bytes = ap (λ k. cond (is_ts k) (Some bytes) None) is in
      let Newest : Option (List ℕ) → List State → Type 0 =
      λ o states. TellsNewest o states (λ earlier. TellsStates earlier own) in
      let so : HearsSo events who after (heard_from cii own) (bytes ∷ heard_from ts own) = record {
        cii_few = before.cii_few;
        tells = subst (λ o. Newest o (come (heard_from cii own) (states_after who events))) (sym none) before.tells;
        ts_few = comes.few;
        control = ap (λ o. option_or (option_map control_of o) (control_by own)) text ∙ ap Some comes.says
            ∙ ap newest (sym comes.now);
      } in
      hears_as events who after _ _ _ _ (heard-apart cii ts (ts-cii who first) bytes own) (heard-one ts bytes own) so

  -- a text that comes to a session
  hears : (k : Kind) (text : Option (List ℕ)) → is_open (peer_of who k) own ≡ true → next_down who k events own ≡ text
      → IsHearing who events own → IsHearing who events (hearing (peer_of who k) text own)
  hears k None live next before = before
  hears kind.Cii (Some bytes) live next before = cii_heard bytes live next before
  hears kind.Ts (Some bytes) live next before = ts_heard bytes live next before

-- ---- all lines
-- Both ends know of the sessions of companion `who`, and what it heard of them is in order.
pub record IsInOrder (header : Header) (who : ℕ) (events : List TvEvent) (own : History) : Type 0 where
  pub talked : HasTalked header who events own
  pub hearing : IsHearing who events own

-- what a verb makes the companion hear is in order
hears_by : (header : Header) (who : ℕ) (made : List Message) (v : Verb) (events : List TvEvent) (own : History)
    → 1 ≤ who → can_talk who events own v ≡ true
    → IsInOrder header who events own → IsHearing who events (done_by header who made events v own)
hears_by header who made v events own first can before = by v can where
  -- no entry of a text
  silent : (after : History) → length (heard_from (cii_of who) after) ≤ length (states_after who events)
      → TellsStates (come (heard_from (cii_of who) after) (states_after who events)) after
      → length (heard_from (ts_of who) after) ≤ length (controls_after who events)
      → control_by after ≡ newest (come (heard_from (ts_of who) after) (controls_after who events))
      → IsHearing who events after
  silent after few tells ts_few control = record { cii_few = few; tells = tells; ts_few = ts_few; control = control }

  -- what was heard before
  same : IsHearing who events own
  same = before.hearing

  -- nothing was told on a session of CSS-TS that opens
  untold : was_opened (ts_of who) own ≡ false
      → None ≡ newest (come (heard_from (ts_of who) own) (controls_after who events))
  untold never =
      let heard = heard_from (ts_of who) own in
      let none : 0 - length heard ≡ 0 = omega arith in
      let no_controls : List Control = [] in
      sym (ap (λ lived. newest (come heard (controls_of_lived lived)))
      (ts_never header who events own before.talked never).life ∙ ap (λ n. newest (drop n no_controls)) none)

  opened : (k : Kind) → can_talk who events own (verb.Opening k) ≡ true
      → IsHearing who events (done_by header who made events (verb.Opening k) own)
  opened kind.Cii can = silent _ same.cii_few same.tells same.ts_few same.control
  opened kind.Ts can = silent _ same.cii_few same.tells same.ts_few (untold (not-true _ can))

  by : (v : Verb) → can_talk who events own v ≡ true → IsHearing who events (done_by header who made events v own)
  by (verb.Opening k) can = opened k can
  by (verb.Bring k) can =
      hears header who first events own before.talked k (next_down who k events own)
      (and_parts (is_open (peer_of who k) own) (is_some (next_down who k events own)) can).0 refl same
  by _ can = silent _ same.cii_few same.tells same.ts_few same.control

-- what a session of whatever peer was told grows where there may be an event
grows_by : (peer : ℕ) (o : Option TvEvent) (events : List TvEvent) → IsStaged addresses (calls_of addresses events)
    → IfSome o (λ e. IsSound e (calls_of addresses events).sessions)
    → LifeGrows (lived_after peer events) (lived_after peer (option_to_list o ++ events))
grows_by peer o events staged sound = (some_grows peer o events staged sound).lives

-- Each verb of the companion keeps the order.
pub order_kept : (header : Header) (who : ℕ) → 1 ≤ who → IsCount (length header.companions)
    → IsUtf8Setup (setup_of who header) → IsKeptBy header who (IsInOrder header who)
order_kept header who first count utf8 made v events own range can below staged staging before =
    let sound = sound_by who v events own range can (λ is. staged.unknown) in
    let event = event_by who events own v in
    let grows : (peer : ℕ) → LifeGrows (lived_after peer events) (lived_after peer (events_with who events own v)) =
    λ peer. grows_by peer event events staged.staged sound in
    record {
      talked = talked_kept header who first count utf8 made v events own range can below staged staging before.talked;
      hearing = hears_on who events (events_with who events own v) (done_by header who made events v own)
          (grows (cii_of who)) (grows (ts_of who)) (hears_by header who made v events own first can before);
    }

-- So does each event of another one.
pub order_apart : (header : Header) (who : ℕ) → 1 ≤ who → IsKeptApart who (IsInOrder header who)
order_apart header who first e events own other sound staged staging before = record {
  talked = talked_apart header who first e events own other sound staged staging before.talked;
  hearing = hears_on who events (e ∷ events) own (grows_by (cii_of who) (Some e) events staged.staged sound)
      (grows_by (ts_of who) (Some e) events staged.staged sound) before.hearing;
}

-- nothing is heard before all lines
pub order_start : (header : Header) (who : ℕ) → IsInOrder header who [] []
order_start header who = record {
  talked = talked_start header who;
  hearing = record { cii_few = omega arith; tells = refl; ts_few = omega arith; control = refl };
}

-- What companion `who` heard at accepted lines is in order.
pub in_order : (header : Header) (lines : List Numbered) (who : ℕ) → 1 ≤ who → IsDeclared header
    → AreAccepted header lines → IsInOrder header who (events_of header lines) (history_of who header lines)
in_order header lines who first declared accepted =
    each_end header who (IsInOrder header who) first (order_start header who)
    (order_kept header who first declared.companions (setup_utf8 header who declared)) (order_apart header who first)
    lines accepted

-- ---- the states
-- The texts that came tell the first published states, and the companion's state is the last of them.
pub are_told_in_order : (header : Header) (lines : List Numbered) (who : ℕ) → 1 ≤ who → IsDeclared header
    → AreAccepted header lines → IsToldInOrder who header lines
are_told_in_order header lines who first declared accepted =
    let tells = (in_order header lines who first declared accepted).hearing.tells in
    record {
      tells = tells;
      state = told_is_published (history_of who header lines) (states_come who header lines) tells;
    }

-- A text of the session of CSS-CII that comes isn't refused.
pub text_is_taken : (header : Header) (lines : List Numbered) (who : ℕ) (bytes : List ℕ) → 1 ≤ who
    → IsDeclared header → AreAccepted header lines
    → next_down who kind.Cii (events_of header lines) (history_of who header lines) ≡ Some bytes
    → let own = history_of who header lines in
    (state : State) × (told (next_number (texts_of own)) (state_of own) bytes ≡ Ok state)
text_is_taken header lines who bytes first declared accepted next =
    let own = history_of who header lines in
    let order = in_order header lines who first declared accepted in
    let comes = state_comes header who first (events_of header lines) own order.talked bytes next in
    let before : state_of own ≡ latest (states_come who header lines) =
    (are_told_in_order header lines who first declared accepted).state in
    let says : TellsState bytes (latest (states_come who header lines)) comes.item = comes.says in (
      applied (state_of own) says.change,
      rw (says.read, before, says.stays) refl,
    )
