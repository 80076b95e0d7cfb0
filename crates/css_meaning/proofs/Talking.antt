-- The two sessions of a companion, as both ends know them after accepted lines.
use Rattle.std.proofs.Common.{◌≡◌, ℕ, zero, suc, ◌<◌, ◌⊎◌, inl, inr, refl, ap, sym, subst, ◌∙◌, arith, Bool, true}
use Rattle.std.proofs.Common.{false, cond, not, ◌==◌, List, [], ◌∷◌, length, eqb-true}
use Rattle.std.specs.Prelude.{⊤, Option, Some, None, is_some, option_map, Ok}
use Rattle.css_model.specs.declared.Kind.{Kind as Dialling}
use Rattle.css_model.specs.declared.Kind.TheVariants as session
use Rattle.css_tsmsg.specs.Setups.{setup_of as setup_read}
use Rattle.css_sessions.specs.Offsets.{control_for}
use Rattle.css_sessions.specs.Told.{Life, CiiLife, Unset, TsLife, Lived, living, ended, latest}
use Rattle.css_tv.specs.States.{published_state}
use Rattle.css_tv.specs.declared.event.TvEvent.TheVariants as event
use Rattle.css_companion.specs.Meanings.{kind_of, is_ts, is_closed}
use Rattle.css_meaning.specs.Numbering.{numbered}
use Rattle.css_meaning.specs.Sessions.{addresses, setup_of, is_open, written_to, received_from}
use Rattle.css_meaning.proofs.Names.{AllByRecursion, History, Player, State, presentation_of, presentation_text}
use Rattle.css_meaning.proofs.Names.{IsPresentation, Presentation, Setup, presentation_reads, calls_of, TvEvent, Header}
use Rattle.css_meaning.proofs.Peers.{cii_of, ts_of}
use Rattle.css_meaning.proofs.Staging.{IsStaged, IsStaging}
use Rattle.css_meaning.proofs.Lives.{grown_by, GoesOn, LifeGoesOn, shown_after, lived_after, sets_up, presents}

-- a life that is over where its session isn't open
abbrev pub lived_as : Life → Bool → Option Lived
lived_as life live = Some (record { life = life; over = not live })

-- ---- a life goes on
-- what a life that goes on is
lived_on : (q : Player) (life : Life) (live : Bool)
    → option_map (living (grown_by q)) (lived_as life live) ≡ lived_as (cond live (grown_by q life) life) live
lived_on q life true = refl
lived_on q life false = refl

-- a session that isn't there doesn't come by what goes on
none_on : (p q : Player) (old new : Option Lived) → GoesOn p q old new → old ≡ None → new ≡ None
none_on p q old new (inl same) none = same.0 ∙ none
none_on p q old new (inr grown) none = grown ∙ ap (option_map (living (grown_by q))) none

-- and one that is there has the same life, or one that has grown
some_on : (p q : Player) (old new : Option Lived) (life : Life) (live : Bool) → GoesOn p q old new
    → old ≡ lived_as life live → (new ≡ lived_as life live) ⊎ (new ≡ lived_as (cond live (grown_by q life) life) live)
some_on p q old new life live (inl same) is = inl (same.0 ∙ is)
some_on p q old new life live (inr grown) is =
    inr (grown ∙ ap (option_map (living (grown_by q))) is ∙ lived_on q life live)

-- ---- the session of CSS-CII
-- a state tells where companions ask
pub record HasAddresses (state : State) : Type 0 where
  pub wc_url : state.wc_url ≡ Some addresses.wc_url
  pub ts_url : state.ts_url ≡ Some addresses.ts_url

-- so does each published one
pub published_addresses : (p : Player) → HasAddresses (published_state addresses p)
unfolding published_state
published_addresses p = record { wc_url = refl; ts_url = refl }

-- A session of CSS-CII with the states that were published to it, which is over where it isn't open.
pub record IsCiiOpened (lived : Option Lived) (live : Bool) : Type 0 where
  pub first : State
  pub later : List State
  pub is : lived ≡ lived_as (CiiLife first later) live
  pub addressed : AllByRecursion HasAddresses (first ∷ later)

-- A session of CSS-CII by what the companion knows of it: before it was opened it has no life.
abbrev pub HasCii : Option Dialling → Bool → Option Lived → Type 0
HasCii None live lived = (lived ≡ None) × (live ≡ false)
HasCii (Some session.Cii) live lived = IsCiiOpened lived live
HasCii (Some _) live lived = ⊥

-- so it goes on
cii_grown : (old new : Option Lived) (live : Bool) (q : Player) (is : IsCiiOpened old live)
    → let life = CiiLife is.first is.later in new ≡ lived_as (cond live (grown_by q life) life) live
    → IsCiiOpened new live
cii_grown old new false q is now = record { first = is.first; later = is.later; is = now; addressed = is.addressed }
cii_grown old new true q is now = record {
  first = is.first;
  later = published_state addresses q ∷ is.later;
  is = now;
  addressed = (is.addressed.0, (published_addresses q, is.addressed.1));
}

-- where it was opened, and where it wasn't
cii_on : (k : Option Dialling) (live : Bool) (p q : Player) (old new : Option Lived) → GoesOn p q old new
    → HasCii k live old → HasCii k live new
cii_on None live p q old new on has = (none_on p q old new on has.0, has.1)
cii_on (Some session.Cii) live p q old new on has = go (some_on p q old new life live on has.is) where
  life : Life
  life = CiiLife has.first has.later

  go : (new ≡ lived_as life live) ⊎ (new ≡ lived_as (cond live (grown_by q life) life) live) → IsCiiOpened new live
  go (inl is) = record { first = has.first; later = has.later; is = is; addressed = has.addressed }
  go (inr grown) = cii_grown old new live q has grown
cii_on (Some _) live p q old new on has = absurd has

-- an open one has its states
cii_opened : (k : Option Dialling) (live : Bool) (lived : Option Lived) → live ≡ true → HasCii k live lived
    → (k ≡ Some session.Cii) × IsCiiOpened lived live
cii_opened k live lived on has = grind (arith, on, has)

-- one that closes is over
cii_over : (k : Option Dialling) (live : Bool) (lived : Option Lived) → live ≡ true → HasCii k live lived
    → HasCii k false (option_map ended lived)
cii_over None live lived on has = absurd (let both : true ≡ false = sym on ∙ has.1 in cc)
cii_over (Some session.Cii) live lived on has = record {
  first = has.first;
  later = has.later;
  is = ap (option_map ended) has.is;
  addressed = has.addressed;
}
cii_over (Some _) live lived on has = absurd has

-- and it isn't one of CSS-TS
cii_not_ts : (k : Option Dialling) (live : Bool) (lived : Option Lived) → HasCii k live lived → is_ts k ≡ false
cii_not_ts k live lived has = grind (arith, has)

-- ---- the session of CSS-TS
-- What both ends know of a session of CSS-TS: the texts that its companion wrote, those that the television received,
-- and whether the companion knows that it closed.
pub record Exchanged : Type 0 where
  pub written : List (List ℕ)
  pub received : List (List ℕ)
  pub closed : Bool

-- Until its setup came it waits for it, and then it has this setup.
abbrev pub IsLifeOf : Setup → List (List ℕ) → Life → Type 0
IsLifeOf setup [] life = life ≡ Unset
IsLifeOf setup (text ∷ older) life = (p : Player) × (ps : List Player) × (life ≡ TsLife setup p ps)

-- before it was opened nothing was written
pub record IsUnopened (lived : Option Lived) (live : Bool) (x : Exchanged) : Type 0 where
  pub life : lived ≡ None
  pub shut : live ≡ false
  pub written : x.written ≡ []
  pub received : x.received ≡ []

-- and after that at least its setup was
pub record IsOpened (setup : Setup) (lived : Option Lived) (live : Bool) (x : Exchanged) : Type 0 where
  pub life : Life
  pub is : lived ≡ lived_as life live
  pub of : IsLifeOf setup x.received life
  pub written : 0 < length x.written
  pub closed : live ≡ true → x.closed ≡ false

-- A session of CSS-TS by what the companion knows of it.
abbrev pub HasTs : Setup → Option Dialling → Bool → Option Lived → Exchanged → Type 0
HasTs setup None live lived x = IsUnopened lived live x
HasTs setup (Some session.Ts) live lived x = IsOpened setup lived live x
HasTs setup (Some _) live lived x = ⊥

-- its life stays one with this setup
ts_grown : (setup : Setup) (received : List (List ℕ)) (life : Life) (q : Player) (live : Bool)
    → IsLifeOf setup received life → IsLifeOf setup received (cond live (grown_by q life) life)
ts_grown setup received life q false of = of
ts_grown setup [] life q true of = ap (grown_by q) of
ts_grown setup (text ∷ older) life q true of = (of.0, q ∷ of.1, ap (grown_by q) of.2)

-- so it goes on
ts_on : (setup : Setup) (k : Option Dialling) (live : Bool) (p q : Player) (old new : Option Lived) (x : Exchanged)
    → GoesOn p q old new → HasTs setup k live old x → HasTs setup k live new x
ts_on setup None live p q old new x on has = record {
  life = none_on p q old new on has.life;
  shut = has.shut;
  written = has.written;
  received = has.received;
}
ts_on setup (Some session.Ts) live p q old new x on has = go (some_on p q old new has.life live on has.is) where
  go : (new ≡ lived_as has.life live) ⊎ (new ≡ lived_as (cond live (grown_by q has.life) has.life) live)
      → IsOpened setup new live x
  go (inl is) = record { life = has.life; is = is; of = has.of; written = has.written; closed = has.closed }
  go (inr grown) = record {
    life = cond live (grown_by q has.life) has.life;
    is = grown;
    of = ts_grown setup x.received has.life q live has.of;
    written = has.written;
    closed = has.closed;
  }
ts_on setup (Some _) live p q old new x on has = absurd has

-- an open one has its life
ts_opened : (setup : Setup) (k : Option Dialling) (live : Bool) (lived : Option Lived) (x : Exchanged) → live ≡ true
    → HasTs setup k live lived x → (k ≡ Some session.Ts) × IsOpened setup lived live x
ts_opened setup k live lived x on has = grind (arith, on, has)

-- and one that was never opened has none
ts_unopened : (setup : Setup) (k : Option Dialling) (live : Bool) (lived : Option Lived) (x : Exchanged)
    → is_some k ≡ false → HasTs setup k live lived x → IsUnopened lived live x
ts_unopened setup None live lived x none has = has
ts_unopened setup (Some k) live lived x none has = absurd (cc)

-- ---- texts for the television
-- The first text that a companion writes is its setup, and each later one a presentation.
abbrev pub IsWrittenAt : Setup → List ℕ → ℕ → Type 0
IsWrittenAt setup text zero = setup_read text ≡ Ok setup
IsWrittenAt setup text (suc before) = (q : Presentation) × (presentation_of text ≡ Ok q)

-- of texts, the newest of which stands first
abbrev pub AreWritten : Setup → List (List ℕ) → Type 0
AreWritten setup [] = ⊤
AreWritten setup (text ∷ older) = IsWrittenAt setup text (length older) × AreWritten setup older

-- so is the one that comes next after so many
pub written_at : (setup : Setup) (written : List (List ℕ)) (before : ℕ) (text : List ℕ) → AreWritten setup written
    → numbered (suc before) written ≡ Some text → IsWrittenAt setup text before
written_at setup [] before text are is = absurd (cc)
written_at setup (first ∷ older) before text are is =
    go (suc before == suc (length older)) refl (written_at setup older before text are.1) is
  where
    go : (b : Bool) → (suc before == suc (length older)) ≡ b
        → (numbered (suc before) older ≡ Some text → IsWrittenAt setup text before)
        → cond b (Some first) (numbered (suc before) older) ≡ Some text → IsWrittenAt setup text before
    go true same rest is =
        let last : suc before ≡ suc (length older) = eqb-true (suc before) (suc (length older)) same in
        let count : before ≡ length older = omega (arith, last) in
        let text_is : first ≡ text = cc in
        subst (IsWrittenAt setup text) (sym count) (subst (λ t. IsWrittenAt setup t (length older)) text_is are.0)
    go false other rest is = rest is

-- a presentation is written after the setup
pub later_written : (setup : Setup) (q : Presentation) (before : ℕ) → IsPresentation q → 0 < before
    → IsWrittenAt setup (presentation_text q) before
later_written setup q zero ranged some = absurd (omega arith)
later_written setup q (suc before) ranged some = (q, presentation_reads q ranged)

-- ---- what is shown
-- a session of CSS-TS was last told the control that is published for its setup
abbrev pub ShowsLife : Player → Life → Type 0
ShowsLife p (CiiLife s ss) = ⊤
ShowsLife p Unset = ⊤
ShowsLife p (TsLife u q ps) = control_for u (latest q ps) ≡ control_for u p

-- where it isn't over
abbrev pub Shows : Player → Option Lived → Type 0
Shows p None = ⊤
Shows p (Some l) = l.over ≡ false → ShowsLife p l.life

-- so it was where each setup has the same control
shows_same : (p q : Player) (o : Option Lived) → ((u : Setup) → control_for u q ≡ control_for u p) → Shows p o
    → Shows q o
shows_same p q o same shows = grind (arith, same, shows)

-- and where what is shown is published
shows_grown : (q : Player) (o : Option Lived) → Shows q (option_map (living (grown_by q)) o)
shows_grown q o = grind arith

-- so it stays where the life goes on
shows_on : (p q : Player) (old new : Option Lived) → GoesOn p q old new → Shows p old → Shows q new
shows_on p q old new (inl same) shows = subst (Shows q) (sym same.0) (shows_same p q old same.1 shows)
shows_on p q old new (inr grown) shows = subst (Shows q) (sym grown) (shows_grown q old)

-- of a session that is over nothing is said
pub shows_over : (p : Player) (o : Option Lived) → Shows p (option_map ended o)
shows_over p o = grind arith

-- ---- both ends
-- what both ends know of companion `who`'s session of CSS-TS
abbrev pub exchanged : ℕ → List TvEvent → History → Exchanged
exchanged who events own = record {
  written = written_to (ts_of who) own;
  received = received_from (ts_of who) events;
  closed = is_closed own;
}

-- the session of CSS-CII of companion `who`
abbrev pub HasCiiOf : ℕ → List TvEvent → History → Type 0
HasCiiOf who events own = HasCii (kind_of (cii_of who) own) (is_open (cii_of who) own) (lived_after (cii_of who) events)

-- and that of CSS-TS, where this was exchanged
abbrev pub HasTsOf : Header → ℕ → List TvEvent → History → Exchanged → Type 0
HasTsOf header who events own x = HasTs (setup_of who header) (kind_of (ts_of who) own) (is_open (ts_of who) own)
    (lived_after (ts_of who) events) x

-- Both sessions of companion `who` are as both ends know them.
pub record HasTalked (header : Header) (who : ℕ) (events : List TvEvent) (own : History) : Type 0 where
  pub staging : IsStaging who events own
  pub cii : HasCiiOf who events own
  pub ts : HasTsOf header who events own (exchanged who events own)
  pub written : AreWritten (setup_of who header) (written_to (ts_of who) own)
  pub shows : Shows (shown_after events) (lived_after (ts_of who) events)

module _ (header : Header) (who : ℕ) (events : List TvEvent) (own : History)
    (talked : HasTalked header who events own) where
  -- the session of CSS-CII goes on
  pub cii_goes : (new : List TvEvent) → LifeGoesOn (cii_of who) events new → HasCiiOf who new own
  cii_goes new on =
      cii_on (kind_of (cii_of who) own) (is_open (cii_of who) own) (shown_after events) (shown_after new)
      (lived_after (cii_of who) events)
      (lived_after (cii_of who) new) on talked.cii

  -- so does that of CSS-TS
  pub ts_goes : (new : List TvEvent) → LifeGoesOn (ts_of who) events new
      → HasTsOf header who new own (exchanged who events own)
  ts_goes new on =
      ts_on (setup_of who header) (kind_of (ts_of who) own) (is_open (ts_of who) own) (shown_after events)
      (shown_after new)
      (lived_after (ts_of who) events) (lived_after (ts_of who) new) (exchanged who events own) on talked.ts

  -- with what it was told
  pub shows_goes : (new : List TvEvent) → LifeGoesOn (ts_of who) events new
      → Shows (shown_after new) (lived_after (ts_of who) new)
  shows_goes new on =
      shows_on (shown_after events) (shown_after new) (lived_after (ts_of who) events) (lived_after (ts_of who) new) on
      talked.shows

  -- an open session of CSS-CII has its states
  pub cii_live : is_open (cii_of who) own ≡ true
      → (kind_of (cii_of who) own ≡ Some session.Cii) × IsCiiOpened (lived_after (cii_of who) events)
      (is_open (cii_of who) own)
  cii_live live = cii_opened (kind_of (cii_of who) own) (is_open (cii_of who) own) (lived_after (cii_of who) events)
      live talked.cii

  -- and is over where it closes
  pub cii_ends : is_open (cii_of who) own ≡ true → HasCii (kind_of (cii_of who) own) false
      (option_map ended (lived_after (cii_of who) events))
  cii_ends live = cii_over (kind_of (cii_of who) own) (is_open (cii_of who) own) (lived_after (cii_of who) events) live
      talked.cii

  -- its end doesn't close a session of CSS-TS
  pub cii_apart : is_ts (kind_of (cii_of who) own) ≡ false
  cii_apart = cii_not_ts (kind_of (cii_of who) own) (is_open (cii_of who) own) (lived_after (cii_of who) events)
      talked.cii

  -- an open session of CSS-TS has its life
  pub ts_live : is_open (ts_of who) own ≡ true → (kind_of (ts_of who) own ≡ Some session.Ts)
      × IsOpened (setup_of who header) (lived_after (ts_of who) events) (is_open (ts_of who) own)
      (exchanged who events own)
  ts_live live =
      ts_opened (setup_of who header) (kind_of (ts_of who) own) (is_open (ts_of who) own)
      (lived_after (ts_of who) events) (exchanged who events own) live
      talked.ts

  -- and is then as it is opened
  pub ts_becomes : (live : Bool) (new : List TvEvent) (x : Exchanged) → is_open (ts_of who) own ≡ true
      → IsOpened (setup_of who header) (lived_after (ts_of who) new) live x
      → HasTs (setup_of who header) (kind_of (ts_of who) own) live (lived_after (ts_of who) new) x
  ts_becomes live new x was is = rw (ts_live was).0 is

  -- one that was never opened has none
  pub ts_never : is_some (kind_of (ts_of who) own) ≡ false
      → IsUnopened (lived_after (ts_of who) events) (is_open (ts_of who) own) (exchanged who events own)
  ts_never never =
      ts_unopened (setup_of who header) (kind_of (ts_of who) own) (is_open (ts_of who) own)
      (lived_after (ts_of who) events) (exchanged who events own)
      never talked.ts

-- ---- a text that comes to the television
-- after a text of its companion a session has its setup
pub record TextComes (peer : ℕ) (setup : Setup) (received : List (List ℕ)) (bytes : List ℕ)
    (after : List TvEvent) : Type 0 where
  pub life : Life
  pub is : lived_after peer after ≡ lived_as life true
  pub of : IsLifeOf setup (bytes ∷ received) life
  pub shows : Shows (shown_after after) (lived_after peer after)

-- with a presentation its life goes on
presentation_comes : (peer : ℕ) (setup : Setup) (received : List (List ℕ)) (bytes : List ℕ) (p : Player)
    (ps : List Player)
    (after : List TvEvent) → Shows (shown_after after) (lived_after peer after)
    → (lived_after peer after ≡ lived_as (TsLife setup p ps) true)
    ⊎ (lived_after peer after ≡ lived_as (TsLife setup p (shown_after after ∷ ps)) true)
    → TextComes peer setup received bytes after
presentation_comes peer setup received bytes p ps after shows (inl same) =
    record { life = TsLife setup p ps; is = same; of = (p, ps, refl); shows = shows }
presentation_comes peer setup received bytes p ps after shows (inr grown) =
    let more = shown_after after ∷ ps in
    record { life = TsLife setup p more; is = grown; of = (p, more, refl); shows = shows }

-- A text that its companion wrote comes to an open session.
pub text_comes : (peer : ℕ) (setup : Setup) (received : List (List ℕ)) (life : Life) (bytes : List ℕ)
    (events : List TvEvent)
    → IsStaged addresses (calls_of addresses events) → lived_after peer events ≡ lived_as life true
    → IsLifeOf setup received life → IsWrittenAt setup bytes (length received)
    → Shows (shown_after events) (lived_after peer events) → TextComes peer setup received bytes
    (event.Heard peer bytes ∷ events)
text_comes peer setup [] life bytes events staged is of written shows =
    let after = event.Heard peer bytes ∷ events in
    let unset = is ∙ ap (λ (l : Life). lived_as l true) of in
    let set = sets_up peer setup bytes events staged unset written in
    record {
      life = TsLife setup (shown_after events) [];
      is = set.life;
      of = (shown_after events, [], refl);
      shows = subst (Shows (shown_after after)) (sym set.life) (λ on. ap (control_for setup) (sym set.shown));
    }
text_comes peer setup (text ∷ older) life bytes events staged is of written shows =
    let p = of.0 in
    let ps = of.1 in
    let after = event.Heard peer bytes ∷ events in
    let old = lived_after peer events in
    let new = lived_after peer after in
    let before = is ∙ ap (λ (l : Life). lived_as l true) of.2 in
    let on = presents peer setup p ps bytes written.0 events staged before written.1 in
    let q = shown_after after in
    presentation_comes peer setup (text ∷ older) bytes p ps after (shows_on (shown_after events) q old new on shows)
    (some_on (shown_after events) q old new (TsLife setup p ps) true on before)
