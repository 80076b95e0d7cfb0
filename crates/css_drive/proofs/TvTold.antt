-- What an event of a television does to its sessions' calls; and what its run sent to a session is the first of what
-- the session was to be told.
use Rattle.std.proofs.Common.{◌≡◌, ℕ, ◌≤◌, ◌<◌, Bool, true, false, cond, eqb, List, [], ◌∷◌, ◌++◌, length, Option, Some}
use Rattle.std.proofs.Common.{None, refl, sym, ap, subst, ◌∙◌, arith, append-nil, Result, Ok, Err, suc, length-append}
use Rattle.std.specs.Prelude.{⊤, ◌||◌, map, reverse, option_map, IfSome, ◌&&◌}
use Rattle.std.specs.List.{filter_map}
use Rattle.std.proofs.lemmas.List.{length-reverse}
use Rattle.std.proofs.lemmas.Bool.{and_parts, cond_both}
use Rattle.std.proofs.lemmas.Bool.Decides.{nat_tests}
use Rattle.css_player.specs.Player.{Player}
use Rattle.css_cii.specs.declared.state.State.{State}
use Rattle.css_tsmsg.specs.declared.bound.Presentation.{Presentation}
use Rattle.css_tsmsg.specs.declared.setup.Setup.{Setup}
use Rattle.css_num.specs.declared.protocol.Kind.{Kind}
use Rattle.css_num.specs.declared.protocol.Kind.TheVariants as kind
use Rattle.css_sessions.specs.Kept.{Event, Opened, SetUp, Published, Presented, Dropped, Closed, Kept, Rising}
use Rattle.css_sessions.specs.Kept.{difference_text}
use Rattle.css_sessions.specs.declared.session.Said.{Said}
use Rattle.css_sessions.specs.Told.{Life, Lived, IsLawful, IsAccepted, life_of, ended, when, sessions_of, said_to}
use Rattle.css_sessions.specs.Told.{texts_of, with_text, texts_of_lived}
use Rattle.css_sessions.proofs.InForce.{peers}
use Rattle.css_sessions.proofs.Talks.{said_to-news}
use Rattle.css_sessions.proofs.Telling.{is_kept}
use Rattle.css_schedule.specs.declared.line.Verb.{Verb}
use Rattle.css_schedule.specs.declared.line.ScriptLine.{ScriptLine}
use Rattle.css_tv.specs.Outcomes.{Outcome, outcome, said_after}
use Rattle.css_tv.specs.Standing.{Calls, IsFresh, calls_of, with_outcome, said_by, player_after, texts_after}
use Rattle.css_tv.specs.declared.event.TvEvent.{TvEvent}
use Rattle.css_tv.specs.declared.event.TvEvent.TheVariants as event
use Rattle.css_tv.specs.declared.event.TvOut.{TvOut}
use Rattle.css_tv.specs.declared.event.TvOut.TheVariants as out
use Rattle.css_tv.specs.declared.fault.TvFault.{TvFault}
use Rattle.css_tv.specs.declared.state.Addresses.{Addresses}
use Rattle.css_tv.proofs.More.{said_in, texts_all}
use Rattle.css_drive.specs.TvDue.{above, TvRun, due, due_at, due_for, from_hang_ups, from_texts, unless_owed}
use Rattle.css_drive.specs.TvDue.{unless_refused}
use Rattle.css_drive.specs.TvProgress.{outcome_after, outs_in, outs_after, event_of, Place, Turned, Asked, Over}
use Rattle.css_drive.specs.TvProgress.{Progress, happened, played, played_if, with_line, is_free, is_free_of, is_due}
use Rattle.css_drive.specs.TvProgress.{carry, settled_at, settled, after, without_first, one_done, hung_up}
use Rattle.css_drive.specs.TvProgress.{addresses_in, progress_of, begun, since}
use Rattle.css_drive.specs.Proper.{Due, SendText, HangUp, Ends, MayAdd, IsProper, Empty, More}
use Rattle.css_drive.specs.TvRan.{AreBelow, AreNumbered}
use Rattle.css_drive.specs.TvTold.{sent_to, is_gone, lost, SessionsAreTold}
use Rattle.css_drive.specs.declared.driven.Driven.TheVariants as driven
use Rattle.css_drive.specs.declared.turns.Turns.{Turns}
use Rattle.css_model.specs.declared.Kind.TheVariants as peer_kind
use Rattle.css_model.specs.declared.Why.{Why}
use Rattle.css_model.specs.declared.Why.TheVariants as why
use Rattle.css_model.specs.History.{Entry, Each, History, Clock, Accepted, Heard, Wrote, Gone, HungUp}
use Rattle.css_model.specs.History.{Closed as ClosedEntry}

-- ---- events
-- an event other than an opening
abbrev pub IsNoOpening : TvEvent → Type 0
IsNoOpening (event.Opened peer kind) = ⊥
IsNoOpening _ = ⊤

-- one that opens no session of this peer
abbrev pub IsOther : ℕ → TvEvent → Type 0
IsOther peer (event.Opened p kind) = eqb p peer ≡ false
IsOther peer _ = ⊤

pub is_other : (peer : ℕ) (e : TvEvent) → IsNoOpening e → IsOther peer e
is_other peer e n = grind (arith, n)

pub is_fresh : (e : TvEvent) → IsNoOpening e → (h : List Event) → IsFresh e h
is_fresh e n h = grind (arith, n)

-- an event of a line opens no session
pub opens_none : (r : ℕ) (v : Verb) → IfSome (event_of r v) IsNoOpening
opens_none r v = grind arith

-- ---- the calls of an event
abbrev pub called_in : Result Outcome TvFault → List Event
called_in (Err f) = []
called_in (Ok o) = o.called

sessions_after : (r : Result Outcome TvFault) (calls : Calls)
    → (with_outcome r calls).sessions ≡ called_in r ++ calls.sessions
sessions_after (Err f) calls = refl
sessions_after (Ok o) calls = refl

-- What an event calls after these calls: nothing, or one call, after which all windows may be dropped, or one may be
-- put in its place.
data IsCalled (h : List Event) : TvEvent → List Event → Type 0 where
  Nothing : {e : TvEvent} → IsCalled h e []
  Opens : (peer : ℕ) (kind : Kind) → IsAccepted (Opened peer kind) h
      → IsCalled h (event.Opened peer kind) (Opened peer kind ∷ [])
  SetsUp : {e : TvEvent} (peer : ℕ) (u : Setup) (p : Player) → IsAccepted (SetUp peer u p) h
      → IsCalled h e (SetUp peer u p ∷ [])
  Shows : {e : TvEvent} (state : State) (p : Player) → IsCalled h e (Published state p ∷ [])
  Closes : {e : TvEvent} (peer : ℕ) → IsCalled h e (Closed peer ∷ [])
  Drops : {e : TvEvent} {called : List Event} → IsCalled h e called → IsCalled h e (Dropped ∷ called)
  Places : {e : TvEvent} {called : List Event} (peer : ℕ) (q : Presentation) (before : Player) → IsCalled h e called
      → IsCalled h e (Presented peer q before ∷ called)

is_called : (h : List Event) (a : Addresses) (p : Player) (e : TvEvent) → IsFresh e h
    → IsCalled h e (called_in (outcome a e p (sessions_of h)))
is_called h a p e fresh = grind (arith, fresh, Nothing, Opens, SetsUp, Shows, Closes, Drops, Places)

-- ---- lives
-- what no call changes but an opening: no session, or one that is over
abbrev pub IsOver : Option Lived → Type 0
IsOver None = ⊤
IsOver (Some lived) = lived.over ≡ true

module _ (peer : ℕ) (h : List Event) {life : Option Lived} (o : IsOver life) (is : life_of peer h ≡ life) where
  calls_keep : {e : TvEvent} {called : List Event} → (life ≡ None → IsOther peer e) → IsCalled h e called
      → life_of peer (called ++ h) ≡ life
  calls_keep other (Opens p k fresh) = grind (arith, nat_tests, is, fresh, other)
  calls_keep other (SetsUp p u player waiting) = grind (arith, o, is)
  calls_keep other (Shows s player) = grind (arith, o, is)
  calls_keep other (Closes p) = grind (arith, o, is)
  calls_keep other (Drops called) = calls_keep other called
  calls_keep other (Places p q before called) = calls_keep other called
  calls_keep other Nothing = is

pub event_keeps : (a : Addresses) (e : TvEvent) (es : List TvEvent) (peer : ℕ) {life : Option Lived} → IsOver life
    → IsFresh e (calls_of a es).sessions → (life ≡ None → IsOther peer e)
    → life_of peer (calls_of a es).sessions ≡ life → life_of peer (calls_of a (e ∷ es)).sessions ≡ life
event_keeps a e es peer o fresh other is =
    ap (λ h. life_of peer h) (sessions_after (outcome_after a es e) (calls_of a es))
    ∙ calls_keep peer (calls_of a es).sessions o is other (is_called _ a (player_after a es) e fresh)

-- ---- what outputs tell a peer
abbrev pub news_of : ℕ → List TvOut → List (List ℕ)
news_of peer os = said_to peer (filter_map said_by os)

news-of-outcome : (peer : ℕ) (r : Result Outcome TvFault) (kept : Kept)
    → news_of peer (outs_in kept r) ≡ said_to peer (said_after (called_in r) kept)
news-of-outcome peer (Err f) kept = refl
news-of-outcome peer (Ok o) kept = ap (said_to peer) (said_in o kept [])

-- ---- an event tells a session one text at most
abbrev Few : ℕ → List Said → Type 0
Few peer said = length (said_to peer said) ≤ 1

few-called : (peer : ℕ) {h : List Event} {e : TvEvent} {called : List Event} (k : Kept) → IsCalled h e called
    → Rising 0 k.list → Few peer (said_after called k)
few-called peer k (Opens p kind.Cii fresh) rising = grind arith
few-called peer k (SetsUp p u player waiting) rising = grind arith
few-called peer k (Shows state player) rising =
    let news = said_to-news (difference_text k.state state) player peer 0 k.list rising in grind (arith, news)
few-called peer k (Drops is) rising = subst (Few peer) (sym (append-nil _)) (few-called peer k is rising)
few-called peer k (Places p q before is) rising =
    subst (Few peer) (sym (append-nil _)) (few-called peer k is rising)
few-called peer k _ rising = omega arith

lawful-called : {h : List Event} {e : TvEvent} {called : List Event} → IsCalled h e called → IsLawful h
    → IsLawful (called ++ h)
lawful-called Nothing lawful = lawful
lawful-called (Opens peer kind fresh) lawful = (lawful, fresh)
lawful-called (SetsUp peer u p waiting) lawful = (lawful, waiting)
lawful-called (Drops is) lawful = (lawful-called is lawful, tt)
lawful-called (Places peer q before is) lawful = (lawful-called is lawful, tt)
lawful-called _ lawful = (lawful, tt)

-- ---- an event at a television
module _ (a : Addresses) (e : TvEvent) (es : List TvEvent) (lawful : IsLawful (calls_of a es).sessions)
    (fresh : IsFresh e (calls_of a es).sessions) where
  pub event-lawful : IsLawful (calls_of a (e ∷ es)).sessions
  event-lawful =
      subst IsLawful (sym (sessions_after (outcome_after a es e) (calls_of a es)))
      (lawful-called (is_called _ a (player_after a es) e fresh) lawful)

  pub event-texts : (peer : ℕ)
      → texts_after a peer (e ∷ es) ≡ reverse (news_of peer (outs_after a es e)) ++ texts_after a peer es
  event-texts peer =
      let h = (calls_of a es).sessions in
      let r = outcome_after a es e in
      ap (texts_of peer) (sessions_after r (calls_of a es))
      ∙ texts_all (called_in r) h (lawful-called (is_called h a (player_after a es) e fresh) lawful) peer
      ∙ ap (λ texts. reverse texts ++ texts_of peer h) (sym (news-of-outcome peer r (sessions_of h)))

  pub event-few : (peer : ℕ) → length (news_of peer (outs_after a es e)) ≤ 1
  event-few peer =
      let h = (calls_of a es).sessions in
      subst (λ (texts : List (List ℕ)). length texts ≤ 1)
      (sym (news-of-outcome peer (outcome_after a es e) (sessions_of h)))
      (few-called peer (sessions_of h) (is_called h a (player_after a es) e fresh) (is_kept h lawful).rising)

-- ---- lists
-- what adds nothing is nothing
adds_nothing : {X : Type 0} (xs ys : List X) → ys ≡ reverse xs ++ ys → xs ≡ []
adds_nothing [] ys e = refl
adds_nothing (x ∷ xs) ys e =
    let n = ap length e ∙ length-append (reverse (x ∷ xs)) ys in
    let m : length (reverse (x ∷ xs)) ≡ suc (length xs) = length-reverse (x ∷ xs) in
    absurd (omega (arith, n, m))

-- ---- what a session was told
abbrev gone_life : Life → Option Lived
gone_life life = Some (record { life = life; over = true })

-- A session with this life was sent all that it was to be told; or all but a text that is owed to it; or all but one
-- that was told as gone, and then it is over.
pub data Telling (life : Option Lived) (sent : List (List ℕ)) : (gone : Bool) → (news : List (List ℕ)) → Type 0 where
  Whole : texts_of_lived life ≡ sent → Telling life sent false []
  Owed : (text : List ℕ) → texts_of_lived life ≡ text ∷ sent → Telling life sent false (text ∷ [])
  Lost : (text : List ℕ) → texts_of_lived life ≡ text ∷ sent → (l : Life) → life ≡ gone_life l
      → Telling life sent true []

-- an event has this news for it
telling_on : {life : Option Lived} {sent : List (List ℕ)} {gone : Bool} (life' : Option Lived)
    (news : List (List ℕ)) → texts_of_lived life' ≡ reverse news ++ texts_of_lived life → length news ≤ 1
    → ((l : Life) → life ≡ gone_life l → life' ≡ gone_life l) → Telling life sent gone []
    → Telling life' sent gone news
telling_on life' [] texts few stays (Whole e) = Whole (texts ∙ e)
telling_on life' (text ∷ []) texts few stays (Whole e) = Owed text (texts ∙ ap (λ xs. text ∷ xs) e)
telling_on life' (text ∷ other ∷ news) texts few stays (Whole e) = absurd (omega (arith, few))
telling_on {life} {sent} life' news texts few stays (Lost text e l over) =
    let same : life' ≡ life = stays l over ∙ sym over in
    subst (Telling life' sent true)
    (sym (adds_nothing news (texts_of_lived life) (sym (ap texts_of_lived same) ∙ texts)))
    (Lost text (ap texts_of_lived same ∙ e) l (same ∙ over))

-- the text that is owed first is sent
owed_sent : {life : Option Lived} {sent : List (List ℕ)} {gone : Bool} {text : List ℕ} {news : List (List ℕ)}
    → Telling life sent gone (text ∷ news) → Telling life (text ∷ sent) gone news
owed_sent (Owed text e) = Whole e

-- or it is told as gone, and so the session closed
owed_gone : (life : Option Lived) {sent : List (List ℕ)} {gone : Bool} {text : List ℕ} {news : List (List ℕ)}
    → Telling life sent gone (text ∷ news) → Telling (option_map ended life) sent true news
owed_gone None (Owed text e) = absurd (cc)
owed_gone (Some l) (Owed text e) = Lost text e l.life refl

module _ {life : Option Lived} {sent : List (List ℕ)} {gone : Bool} (said : Said) (rest : List Said) where
  text_sent : (mine : Bool) → Telling life sent gone (map (λ s. s.text) (cond mine (said ∷ rest) rest))
      → Telling life (with_text (cond mine (Some said.text) None) sent) gone (map (λ s. s.text) rest)
  text_sent true t = owed_sent t
  text_sent false t = t

  text_gone : (mine : Bool) → Telling life sent gone (map (λ s. s.text) (cond mine (said ∷ rest) rest))
      → Telling (when mine (option_map ended) life) sent (mine || gone) (map (λ s. s.text) rest)
  text_gone true t = owed_gone life t
  text_gone false t = t

-- ---- what stands as the run goes on
-- how a peer's session stands after these events, with this news owed to it; and a new peer has none
pub record Stands (a : Addresses) (peer : ℕ) (sent : List (List ℕ)) (gone : Bool) (new : Type 0)
    (events : List TvEvent) (news : List (List ℕ)) : Type 0 where
  pub lawful : IsLawful (calls_of a events).sessions
  pub telling : Telling (life_of peer (calls_of a events).sessions) sent gone news
  pub unused : new → life_of peer (calls_of a events).sessions ≡ None

-- one event more, with nothing owed before it
stands_event : (a : Addresses) (peer : ℕ) (sent : List (List ℕ)) (gone : Bool) (old new : Type 0) (e : TvEvent)
    (es : List TvEvent) (owed : List TvOut)
    → Stands a peer sent gone old es (news_of peer owed) → owed ≡ [] → IsFresh e (calls_of a es).sessions
    → (new → old × IsOther peer e) → Stands a peer sent gone new (e ∷ es) (news_of peer (owed ++ outs_after a es e))
stands_event a peer sent gone old new e es owed s none fresh was =
    let now = outs_after a es e in
    subst (λ (os : List TvOut). Stands a peer sent gone new (e ∷ es) (news_of peer (os ++ now))) (sym none) (record {
      lawful = event-lawful a e es s.lawful fresh;
      telling = telling_on _ (news_of peer now) (event-texts a e es s.lawful fresh peer)
          (event-few a e es s.lawful fresh peer)
          (λ l over. event_keeps a e es peer {life = gone_life l} refl fresh (λ none. absurd (cc)) over)
          (subst (λ (os : List TvOut). Telling (life_of peer (calls_of a es).sessions) sent gone (news_of peer os)) none
          s.telling);
      unused = λ n. event_keeps a e es peer {life = None} tt fresh (λ none. (was n).1) (s.unused (was n).0);
    })

-- ---- what holds at each place
free_owes : (r : Option TvFault) (owed : List TvOut) → is_free_of r owed ≡ true → owed ≡ []
free_owes r owed e = grind (arith, e)

-- as the run goes on by no opening, with nothing sent to the session
module _ (a : Addresses) (peer : ℕ) (sent : List (List ℕ)) (gone : Bool) (new : Type 0) where
  abbrev At : Progress → Type 0
  At p = Stands a peer sent gone new p.events (news_of peer p.owed)

  kept_if : (left : List ScriptLine) (p : Progress) (o : Option TvEvent) → IfSome o IsNoOpening → p.owed ≡ [] → At p
      → At (played_if a left p o)
  kept_if left p None n none s = s
  kept_if left p (Some e) n none s = by (outcome_after a p.events e) where
    by : (r : Result Outcome TvFault) → At (played a e left p r)
    by (Err f) = s
    by (Ok o) = stands_event a peer sent gone new new e p.events p.owed s none (is_fresh e n _)
        (λ below. (below, is_other peer e n))

  kept_carry : (from reading : ℕ) (lines : List ScriptLine) (p : Progress) → At p
      → At (carry a from reading lines p)
  kept_carry from reading [] p s = s
  kept_carry from reading (line ∷ left) p s =
      cond_both (is_free p && is_due from reading line) (carry a from reading left (with_line a reading line left p)) p At
      (λ e. kept_carry from reading left (with_line a reading line left p)
      (kept_if left p (event_of reading line.verb) (opens_none reading line.verb)
      (free_owes p.refused p.owed (and_parts _ _ e).0) s))
      (λ e. s)

  kept_settled : (p : Progress) → At p → At (settled a p)
  kept_settled p s = by p.place where
    by : (place : Place) → At (settled_at a place p)
    by (Turned reading) = kept_carry (since p.turns) reading p.lines p s
    by _ = s

  -- a reading for a request and one for its answer
  kept_clock : (w : Why) (reading : ℕ) (p : Progress) → At p → At (after a (Clock w reading) p)
  kept_clock why.Turn reading p s = kept_settled (record p { turns = begun reading p.turns; place = Turned reading }) s
  kept_clock w reading p s = grind (arith, s)

-- ---- what is owed
-- this text is owed first
abbrev pub Owes : List TvOut → ℕ → List ℕ → Type 0
Owes owed peer text = owed ≡ out.Say peer text ∷ without_first owed

-- no text is
abbrev pub IsSilent : List TvOut → Type 0
IsSilent (out.Say peer text ∷ owed) = ⊥
IsSilent _ = ⊤

-- what is owed where this is due
abbrev pub Fits : List TvOut → Due → Type 0
Fits owed (SendText peer text) = Owes owed peer text
Fits owed (HangUp peer) = IsSilent owed
Fits owed (Ends driven.Done) = owed ≡ []
Fits owed (Ends ended) = ⊤
Fits owed _ = owed ≡ []

fits_hang_up : (live : List ℕ) → Fits [] (from_hang_ups live)
fits_hang_up live = grind arith

fits_text : (turns : Turns) (live peers : List ℕ) → Fits [] (from_texts turns live peers)
fits_text turns live peers = grind arith

fits_at : (run : TvRun) (live : List ℕ) (turns : Turns) (place : Place) → Fits [] (due_at run live turns place)
fits_at run live turns (Asked last) = fits_text turns live (above last live)
fits_at run live turns (Over last) = fits_hang_up (above (Some last) live)
fits_at run live turns _ = grind arith

fits_due : (carried : ℕ) (refused : Option TvFault) (owed : List TvOut) (rest : Due) → Fits [] rest
    → Fits owed (unless_refused carried refused (unless_owed owed rest))
fits_due carried refused owed rest fits = grind (arith, fits)

pub fits : (run : TvRun) (p : Progress) → Fits p.owed (due_for run p)
fits run p = fits_due p.carried p.refused p.owed _ (fits_at run _ p.turns p.place)

-- what is owed where an entry comes
abbrev pub Follows : List TvOut → Entry → Type 0
Follows owed (Wrote peer text) = Owes owed peer text
Follows owed (Gone peer) = (text : List ℕ) × Owes owed peer text
Follows owed (HungUp peer) = IsSilent owed
Follows owed _ = owed ≡ []

abbrev pub Followed : TvRun → History → Type 0
Followed run h = Each (λ entry older. Follows (progress_of run older).owed entry) h

added : (run : TvRun) (older : History) → Followed run older → (d : Due) → Fits (progress_of run older).owed d
    → (call : History) → MayAdd d call → Followed run (call ++ older)
added run older each d fits call may = grind (arith, each, fits, may)

pub followed : (run : TvRun) (h : History) → IsProper (due run) h → Followed run h
followed run [] Empty = tt
followed run h (More {older} call may proper) =
    added run older (followed run older proper) (due run older) (fits run (progress_of run older)) call may

-- ---- a call
abbrev pub Good : TvRun → ℕ → History → Type 0
Good run peer h = let p = progress_of run h in
    Stands (addresses_in run.config) peer (sent_to peer h) (is_gone peer h) (AreBelow peer h) p.events
    (news_of peer p.owed)

module _ (run : TvRun) (older : History) (good : (other : ℕ) → Good run other older) (peer : ℕ) where
  abbrev before : Progress
  before = progress_of run older

  event_good : (e : TvEvent) → IsFresh e (calls_of (addresses_in run.config) before.events).sessions
      → before.owed ≡ [] → (new : Type 0) → (new → AreBelow peer older × IsOther peer e)
      → let p = happened (addresses_in run.config) e before in
      Stands (addresses_in run.config) peer (sent_to peer older) (is_gone peer older) new p.events (news_of peer p.owed)
  event_good e fresh none new was =
      stands_event (addresses_in run.config) peer (sent_to peer older) (is_gone peer older) _ new e before.events
      before.owed (good peer) none fresh was

  other_than : (p : ℕ) → (p < peer) × AreBelow peer older → AreBelow peer older × (eqb p peer ≡ false)
  other_than p below = (below.1, let lt = below.0 in grind (arith, nat_tests))

  -- what the session is owed, where a text is owed first
  owing : (p : ℕ) (text : List ℕ) → Owes before.owed p text
      → Telling (life_of peer (calls_of (addresses_in run.config) before.events).sessions) (sent_to peer older)
      (is_gone peer older) (news_of peer (out.Say p text ∷ without_first before.owed))
  owing p text owes =
      subst (λ (os : List TvOut). Telling (life_of peer (calls_of (addresses_in run.config) before.events).sessions)
      (sent_to peer older) (is_gone peer older) (news_of peer os)) owes (good peer).telling

  -- a session is hung up, which tells it nothing
  hung : (p : ℕ) (owed : List TvOut) → before.owed ≡ owed → IsSilent owed → let q = hung_up p owed before in
      Stands (addresses_in run.config) peer (sent_to peer older) (is_gone peer older) (AreBelow peer older) q.events
      (news_of peer q.owed)
  hung p owed is silent = let was = good peer in grind (arith, is, silent, was)

  entry_good : (entry : Entry) → Follows before.owed entry → AreNumbered (entry ∷ older)
      → Good run peer (entry ∷ older)
  entry_good (Clock w reading) none numbered = kept_clock _ peer _ _ _ w reading before (good peer)
  entry_good (Accepted p peer_kind.Wc) none numbered = record {
    lawful = (good peer).lawful;
    telling = (good peer).telling;
    unused = λ below. (good peer).unused below.1;
  }
  entry_good (Accepted p peer_kind.Cii) none numbered =
      event_good (event.Opened p kind.Cii) ((good p).unused numbered.0) none _ (other_than p)
  entry_good (Accepted p peer_kind.Ts) none numbered =
      event_good (event.Opened p kind.Ts) ((good p).unused numbered.0) none _ (other_than p)
  entry_good (Heard p text) none numbered = event_good (event.Heard p text) tt none _ (λ below. (below, tt))
  entry_good (ClosedEntry p) none numbered = event_good (event.Closed p) tt none _ (λ below. (below, tt))
  entry_good (Wrote p text) owes numbered =
      kept_settled _ peer (sent_to peer (Wrote p text ∷ older)) (is_gone peer older) _ (one_done before) (record {
        lawful = (good peer).lawful;
        telling = text_sent _ _ (eqb p peer) (owing p text owes);
        unused = (good peer).unused;
      })
  entry_good (Gone p) owes numbered =
      let a = addresses_in run.config in
      kept_settled a peer (sent_to peer older) (is_gone peer (Gone p ∷ older)) _
      (happened a (event.Closed p) (one_done before))
      (subst (λ (os : List TvOut). Stands a peer (sent_to peer older) (is_gone peer (Gone p ∷ older))
      (AreBelow peer older) (event.Closed p ∷ before.events) (news_of peer os))
      (sym (append-nil (without_first before.owed))) (record {
        lawful = ((good peer).lawful, tt);
        telling = text_gone _ _ (eqb p peer) (owing p owes.0 owes.1);
        unused = λ below. event_keeps a (event.Closed p) before.events peer {life = None} tt tt (λ none. tt)
            ((good peer).unused below);
      }))
  entry_good (HungUp p) silent numbered =
      kept_settled _ peer _ _ _ (hung_up p before.owed before) (hung p before.owed refl silent)
  entry_good _ none numbered = good peer

-- ---- the run
pub numbered_rest : (entry : Entry) (older : History) → AreNumbered (entry ∷ older) → AreNumbered older
numbered_rest entry older numbered = grind (arith, numbered)

pub all_good : (run : TvRun) (h : History) → Followed run h → AreNumbered h → (peer : ℕ) → Good run peer h
all_good run [] each numbered peer = record { lawful = (tt, tt); telling = Whole refl; unused = λ below. refl }
all_good run (entry ∷ older) each numbered peer =
    entry_good run older (all_good run older each.1 (numbered_rest entry older numbered)) peer entry each.0
    numbered

-- what is unsent
unsent_of : {life : Option Lived} {sent : List (List ℕ)} {gone : Bool} {news : List (List ℕ)}
    → Telling life sent gone news
    → (unsent : List (List ℕ)) × (texts_of_lived life ≡ unsent ++ sent) × (news ≡ [] → length unsent ≤ lost gone)
unsent_of (Whole e) = ([], e, λ none. omega arith)
unsent_of (Owed text e) = (text ∷ [], e, λ none. absurd (cc))
unsent_of (Lost text e l over) = (text ∷ [], e, λ none. omega arith)

pub sessions_are_told : SessionsAreTold
sessions_are_told run h proper numbered peer =
    let u = unsent_of (all_good run h (followed run h proper) numbered peer).telling in
    let p = progress_of run h in
    record {
      unsent = u.0;
      first = u.1;
      whole = λ none. u.2 (ap (news_of peer) none);
      done = λ e. u.2 (ap (news_of peer) (subst (λ (d : Due). Fits p.owed d) e (fits run p)));
    }
