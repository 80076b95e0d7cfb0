-- The television knows nothing of a session that its companion never opened.
use Rattle.std.proofs.Common.{◌≡◌, ℕ, ap, ◌∙◌, Bool, false, cond, ◌==◌, List, [], ◌∷◌, ◌++◌, arith, option_to_list}
use Rattle.std.specs.Prelude.{⊤, Option, Some, None, option_map, Result, Ok, Err, IfOk, IfSome}
use Rattle.css_player.specs.Events.{player_of}
use Rattle.css_num.specs.declared.protocol.Kind.TheVariants as kind
use Rattle.css_sessions.specs.declared.session.Talk.TheVariants as talk
use Rattle.css_sessions.specs.Offsets.{control_for}
use Rattle.css_sessions.specs.Kept.{Event as SessionsCall, Opened, SetUp, Published, Closed, Presented, Dropped, Kept}
use Rattle.css_sessions.specs.Kept.{talk_of, begun, renewed_talk, windowed_talk, by_presentation as windowing}
use Rattle.css_sessions.specs.Kept.{no_window}
use Rattle.css_sessions.specs.Told.{life_of, sessions_of}
use Rattle.css_sessions.proofs.Talks.{talk_of-with_session, talk_of-with_talk, talk_of-renewed, talk_of-mapped}
use Rattle.css_sessions.proofs.Talks.{talk_of-windowed_at, talk_of-without}
use Rattle.css_tv.specs.Outcomes.{Outcome, outcome}
use Rattle.css_tv.specs.declared.event.TvEvent.TheVariants as event
use Rattle.css_meaning.specs.Sessions.{addresses, peer_of, was_opened}
use Rattle.css_meaning.specs.Happened.{event_by, done_by}
use Rattle.css_meaning.proofs.Names.{Message, History, Player, Kind, Calls, calls_of, with_outcome, TvEvent, TvFault}
use Rattle.css_meaning.proofs.Names.{Addresses, Header, Verb}
use Rattle.css_meaning.proofs.Ends.{events_with}

-- ---- one call
-- Nothing is known of a peer's session: it has neither a life nor a talk.
pub record IsUnknown (peer : ℕ) (calls : List SessionsCall) : Type 0 where
  pub life : life_of peer calls ≡ None
  pub talk : talk_of peer (sessions_of calls).list ≡ None

-- whether a call opens a session of a peer
abbrev pub opens : ℕ → SessionsCall → Bool
opens peer (Opened p kind) = p == peer
opens peer _ = false

-- of what isn't there nothing is made
none_mapped : {T : Type 0} (b : Bool) (f : T → T) (o : Option T) → o ≡ None → cond b (option_map f o) o ≡ None
none_mapped b f o is = grind (arith, is)

-- and it can't be taken out
none_without : {T : Type 0} (b : Bool) (o : Option T) → o ≡ None → cond b None o ≡ None
none_without b o is = grind (arith, is)

-- a call that doesn't open its session leaves a peer without a life
unknown_life : (peer : ℕ) (call : SessionsCall) (h : List SessionsCall) → opens peer call ≡ false
    → life_of peer h ≡ None → life_of peer (call ∷ h) ≡ None
unknown_life peer call h other is = grind (arith, other, is)

-- and without a talk
unknown_talk : (peer : ℕ) (call : SessionsCall) (h : List SessionsCall) → opens peer call ≡ false
    → talk_of peer (sessions_of h).list ≡ None → talk_of peer (sessions_of (call ∷ h)).list ≡ None
unknown_talk peer (Opened p k) h other is =
    talk_of-with_session (record { peer = p; talk = begun k }) (sessions_of h).list peer
    ∙ ap (λ b. cond b (Some (begun k)) (talk_of peer (sessions_of h).list)) other ∙ is
unknown_talk peer (SetUp p u player) h other is =
    let t = talk.Ts u (control_for u player) None in
    talk_of-with_talk p t (sessions_of h).list peer
    ∙ none_mapped (p == peer) (λ _. t) (talk_of peer (sessions_of h).list) is
unknown_talk peer (Published state player) h other is =
    talk_of-renewed player (sessions_of h).list peer ∙ ap (option_map (renewed_talk player)) is
unknown_talk peer (Presented p q player) h other is =
    let f = windowing q player in
    talk_of-windowed_at p f (sessions_of h).list peer
    ∙ none_mapped (p == peer) (windowed_talk f) (talk_of peer (sessions_of h).list) is
unknown_talk peer Dropped h other is =
    talk_of-mapped (windowed_talk no_window) (sessions_of h).list peer
    ∙ ap (option_map (windowed_talk no_window)) is
unknown_talk peer (Closed p) h other is =
    talk_of-without p (sessions_of h).list peer
    ∙ none_without (p == peer) (talk_of peer (sessions_of h).list) is

-- so it leaves it unknown
unknown_call : (peer : ℕ) (call : SessionsCall) (h : List SessionsCall) → opens peer call ≡ false → IsUnknown peer h
    → IsUnknown peer (call ∷ h)
unknown_call peer call h other is =
    record { life = unknown_life peer call h other is.life; talk = unknown_talk peer call h other is.talk }

-- ---- one event
-- none of these calls opens a session of a peer
abbrev pub NoneOpens : ℕ → List SessionsCall → Type 0
NoneOpens peer [] = ⊤
NoneOpens peer (call ∷ calls) = (opens peer call ≡ false) × NoneOpens peer calls

-- so they leave a peer unknown
unknown_calls : (peer : ℕ) (calls h : List SessionsCall) → NoneOpens peer calls → IsUnknown peer h
    → IsUnknown peer (calls ++ h)
unknown_calls peer [] h none is = is
unknown_calls peer (call ∷ calls) h none is =
    unknown_call peer call (calls ++ h) none.0 (unknown_calls peer calls h none.1 is)

-- whether an event opens a session of a peer
abbrev pub opens_at : ℕ → TvEvent → Bool
opens_at peer (event.Opened p kind) = p == peer
opens_at peer _ = false

-- no call of these outcomes opens a session of the peer
abbrev NoneOpensBy : ℕ → Result Outcome TvFault → Type 0
NoneOpensBy peer r = IfOk r (λ o. NoneOpens peer o.called)

-- an event that opens no session of a peer has no call that does
none_opens : (peer : ℕ) (a : Addresses) (e : TvEvent) (player : Player) (k : Kept) → opens_at peer e ≡ false
    → NoneOpensBy peer (outcome a e player k)
none_opens peer a e player k other = grind (arith, other)

-- an outcome that opens no session of it leaves a peer unknown
unknown_outcome : (peer : ℕ) (r : Result Outcome TvFault) (calls : Calls) → NoneOpensBy peer r
    → IsUnknown peer calls.sessions → IsUnknown peer (with_outcome r calls).sessions
unknown_outcome peer (Err fault) calls none is = is
unknown_outcome peer (Ok o) calls none is = unknown_calls peer o.called calls.sessions none is

-- so does an event that opens none
pub unknown_event : (peer : ℕ) (a : Addresses) (e : TvEvent) (events : List TvEvent) → opens_at peer e ≡ false
    → IsUnknown peer (calls_of a events).sessions → IsUnknown peer (calls_of a (e ∷ events)).sessions
unknown_event peer a e events other is =
    let calls = calls_of a events in
    let player = player_of calls.player in
    let k = sessions_of calls.sessions in
    unknown_outcome peer (outcome a e player k) calls (none_opens peer a e player k other) is

-- so does one that may be, and opens none
pub unknown_by : (peer : ℕ) (o : Option TvEvent) (events : List TvEvent) → IfSome o (λ e. opens_at peer e ≡ false)
    → IsUnknown peer (calls_of addresses events).sessions
    → IsUnknown peer (calls_of addresses (option_to_list o ++ events)).sessions
unknown_by peer None events other is = is
unknown_by peer (Some e) events other is = unknown_event peer addresses e events other is

-- ---- all verbs
-- a session of companion `who` that was never opened is unknown
abbrev pub IsNeverOpened : ℕ → Kind → List TvEvent → History → Type 0
IsNeverOpened who k events own =
    was_opened (peer_of who k) own ≡ false → IsUnknown (peer_of who k) (calls_of addresses events).sessions

-- what was never opened after a verb was never opened before it
never_before : (header : Header) (who : ℕ) (peer : ℕ) (made : List Message) (v : Verb) (events : List TvEvent)
    (own : History) → was_opened peer (done_by header who made events v own) ≡ false → was_opened peer own ≡ false
never_before header who peer made v events own never = grind (arith, never)

-- and is not opened by it
never_opens : (header : Header) (who : ℕ) (peer : ℕ) (made : List Message) (v : Verb) (events : List TvEvent)
    (own : History) → was_opened peer (done_by header who made events v own) ≡ false
    → IfSome (event_by who events own v) (λ e. opens_at peer e ≡ false)
never_opens header who peer made v events own never = grind (arith, never)

-- so each verb of companion `who` keeps what was never opened unknown
pub stays_unknown : (header : Header) (who : ℕ) (k : Kind) (made : List Message) (v : Verb) (events : List TvEvent)
    (own : History) → IsNeverOpened who k events own
    → IsNeverOpened who k (events_with who events own v) (done_by header who made events v own)
stays_unknown header who k made v events own before = λ never.
    unknown_by (peer_of who k) (event_by who events own v) events
    (never_opens header who (peer_of who k) made v events own never)
    (before (never_before header who (peer_of who k) made v events own never))
