-- What happens at the television comes of its own companion, at each line: both ends go on from line to line.
use Rattle.std.proofs.Common.{◌≡◌, ◌≢◌, ℕ, ◌*◌, ◌≤◌, refl, arith, true, false, inl, inr, ne_eqb, List, [], ◌∷◌, ◌++◌}
use Rattle.std.proofs.Common.{length, Option, Some, None, IfSome, ◌==◌, option_to_list, option_map}
use Rattle.css_num.specs.declared.protocol.Kind.TheVariants as kind
use Rattle.css_sessions.specs.Kept.{talk_of}
use Rattle.css_sessions.specs.Told.{life_of, sessions_of}
use Rattle.css_tv.specs.declared.event.TvEvent.TheVariants as event
use Rattle.css_schedule.specs.declared.line.Verb.TheVariants as verb
use Rattle.css_meaning.specs.Sessions.{addresses, peer_of, was_opened, next_up}
use Rattle.css_meaning.specs.Happened.{Numbered, datagrams, event_by, done_by, events_of, history_of}
use Rattle.css_meaning.specs.Verdicts.{can_talk}
use Rattle.css_meaning.specs.Accepted.{AreAccepted}
use Rattle.css_meaning.proofs.Names.{eqb_tells, Message, is_own, History, Kind, calls_of, TvEvent, Header, Verb, IsVerb}
use Rattle.css_meaning.proofs.Ends.{events_with, events_now, history_now, history_other, can_talk_now}
use Rattle.css_meaning.proofs.Opening.{IsNeverOpened, opens_at, stays_unknown, unknown_by}
use Rattle.css_meaning.proofs.Entries.{concerns}
use Rattle.css_meaning.proofs.Peers.{others-peer, peers-few}
use Rattle.css_meaning.proofs.Staging.{IsSound, staged_start, addresses_wc, addresses_ts, IsStaging, AreBelow}
use Rattle.css_meaning.proofs.Staging.{AreStaging, staging_of_one, sound_by, staged_by}

-- ---- events of others
-- whatever text comes, its event is of its own peer
text_apart : (peer other : ℕ) (text : Option (List ℕ)) → (other == peer) ≡ false
    → IfSome (option_map (event.Heard other) text) (λ e. concerns peer e ≡ false)
text_apart peer other text differs = grind (arith, differs)

-- the event of a verb, if there is one, is of no other peer than its companion's
pub apart_by : (peer who : ℕ) (v : Verb) (events : List TvEvent) (own : History)
    → (is_own v ≡ true → (k : Kind) → (peer_of who k == peer) ≡ false)
    → IfSome (event_by who events own v) (λ e. concerns peer e ≡ false)
apart_by peer who (verb.Opening k) events own differs = differs refl k
apart_by peer who verb.Up events own differs =
    text_apart peer (peer_of who kind.Ts) (next_up who events own) (differs refl kind.Ts)
apart_by peer who (verb.Close k) events own differs = differs refl k
apart_by peer who (verb.Programme content_id) events own differs = refl
apart_by peer who (verb.Timeline n selector rate base) events own differs = refl
apart_by peer who (verb.Viewer reading command) events own differs = refl
apart_by peer who _ events own differs = tt

-- so it opens no session of it
opens_apart : (peer : ℕ) (o : Option TvEvent) → IfSome o (λ e. concerns peer e ≡ false)
    → IfSome o (λ e. opens_at peer e ≡ false)
opens_apart peer o other = grind (arith, other)

-- ---- all lines
-- before all lines
staging_start : (count : ℕ) → AreStaging count [] (λ who. [])
staging_start count = record {
  staged = staged_start addresses addresses_wc addresses_ts;
  unknown = λ who first k never. record { life = refl; talk = refl };
  below = λ peer above. record { life = refl; talk = refl };
}

-- so it is of one companion
pub one_staged : (who : ℕ) → IsStaging who [] []
one_staged who = record {
  staged = staged_start addresses addresses_wc addresses_ts;
  unknown = λ k never. record { life = refl; talk = refl };
}

-- the event of an accepted line is sound
pub sound_now : (header : Header) (now : Numbered) (older : List Numbered) → AreAccepted header (now ∷ older)
    → AreStaging (length header.companions) (events_of header older) (λ who. history_of who header older)
    → IfSome (event_by now.line.who (events_of header older) (history_of now.line.who header older) now.line.verb)
    (λ e. IsSound e (calls_of addresses (events_of header older)).sessions)
sound_now header now older accepted before =
    sound_by now.line.who now.line.verb (events_of header older) (history_of now.line.who header older)
    accepted.0.verb (can_talk_now header now older now.line.who refl accepted)
    (λ own. before.unknown now.line.who (accepted.1.own own))

-- it is of no other companion
apart_now : (header : Header) (now : Numbered) (older : List Numbered) (who : ℕ) (k : Kind)
    → AreAccepted header (now ∷ older) → 1 ≤ who → now.line.who ≢ who
    → IfSome (event_by now.line.who (events_of header older) (history_of now.line.who header older) now.line.verb)
    (λ e. concerns (peer_of who k) e ≡ false)
apart_now header now older who k accepted first differs =
    apart_by (peer_of who k) now.line.who now.line.verb (events_of header older)
    (history_of now.line.who header older)
    (λ own j. others-peer who now.line.who j k first (accepted.1.own own) differs)

-- a peer above those of all companions stays unknown
below_now : (header : Header) (now : Numbered) (older : List Numbered) → AreAccepted header (now ∷ older)
    → AreBelow (2 * length header.companions) (events_of header older)
    → AreBelow (2 * length header.companions) (events_of header (now ∷ older))
below_now header now older accepted below peer above =
    let who = now.line.who in
    let events = events_of header older in
    let own = history_of who header older in
    let event = event_by who events own now.line.verb in
    unknown_by peer event events (opens_apart peer event (apart_by peer who now.line.verb events own (λ is k.
    let low = peers-few who (length header.companions) k (accepted.1.own is) accepted.1.who in
    ne_eqb (peer_of who k) peer (λ same. absurd (omega (arith, same, low, above)))))) (below peer above)

-- what a companion never opened stays unknown
unknown_now : (header : Header) (now : Numbered) (older : List Numbered) (who : ℕ) (k : Kind)
    → AreAccepted header (now ∷ older) → 1 ≤ who
    → IsNeverOpened who k (events_of header older) (history_of who header older)
    → IsNeverOpened who k (events_of header (now ∷ older)) (history_of who header (now ∷ older))
unknown_now header now older who k accepted first before = elim (eqb_tells now.line.who who) [
  | inl same ↦
      let events = events_of header older in
      let own = history_of who header older in
      let made = datagrams header older in
      let v = now.line.verb in
      let can = can_talk_now header now older who same.1 accepted in
      let next = stays_unknown header who k made v events own before in
      rw (history_now header now older who same.1) (rw (events_now header now older who same.1) next)
  | inr differs ↦
      rw (history_other header now older who differs.1) (let event = event_by now.line.who (events_of header older)
      (history_of now.line.who header older) now.line.verb in λ never. unknown_by (peer_of who k) event
      (events_of header older) (opens_apart (peer_of who k) event (apart_now header now older who k accepted first
      differs.1)) (before never))
]

-- after accepted lines the television is staged
pub staging : (header : Header) (lines : List Numbered) → AreAccepted header lines
    → AreStaging (length header.companions) (events_of header lines) (λ who. history_of who header lines)
staging header [] accepted = staging_start (length header.companions)
staging header (now ∷ older) accepted =
    let before = staging header older accepted.4 in
    let who = now.line.who in
    let event = event_by who (events_of header older) (history_of who header older) now.line.verb in
    record {
      staged = staged_by event (events_of header older) before.staged (sound_now header now older accepted before);
      unknown = λ who first k. unknown_now header now older who k accepted first (before.unknown who first k);
      below = below_now header now older accepted before.below;
    }

-- a session that its companion never opened has no life
pub never_opened : (header : Header) (lines : List Numbered) (who : ℕ) (k : Kind) → 1 ≤ who → AreAccepted header lines
    → was_opened (peer_of who k) (history_of who header lines) ≡ false
    → life_of (peer_of who k) (calls_of addresses (events_of header lines)).sessions ≡ None
never_opened header lines who k first accepted never = ((staging header lines accepted).unknown who first k never).life

-- and no talk
pub no_talk : (header : Header) (lines : List Numbered) (who : ℕ) (k : Kind) → 1 ≤ who → AreAccepted header lines
    → was_opened (peer_of who k) (history_of who header lines) ≡ false
    → talk_of (peer_of who k) (sessions_of (calls_of addresses (events_of header lines)).sessions).list ≡ None
no_talk header lines who k first accepted never = ((staging header lines accepted).unknown who first k never).talk

-- ---- what holds of both ends
-- what each verb of companion `who` keeps that can happen, where the television is staged before it and after it
abbrev pub IsKeptBy : Header → ℕ → (List TvEvent → History → Type 0) → Type 0
IsKeptBy header who P = (made : List Message) (v : Verb) (events : List TvEvent) (own : History)
    → IsVerb v → can_talk who events own v ≡ true → AreBelow (2 * length header.companions) events
    → IsStaging who events own → IsStaging who (events_with who events own v) (done_by header who made events v own)
    → P events own → P (events_with who events own v) (done_by header who made events v own)

-- what each event that isn't of companion `who` keeps
abbrev pub IsKeptApart : ℕ → (List TvEvent → History → Type 0) → Type 0
IsKeptApart who P = (e : TvEvent) (events : List TvEvent) (own : History)
    → ((k : Kind) → concerns (peer_of who k) e ≡ false) → IsSound e (calls_of addresses events).sessions
    → IsStaging who events own → IsStaging who (e ∷ events) own → P events own → P (e ∷ events) own

-- so it is kept where there may be an event
apart_kept : (who : ℕ) (P : List TvEvent → History → Type 0) (o : Option TvEvent) (events : List TvEvent)
    (own : History) → IsKeptApart who P → ((k : Kind) → IfSome o (λ e. concerns (peer_of who k) e ≡ false))
    → IfSome o (λ e. IsSound e (calls_of addresses events).sessions)
    → IsStaging who events own → IsStaging who (option_to_list o ++ events) own → P events own
    → P (option_to_list o ++ events) own
apart_kept who P None events own kept other sound before after p = p
apart_kept who P (Some e) events own kept other sound before after p = kept e events own other sound before after p

-- What holds at the start of companion `who`, and is kept by its own verbs and by the events of others, holds after
-- accepted lines.
pub each_end : (header : Header) (who : ℕ) (P : List TvEvent → History → Type 0) → 1 ≤ who → P [] []
    → IsKeptBy header who P → IsKeptApart who P
    → (lines : List Numbered) → AreAccepted header lines → P (events_of header lines) (history_of who header lines)
each_end header who P first start kept apart [] accepted = start
each_end header who P first start kept apart (now ∷ older) accepted =
    let count = length header.companions in
    let events = events_of header older in
    let own = history_of who header older in
    let made = datagrams header older in
    let v = now.line.verb in
    let all = staging header older accepted.4 in
    let before : IsStaging who events own =
    staging_of_one count who events (λ n. history_of n header older) first all in
    let after : IsStaging who (events_of header (now ∷ older)) (history_of who header (now ∷ older)) =
    staging_of_one count who (events_of header (now ∷ older)) (λ n. history_of n header (now ∷ older)) first
    (staging header (now ∷ older) accepted) in
    let p = each_end header who P first start kept apart older accepted.4 in
    elim (eqb_tells now.line.who who) [
      | inl same ↦
          let can = can_talk_now header now older who same.1 accepted in
          let es = events_now header now older who same.1 in
          let h = history_now header now older who same.1 in
          let done = done_by header who made events v own in
          let staged : IsStaging who (events_with who events own v) done = rw es at (rw h at after) in
          rw h (rw es (kept made v events own accepted.0.verb can all.below before staged p))
      | inr differs ↦
          let h = history_other header now older who differs.1 in
          let event = event_by now.line.who events (history_of now.line.who header older) v in
          let staged : IsStaging who (events_of header (now ∷ older)) own = rw h at after in
          rw h (apart_kept who P event events own apart (λ k. apart_now header now older who k accepted first differs.1)
          (sound_now header now older accepted all) before staged p)
    ]
