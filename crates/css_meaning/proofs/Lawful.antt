-- What a companion did at accepted lines is lawful, and can happen in the world of the lines.
use Rattle.std.proofs.Common.{◌≡◌, ℕ, ◌+◌, ◌-◌, ◌/◌, ◌%◌, ◌^◌, ◌<◌, ◌≤◌, arith, rules, ap, sym, subst, ◌∙◌, refl, cond}
use Rattle.std.proofs.Common.{◌==◌, Bool, true, false, List, [], ◌∷◌, inl, inr}
use Rattle.std.specs.Prelude.{◌&&◌, ◌||◌, Option, Some, None, IfSome, is_none, Result, Ok}
use Rattle.std.specs.Option.{option_map, option_and_then}
use Rattle.css_model.specs.declared.Why.TheVariants as why
use Rattle.css_model.specs.Wire.{encoded, decoded, request_at}
use Rattle.css_model.specs.History.{Closed}
use Rattle.css_model.specs.Explains.{IsLawful, IsJustAsked, RisesAt, AsksAt}
use Rattle.css_wc.proofs.Codec.{decoded-encoded}
use Rattle.css_num.specs.declared.protocol.Kind.TheVariants as kind
use Rattle.css_meaning.specs.Sessions.{peer_of, next_down}
use Rattle.css_meaning.specs.Happened.{Numbered, datagrams, done_by, hearing, events_of, history_of, peer, bytes_of}
use Rattle.css_meaning.specs.Numbering.{numbered}
use Rattle.css_meaning.specs.declared.fault.WorldFault.{WorldFault}
use Rattle.css_meaning.specs.declared.reading.Reading.{Reading}
use Rattle.css_meaning.specs.Clocks.{last_reading, has_woken, least_next, near_verdict, order_verdict, reading_verdict}
use Rattle.css_meaning.specs.Verdicts.{tv_reading, own_reading, own_seen, seen_of_tv, seen_of, local_of, tested}
use Rattle.css_meaning.specs.Worlds.{sleeps_of}
use Rattle.css_meaning.specs.Accepted.{AreAccepted}
use Rattle.css_meaning.proofs.Names.{option_or, result_ok, eqb_tells, LIMIT, Message, WcFault, precision_ns, Entry}
use Rattle.css_meaning.proofs.Names.{History, Clock, Sent, Took, Slept, Dialled, Heard, Wrote, Each, Once, asking_at}
use Rattle.css_meaning.proofs.Names.{sleeps, Header, Verb, Ask, Land, Wall, Print, Opening, Bring, Present, Close}
use Rattle.css_meaning.proofs.Names.{Sleep, is_sleep, TvEvent, IsVerb}
use Rattle.css_meaning.proofs.Ends.{history_now, history_other}
use Rattle.css_meaning.proofs.Worlds.{second_ok, tested_ok, reading-ok, seen_own, seen_other, sleeps_woke, sleeps_awake}
use Rattle.css_meaning.proofs.Worlds.{sleeps_other}

-- ---- one line's entries
-- what companion `who` did at a line of its own after these
abbrev pub done_at : Header → List Numbered → ℕ → Verb → History
done_at header older who verb =
    done_by header who (datagrams header older) (events_of header older) verb (history_of who header older)

-- ---- the entries of a verb
-- an entry of a session, or a sleep
abbrev pub IsTalk : Entry → Type 0
IsTalk (Dialled kind to) = Unit {0}
IsTalk (Heard from bytes) = Unit {0}
IsTalk (Wrote to bytes) = Unit {0}
IsTalk (Closed of) = Unit {0}
IsTalk Slept = Unit {0}
IsTalk _ = ⊥

-- what holds of each other entry that a verb adds
abbrev pub Adds : (Entry → History → Type 0) → List Message → Verb → History → Type 0
Adds P made (Ask reading) older =
    P (Sent peer (encoded (request_at reading))) (Clock why.Ask reading ∷ older) × P (Clock why.Ask reading) older
Adds P made (Land number reading) older =
    P (Clock why.Land reading) (Took peer (bytes_of (numbered number made)) ∷ older)
    × P (Took peer (bytes_of (numbered number made))) older
Adds P made (Wall reading) older = P (Clock why.Turn reading) older
Adds P made (Print reading) older = P (Clock why.Turn reading) older
Adds P made _ older = Unit {0}

-- What holds of these, and of each entry of a session, holds of each entry after the verb.
each_by : (P : Entry → History → Type 0) (header : Header) (who : ℕ) (made : List Message) (events : List TvEvent)
    (verb : Verb) (older : History) → ((entry : Entry) (before : History) → IsTalk entry → P entry before)
    → Adds P made verb older → Each P older → Each P (done_by header who made events verb older)
each_by P header who made events verb older talk adds each = grind (arith, talk, adds, each)

-- So it holds of each entry of companion `who`, where `Known` is what is known of lines.
pub each_line : (header : Header) (who : ℕ) (P : Entry → History → Type 0) (Known : List Numbered → Type 0)
    → ((entry : Entry) (before : History) → IsTalk entry → P entry before)
    → ((now : Numbered) (older : List Numbered) → Known (now ∷ older) → Known older)
    → ((now : Numbered) (older : List Numbered) → now.line.who ≡ who → Known (now ∷ older)
    → Adds P (datagrams header older) now.line.verb (history_of who header older))
    → (lines : List Numbered) → Known lines → Each P (history_of who header lines)
each_line header who P Known talk before adds [] known = tt
each_line header who P Known talk before adds (now ∷ older) known =
    let each = each_line header who P Known talk before adds older (before now older known) in
    elim (eqb_tells now.line.who who) [
      | inl own ↦
          rw (history_now header now older who own.1) (each_by P header who (datagrams header older)
          (events_of header older) now.line.verb (history_of who header older) talk (adds now older own.1 known) each)
      | inr other ↦ rw (history_other header now older who other.1) each
    ]

-- what happened once happened once in a longer history
pub once_by : (P : Entry → History → Type 0) (header : Header) (who : ℕ) (made : List Message) (events : List TvEvent)
    (verb : Verb) (older : History) → Once P older → Once P (done_by header who made events verb older)
once_by P header who made events verb older once = grind (arith, once)

-- ---- sleeps
-- how often a companion slept after a verb
abbrev sleeps_with : Bool → ℕ → ℕ
sleeps_with true before = before + 1
sleeps_with false before = before

-- so it is by any verb
sleeps-by : (header : Header) (who : ℕ) (made : List Message) (events : List TvEvent) (verb : Verb) (older : History)
    → sleeps (done_by header who made events verb older) ≡ sleeps_with (is_sleep verb) (sleeps older)
sleeps-by header who made events verb older = grind arith

-- a companion slept as often as its lines say
pub sleeps_are : (header : Header) (who : ℕ) (lines : List Numbered) → sleeps (history_of who header lines)
    ≡ sleeps_of who lines
sleeps_are header who [] = refl
sleeps_are header who (now ∷ older) = elim (eqb_tells now.line.who who) [
  | inl own ↦
      ap sleeps (history_now header now older who own.1)
      ∙ sleeps-by header who (datagrams header older) (events_of header older) now.line.verb
      (history_of who header older)
      ∙ by own.1 (sleeps_are header who older) (is_sleep now.line.verb) refl
  | inr other ↦
      ap sleeps (history_other header now older who other.1) ∙ sleeps_are header who older
      ∙ sym (sleeps_other now older who other.1)
]
  where
    by : now.line.who ≡ who → sleeps (history_of who header older) ≡ sleeps_of who older
        → (b : Bool) → is_sleep now.line.verb ≡ b
        → sleeps_with b (sleeps (history_of who header older)) ≡ sleeps_of who (now ∷ older)
    by own before true woke = omega (arith, before, sleeps_woke now older who own woke)
    by own before false awake = before ∙ sym (sleeps_awake now older who awake)

-- ---- readings for requests
-- What was asked is below the least reading after a sleep, and what was asked before the last sleep is below the least
-- reading that may come next.
abbrev IsAskedBelow : ℕ → ℕ → ℕ → Entry → History → Type 0
IsAskedBelow slept next after entry older = IfSome (asking_at entry) (λ asked.
    (asked < after) × (sleeps older < slept → asked < next))

-- of a whole history
abbrev AreAskedBelow : ℕ → ℕ → ℕ → History → Type 0
AreAskedBelow slept next after history = Each (IsAskedBelow slept next after) history

-- so it is with greater bounds
raised : (slept next next' after after' : ℕ) (history : History) → next ≤ next' → after ≤ after'
    → AreAskedBelow slept next after history → AreAskedBelow slept next' after' history
raised slept next next' after after' [] more up below = tt
raised slept next next' after after' (entry ∷ older) more up below =
    (at (asking_at entry) below.0, raised slept next next' after after' older more up below.1)
  where
    at : (o : Option ℕ) → IfSome o (λ asked. (asked < after) × (sleeps older < slept → asked < next))
        → IfSome o (λ asked. (asked < after') × (sleeps older < slept → asked < next'))
    at None is = tt
    at (Some asked) is = (omega (arith, is.0, up), λ before. omega (arith, is.1 before, more))

-- and after a sleep
asleep_below : (slept slept' next after : ℕ) (history : History) → AreAskedBelow slept next after history
    → AreAskedBelow slept' after after history
asleep_below slept slept' next after [] below = tt
asleep_below slept slept' next after (entry ∷ older) below =
    (at (asking_at entry) below.0, asleep_below slept slept' next after older below.1)
  where
    at : (o : Option ℕ) → IfSome o (λ asked. (asked < after) × (sleeps older < slept → asked < next))
        → IfSome o (λ asked. (asked < after) × (sleeps older < slept' → asked < after))
    at None is = tt
    at (Some asked) is = (is.0, λ before. is.0)

abbrev passed : Result (Unit {0}) WorldFault
passed = Ok tt

-- a reading that passes the tests isn't below the least one
pub order-ok : (woken : Bool) (last : Option Reading) (reading : ℕ) → order_verdict woken last reading ≡ Ok tt
    → least_next woken last ≤ reading
order-ok woken last reading is = grind (arith, is)

-- a companion's reading at an accepted line passes its tests
pub own_passes : (header : Header) (older : List Numbered) (now : Numbered) (who : ℕ) → now.line.who ≡ who
    → tested header older now ≡ Ok tt
    → reading_verdict now.number (local_of who header).precision now.line.l (has_woken (seen_of who older))
    (last_reading (seen_of who older)) (own_reading now.line.verb) ≡ passed
own_passes header older now who own e =
    rw own at (second_ok (reading_verdict now.number (precision_ns header.tv_precision) now.line.w false
    (last_reading (seen_of_tv older)) (tv_reading now.line.verb)) (reading_verdict now.number
    (local_of now.line.who header).precision now.line.l (has_woken (seen_of now.line.who older))
    (last_reading (seen_of now.line.who older)) (own_reading now.line.verb)) tt (reading-ok header older now e))

-- so it isn't below the least one
pub order_by : (number precision shown : ℕ) (woken : Bool) (last : Option Reading) (reading : Option ℕ)
    → reading_verdict number precision shown woken last reading ≡ passed
    → IfSome reading (λ r. least_next woken last ≤ r)
order_by number precision shown woken last None e = tt
order_by number precision shown woken last (Some reading) e =
    order-ok woken last reading
    (second_ok (near_verdict number precision shown reading) (order_verdict woken last reading) tt e)

own_order : (header : Header) (older : List Numbered) (now : Numbered) (who : ℕ) → now.line.who ≡ who
    → tested header older now ≡ Ok tt
    → IfSome (own_reading now.line.verb) (λ reading.
    least_next (has_woken (seen_of who older)) (last_reading (seen_of who older)) ≤ reading)
own_order header older now who own e =
    order_by now.number (local_of who header).precision now.line.l (has_woken (seen_of who older))
    (last_reading (seen_of who older)) (own_reading now.line.verb) (own_passes header older now who own e)

-- after a sleep the least reading is at most one more
least_up : (woken : Bool) (last : Option Reading) → least_next true last ≤ least_next woken last + 1
least_up woken last = grind arith

-- whether the companion slept since its last reading after a verb, and that reading
abbrev woken_by : Verb → Bool → Bool
woken_by verb woken = is_none (own_reading verb) && (is_sleep verb || woken)

abbrev last_by : ℕ → Verb → Option Reading → Option Reading
last_by number verb last = option_or (option_map (λ value. record { line = number; value = value }) (own_reading verb))
    last

-- what was asked, with these readings
abbrev HasAsked : Bool → Option Reading → History → Type 0
HasAsked woken last history = AreAskedBelow (sleeps history) (least_next woken last) (least_next true last) history

-- a reading that isn't below the least one leaves all that was asked below
below_read : (woken : Bool) (last : Option Reading) (reading : ℕ) (history : History) → least_next woken last ≤ reading
    → HasAsked woken last history → AreAskedBelow (sleeps history) reading (reading + 1) history
below_read woken last reading history least below =
    raised (sleeps history) (least_next woken last) reading (least_next true last) (reading + 1) history least
    (omega (arith, least, least_up woken last)) below

-- so it stays by each verb
below_by : (header : Header) (who number : ℕ) (made : List Message) (events : List TvEvent) (v : Verb) (woken : Bool)
    (last : Option Reading) (older : History)
    → IfSome (own_reading v) (λ reading. least_next woken last ≤ reading) → HasAsked woken last older
    → HasAsked (woken_by v woken) (last_by number v last) (done_by header who made events v older)
below_by header who number made events (Ask reading) woken last older least below = (
  tt,
  ((omega arith, λ before. absurd (omega (arith, before))), below_read woken last reading older least below),
)
below_by header who number made events (Land datagram reading) woken last older least below =
    (tt, (tt, below_read woken last reading older least below))
below_by header who number made events (Wall reading) woken last older least below =
    (tt, below_read woken last reading older least below)
below_by header who number made events (Print reading) woken last older least below =
    (tt, below_read woken last reading older least below)
below_by header who number made events (Opening kind.Cii) woken last older least below = (tt, below)
below_by header who number made events (Opening kind.Ts) woken last older least below = (tt, (tt, below))
below_by header who number made events (Bring k) woken last older least below =
    heard (next_down who k events older)
  where
    heard : (text : Option (List ℕ)) → HasAsked woken last (hearing (peer_of who k) text older)
    heard None = below
    heard (Some bytes) = (tt, below)
below_by header who number made events (Present earliest latest) woken last older least below = (tt, below)
below_by header who number made events (Close k) woken last older least below = (tt, below)
below_by header who number made events Sleep woken last older least below =
    (tt, asleep_below (sleeps older) (sleeps older + 1) (least_next woken last) (least_next true last) older below)
below_by header who number made events _ woken last older least below = below

-- the readings of companion `who` for requests are below those that may come next
pub asked_below : (header : Header) (who : ℕ) (lines : List Numbered) → AreAccepted header lines
    → HasAsked (has_woken (seen_of who lines)) (last_reading (seen_of who lines)) (history_of who header lines)
asked_below header who [] accepted = tt
asked_below header who (now ∷ older) accepted =
    let before = asked_below header who older accepted.4 in
    elim (eqb_tells now.line.who who) [
      | inl own ↦
          let least = own_order header older now who own.1 (tested_ok header older now accepted.3.0 accepted.3.1) in
          let next = below_by header who now.number (datagrams header older) (events_of header older) now.line.verb
          (has_woken (seen_of who older)) (last_reading (seen_of who older)) (history_of who header older) least before
          in
          let at_line : HasAsked (has_woken (own_seen now ∷ seen_of who older))
          (last_reading (own_seen now ∷ seen_of who
          older)) (done_at header older who now.line.verb) = next in
          rw (seen_own now older who own.1) (rw (history_now header now older who own.1) at_line)
      | inr other ↦
          rw (seen_other now older who other.1) (rw (history_other header now older who other.1) before)
    ]

-- ---- lawful
-- a reading that isn't below the least one rises above those before the last sleep
rises_from : (slept next after reading : ℕ) (history : History) → next ≤ reading
    → AreAskedBelow slept next after history
    → Each (λ earlier before. IfSome (asking_at earlier) (λ asked. sleeps before < slept → asked < reading)) history
rises_from slept next after reading [] least below = tt
rises_from slept next after reading (entry ∷ older) least below =
    (at (asking_at entry) below.0, rises_from slept next after reading older least below.1)
  where
    at : (o : Option ℕ) → IfSome o (λ asked. (asked < after) × (sleeps older < slept → asked < next))
        → IfSome o (λ asked. sleeps older < slept → asked < reading)
    at None is = tt
    at (Some asked) is = λ before. omega (arith, is.1 before, least)

-- an entry of a session needn't rise
rises_talk : (entry : Entry) (before : History) → IsTalk entry → RisesAt entry before
rises_talk entry before talk = grind (arith, talk)

-- the readings of one verb rise
rises_by : (made : List Message) (v : Verb) (woken : Bool) (last : Option Reading) (older : History)
    → IfSome (own_reading v) (λ reading. least_next woken last ≤ reading) → HasAsked woken last older
    → Adds RisesAt made v older
rises_by made (Ask reading) woken last older least below =
    (tt, rises_from (sleeps older) (least_next woken last) (least_next true last) reading older least below)
rises_by made (Land datagram reading) woken last older least below = (tt, tt)
rises_by made _ woken last older least below = tt

-- a request is read back from its bytes
pub request_back : (asked : ℕ) → asked < LIMIT → decoded (encoded (request_at asked)) ≡ Ok (request_at asked)
request_back asked range =
    let seconds : asked / 1000000000 < 2 ^ 32 = omega arith in
    let nanoseconds : asked % 1000000000 < 2 ^ 32 = omega arith in
    decoded-encoded (request_at asked) (record {
      message_type = omega arith;
      precision = search rules;
      error = omega arith;
      originate = record { seconds = seconds; nanoseconds = nanoseconds };
      receive = record { seconds = omega arith; nanoseconds = omega arith };
      transmit = record { seconds = omega arith; nanoseconds = omega arith };
    }) refl

-- the request has the reading just before it, where its bytes are decoded so
abbrev AsksBy : ℕ → History → Result Message WcFault → Type 0
AsksBy asked older sent =
    IfSome (option_map (λ message. message.originate)
    (option_and_then (λ message. cond (message.message_type == 0) (Some message) None) (result_ok sent)))
    (λ originate. IsJustAsked originate (Clock why.Ask asked ∷ older))

-- a request has its reading as originate
asks-by : (asked : ℕ) (older : History) → asked < LIMIT → AsksBy asked older (decoded (encoded (request_at asked)))
asks-by asked older range =
    subst (AsksBy asked older) (sym (request_back asked range)) (record {
      reading = asked;
      before = older;
      just_before = refl;
      same = refl;
    })

-- an entry of a session is no request
asks_talk : (entry : Entry) (before : History) → IsTalk entry → AsksAt entry before
asks_talk entry before talk = grind (arith, talk)

-- so has that of one verb
asks_by : (made : List Message) (verb : Verb) (older : History) → IsVerb verb → Adds AsksAt made verb older
asks_by made (Ask reading) older range = (asks-by reading older range, tt)
asks_by made (Land datagram reading) older range = (tt, tt)
asks_by made _ older range = tt

-- what a companion does at accepted lines is lawful
pub is_lawful : (header : Header) (who : ℕ) (lines : List Numbered) → AreAccepted header lines
    → IsLawful (history_of who header lines)
is_lawful header who lines accepted = record {
  rises = each_line header who RisesAt (AreAccepted header) rises_talk (λ now older ok. ok.4) (λ now older own ok.
      rises_by (datagrams header older) now.line.verb (has_woken (seen_of who older)) (last_reading (seen_of who older))
      (history_of who header older) (own_order header older now who own (tested_ok header older now ok.3.0 ok.3.1))
      (asked_below header who older ok.4)) lines accepted;
  asks = each_line header who AsksAt (AreAccepted header) asks_talk (λ now older ok. ok.4) (λ now older own ok.
      asks_by (datagrams header older) now.line.verb (history_of who header older) ok.0.verb) lines accepted;
}
