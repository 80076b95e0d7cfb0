-- The span at each `wall` line of accepted lines contains the wall clock, and no landing contradicts itself.
use Rattle.std.proofs.Common.{◌≡◌, ℕ, suc, ◌≤◌, ◌⊎◌, inl, inr, arith, ap, sym, subst, ◌∙◌, refl, Bool, true, false}
use Rattle.std.proofs.Common.{cond, not, ◌==◌, List, ◌∷◌, length, eqb-true, Option, Some, None, IfSome, IsTrue, Result}
use Rattle.std.proofs.Common.{Ok, ◌&&◌, pos, int_lt, option_map}
use Rattle.css_num.specs.Spans.{Covers}
use Rattle.css_model.specs.declared.Stamp.{Stamp}
use Rattle.css_model.specs.declared.Why.TheVariants as why
use Rattle.css_model.specs.Wire.{decoded, stamp_of, reading_of, is_same_stamp}
use Rattle.css_model.specs.WallClock.{Local, Answer, scaled_width}
use Rattle.css_model.specs.Truth.{Contains}
use Rattle.css_model.specs.Explains.{WasAsked, IsTruthful, TruthfulAt, Explains, IsAccepted, AcceptsAt, ContainsAt}
use Rattle.css_model.proofs.Requests.{reading_of-stamp_of}
use Rattle.css_model.proofs.Wall.{wall_is_true, truth_is_accepted}
use Rattle.css_server.specs.Exchanges.{greatest_reading, PromisesRise}
use Rattle.css_server.proofs.Rising.{no_promise_is_repeated}
use Rattle.css_client.specs.Landings.{landing_of_decoded, landing_of_message, verdict}
use Rattle.css_client.specs.declared.landing.Landing.{Landing}
use Rattle.css_client.specs.declared.landing.Landing.TheVariants as landings
use Rattle.css_span.specs.WallSpans.{span_of, wall_span}
use Rattle.css_meaning.specs.Happened.{Numbered, tickets, datagrams, bytes_of, history_of, peer}
use Rattle.css_meaning.specs.Numbering.{numbered}
use Rattle.css_meaning.specs.Worlds.{world_of, moment_number, errors_of}
use Rattle.css_meaning.specs.Verdicts.{local_of, IsDeclared, can_exchange}
use Rattle.css_meaning.specs.Accepted.{AreAccepted}
use Rattle.css_meaning.specs.Truth.{IsTrueWall, IsPossibleLanding, AcceptedLinesAreTrue, AcceptedLinesAreWorld}
use Rattle.css_meaning.proofs.Names.{and_parts, is_own, Message, WcFault, IsWithin, precision_ns, World, IsWorldFor}
use Rattle.css_meaning.proofs.Names.{Entry, LandedAnswer, landed_answer, landed_answers, is_promise_of}
use Rattle.css_meaning.proofs.Names.{accepted_answers, History, Clock, Took, Each, answer_in, is_asked, is_possible}
use Rattle.css_meaning.proofs.Names.{times_of, wall_answer, IsIn, is_same_stamp-true, Header, Verb, Ask, Land, Wall}
use Rattle.css_meaning.proofs.Accepting.{keeps_errors}
use Rattle.css_meaning.proofs.Lawful.{done_at, IsTalk, Adds, each_line, is_lawful}
use Rattle.css_meaning.proofs.Ends.{history_now, can_exchange_now}
use Rattle.css_meaning.proofs.Moments.{Agrees, AreHere, agrees, entries-here, happens}
use Rattle.css_meaning.proofs.Tickets.{are_promised, one_promise}
use Rattle.css_meaning.proofs.Made.{Made, made, made_each, one_giving}
use Rattle.css_meaning.proofs.Reporting.{true_line}
use Rattle.css_meaning.proofs.Landed.{lands, is_answer, message_back, answer-in, landing_if, landing-is, CameFrom}
use Rattle.css_meaning.proofs.Landed.{CameAt, came_each, each-map}

-- ---- a follow-up and the response that promised it
same_reading : (r s : ℕ) → is_same_stamp (stamp_of r) (stamp_of s) ≡ true → r ≡ s
same_reading r s e =
    sym (reading_of-stamp_of r) ∙ ap reading_of (is_same_stamp-true (stamp_of r) (stamp_of s) e) ∙ reading_of-stamp_of s

-- the promises of the television rise
promises_rise : (header : Header) (lines : List Numbered) → PromisesRise (tickets header lines)
promises_rise header lines =
    no_promise_is_repeated (record {
      precision = header.tv_precision;
      error = header.tv_error;
      follow = header.follow;
      greatest = greatest_reading (tickets header lines);
    })
    (tickets header lines) (record { greatest = refl; promised = are_promised header lines })

module _ (world : World) (moment_of : ℕ → ℕ) (header : Header) (who : ℕ) (first : 1 ≤ who)
    (declared : IsDeclared header) where
  -- a response that promised a follow-up was given with it
  given_together : (lines : List Numbered) (d e : Made)
      → AreAccepted header lines → Agrees world moment_of header who lines → d.owner ≡ who → e.owner ≡ who
      → IsIn d (made header lines) → IsIn e (made header lines) → (reading : ℕ) → d.message.message_type ≡ 3
      → is_promise_of (record { message = e.message; reading = reading }) d.message ≡ true → e.given_at ≡ d.given_at
  given_together lines d e accepted agreed mine too p q reading three pair =
      let is_d = made_each world moment_of header who lines d first accepted agreed mine p in
      let is_e = made_each world moment_of header who lines e first accepted agreed too q in
      let a = is_answer world moment_of header who lines d is_d in
      let b = is_answer world moment_of header who lines e is_e in
      let parts = and_parts (e.message.message_type == 2) (is_same_stamp e.message.originate d.message.originate
      && is_same_stamp e.message.receive d.message.receive) pair in
      let same = and_parts (is_same_stamp e.message.originate d.message.originate)
      (is_same_stamp e.message.receive d.message.receive) parts.1 in
      let follow_d : d.ticket.follow_up ≡ true =
      a.promised.1 (sym (ap (λ (m : Message). m.message_type) a.is) ∙ three) in
      let follow_e : e.ticket.follow_up ≡ true =
      b.promised.0 (sym (ap (λ (m : Message). m.message_type) b.is) ∙ eqb-true e.message.message_type 2 parts.0) in
      let receive : is_same_stamp (stamp_of e.ticket.reading) (stamp_of d.ticket.reading) ≡ true =
      subst (λ (s : Stamp). is_same_stamp (stamp_of e.ticket.reading) s ≡ true) (ap (λ (m : Message). m.receive) a.is)
      (subst (λ (s : Stamp). is_same_stamp s d.message.receive ≡ true) (ap (λ (m : Message). m.receive) b.is) same.1) in
      one_giving header lines e d accepted q p
      (one_promise (tickets header lines) e.take d.take e.ticket d.ticket
      (promises_rise header lines) is_e.in_tickets is_d.in_tickets follow_e follow_d
      (same_reading e.ticket.reading d.ticket.reading receive))

  -- ---- truthful
  -- a landed answer that promised this datagram was given with it, before it landed
  given_later : (older : List Numbered) (d : Made) (entry : Entry) (before : History)
      → AreAccepted header older → Agrees world moment_of header who older → d.owner ≡ who
      → IsIn d (made header older) → d.message.message_type ≡ 3 → (o : Option LandedAnswer)
      → IfSome o (λ response. CameFrom header who older moment_of response before)
      → IfSome o (λ response. IsTrue (is_promise_of response d.message) → d.given_at ≤ moment_of (length before))
  given_later older d entry before accepted agreed mine is_made three None came = tt
  given_later older d entry before accepted agreed mine is_made three (Some response) came = λ pair.
      let pair_so : is_promise_of (record { message = came.0.message; reading = response.reading }) d.message ≡ true =
      subst (λ (m : Message). is_promise_of (record { message = m; reading = response.reading }) d.message
      ≡ true) (sym came.2) pair in
      omega (
        arith,
        given_together older d came.0 accepted agreed mine came.4 is_made came.1 response.reading three pair_so,
        came.3,
      )

  -- a made datagram tells of an exchange of the world, wherever it lands
  truthful : (older : List Numbered) (d : Made) (bytes : List ℕ)
      (reading : ℕ) → AreAccepted header older
      → Agrees world moment_of header who older → d.owner ≡ who → IsIn d (made header older)
      → moment_of (suc (length (history_of who header older))) ≡ length older
      → IsTruthful world header.tv_error moment_of (record { message = d.message; reading = reading })
      (Took peer bytes ∷ history_of who header older)
  truthful older d bytes reading accepted agreed mine is_made here =
      let h : History = history_of who header older in
      let is = made_each world moment_of header who older d first accepted agreed mine is_made in
      let a = is_answer world moment_of header who older d is in
      let originate : d.message.originate ≡ stamp_of is.taken.asked =
      ap (λ (m : Message). m.originate) a.is ∙ is.taken.originate in
      let receive : reading_of d.message.receive ≡ d.ticket.reading =
      ap (λ (m : Message). reading_of m.receive) a.is ∙ reading_of-stamp_of d.ticket.reading in
      let transmit : reading_of d.message.transmit ≡ a.transmit =
      ap (λ (m : Message). reading_of m.transmit) a.is ∙ reading_of-stamp_of a.transmit in
      let precision = ap (λ (m : Message). m.precision) a.is in
      record {
        ask = is.taken.ask;
        received_at = is.taken.received_at;
        transmit_at = a.transmit_at;
        sent_at = d.given_at;
        asked = inr (subst (λ (s : Stamp). WasAsked s is.taken.ask h) (sym originate) is.taken.was);
        received_later = is.taken.later;
        transmit_later = a.from;
        sent_later = a.to;
        landed_later = omega (arith, is.before, here);
        receive = subst (λ (r : ℕ). IsWithin (precision_ns d.message.precision) r (world is.taken.received_at).wall)
            (sym receive)
            (subst (λ p. IsWithin (precision_ns p) d.ticket.reading (world is.taken.received_at).wall)
            (sym precision) is.taken.near);
        transmit =
            subst (λ (r : ℕ). IsWithin (precision_ns d.message.precision) r (world a.transmit_at).wall) (sym transmit)
            (subst (λ p. IsWithin (precision_ns p) a.transmit (world a.transmit_at).wall) (sym precision) a.near);
        at_once = λ other. a.at_once (λ two. other (ap (λ (m : Message). m.message_type) a.is ∙ two));
        declared = omega (arith, ap (λ (m : Message). m.error) a.is);
        promised_later = λ three. (
          tt,
          each-map (CameAt header who older moment_of) (λ entry before. IfSome (landed_answer entry before)
              (λ response. IsTrue (is_promise_of response d.message) → d.given_at ≤ moment_of (length before))) h
              (λ entry before came. given_later older d entry before accepted agreed mine is_made three
              (landed_answer entry before) came)
              (came_each world moment_of header who first declared older accepted agreed),
        );
      }

  -- nothing lands with an entry of a session
  truthful_talk : (entry : Entry) (before : History)
      → IsTalk entry → TruthfulAt world header.tv_error (local_of who header) moment_of entry before
  truthful_talk entry before talk = grind (arith, talk)

  -- each answer that lands is truthful, or isn't accepted
  abbrev IsTruthfulAt : Entry → History → Type 0
  IsTruthfulAt = TruthfulAt world header.tv_error (local_of who header) moment_of

  -- what lands by one verb is truthful
  truthful_by : (older : List Numbered) (verb : Verb) → AreAccepted header older
      → Agrees world moment_of header who older → can_exchange header older who verb ≡ true
      → AreHere moment_of header who older verb
      → Adds IsTruthfulAt (datagrams header older) verb (history_of who header older)
  truthful_by older (Land datagram reading) accepted agreed can here =
      let own : Local = local_of who header in
      let h : History = history_of who header older in
      let l = lands header older who datagram can in
      let bytes : List ℕ = bytes_of (numbered datagram (datagrams header older)) in
      let is = made_each world moment_of header who older l.d first accepted agreed l.owned l.is_made in
      let answer = ap answer_in l.bytes ∙ answer-in world moment_of header who older l.d declared is in
      let at : moment_of (suc (length h)) ≡ length older = here (suc (length h)) (omega arith) (omega arith) in
      let true_so = truthful older l.d bytes reading accepted agreed l.owned l.is_made at in (
        subst (λ (o : Option LandedAnswer). IfSome o
            (λ landed. IsTrue (is_possible own landed (landed_answers (Took peer bytes ∷ h)))
            → IsTruthful world header.tv_error moment_of landed (Took peer bytes ∷ h)))
            (sym (landing-is l.d.message bytes reading h answer))
            (elim (is_asked l.d.message.originate (Took peer bytes ∷ h))
            as (λ b. IfSome (landing_if b l.d.message reading)
            (λ landed. IsTrue (is_possible own landed (landed_answers (Took peer bytes ∷ h)))
            → IsTruthful world header.tv_error moment_of landed (Took peer bytes ∷ h)))
            [ true ↦ (λ possible. true_so) | false ↦ tt ]),
        tt,
      )
  truthful_by older (Ask reading) accepted agreed can here = (tt, tt)
  truthful_by older _ accepted agreed can here = tt

  -- so is what lands by all lines
  truthful_each : (lines : List Numbered) → AreAccepted header lines → Agrees world moment_of header who lines
      → Each IsTruthfulAt (history_of who header lines)
  truthful_each lines accepted agreed =
      each_line header who IsTruthfulAt
      (λ ls. AreAccepted header ls × Agrees world moment_of header who ls) truthful_talk
      (λ now older known. (known.0.4, known.1.2)) (λ now older own known.
      truthful_by older now.line.verb known.0.4 known.1.2
      (can_exchange_now header now older who own known.0)
      (entries-here moment_of header who now older own known.1.1)) lines (accepted, agreed)

-- the world of accepted lines explains what a companion did
pub explained : (header : Header) (who : ℕ) (lines : List Numbered) → 1 ≤ who → IsDeclared header
    → AreAccepted header lines
    → Explains (world_of lines) who header.tv_error (local_of who header) (history_of who header lines)
    (moment_number who header lines)
explained header who lines first declared accepted = record {
  happens = happens header who lines first accepted;
  truthful = truthful_each (world_of lines) (moment_number who header lines) header who first declared lines accepted
      (agrees header who lines);
}

-- and it keeps the declared errors
world_for : (header : Header) (who : ℕ) (lines : List Numbered) → IsDeclared header → AreAccepted header lines
    → IsWorldFor (errors_of header) (world_of lines) who (local_of who header)
world_for header who lines declared accepted = record {
  keeps = keeps_errors header lines accepted;
  declared = omega arith;
  ranges = declared.local who;
}

-- the law of the world
pub accepted_lines_are_world : AcceptedLinesAreWorld
accepted_lines_are_world header lines declared accepted who is = record {
  keeps = world_for header who lines declared accepted;
  lawful = is_lawful header who lines accepted;
  explains = explained header who lines is.first declared accepted;
}

-- ---- the wall clock
-- an answer whose span contains the wall clock
covers : (own : Local) (reading wall : ℕ) (answer : Option Answer) → IfSome answer (λ a. Contains own a reading wall)
    → IfSome (option_map (span_of own reading) answer) (λ span. Covers span (pos wall))
covers own reading wall None contains = tt
covers own reading wall (Some answer) contains = record { low = contains.low; high = contains.high }

-- the history with the reading of a `wall` line
wall-history : (header : Header) (now : Numbered) (older : List Numbered) (reading : ℕ) → now.line.verb ≡ Wall reading
    → history_of now.line.who header (now ∷ older) ≡ Clock why.Turn reading ∷ history_of now.line.who header older
wall-history header now older reading is =
    history_now header now older now.line.who refl ∙ ap (λ (v : Verb). done_at header older now.line.who v) is

-- the interval at `wall` contains the value of the line
true_wall : (header : Header) (older : List Numbered) (now : Numbered) → IsDeclared header
    → AreAccepted header (now ∷ older) → IsTrueWall header older now
true_wall header older now declared accepted = λ reading is.
    let who = now.line.who in
    let first = accepted.1.own (ap is_own is) in
    let own : Local = local_of who header in
    let lines : List Numbered = now ∷ older in
    let h : History = history_of who header older in
    let world : World = world_of lines in
    let moment_of : ℕ → ℕ = moment_number who header lines in
    let each = wall_is_true (errors_of header) world who own (history_of who header lines) moment_of
    (world_for header who lines declared accepted) (is_lawful header who lines accepted)
    (explained header who lines first declared accepted) in
    let there : Each (ContainsAt world own moment_of) (Clock why.Turn reading ∷ h) = subst (λ (x : History). Each
    (ContainsAt world own moment_of) x) (wall-history header now older reading is) each in
    let agreed = agrees header who lines in
    let entry : moment_of (length h) ≡ length older = agreed.1 (length h) (omega arith)
    (omega (arith, ap length (wall-history header now older reading is))) in
    let wall : (world (moment_of (length h))).wall ≡ now.line.w =
    ap (λ (i : ℕ). (world i).wall) entry ∙ ap (λ m. m.wall) agreed.0 in
    subst (λ (w : ℕ). IfSome (wall_span own reading (accepted_answers own h)) (λ span. Covers span (pos w))) wall
    (covers own reading (world (moment_of (length h))).wall (wall_answer own h reading) there.0)

-- ---- landings
possible-accepted : (own : Local) (reading : ℕ) (answer : Answer)
    → not (int_lt (scaled_width own answer reading) (pos 0)) ≡ true → verdict own reading answer ≡ landings.Accepted
possible-accepted own reading answer possible = by (int_lt (scaled_width own answer reading) (pos 0)) possible
  where
    by : (b : Bool) → not b ≡ true
        → cond b (landings.Impossible (scaled_width own answer reading)) landings.Accepted ≡ landings.Accepted
    by true e = absurd (cc)
    by false e = refl

-- the history after a landing
land-history : (header : Header) (now : Numbered) (older : List Numbered) (datagram reading : ℕ)
    → now.line.verb ≡ Land datagram reading
    → history_of now.line.who header (now ∷ older) ≡ Clock why.Land reading ∷ Took peer
    (bytes_of (numbered datagram (datagrams header older))) ∷ history_of now.line.who header older
land-history header now older datagram reading is =
    history_now header now older now.line.who refl ∙ ap (λ (v : Verb). done_at header older now.line.who v) is

-- what becomes of an answer, by whether its request is asked
abbrev LandsWell : Landing → Type 0
LandsWell landing = (landing ≡ landings.Accepted) ⊎ (landing ≡ landings.Unasked)

-- an answer that lands after this history is accepted where it is truthful
abbrev TakenIn : Local → History → World → ℕ → (ℕ → ℕ) → List ℕ → ℕ → LandedAnswer → Type 0
TakenIn own h world tv_error moment_of bytes reading landed =
    IsTruthful world tv_error moment_of landed (Took peer bytes ∷ h)
    → IsAccepted own landed (Clock why.Land reading) (Took peer bytes ∷ h)

-- a truthful answer is accepted, or its request left the last 64
lands_well : (own : Local) (h : History) (world : World) (tv_error : ℕ) (moment_of : ℕ → ℕ) (bytes : List ℕ)
    (message : Message) (reading : ℕ) → (message.message_type == 0) ≡ false → answer_in bytes ≡ Some message
    → IsTruthful world tv_error moment_of (record { message = message; reading = reading }) (Took peer bytes ∷ h)
    → AcceptsAt world tv_error own moment_of (Clock why.Land reading) (Took peer bytes ∷ h)
    → LandsWell (landing_of_message own h reading message)
lands_well own h world tv_error moment_of bytes message reading answer is_answer true_so accepts =
    subst (λ b. LandsWell (cond b landings.NotAnAnswer (cond (is_asked message.originate h)
    (verdict own reading (times_of item (landed_answers h))) landings.Unasked))) (sym answer)
    (by (is_asked message.originate h) (subst (λ (o : Option LandedAnswer). IfSome o
    (TakenIn own h world tv_error moment_of bytes reading)) (landing-is message bytes reading h is_answer) accepts))
  where
    item : LandedAnswer
    item = record { message = message; reading = reading }

    by : (b : Bool) → IfSome (landing_if b message reading) (TakenIn own h world tv_error moment_of bytes reading)
        → LandsWell (cond b (verdict own reading (times_of item (landed_answers h))) landings.Unasked)
    by true taken = inl (possible-accepted own reading (times_of item (landed_answers h)) (taken true_so).possible)
    by false taken = inr refl

-- so no landing contradicts itself
possible_landing : (header : Header) (older : List Numbered) (now : Numbered) → IsDeclared header
    → AreAccepted header (now ∷ older) → IsPossibleLanding header older now
possible_landing header older now declared accepted = λ datagram reading is.
    let who = now.line.who in
    let first = accepted.1.own (ap is_own is) in
    let own : Local = local_of who header in
    let lines : List Numbered = now ∷ older in
    let h : History = history_of who header older in
    let world : World = world_of lines in
    let moment_of : ℕ → ℕ = moment_number who header lines in
    let bytes : List ℕ = bytes_of (numbered datagram (datagrams header older)) in
    let each = truth_is_accepted (errors_of header) world who own (history_of who header lines) moment_of
    (world_for header who lines declared accepted) (is_lawful header who lines accepted)
    (happens header who lines first accepted) in
    let there = subst (λ (x : History). Each (AcceptsAt world header.tv_error own moment_of) x)
    (land-history header now older datagram reading is) each in
    let can = can_exchange_now header now older who refl accepted in
    let l = lands header older who datagram (subst (λ (v : Verb). can_exchange header older who v ≡ true) is can) in
    let agreed = agrees header who lines in
    let made_so = made_each world moment_of header who older l.d first accepted.4 agreed.2 l.owned l.is_made in
    let a = is_answer world moment_of header who older l.d made_so in
    let entry : moment_of (suc (length h)) ≡ length older = agreed.1 (suc (length h)) (omega arith)
    (omega (arith, ap length (land-history header now older datagram reading is))) in
    let true_so =
    truthful world moment_of header who first declared older l.d bytes reading accepted.4 agreed.2 l.owned l.is_made
    entry in
    let back : decoded bytes ≡ Ok l.d.message =
    ap decoded l.bytes ∙ message_back world moment_of header who older l.d declared made_so in
    subst (λ (came : Result Message WcFault). LandsWell (landing_of_decoded own h reading came)) (sym back)
    (lands_well own h world header.tv_error moment_of bytes l.d.message reading
    (ap (λ (m : Message). m.message_type == 0) a.is ∙ a.answer)
    (ap answer_in l.bytes ∙ answer-in world moment_of header who older l.d declared made_so) true_so there.0)

-- the law
pub accepted_lines_are_true : AcceptedLinesAreTrue
accepted_lines_are_true header older now declared accepted =
    true_line header older now declared accepted (accepted_lines_are_world header (now ∷ older) declared accepted)
    (true_wall header older now declared accepted) (possible_landing header older now declared accepted)
