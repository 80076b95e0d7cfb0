-- What lands at accepted lines is truthful.
use Rattle.std.proofs.Common.{◌≡◌, ℕ, suc, ◌^◌, ◌<◌, ◌≤◌, ◌/◌, ◌%◌, arith, ap, sym, subst, ◌∙◌, refl, Bool, true, false}
use Rattle.std.proofs.Common.{cond, ◌==◌, List, [], ◌∷◌, ◌++◌, length, inr, Option, Some, None, IfSome, Result, Ok}
use Rattle.std.proofs.Common.{◌&&◌, pos, int_lt, nat_lt, ◌≢◌, le-ltb, lt-ltb, eqb-true, option_map, option_and_then}
use Rattle.css_model.specs.declared.WcFault.TheVariants as wc
use Rattle.css_model.specs.declared.Why.TheVariants as why
use Rattle.css_model.specs.Wire.{encoded, decoded, stamp_of, second}
use Rattle.css_model.proofs.Narrowest.{is_not_less}
use Rattle.css_wc.proofs.Codec.{IsStamp, decoded-encoded}
use Rattle.css_meaning.specs.Happened.{Numbered, server_of, datagrams, made_for, bytes_of, history_of, peer}
use Rattle.css_meaning.specs.Numbering.{numbered}
use Rattle.css_meaning.specs.Verdicts.{is_for, can_exchange, IsDeclared}
use Rattle.css_meaning.specs.Accepted.{AreAccepted}
use Rattle.css_meaning.proofs.Names.{result_ok, LIMIT, Message, WcFault, IsWithin, precision_ns, max_error, World}
use Rattle.css_meaning.proofs.Names.{Entry, History, Clock, Took, Each, LandedAnswer, landed_answer, answer_in}
use Rattle.css_meaning.proofs.Names.{is_asked, IsIn, Ticket, answer_message, Header, Verb, Ask, Land}
use Rattle.css_meaning.proofs.Lawful.{IsTalk, Adds, each_line}
use Rattle.css_meaning.proofs.Ends.{can_exchange_now}
use Rattle.css_meaning.proofs.Moments.{Agrees, AreHere, entries-here}
use Rattle.css_meaning.proofs.Made.{Made, made, Tells, Plain, Promise, FollowUp, IsMade, made_each, numbered-made}

-- ---- datagrams are read back
is_stamp : (r : ℕ) → r < LIMIT → IsStamp (stamp_of r)
is_stamp r range =
    let seconds : r / 1000000000 < 2 ^ 32 = omega (arith, range) in
    let nanoseconds : r % 1000000000 < 2 ^ 32 = omega arith in
    record { seconds = seconds; nanoseconds = nanoseconds }

-- an answer that passes every test has no fault
sound : (a b c d e : Bool) → a ≡ false → b ≡ false → c ≡ false → d ≡ true → e ≡ true
    → cond a None (cond b (Some wc.Precision) (cond c (Some wc.Error) (cond (d && e) None (Some wc.Nanoseconds))))
    ≡ None
sound a b c d e p q r s t = rw (p, q, r, s, t) refl

-- an answer to a ticket is read back from its bytes
answer_back : (header : Header) (ticket : Ticket) (message_type transmit asked : ℕ) → IsDeclared header
    → ticket.originate ≡ stamp_of asked → asked < LIMIT
    → ticket.reading < LIMIT → transmit < LIMIT → message_type ≤ 3 → (message_type == 0) ≡ false
    → decoded (encoded (answer_message (server_of header) ticket message_type transmit))
    ≡ Ok (answer_message (server_of header) ticket message_type transmit)
answer_back header ticket message_type transmit asked declared originate asked_range range transmit_range known answer =
    decoded-encoded (answer_message (server_of header) ticket message_type transmit) (record {
      message_type = known;
      precision = declared.exponent;
      error = omega (arith, declared.tv.tv_error);
      originate = subst IsStamp (sym originate) (is_stamp asked asked_range);
      receive = is_stamp ticket.reading range;
      transmit = is_stamp transmit transmit_range;
    })
    (sound (message_type == 0) (int_lt (pos 30) header.tv_precision) (nat_lt max_error header.tv_error)
    (nat_lt (stamp_of ticket.reading).nanoseconds second) (nat_lt (stamp_of transmit).nanoseconds second)
    answer (is_not_less (pos 30) header.tv_precision declared.tv.tv_precision)
    (le-ltb max_error header.tv_error declared.tv.tv_error)
    (lt-ltb (stamp_of ticket.reading).nanoseconds second (omega arith))
    (lt-ltb (stamp_of transmit).nanoseconds second (omega arith)))

-- what a made datagram is, once more, with its type and its transmit value
pub record IsAnswer (world : World) (header : Header) (d : Made) (received_at : ℕ) : Type 0 where
  pub message_type : ℕ
  pub transmit : ℕ
  pub transmit_at : ℕ
  pub is : d.message ≡ answer_message (server_of header) d.ticket message_type transmit
  pub known : message_type ≤ 3
  pub answer : (message_type == 0) ≡ false
  pub range : transmit < LIMIT
  pub from : received_at ≤ transmit_at
  pub to : transmit_at ≤ d.given_at
  pub near : IsWithin (precision_ns header.tv_precision) transmit (world transmit_at).wall
  pub at_once : message_type ≢ 2 → transmit_at ≡ d.given_at
  pub promised : (message_type ≡ 2 → d.ticket.follow_up ≡ true) × (message_type ≡ 3 → d.ticket.follow_up ≡ true)

-- a datagram that was made is an answer in the world
pub is_answer : (world : World) (moment_of : ℕ → ℕ) (header : Header) (who : ℕ) (lines : List Numbered)
    (d : Made) (is : IsMade world moment_of header who lines d) → IsAnswer world header d is.taken.received_at
is_answer world moment_of header who lines d is = by is.tells
  where
    by : Tells header d → IsAnswer world header d is.taken.received_at
    by (Plain e) = record {
      message_type = 1;
      transmit = d.reading;
      transmit_at = d.given_at;
      is = e;
      known = omega arith;
      answer = refl;
      range = is.range;
      from = is.later;
      to = omega arith;
      near = is.near;
      at_once = λ other. refl;
      promised = (λ two. absurd (omega (arith, two)), λ three. absurd (omega (arith, three)));
    }
    by (Promise f e) = record {
      message_type = 2;
      transmit = d.ticket.reading;
      transmit_at = is.taken.received_at;
      is = e;
      known = omega arith;
      answer = refl;
      range = is.taken.range;
      from = omega arith;
      to = is.later;
      near = is.taken.near;
      at_once = λ other. absurd (other refl);
      promised = (λ two. f, λ three. f);
    }
    by (FollowUp f e) = record {
      message_type = 3;
      transmit = d.reading;
      transmit_at = d.given_at;
      is = e;
      known = omega arith;
      answer = refl;
      range = is.range;
      from = is.later;
      to = omega arith;
      near = is.near;
      at_once = λ other. refl;
      promised = (λ two. f, λ three. f);
    }

-- a made datagram is read back from its bytes
pub message_back : (world : World) (moment_of : ℕ → ℕ) (header : Header) (who : ℕ) (lines : List Numbered) (d : Made)
    → IsDeclared header → IsMade world moment_of header who lines d → decoded (encoded d.message) ≡ Ok d.message
message_back world moment_of header who lines d declared is =
    let answer = is_answer world moment_of header who lines d is in
    rw answer.is (answer_back header d.ticket answer.message_type answer.transmit is.taken.asked declared
    is.taken.originate is.taken.asked_range is.taken.range answer.range answer.known answer.answer)

-- and it is an answer
pub answer-in : (world : World) (moment_of : ℕ → ℕ) (header : Header) (who : ℕ) (lines : List Numbered) (d : Made)
    → IsDeclared header → IsMade world moment_of header who lines d → answer_in (encoded d.message) ≡ Some d.message
answer-in world moment_of header who lines d declared is =
    let answer = is_answer world moment_of header who lines d is in
    let not_request : (d.message.message_type == 0) ≡ false =
    ap (λ (m : Message). m.message_type == 0) answer.is ∙ answer.answer in
    ap (λ (came : Result Message WcFault). option_and_then (λ (message : Message). cond (message.message_type == 0)
    None (Some message)) (result_ok came)) (message_back world moment_of header who lines d declared is)
    ∙ ap (λ b. cond b None (Some d.message)) not_request

-- ---- what lands
-- the datagram that lands at an accepted line of companion `who` was made for it
pub record Lands (header : Header) (older : List Numbered) (who datagram : ℕ) : Type 0 where
  pub d : Made
  pub is_made : IsIn d (made header older)
  pub owned : d.owner ≡ who
  pub bytes : bytes_of (numbered datagram (datagrams header older)) ≡ encoded d.message

-- what is for a companion has its number
is-for : (who : ℕ) (o : Option ℕ) → is_for who o ≡ true → o ≡ Some who
is-for who None is = absurd (cc)
is-for who (Some owner) is = ap Some (eqb-true owner who is)

-- what lands is a datagram that was made
pub lands : (header : Header) (older : List Numbered) (who datagram : ℕ)
    → is_for who (numbered datagram (made_for header older)) ≡ true → Lands header older who datagram
lands header older who datagram can =
    let found = numbered-made header datagram older who (is-for who (numbered datagram (made_for header older)) can) in
    record { d = found.d; is_made = found.is_made; owned = found.owned; bytes = ap bytes_of found.message }

-- the answer that lands with such a datagram, if its request is still asked
abbrev pub landing_if : Bool → Message → ℕ → Option LandedAnswer
landing_if asked message reading =
    option_map (λ m. record { message = m; reading = reading }) (cond asked (Some message) None)

-- the landing of its bytes is that of its message
pub landing-is : (message : Message) (bytes : List ℕ) (reading : ℕ) (older : History) → answer_in bytes ≡ Some message
    → landed_answer (Clock why.Land reading) (Took peer bytes ∷ older)
    ≡ landing_if (is_asked message.originate (Took peer bytes ∷ older)) message reading
landing-is message bytes reading older e =
    ap (λ (o : Option Message). option_map (λ m. record { message = m; reading = reading })
    (option_and_then (λ (m : Message). cond (is_asked m.originate (Took peer bytes ∷ older)) (Some m) None) o)) e

-- a landed answer is one of the datagrams made, and it was given before it landed
abbrev pub CameFrom : Header → ℕ → List Numbered → (ℕ → ℕ) → LandedAnswer → History → Type 0
CameFrom header who lines moment_of response before =
    (d : Made) × IsIn d (made header lines) × (d.message ≡ response.message) × (d.given_at ≤ moment_of (length before))
    × (d.owner ≡ who)

-- an answer that lands at this entry came from a line
abbrev pub CameAt : Header → ℕ → List Numbered → (ℕ → ℕ) → Entry → History → Type 0
CameAt header who lines moment_of entry before =
    IfSome (landed_answer entry before) (λ response. CameFrom header who lines moment_of response before)

-- what follows from a fact of each entry holds of each
pub each-map : (P Q : Entry → History → Type 0) (history : History)
    → ((entry : Entry) (older : History) → P entry older → Q entry older) → Each P history → Each Q history
each-map P Q [] f each = tt
each-map P Q (entry ∷ older) f each = (f entry older each.0, each-map P Q older f each.1)

-- what is in a list is in a longer one
in-after : {A : Type 0} (xs ys : List A) (a : A) → IsIn a ys → IsIn a (xs ++ ys)
in-after [] ys a h = h
in-after (x ∷ xs) ys a h = inr (in-after xs ys a h)

-- nothing lands with an entry of a session
came_talk : (header : Header) (who : ℕ) (lines : List Numbered) (moment_of : ℕ → ℕ) (entry : Entry) (before : History)
    → IsTalk entry → CameAt header who lines moment_of entry before
came_talk header who lines moment_of entry before talk = grind (arith, talk)

module _ (world : World) (moment_of : ℕ → ℕ) (header : Header) (who : ℕ) (first : 1 ≤ who)
    (declared : IsDeclared header) where
  -- what is known of lines where some more led to `all`
  abbrev AreKnown : List Numbered → List Numbered → Type 0
  AreKnown all lines =
      AreAccepted header lines × Agrees world moment_of header who lines
      × ((d : Made) → IsIn d (made header lines) → IsIn d (made header all))

  -- so it is of the entries of one verb
  came_by : (all older : List Numbered) (verb : Verb) → AreKnown all older
      → can_exchange header older who verb ≡ true → AreHere moment_of header who older verb
      → Adds (CameAt header who all moment_of) (datagrams header older) verb (history_of who header older)
  came_by all older (Land datagram reading) known can here =
      let h : History = history_of who header older in
      let l = lands header older who datagram can in
      let is = made_each world moment_of header who older l.d first known.0 known.1 l.owned l.is_made in
      let bytes : List ℕ = bytes_of (numbered datagram (datagrams header older)) in
      let at : moment_of (suc (length h)) ≡ length older = here (suc (length h)) (omega arith) (omega arith) in
      let answer : answer_in bytes ≡ Some l.d.message =
      ap answer_in l.bytes ∙ answer-in world moment_of header who older l.d declared is in
      let came : CameFrom header who all moment_of
      (record { message = l.d.message; reading = reading }) (Took peer bytes ∷ h) =
      (l.d, known.2 l.d l.is_made, refl, omega (arith, is.before, at), l.owned) in (
        rw (landing-is l.d.message bytes reading h answer)
            (elim (is_asked l.d.message.originate (Took peer bytes ∷ h)) as (λ b. IfSome (landing_if b l.d.message
            reading) (λ response. CameFrom header who all moment_of response (Took peer bytes ∷ h)))
            [ true ↦ came | false ↦ tt ]),
        tt,
      )
  came_by all older (Ask reading) known can here = (tt, tt)
  came_by all older _ known can here = tt

  -- each answer that landed at companion `who` by accepted lines is one of the datagrams made for it
  pub came_each : (lines : List Numbered) → AreAccepted header lines → Agrees world moment_of header who lines
      → Each (CameAt header who lines moment_of) (history_of who header lines)
  came_each lines accepted agreed =
      each_line header who (CameAt header who lines moment_of) (AreKnown lines)
      (came_talk header who lines moment_of)
      (λ now older known. (known.0.4, known.1.2, λ d is. known.2 d (in-after _ (made header older) d is)))
      (λ now older own known. came_by lines older now.line.verb
      (known.0.4, known.1.2, λ d is. known.2 d (in-after _ (made header older) d is))
      (can_exchange_now header now older who own known.0) (entries-here moment_of header who now older own known.1.1))
      lines (accepted, agreed, λ d is. is)
