-- Where the datagrams of accepted lines come from.
use Rattle.std.proofs.Common.{◌≡◌, ℕ, suc, ◌<◌, ◌≤◌, ◌⊎◌, inl, inr, arith, ap, sym, subst, ◌∙◌, refl, Bool, true, false}
use Rattle.std.proofs.Common.{cond, ◌==◌, not, List, [], ◌∷◌, ◌++◌, map, length, Option, Some, None, is_some, unwrap_or}
use Rattle.std.proofs.Common.{◌||◌, eq-eqb, ne_eqb, option_map, option_to_list}
use Rattle.css_meaning.specs.Happened.{Numbered, requests, tickets, ticket_by, taken_for, server_of, answers_to}
use Rattle.css_meaning.specs.Happened.{answers_by, datagrams, owners_by, made_for, gives, is_given}
use Rattle.css_meaning.specs.Numbering.{numbered}
use Rattle.css_meaning.specs.Verdicts.{tv_reading, can_exchange}
use Rattle.css_meaning.specs.Accepted.{AreAccepted}
use Rattle.css_meaning.specs.Worlds.{moment}
use Rattle.css_meaning.proofs.Names.{length-map, and_parts, false≢true, or_right, not-true, LIMIT, Message, IsWithin}
use Rattle.css_meaning.proofs.Names.{precision_ns, World, IsIn, Server, Ticket, answer_message, follow_up_to, Header}
use Rattle.css_meaning.proofs.Names.{Verb, Give, IsVerb}
use Rattle.css_meaning.proofs.Worlds.{tested_ok}
use Rattle.css_meaning.proofs.Ends.{can_exchange_now}
use Rattle.css_meaning.proofs.Moments.{Agrees, NearBy, tv_near}
use Rattle.css_meaning.proofs.Tickets.{numbered-in, in-append, IsTaken, taken-longer, taken_each}

-- ---- datagrams with where they come from
-- a datagram, the number of the line's moment at which it was made, the number of its take, the companion that it is
-- for, the ticket, and the reading at which it was given
pub record Made : Type 0 where
  pub message : Message
  pub given_at : ℕ
  pub take : ℕ
  pub owner : ℕ
  pub ticket : Ticket
  pub reading : ℕ

-- a datagram of these
abbrev tagged : ℕ → ℕ → ℕ → ℕ → Ticket → Message → Made
tagged at take owner reading ticket message = record {
  message = message;
  given_at = at;
  take = take;
  owner = owner;
  ticket = ticket;
  reading = reading;
}

-- the datagrams of a ticket that may be missing
abbrev made_to : Header → ℕ → ℕ → ℕ → ℕ → Option Ticket → List Made
made_to header at take owner reading None = []
made_to header at take owner reading (Some ticket) =
    map (tagged at take owner reading ticket) (answers_to (server_of header) reading (Some ticket))

-- those that a verb makes
abbrev made_by : Header → ℕ → List Ticket → List ℕ → Verb → List Made
made_by header at taken owners (Give take reading) =
    made_to header at take (unwrap_or (numbered take owners) 0) reading (numbered take taken)
made_by header at taken owners _ = []

-- those that it makes after lines, and those of all lines
abbrev made_at : Header → List Numbered → Verb → List Made
made_at header older verb = made_by header (length older) (tickets header older) (taken_for older) verb

abbrev pub made : Header → List Numbered → List Made
made header [] = []
made header (now ∷ older) = made_at header older now.line.verb ++ made header older

-- ---- the same datagrams
abbrev message_of : Made → Message
message_of d = d.message

abbrev owner_of : Made → ℕ
owner_of d = d.owner

-- a part of two lists
part-append : {A : Type 0} (part : Made → A) (xs ys : List Made) → map part (xs ++ ys) ≡ map part xs ++ map part ys
part-append part [] ys = refl
part-append part (x ∷ xs) ys = ap (λ ms. part x ∷ ms) (part-append part xs ys)

-- the messages of datagrams are those that they were made of
messages-map : (at take owner reading : ℕ) (ticket : Ticket) (ms : List Message)
    → map message_of (map (tagged at take owner reading ticket) ms) ≡ ms
messages-map at take owner reading ticket [] = refl
messages-map at take owner reading ticket (m ∷ ms) = ap (λ xs. m ∷ xs) (messages-map at take owner reading ticket ms)

-- they are all for one companion
owners-map : (at take owner reading : ℕ) (ticket : Ticket) (ms : List Message)
    → map owner_of (map (tagged at take owner reading ticket) ms) ≡ map (λ (m : Message). owner) ms
owners-map at take owner reading ticket [] = refl
owners-map at take owner reading ticket (m ∷ ms) = ap (λ xs. owner ∷ xs) (owners-map at take owner reading ticket ms)

-- those of a ticket are its answers
messages-to : (header : Header) (at take owner reading : ℕ) (o : Option Ticket)
    → map message_of (made_to header at take owner reading o) ≡ answers_to (server_of header) reading o
messages-to header at take owner reading None = refl
messages-to header at take owner reading (Some ticket) =
    messages-map at take owner reading ticket (answers_to (server_of header) reading (Some ticket))

owners-to : (header : Header) (at take owner reading : ℕ) (o : Option Ticket)
    → map owner_of (made_to header at take owner reading o)
    ≡ map (λ (m : Message). owner) (answers_to (server_of header) reading o)
owners-to header at take owner reading None = refl
owners-to header at take owner reading (Some ticket) =
    owners-map at take owner reading ticket (answers_to (server_of header) reading (Some ticket))

-- those of a verb are its answers
messages-by : (header : Header) (at : ℕ) (taken : List Ticket) (owners : List ℕ) (verb : Verb)
    → map message_of (made_by header at taken owners verb) ≡ answers_by header taken verb
messages-by header at taken owners (Give take reading) =
    messages-to header at take (unwrap_or (numbered take owners) 0) reading (numbered take taken)
messages-by header at taken owners _ = refl

owners-by : (header : Header) (at : ℕ) (taken : List Ticket) (owners : List ℕ) (verb : Verb)
    → map owner_of (made_by header at taken owners verb) ≡ owners_by header taken owners verb
owners-by header at taken owners (Give take reading) =
    owners-to header at take (unwrap_or (numbered take owners) 0) reading (numbered take taken)
owners-by header at taken owners _ = refl

-- those of all lines are the datagrams of the definition
messages-made : (header : Header) (lines : List Numbered) → map message_of (made header lines) ≡ datagrams header lines
messages-made header [] = refl
messages-made header (now ∷ older) =
    part-append message_of (made_at header older now.line.verb) (made header older)
    ∙ ap (λ xs. xs ++ map message_of (made header older))
    (messages-by header (length older) (tickets header older) (taken_for older) now.line.verb)
    ∙ ap (λ ys. answers_by header (tickets header older) now.line.verb ++ ys) (messages-made header older)

-- and they are for its companions
owners-made : (header : Header) (lines : List Numbered) → map owner_of (made header lines) ≡ made_for header lines
owners-made header [] = refl
owners-made header (now ∷ older) =
    part-append owner_of (made_at header older now.line.verb) (made header older)
    ∙ ap (λ xs. xs ++ map owner_of (made header older))
    (owners-by header (length older) (tickets header older) (taken_for older) now.line.verb)
    ∙ ap (λ ys. owners_by header (tickets header older) (taken_for older) now.line.verb ++ ys)
    (owners-made header older)

-- each datagram is for one companion
pub made_count : (header : Header) (lines : List Numbered)
    → length (made_for header lines) ≡ length (datagrams header lines)
made_count header lines =
    sym (ap (λ (xs : List ℕ). length xs) (owners-made header lines)) ∙ length-map (made header lines) owner_of
    ∙ sym (length-map (made header lines) message_of)
    ∙ ap (λ (xs : List Message). length xs) (messages-made header lines)

-- a part of the item of a number is the item of that number of the parts
numbered-map : {A : Type 0} (part : Made → A) (number : ℕ) (xs : List Made)
    → numbered number (map part xs) ≡ option_map part (numbered number xs)
numbered-map part number [] = refl
numbered-map part number (x ∷ xs) =
    ap (λ n. cond (number == suc n) (Some (part x)) (numbered number (map part xs))) (length-map xs part)
    ∙ by (number == suc (length xs)) (numbered-map part number xs)
  where
    by : (b : Bool) → numbered number (map part xs) ≡ option_map part (numbered number xs)
        → cond b (Some (part x)) (numbered number (map part xs))
        ≡ option_map part (cond b (Some x) (numbered number xs))
    by true older = refl
    by false older = older

-- what is mapped to something comes from something
pub mapped_some : {A B : Type 0} (f : A → B) (o : Option A) (b : B) → option_map f o ≡ Some b
    → (a : A) × (o ≡ Some a) × (f a ≡ b)
mapped_some f None b e = absurd (cc)
mapped_some f (Some a) b e = (a, refl, cc)

-- A datagram with a number that is for a companion is one of those made, and is made for it.
pub record IsNumberedMade (header : Header) (number : ℕ) (lines : List Numbered) (who : ℕ) : Type 0 where
  pub d : Made
  pub is_made : IsIn d (made header lines)
  pub owned : d.owner ≡ who
  pub message : numbered number (datagrams header lines) ≡ Some d.message

pub numbered-made : (header : Header) (number : ℕ) (lines : List Numbered) (who : ℕ)
    → numbered number (made_for header lines) ≡ Some who → IsNumberedMade header number lines who
numbered-made header number lines who e =
    let found = mapped_some owner_of (numbered number (made header lines)) who
    (sym (numbered-map owner_of number (made header lines)) ∙ ap (numbered number) (owners-made header lines) ∙ e) in
    record {
      d = found.0;
      is_made = numbered-in number (made header lines) found.0 found.1;
      owned = found.2;
      message = ap (numbered number) (sym (messages-made header lines))
          ∙ numbered-map message_of number (made header lines) ∙ ap (option_map message_of) found.1;
    }

-- ---- what is known of a datagram
-- what a datagram tells: of a response whose transmit value is the sending, of a response that promises a follow-up, or
-- of a follow-up
pub data Tells (header : Header) (d : Made) : Type 0 where
  Plain : d.message ≡ answer_message (server_of header) d.ticket 1 d.reading → Tells header d
  Promise : d.ticket.follow_up ≡ true
      → d.message ≡ answer_message (server_of header) d.ticket 2 d.ticket.reading → Tells header d
  FollowUp : d.ticket.follow_up ≡ true
      → d.message ≡ answer_message (server_of header) d.ticket 3 d.reading → Tells header d

-- A datagram for companion `who` was made at a moment of the lines, for a ticket that was taken before and is answered
-- since.
pub record IsMade (world : World) (moment_of : ℕ → ℕ) (header : Header) (who : ℕ) (lines : List Numbered)
    (d : Made) : Type 0 where
  pub tells : Tells header d
  pub in_tickets : numbered d.take (tickets header lines) ≡ Some d.ticket
  pub given : is_given d.take lines ≡ true
  pub before : d.given_at < length lines
  pub taken : IsTaken world moment_of header who lines d.ticket
  pub later : taken.received_at ≤ d.given_at
  pub near : IsWithin (precision_ns header.tv_precision) d.reading (world d.given_at).wall
  pub range : d.reading < LIMIT

-- ---- numbers that stay
pub numbered-le : {A : Type 0} (number : ℕ) (items : List A) (a : A)
    → numbered number items ≡ Some a → number ≤ length items
numbered-le number [] a e = absurd (cc)
numbered-le number (item ∷ older) a e = let next = numbered-le number older a in grind (arith, e, next)

-- an item keeps its number where another comes
numbered-stays : {A : Type 0} (number : ℕ) (item : A) (older : List A) (a : A) → numbered number older ≡ Some a
    → numbered number (item ∷ older) ≡ Some a
numbered-stays number item older a e =
    ap (λ b. cond b (Some item) (numbered number older))
    (ne_eqb number (suc (length older)) (λ same. absurd (omega (arith, numbered-le number older a e, same)))) ∙ e

-- the number of what was there stays
numbered-with : {A : Type 0} (number : ℕ) (o : Option A) (older : List A) (a : A) → numbered number older ≡ Some a
    → numbered number (option_to_list o ++ older) ≡ Some a
numbered-with number None older a e = e
numbered-with number (Some item) older a e = numbered-stays number item older a e

-- what is known of a datagram is known after one more line
made-longer : (world : World) (moment_of : ℕ → ℕ) (header : Header) (who : ℕ) (now : Numbered) (older : List Numbered)
    (d : Made) → IsMade world moment_of header who older d → IsMade world moment_of header who (now ∷ older) d
made-longer world moment_of header who now older d is = record {
  tells = is.tells;
  in_tickets = numbered-with d.take (ticket_by header (requests older) (tickets header older) now.line.verb)
      (tickets header older) d.ticket is.in_tickets;
  given = or_right (gives d.take now.line.verb) (is_given d.take older) is.given;
  before = omega (arith, is.before);
  taken = taken-longer world moment_of header who now older d.ticket is.taken;
  later = is.later;
  near = is.near;
  range = is.range;
}

-- ---- what is made at a line
-- the datagrams for a ticket, each with what it tells
tells_of : (header : Header) (at take owner reading : ℕ) (ticket : Ticket) (d : Made)
    → IsIn d (made_to header at take owner reading (Some ticket))
    → (d.given_at ≡ at) × (d.take ≡ take) × (d.ticket ≡ ticket) × (d.reading ≡ reading) × Tells header d
    × (d.owner ≡ owner)
tells_of header at take owner reading ticket d h = by ticket.follow_up refl h
  where
    server : Server
    server = server_of header

    tag : Message → Made
    tag = λ m. tagged at take owner reading ticket m

    known : (m : Message) → d ≡ tag m → Tells header (tag m)
        → (d.given_at ≡ at) × (d.take ≡ take) × (d.ticket ≡ ticket) × (d.reading ≡ reading) × Tells header d
        × (d.owner ≡ owner)
    known m e tells = (
      ap (λ (x : Made). x.given_at) e,
      ap (λ (x : Made). x.take) e,
      ap (λ (x : Made). x.ticket) e,
      ap (λ (x : Made). x.reading) e,
      subst (λ (x : Made). Tells header x) (sym e) tells,
      ap (λ (x : Made). x.owner) e,
    )

    by : (f : Bool) → ticket.follow_up ≡ f
        → IsIn d (map tag (option_to_list (cond f (Some (follow_up_to server ticket reading)) None)
        ++ cond f (answer_message server ticket 2 ticket.reading) (answer_message server ticket 1 reading) ∷ []))
        → (d.given_at ≡ at) × (d.take ≡ take) × (d.ticket ≡ ticket) × (d.reading ≡ reading) × Tells header d
        × (d.owner ≡ owner)
    by true f (inl e) = known (follow_up_to server ticket reading) e (FollowUp f refl)
    by true f (inr (inl e)) = known (answer_message server ticket 2 ticket.reading) e (Promise f refl)
    by true f (inr (inr e)) = absurd e
    by false f (inl e) = known (answer_message server ticket 1 reading) e (Plain refl)
    by false f (inr e) = absurd e

-- where a companion's number stands in the place of one that may be missing, it is there
owner_there : (o : Option ℕ) (who : ℕ) → 1 ≤ who → unwrap_or o 0 ≡ who → o ≡ Some who
owner_there None who first e = absurd (omega (arith, e, first))
owner_there (Some w) who first e = ap Some e

-- the datagrams for companion `who` of a line that answers a take
made_by-line : (world : World) (moment_of : ℕ → ℕ) (header : Header) (who : ℕ) (now : Numbered) (older : List Numbered)
    (d : Made) (verb : Verb) → now.line.verb ≡ verb → 1 ≤ who → IsVerb verb → world (length older) ≡ moment older now
    → NearBy (precision_ns header.tv_precision) now.line.w (tv_reading verb)
    → ((number : ℕ) (ticket : Ticket) → numbered number (tickets header older) ≡ Some ticket
    → numbered number (taken_for older) ≡ Some who → IsTaken world moment_of header who older ticket)
    → d.owner ≡ who → IsIn d (made_at header older verb) → IsMade world moment_of header who (now ∷ older) d
made_by-line world moment_of header who now older d (Give take reading) is first range at near taken owned h =
    by (numbered take (tickets header older)) refl h
  where
    owner : ℕ
    owner = unwrap_or (numbered take (taken_for older)) 0

    by : (o : Option Ticket) → numbered take (tickets header older) ≡ o
        → IsIn d (made_to header (length older) take owner reading o) → IsMade world moment_of header who (now ∷ older)
        d
    by None e p = absurd p
    by (Some ticket) e p =
        let known = tells_of header (length older) take owner reading ticket d p in
        let ticket_is : ticket ≡ d.ticket = sym known.2 in
        let numbered_so : numbered take (tickets header older) ≡ Some d.ticket = e ∙ ap Some ticket_is in
        let owned_so = owner_there (numbered take (taken_for older)) who first (sym known.5 ∙ owned) in
        let taken_so = taken take d.ticket numbered_so owned_so in
        record {
          tells = known.4;
          in_tickets = numbered-with d.take (ticket_by header (requests older) (tickets header older) now.line.verb)
              (tickets header older) d.ticket
              (rw known.1 numbered_so);
          given = ap (λ (v : Verb). gives d.take v || is_given d.take older) is
              ∙ ap (λ b. b || is_given d.take older) (eq-eqb take d.take (sym known.1));
          before = omega (arith, known.0);
          taken = taken-longer world moment_of header who now older d.ticket taken_so;
          later = omega (arith, known.0, taken_so.before);
          near = rw known.3 (rw known.0 (rw (ap (λ m. m.wall) at) near));
          range = rw known.3 range.reading;
        }
made_by-line world moment_of header who now older d _ is first range at near taken owned h = absurd h

-- each datagram of accepted lines for companion `who` was made so
pub made_each : (world : World) (moment_of : ℕ → ℕ) (header : Header) (who : ℕ) (lines : List Numbered) (d : Made)
    → 1 ≤ who → AreAccepted header lines → Agrees world moment_of header who lines
    → d.owner ≡ who → IsIn d (made header lines) → IsMade world moment_of header who lines d
made_each world moment_of header who [] d first accepted agreed owned h = absurd h
made_each world moment_of header who (now ∷ older) d first accepted agreed owned h =
    elim (in-append (made_at header older now.line.verb) (made header older) d h) [
      | inl p ↦ made_by-line world moment_of header who now older d now.line.verb refl first accepted.0.verb agreed.0
          (tv_near header older now (tested_ok header older now accepted.3.0 accepted.3.1))
          (λ number ticket p q. taken_each world moment_of header who older number ticket accepted.4 agreed.2 p q)
          owned p
      | inr q ↦ made-longer world moment_of header who now older d
          (made_each world moment_of header who older d first accepted.4 agreed.2 owned q)
    ]

-- ---- one answer for a take
-- the take and the moment of the datagrams of a line; the take had no answer before
record IsGivenNow (older : List Numbered) (d : Made) : Type 0 where
  at : d.given_at ≡ length older
  fresh : is_given d.take older ≡ false

-- what this verb makes is given at this line
given_now : (header : Header) (older : List Numbered) (who : ℕ) (d : Made) (verb : Verb)
    → can_exchange header older who verb ≡ true → IsIn d (made_at header older verb) → IsGivenNow older d
given_now header older who d (Give take reading) can h = by (numbered take (tickets header older)) h
  where
    fresh : is_given take older ≡ false
    fresh = not-true (is_given take older)
        (and_parts (is_some (numbered take (tickets header older))) (not (is_given take older)) can).1

    owner : ℕ
    owner = unwrap_or (numbered take (taken_for older)) 0

    by : (o : Option Ticket) → IsIn d (made_to header (length older) take owner reading o) → IsGivenNow older d
    by None p = absurd p
    by (Some ticket) p =
        let known = tells_of header (length older) take owner reading ticket d p in
        record { at = known.0; fresh = ap (λ (k : ℕ). is_given k older) known.1 ∙ fresh }
given_now header older who d _ can h = absurd h

-- a datagram of earlier lines has its take answered there
given_before : (header : Header) (lines : List Numbered) (d : Made) → IsIn d (made header lines)
    → is_given d.take lines ≡ true
given_before header [] d h = absurd h
given_before header (now ∷ older) d h =
    elim (in-append (made_at header older now.line.verb) (made header older) d h) [
      | inl p ↦ by now.line.verb p
      | inr q ↦ or_right (gives d.take now.line.verb) (is_given d.take older) (given_before header older d q)
    ]
  where
    by : (verb : Verb) → IsIn d (made_at header older verb) → (gives d.take verb || is_given d.take older) ≡ true
    by (Give take reading) p = to (numbered take (tickets header older)) p
      where
        owner : ℕ
        owner = unwrap_or (numbered take (taken_for older)) 0

        to : (o : Option Ticket) → IsIn d (made_to header (length older) take owner reading o)
            → ((take == d.take) || is_given d.take older) ≡ true
        to None q = absurd q
        to (Some ticket) q = ap (λ b. b || is_given d.take older)
            (eq-eqb take d.take (sym (tells_of header (length older) take owner reading ticket d q).1))
    by _ p = absurd p

-- two datagrams of one take were made at one moment
pub one_giving : (header : Header) (lines : List Numbered) (a b : Made) → AreAccepted header lines
    → IsIn a (made header lines) → IsIn b (made header lines) → a.take ≡ b.take → a.given_at ≡ b.given_at
one_giving header [] a b accepted p q e = absurd p
one_giving header (now ∷ older) a b accepted p q e =
    by (in-append here rest a p) (in-append here rest b q) (λ u v. one_giving header older a b accepted.4 u v e)
  where
    here : List Made
    here = made_at header older now.line.verb

    rest : List Made
    rest = made header older

    can : can_exchange header older now.line.who now.line.verb ≡ true
    can = can_exchange_now header now older now.line.who refl accepted

    by : IsIn a here ⊎ IsIn a rest → IsIn b here ⊎ IsIn b rest → (IsIn a rest → IsIn b rest → a.given_at ≡ b.given_at)
        → a.given_at ≡ b.given_at
    by (inl u) (inl v) next =
        (given_now header older now.line.who a now.line.verb can u).at
        ∙ sym (given_now header older now.line.who b now.line.verb can v).at
    by (inl u) (inr v) next = absurd (false≢true (sym (given_now header older now.line.who a now.line.verb can u).fresh
        ∙ ap (λ (k : ℕ). is_given k older) e ∙ given_before header older b v))
    by (inr u) (inl v) next = absurd (false≢true (sym (given_now header older now.line.who b now.line.verb can v).fresh
        ∙ ap (λ (k : ℕ). is_given k older) (sym e) ∙ given_before header older a u))
    by (inr u) (inr v) next = next u v
