-- Where the tickets of accepted lines come from.
use Rattle.std.proofs.Common.{◌≡◌, ℕ, suc, ◌<◌, ◌≤◌, ◌⊎◌, inl, inr, arith, ap, sym, subst, ◌∙◌, refl, Bool, true, false}
use Rattle.std.proofs.Common.{cond, ◌==◌, List, [], ◌∷◌, ◌++◌, length, All, Option, Some, None, is_some, Result}
use Rattle.std.proofs.Common.{eqb-true, option_map, option_and_then, option_to_list}
use Rattle.css_model.specs.declared.Stamp.{Stamp}
use Rattle.css_model.specs.Wire.{encoded, request_at, stamp_of}
use Rattle.css_model.specs.Explains.{IsJustAsked, WasAsked}
use Rattle.css_server.specs.Exchanges.{ArePromised, PromisesRise}
use Rattle.css_meaning.specs.Happened.{Numbered, asked_by, requests, askers, ticket_at, ticket_by, asker_by, tickets}
use Rattle.css_meaning.specs.Happened.{taken_for, datagrams, events_of, history_of, peer}
use Rattle.css_meaning.specs.Numbering.{numbered}
use Rattle.css_meaning.specs.Verdicts.{tv_reading}
use Rattle.css_meaning.specs.Accepted.{AreAccepted}
use Rattle.css_meaning.specs.Worlds.{moment}
use Rattle.css_meaning.proofs.Names.{result_ok, eqb_tells, LIMIT, Message, WcFault, IsWithin, precision_ns, World}
use Rattle.css_meaning.proofs.Names.{Entry, History, Sent, request_by, IsIn, Ticket, Header, Verb, Ask, Take, IsVerb}
use Rattle.css_meaning.proofs.Worlds.{all-head, all-tail, tested_ok}
use Rattle.css_meaning.proofs.Ends.{history_now, history_other}
use Rattle.css_meaning.proofs.Lawful.{done_at, once_by, request_back}
use Rattle.css_meaning.proofs.Moments.{Agrees, AreHere, NearBy, tv_near, entries-here}

-- ---- lists
-- an item with a number is among the items
pub numbered-in : {A : Type 0} (number : ℕ) (items : List A) (a : A) → numbered number items ≡ Some a → IsIn a items
numbered-in number [] a e = absurd (cc)
numbered-in number (item ∷ older) a e = let next = numbered-in number older a in grind (arith, e, next)

-- items of two lists of equal length have the same numbers
pub numbered-both : {A B : Type 0} (number : ℕ) (xs : List A) (ys : List B) → length xs ≡ length ys
    → is_some (numbered number xs) ≡ is_some (numbered number ys)
numbered-both number [] [] same = refl
numbered-both number [] (y ∷ ys) same = absurd (omega (arith, same))
numbered-both number (x ∷ xs) [] same = absurd (omega (arith, same))
numbered-both number (x ∷ xs) (y ∷ ys) same =
    let counts : length xs ≡ length ys = omega (arith, same) in
    let older = numbered-both number xs ys counts in grind (arith, counts, older)

-- an item of two lists, one after the other, is among one of them
pub in-append : {A : Type 0} (xs ys : List A) (a : A) → IsIn a (xs ++ ys) → IsIn a xs ⊎ IsIn a ys
in-append [] ys a h = inr h
in-append (x ∷ xs) ys a (inl e) = inl (inl e)
in-append (x ∷ xs) ys a (inr h) = let before = in-append xs ys a h in grind (arith, before)

-- what holds of all items holds of each
all-in : {A : Type 0} (P : A → Type 0) (items : List A) (a : A) → All P items → IsIn a items → P a
all-in P [] a each h = absurd h
all-in P (x ∷ xs) a each (inl e) = subst P (sym e) (all-head P x xs each)
all-in P (x ∷ xs) a each (inr h) = all-in P xs a (all-tail P x xs each) h

-- the newest item has the number of their count
numbered-newest : {A : Type 0} (number : ℕ) (item : A) (older : List A) (a : A)
    → (number == suc (length older)) ≡ true → numbered number (item ∷ older) ≡ Some a → item ≡ a
numbered-newest number item older a is e =
    let same : Some item ≡ Some a = sym (ap (λ b. cond b (Some item) (numbered number older)) is) ∙ e in cc

-- each other item is an older one
numbered-older : {A : Type 0} (number : ℕ) (item : A) (older : List A) (a : A)
    → (number == suc (length older)) ≡ false → numbered number (item ∷ older) ≡ Some a → numbered number older ≡ Some a
numbered-older number item older a is e = sym (ap (λ b. cond b (Some item) (numbered number older)) is) ∙ e

-- ---- the companions of requests and of takes
-- each request has its companion
pub askers_count : (lines : List Numbered) → length (askers lines) ≡ length (requests lines)
askers_count [] = refl
askers_count (now ∷ older) = let same = askers_count older in grind (arith, same)

-- so has each take
pub takes_count : (header : Header) (lines : List Numbered) → length (taken_for lines) ≡ length (tickets header lines)
takes_count header [] = refl
takes_count header (now ∷ older) =
    let same = takes_count header older in
    let both = λ (request : ℕ). numbered-both request (requests older) (askers older) (sym (askers_count older)) in
    grind (arith, same, both)

-- ---- requests
-- The request of a reading was sent by companion `who` at lines, in the entry of that number.
pub record IsSent (moment_of : ℕ → ℕ) (header : Header) (who : ℕ) (lines : List Numbered) (reading : ℕ) : Type 0 where
  pub ask : ℕ
  pub was : WasAsked (stamp_of reading) ask (history_of who header lines)
  pub before : moment_of ask < length lines
  pub range : reading < LIMIT

-- what was asked stays so
pub was-longer : (header : Header) (who : ℕ) (now : Numbered) (older : List Numbered) (originate : Stamp) (ask : ℕ)
    → WasAsked originate ask (history_of who header older)
    → WasAsked originate ask (history_of who header (now ∷ older))
was-longer header who now older originate ask h =
    let P : Entry → History → Type 0 = λ entry before. (request_by entry ≡ Some originate)
    × (asked : IsJustAsked originate before) × (ask ≡ length asked.before) in
    elim (eqb_tells now.line.who who) [
      | inl own ↦
          rw (history_now header now older who own.1) (once_by P header who (datagrams header older)
          (events_of header older) now.line.verb (history_of who header older) h)
      | inr other ↦ rw (history_other header now older who other.1) h
    ]

-- what was sent stays so
sent-longer : (moment_of : ℕ → ℕ) (header : Header) (who : ℕ) (now : Numbered) (older : List Numbered) (reading : ℕ)
    → IsSent moment_of header who older reading → IsSent moment_of header who (now ∷ older) reading
sent-longer moment_of header who now older reading sent = record {
  ask = sent.ask;
  was = was-longer header who now older (stamp_of reading) sent.ask sent.was;
  before = omega (arith, sent.before);
  range = sent.range;
}

-- a request's bytes are those of a request with its reading
request_by-sent : (reading : ℕ) → reading < LIMIT
    → request_by (Sent peer (encoded (request_at reading))) ≡ Some (stamp_of reading)
request_by-sent reading range =
    ap (λ (came : Result Message WcFault). option_map (λ (message : Message). message.originate)
    (option_and_then (λ (message : Message). cond (message.message_type == 0) (Some message) None) (result_ok came)))
    (request_back reading range)

-- the request of the newest line was sent there
sent-now : (header : Header) (who : ℕ) (older : List Numbered) (reading : ℕ) → reading < LIMIT
    → WasAsked (stamp_of reading) (length (history_of who header older)) (done_at header older who (Ask reading))
sent-now header who older reading range =
    inl (
      request_by-sent reading range,
      record { reading = reading; before = history_of who header older; just_before = refl; same = refl },
      refl,
    )

-- a request of this line was sent at its moment
sent_by-line : (moment_of : ℕ → ℕ) (header : Header) (who : ℕ) (now : Numbered) (older : List Numbered) (reading : ℕ)
    (verb : Verb) → now.line.verb ≡ verb → now.line.who ≡ who
    → IsVerb verb → AreHere moment_of header who older now.line.verb
    → asked_by verb ≡ Some reading → IsSent moment_of header who (now ∷ older) reading
sent_by-line moment_of header who now older reading (Ask asked) is own range here e =
    let h : History = history_of who header older in
    let same : asked ≡ reading = cc in
    let here_too : AreHere moment_of header who older (Ask asked) = rw is at here in
    let at : moment_of (length h) ≡ length older = here_too (length h) (omega arith) (omega arith) in
    let in_range : reading < LIMIT = rw same at range in
    record {
      ask = length h;
      was = rw (history_now header now older who own) (rw is (rw same (sent-now header who older reading in_range)));
      before = omega (arith, at);
      range = in_range;
    }
sent_by-line moment_of header who now older reading _ is own range here e = absurd (cc)

-- each request that companion `who` sent at accepted lines was sent
pub sent_each : (world : World) (moment_of : ℕ → ℕ) (header : Header) (who : ℕ) (lines : List Numbered)
    (number reading : ℕ) → AreAccepted header lines → Agrees world moment_of header who lines
    → numbered number (requests lines) ≡ Some reading → numbered number (askers lines) ≡ Some who
    → IsSent moment_of header who lines reading
sent_each world moment_of header who [] number reading accepted agreed p q = absurd (cc)
sent_each world moment_of header who (now ∷ older) number reading accepted agreed p q =
    by (asked_by now.line.verb) refl p q
    (λ u v. sent_each world moment_of header who older number reading accepted.4 agreed.2 u v)
  where
    by : (o : Option ℕ) → asked_by now.line.verb ≡ o
        → numbered number (option_to_list o ++ requests older) ≡ Some reading
        → numbered number (option_to_list (option_map (λ r. now.line.who) o) ++ askers older) ≡ Some who
        → (numbered number (requests older) ≡ Some reading → numbered number (askers older) ≡ Some who
        → IsSent moment_of header who older reading)
        → IsSent moment_of header who (now ∷ older) reading
    by None is p q earlier = sent-longer moment_of header who now older reading (earlier p q)
    by (Some asked) is p q earlier = at (number == suc (length (requests older))) refl
      where
        count : (number == suc (length (requests older))) ≡ (number == suc (length (askers older)))
        count = ap (λ n. number == suc n) (sym (askers_count older))

        at : (b : Bool) → (number == suc (length (requests older))) ≡ b
            → IsSent moment_of header who (now ∷ older) reading
        at true newest =
            let same = numbered-newest number asked (requests older) reading newest p in
            let own = numbered-newest number now.line.who (askers older) who (sym count ∙ newest) q in
            sent_by-line moment_of header who now older reading now.line.verb refl own accepted.0.verb
            (entries-here moment_of header who now older own agreed.1) (is ∙ ap Some same)
        at false older_one =
            sent-longer moment_of header who now older reading
            (earlier (numbered-older number asked (requests older) reading older_one p)
            (numbered-older number now.line.who (askers older) who (sym count ∙ older_one) q))

-- ---- tickets
-- A ticket was given at a moment of the lines, for a request that companion `who` sent before; its reading is near the
-- wall clock there.
pub record IsTaken (world : World) (moment_of : ℕ → ℕ) (header : Header) (who : ℕ) (lines : List Numbered)
    (ticket : Ticket) : Type 0 where
  pub asked : ℕ
  pub ask : ℕ
  pub received_at : ℕ
  pub originate : ticket.originate ≡ stamp_of asked
  pub was : WasAsked (stamp_of asked) ask (history_of who header lines)
  pub later : moment_of ask ≤ received_at
  pub before : received_at < length lines
  pub near : IsWithin (precision_ns header.tv_precision) ticket.reading (world received_at).wall
  pub asked_range : asked < LIMIT
  pub range : ticket.reading < LIMIT

-- what was taken stays so
abbrev pub taken-longer : (world : World) (moment_of : ℕ → ℕ) (header : Header) (who : ℕ) (now : Numbered)
    (older : List Numbered) (ticket : Ticket)
    → IsTaken world moment_of header who older ticket → IsTaken world moment_of header who (now ∷ older) ticket
taken-longer world moment_of header who now older ticket taken = record {
  asked = taken.asked;
  ask = taken.ask;
  received_at = taken.received_at;
  originate = taken.originate;
  was = was-longer header who now older (stamp_of taken.asked) taken.ask taken.was;
  later = taken.later;
  before = omega (arith, taken.before);
  near = taken.near;
  asked_range = taken.asked_range;
  range = taken.range;
}

-- a ticket for this request was taken at the moment of the newest line
taken-now : (world : World) (moment_of : ℕ → ℕ) (header : Header) (who : ℕ) (now : Numbered) (older : List Numbered)
    (ticket : Ticket) (reading asked : ℕ) → reading < LIMIT → world (length older) ≡ moment older now
    → IsWithin (precision_ns header.tv_precision) reading now.line.w
    → IsSent moment_of header who older asked → ticket_at header (tickets header older) reading asked ≡ ticket
    → IsTaken world moment_of header who (now ∷ older) ticket
taken-now world moment_of header who now older ticket reading asked range at near known is =
    let value : reading ≡ ticket.reading = ap (λ (t : Ticket). t.reading) is in
    record {
      asked = asked;
      ask = known.ask;
      received_at = length older;
      originate = sym (ap (λ (t : Ticket). t.originate) is);
      was = was-longer header who now older (stamp_of asked) known.ask known.was;
      later = omega (arith, known.before);
      before = omega arith;
      near = subst (λ (r : ℕ). IsWithin (precision_ns header.tv_precision) r (world (length older)).wall) value
          (subst (λ (w : ℕ). IsWithin (precision_ns header.tv_precision) reading w) (sym (ap (λ m. m.wall) at)) near);
      asked_range = known.range;
      range = subst (λ (r : ℕ). r < LIMIT) value range;
    }

-- each ticket of accepted lines for a request of companion `who` was given for a request that it sent
pub taken_each : (world : World) (moment_of : ℕ → ℕ) (header : Header) (who : ℕ) (lines : List Numbered)
    (number : ℕ) (ticket : Ticket) → AreAccepted header lines → Agrees world moment_of header who lines
    → numbered number (tickets header lines) ≡ Some ticket → numbered number (taken_for lines) ≡ Some who
    → IsTaken world moment_of header who lines ticket
taken_each world moment_of header who [] number ticket accepted agreed p q = absurd (cc)
taken_each world moment_of header who (now ∷ older) number ticket accepted agreed p q =
    by now.line.verb accepted.0.verb (tv_near header older now (tested_ok header older now accepted.3.0 accepted.3.1)) p
    q
    (λ u v. taken_each world moment_of header who older number ticket accepted.4 agreed.2 u v)
  where
    -- what was taken before stays so
    longer : (earlier : IsTaken world moment_of header who older ticket)
        → IsTaken world moment_of header who (now ∷ older) ticket
    longer earlier = taken-longer world moment_of header who now older ticket earlier

    by : (v : Verb) → IsVerb v → NearBy (precision_ns header.tv_precision) now.line.w (tv_reading v)
        → numbered number (option_to_list (ticket_by header (requests older) (tickets header older) v)
        ++ tickets header older) ≡ Some ticket
        → numbered number (option_to_list (asker_by (askers older) v) ++ taken_for older) ≡ Some who
        → (numbered number (tickets header older) ≡ Some ticket → numbered number (taken_for older) ≡ Some who
        → IsTaken world moment_of header who older ticket)
        → IsTaken world moment_of header who (now ∷ older) ticket
    by (Take request reading) range near p q earlier =
        both (numbered request (requests older)) (numbered request (askers older)) refl refl p q
      where
        count : (number == suc (length (tickets header older))) ≡ (number == suc (length (taken_for older)))
        count = ap (λ n. number == suc n) (sym (takes_count header older))

        both : (o w : Option ℕ) → numbered request (requests older) ≡ o → numbered request (askers older) ≡ w
            → numbered number (option_to_list (option_map (ticket_at header (tickets header older) reading) o)
            ++ tickets header older) ≡ Some ticket
            → numbered number (option_to_list w ++ taken_for older) ≡ Some who
            → IsTaken world moment_of header who (now ∷ older) ticket
        both None None is whose p q = longer (earlier p q)
        both None (Some w) is whose p q =
            absurd (let none : false ≡ true = sym (ap is_some is)
            ∙ numbered-both request (requests older) (askers older) (sym (askers_count older)) ∙ ap is_some whose in cc)
        both (Some asked) None is whose p q =
            absurd (let none : true ≡ false = sym (ap is_some is)
            ∙ numbered-both request (requests older) (askers older) (sym (askers_count older)) ∙ ap is_some whose in cc)
        both (Some asked) (Some w) is whose p q = at (number == suc (length (tickets header older))) refl
          where
            new : Ticket
            new = ticket_at header (tickets header older) reading asked

            at : (b : Bool) → (number == suc (length (tickets header older))) ≡ b
                → IsTaken world moment_of header who (now ∷ older) ticket
            at true newest =
                let same = numbered-newest number new (tickets header older) ticket newest p in
                let own = numbered-newest number w (taken_for older) who (sym count ∙ newest) q in
                let sent = sent_each world moment_of header who older request asked accepted.4 agreed.2 is
                (whose ∙ ap Some own) in
                taken-now world moment_of header who now older ticket reading asked range.reading agreed.0 near sent
                same
            at false older_one =
                longer (earlier (numbered-older number new (tickets header older) ticket older_one p)
                (numbered-older number w (taken_for older) who (sym count ∙ older_one) q))
    by _ range near p q earlier = longer (earlier p q)

-- ---- promises
promised_by : (header : Header) (asked : List ℕ) (older : List Ticket) (verb : Verb) → ArePromised header.follow older
    → ArePromised header.follow (option_to_list (ticket_by header asked older verb) ++ older)
promised_by header asked older verb h = grind (arith, h)

-- follow-ups are promised as the television does
pub are_promised : (header : Header) (lines : List Numbered) → ArePromised header.follow (tickets header lines)
are_promised header [] = tt
are_promised header (now ∷ older) =
    promised_by header (requests older) (tickets header older) now.line.verb (are_promised header older)

-- two promises of equal readings have one number
pub one_promise : (items : List Ticket) (i j : ℕ) (a b : Ticket) → PromisesRise items → numbered i items ≡ Some a
    → numbered j items ≡ Some b → a.follow_up ≡ true → b.follow_up ≡ true → a.reading ≡ b.reading → i ≡ j
one_promise [] i j a b rise p q f g e = absurd (cc)
one_promise (ticket ∷ older) i j a b rise p q f g e =
    by (i == suc (length older)) (j == suc (length older)) refl refl p q
    (λ u v. one_promise older i j a b rise.1 u v f g e)
  where
    less : (k : ℕ) (x : Ticket) → ticket.follow_up ≡ true → numbered k older ≡ Some x → x.reading < ticket.reading
    less k x promise u =
        all-in (λ (t : Ticket). t.reading < ticket.reading) older x (rise.0 promise) (numbered-in k older x u)

    by : (s t : Bool) → (i == suc (length older)) ≡ s → (j == suc (length older)) ≡ t
        → cond s (Some ticket) (numbered i older) ≡ Some a → cond t (Some ticket) (numbered j older) ≡ Some b
        → (numbered i older ≡ Some a → numbered j older ≡ Some b → i ≡ j) → i ≡ j
    by true true s t u v next = omega (arith, eqb-true i (suc (length older)) s, eqb-true j (suc (length older)) t)
    by true false s t u v next =
        let same : ticket ≡ a = cc in
        absurd (omega (
          arith,
          less j b (ap (λ (x : Ticket). x.follow_up) same
              ∙ f) v,
          ap (λ (x : Ticket). x.reading) same,
          e,
        ))
    by false true s t u v next =
        let same : ticket ≡ b = cc in
        absurd (omega (
          arith,
          less i a (ap (λ (x : Ticket). x.follow_up) same
              ∙ g) u,
          ap (λ (x : Ticket). x.reading) same,
          e,
        ))
    by false false s t u v next = next u v
