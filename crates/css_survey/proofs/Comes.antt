-- What a generated line says can happen: its request was sent, its take waits for an answer, its datagram was made.
use Rattle.std.proofs.Common.{◌≡◌, ℕ, suc, ◌+◌, ◌-◌, ◌<◌, ◌≤◌, arith, ap, sym, subst, refl, Bool, true, false, List, []}
use Rattle.std.proofs.Common.{◌∷◌, length}
use Rattle.std.specs.Prelude.{Option, Some, None, IfSome, Ok, All, ◌==◌, ⊤, reverse, slice_index}
use Rattle.std.proofs.lemmas.Bool.{eq-eqb, ne_eqb, lt-ltb}
use Rattle.css_server.specs.Tickets.{Ticket, is_greater, greatest_with}
use Rattle.css_server.specs.Exchanges.{greatest_reading}
use Rattle.css_meaning.specs.Happened as happened
use Rattle.css_gen.specs.Crowd.{senders_after, askers_after}
use Rattle.css_survey.specs.Generated.{header_for}
use Rattle.css_survey.proofs.Names.{eqb-false, All-nil, All-cons, All-head, All-tail, All-weaker, Verb, Ask, Take, Give}
use Rattle.css_survey.proofs.Names.{Land, Print, Sleep, numbered, Numbered, requests, tickets, taken_for, made_for}
use Rattle.css_survey.proofs.Names.{is_given, carried_out, printed_for}
use Rattle.css_survey.proofs.MadeOf.{made_of, made_of-more, numbered-reverse, reverse-more, length-more}

-- an item of that number, of which this holds
record IsThere {A : Type 0} (P : A → Type 0) (number : ℕ) (items : List A) : Type 0 where
  item : A
  is : numbered number items ≡ Some item
  holds : P item

-- each number up to that of the items has one
item-there : {A : Type 0} (P : A → Type 0) (number : ℕ) (items : List A) → 1 ≤ number → number ≤ length items
    → All P items → IsThere P number items
item-there P number [] low high all = absurd (omega (arith, low, high))
item-there P number (item ∷ older) low high all =
    by (number == suc (length older)) refl
    (λ below. item-there P number older low below (All-tail P item older all))
  where
    by : (b : Bool) → (number == suc (length older)) ≡ b → (number ≤ length older → IsThere P number older)
        → IsThere P number (item ∷ older)
    by true e next = record { item = item; is = simp e; holds = All-head P item older all }
    by false e next =
        let before = next (omega (arith, high, eqb-false number (suc (length older)) e)) in
        record { item = before.item; is = simp (e, before.is); holds = before.holds }

-- a ticket of the television's clock up to this reading, which promises a follow-up
pub record IsTicket (shown : ℕ) (ticket : Ticket) : Type 0 where
  pub before : ticket.reading ≤ shown
  pub follows : ticket.follow_up ≡ true

-- a later reading is above the greatest one
greatest-low : (shown reading : ℕ) → shown < reading → (taken : List Ticket) → All (IsTicket shown) taken
    → IfSome (greatest_reading taken) (λ greatest. greatest < reading)
greatest-low shown reading later [] all = tt
greatest-low shown reading later (ticket ∷ older) all =
    by (greatest_reading older)
    (greatest-low shown reading later older (All-tail (IsTicket shown) ticket older all))
    (All-head (IsTicket shown) ticket older all).before
  where
    by : (greatest : Option ℕ) → IfSome greatest (λ g. g < reading) → ticket.reading ≤ shown
        → greatest_with ticket.reading greatest < reading
    by None h low = omega arith
    by (Some g) h low = omega arith

greater-by : (reading : ℕ) (greatest : Option ℕ) → IfSome greatest (λ g. g < reading)
    → is_greater reading greatest ≡ true
greater-by reading None h = refl
greater-by reading (Some g) h = lt-ltb g reading h

-- ---- what lines exchanged
-- These companions sent the requests, and those of these were received, the oldest first. So many of the first ones
-- were answered, each with two datagrams for the companion that asked. No take had a greater reading than this one.
pub record AreExchanged (companions : ℕ) (senders askers : List ℕ) (given shown : ℕ) (lines : List Numbered)
    : Type 0 where
  pub requests : length (requests lines) ≡ length senders
  pub asked_by : happened.askers lines ≡ reverse senders
  pub takes : length (tickets (header_for companions) lines) ≡ length askers
  pub tickets : All (IsTicket shown) (tickets (header_for companions) lines)
  pub taken_by : taken_for lines ≡ reverse askers
  pub answers : given ≤ length askers
  pub none_ahead : (take : ℕ) → given < take → is_given take lines ≡ false
  pub made_by : made_for (header_for companions) lines ≡ made_of askers given

-- What a line may say after these exchanges, where its clocks show `w` and `l`.
abbrev pub Comes : (senders askers : List ℕ) → (given w who l : ℕ) → Verb → Type 0
Comes senders askers given w who l (Ask reading) = reading ≡ l
Comes senders askers given w who l (Take request reading) = (1 ≤ request) × (request ≤ length senders) × (reading ≡ w)
Comes senders askers given w who l (Give take reading) = (take ≡ given + 1) × (given < length askers) × (reading ≡ w)
Comes senders askers given w who l (Land datagram reading) =
    (numbered datagram (made_of askers given) ≡ Some who) × (reading ≡ l)
Comes senders askers given w who l (Print reading) = reading ≡ l
Comes senders askers given w who l Sleep = ⊤
Comes senders askers given w who l _ = ⊥

-- how many takes were answered after it
abbrev pub given_after : ℕ → Verb → ℕ
given_after given (Give take reading) = given + 1
given_after given _ = given

-- one answer more makes two datagrams
made-next : (askers : List ℕ) (given : ℕ)
    → slice_index askers given ∷ slice_index askers given ∷ made_of askers given ≡ made_of askers (given + 1)
unfolding made_of
made-next askers given = let next : suc given ≡ given + 1 = omega arith in ap (made_of askers) next

all-any : (items : List ℕ) → All (λ (n : ℕ). ⊤) items
all-any [] = All-nil (λ (n : ℕ). ⊤)
all-any (n ∷ items) = All-cons (λ (n : ℕ). ⊤) n items tt (all-any items)

-- what a line says is carried out, and that is what was exchanged after it
pub record IsDone (companions : ℕ) (senders askers : List ℕ) (given : ℕ) (lines : List Numbered) (now : Numbered)
    : Type 0 where
  pub printed : List ℕ
  pub carried : carried_out (header_for companions) lines now ≡ Ok printed
  pub after : AreExchanged companions senders askers given now.line.w (now ∷ lines)

-- whether a verb sends no request, takes none, and answers none
abbrev pub is_idle : Verb → Bool
is_idle (Ask reading) = false
is_idle (Take request reading) = false
is_idle (Give take reading) = false
is_idle _ = true

-- the tickets stay below a later reading
tickets-later : (shown shown' : ℕ) → shown ≤ shown' → (taken : List Ticket) → All (IsTicket shown) taken
    → All (IsTicket shown') taken
tickets-later shown shown' later taken h =
    All-weaker (IsTicket shown) (IsTicket shown')
    (λ ticket is. record { before = omega (arith, is.before, later); follows = is.follows }) taken h

-- a line, with its number
abbrev pub saying : (number t w who l : ℕ) → Verb → Numbered
saying number t w who l verb = record { number = number; line = record { t = t; w = w; who = who; l = l; verb = verb } }

-- such a line leaves all as it was
pub still : (companions : ℕ) (senders askers : List ℕ) (given shown : ℕ) (lines : List Numbered)
    → AreExchanged companions senders askers given shown lines → (number t w who l : ℕ) → shown ≤ w → (verb : Verb)
    → is_idle verb ≡ true → AreExchanged companions senders askers given w (saying number t w who l verb ∷ lines)
still companions senders askers given shown lines h number t w who l later (Ask reading) e = absurd (cc)
still companions senders askers given shown lines h number t w who l later (Take request reading) e = absurd (cc)
still companions senders askers given shown lines h number t w who l later (Give take reading) e = absurd (cc)
still companions senders askers given shown lines h number t w who l later _ e = record {
  requests = h.requests;
  asked_by = h.asked_by;
  takes = h.takes;
  tickets = tickets-later shown w later (tickets (header_for companions) lines) h.tickets;
  taken_by = h.taken_by;
  answers = h.answers;
  none_ahead = h.none_ahead;
  made_by = h.made_by;
}

module _ (companions : ℕ) (senders askers : List ℕ) (given shown : ℕ) (lines : List Numbered)
    (h : AreExchanged companions senders askers given shown lines) (number t w who l : ℕ) (later : shown < w) where
  abbrev now : Verb → Numbered
  now verb = saying number t w who l verb

  quiet : (verb : Verb) → is_idle verb ≡ true → AreExchanged companions senders askers given w (now verb ∷ lines)
  quiet = still companions senders askers given shown lines h number t w who l (omega arith)

  kept : All (IsTicket w) (tickets (header_for companions) lines)
  kept = tickets-later shown w (omega arith) (tickets (header_for companions) lines) h.tickets

  pub done : (verb : Verb) → Comes senders askers given w who l verb
      → IsDone companions (senders_after senders who verb) (askers_after senders askers verb) (given_after given verb)
      lines (now verb)
  done (Ask reading) comes = record {
    printed = [];
    carried = refl;
    after = record {
      requests = omega (arith, h.requests, length-more senders who);
      asked_by = simp (h.asked_by, reverse-more);
      takes = h.takes;
      tickets = kept;
      taken_by = h.taken_by;
      answers = h.answers;
      none_ahead = h.none_ahead;
      made_by = h.made_by;
    };
  }
  done (Take request reading) comes =
      let taken = tickets (header_for companions) lines in
      let asker = slice_index senders (request - 1) in
      let there = item-there {A = ℕ} (λ (n : ℕ). ⊤) request (requests lines) comes.0
      (omega (arith, h.requests, comes.1)) (all-any (requests lines)) in
      let new : Ticket = happened.ticket_at (header_for companions) taken reading there.item in
      let is : tickets (header_for companions) (now (Take request reading) ∷ lines) ≡ new ∷ taken = simp there.is in
      let this : IsTicket w new = record {
        before = omega (arith, comes.2);
        follows = greater-by reading (greatest_reading taken)
            (greatest-low shown reading (omega (arith, comes.2)) taken h.tickets);
      } in
      record {
        printed = [];
        carried = simp there.is;
        after = record {
          requests = h.requests;
          asked_by = h.asked_by;
          takes = simp is (omega (arith, h.takes, length-more askers asker));
          tickets = subst (All (IsTicket w)) (sym is) (All-cons (IsTicket w) new taken this kept);
          taken_by = simp (h.asked_by, numbered-reverse senders request comes.0 comes.1, h.taken_by, reverse-more);
          answers = omega (arith, h.answers, length-more askers asker);
          none_ahead = h.none_ahead;
          made_by = simp (h.made_by, made_of-more askers (asker ∷ []) given h.answers);
        };
      }
  done (Give take reading) comes =
      let asker = slice_index askers given in
      let there = item-there (IsTicket shown) take (tickets (header_for companions) lines) (omega (arith, comes.0))
      (omega (arith, comes.0, comes.1, h.takes)) h.tickets in
      let same : take - 1 ≡ given = omega (arith, comes.0) in
      let owner : numbered take (taken_for lines) ≡ Some asker =
      simp (h.taken_by, numbered-reverse askers take (omega (arith, comes.0)) (omega (arith, comes.0, comes.1)), same)
      in
      record {
        printed = [];
        carried = simp (there.is, h.none_ahead take (omega (arith, comes.0)));
        after = record {
          requests = h.requests;
          asked_by = h.asked_by;
          takes = h.takes;
          tickets = kept;
          taken_by = h.taken_by;
          answers = omega (arith, comes.1);
          none_ahead = λ take' ahead.
              simp (ne_eqb take take' (omega (arith, comes.0, ahead)), h.none_ahead take' (omega (arith, ahead)));
          made_by = simp (there.is, owner, there.holds.follows, h.made_by) (made-next askers given);
        };
      }
  done (Land datagram reading) comes = record {
    printed = [];
    carried = simp (h.made_by, comes.0, eq-eqb who who refl);
    after = quiet (Land datagram reading) refl;
  }
  done (Print reading) comes = record {
    printed = printed_for (header_for companions) lines (now (Print reading)) (Print reading);
    carried = refl;
    after = quiet (Print reading) refl;
  }
  done Sleep comes = record { printed = []; carried = refl; after = quiet Sleep refl }
  done _ comes = absurd comes
