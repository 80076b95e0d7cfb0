-- The promises of a server rise.
use Rattle.std.proofs.Common.{◌≡◌, ℕ, zero, suc, ◌<◌, arith, ap, sym, ◌∙◌, subst, Bool, true, false, cond, List, []}
use Rattle.std.proofs.Common.{◌∷◌, refl}
use Rattle.std.specs.Prelude.{All, Option, Some, None, ◌&&◌, ◌==◌, nat_lt, slice_get, max}
use Rattle.std.proofs.lemmas.Bool.{and_parts, ltb-true, eqb-true}
use Rattle.std.proofs.lemmas.List.Elements.{All-nil, All-cons, All-get_or}
use Rattle.std.proofs.lemmas.Option.{slice_get_within, get_or_from_slice_get}
use Rattle.css_model.specs.Wire.{stamp_of, is_same_stamp}
use Rattle.css_server.specs.Tickets.{Ticket, is_greater, greatest_with, answer_message}
use Rattle.css_server.specs.Exchanges.{greatest_reading, ArePromised, PromisesRise, NoPromiseIsRepeated}
use Rattle.css_server.specs.Exchanges.{PairsAreExchanges}

-- a reading that is greater than the greatest is greater than each
above_each : (reading : ℕ) (older : List Ticket) → is_greater reading (greatest_reading older) ≡ true
    → All (λ earlier. earlier.reading < reading) older
above_each reading [] e = All-nil (λ (earlier : Ticket). earlier.reading < reading)
above_each reading (ticket ∷ older) e = by (greatest_reading older) (above_each reading older) e
  where
    by : (greatest : Option ℕ) → (is_greater reading greatest ≡ true → All (λ earlier. earlier.reading < reading) older)
        → nat_lt (greatest_with ticket.reading greatest) reading ≡ true
        → All (λ earlier. earlier.reading < reading) (ticket ∷ older)
    by None rest e =
        All-cons (λ (earlier : Ticket). earlier.reading < reading) ticket older (ltb-true ticket.reading reading e)
        (rest refl)
    by (Some greatest) rest e =
        let below : max greatest ticket.reading < reading = ltb-true (max greatest ticket.reading) reading e in
        All-cons (λ (earlier : Ticket). earlier.reading < reading) ticket older (omega arith) (rest (grind arith))

-- what is promised by the rule rises
promises_rise : (follow : Bool) (tickets : List Ticket) → ArePromised follow tickets → PromisesRise tickets
promises_rise follow [] promised = tt
promises_rise follow (ticket ∷ older) promised = (
  λ promise.
      above_each ticket.reading older
      (and_parts follow (is_greater ticket.reading (greatest_reading older)) (sym promised.0 ∙ promise)).1,
  promises_rise follow older promised.1,
)

-- so no promise is repeated, by what a server stands for
pub no_promise_is_repeated : NoPromiseIsRepeated
no_promise_is_repeated server tickets stands = promises_rise server.follow tickets stands.promised

-- a ticket among earlier ones has a smaller reading
earlier_is_less : (reading : ℕ) (older : List Ticket) (k : ℕ) (a : Ticket)
    → All (λ earlier. earlier.reading < reading) older
    → slice_get older k ≡ Some a → a.reading < reading
earlier_is_less reading older k a below e =
    subst (λ (t : Ticket). t.reading < reading) (get_or_from_slice_get older k a a e)
    (All-get_or (λ (t : Ticket). t.reading < reading) older k a (slice_get_within older k a e) below)

-- two promises of equal readings are one
same_promise : (tickets : List Ticket) (i j : ℕ) (a b : Ticket) → PromisesRise tickets → slice_get tickets i ≡ Some a
    → slice_get tickets j ≡ Some b → a.follow_up ≡ true → b.follow_up ≡ true → a.reading ≡ b.reading → i ≡ j
same_promise [] i j a b rise p q f g e = absurd (cc)
same_promise (ticket ∷ older) zero zero a b rise p q f g e = refl
same_promise (ticket ∷ older) zero (suc j) a b rise p q f g e =
    let same : ticket ≡ a = cc in
    let less = earlier_is_less ticket.reading older j b (rise.0 (ap (λ (t : Ticket). t.follow_up) same ∙ f)) q in
    absurd (omega (arith, ap (λ (t : Ticket). t.reading) same))
same_promise (ticket ∷ older) (suc i) zero a b rise p q f g e =
    let same : ticket ≡ b = cc in
    let less = earlier_is_less ticket.reading older i a (rise.0 (ap (λ (t : Ticket). t.follow_up) same ∙ g)) p in
    absurd (omega (arith, ap (λ (t : Ticket). t.reading) same))
same_promise (ticket ∷ older) (suc i) (suc j) a b rise p q f g e =
    ap suc (same_promise older i j a b rise.1 p q f g e)

-- readings with one time on the wire are one
same_reading : (r s : ℕ) → is_same_stamp (stamp_of r) (stamp_of s) ≡ true → r ≡ s
same_reading r s e =
    let p =
    and_parts ((stamp_of r).seconds == (stamp_of s).seconds) ((stamp_of r).nanoseconds == (stamp_of s).nanoseconds)
    e in
    let a = eqb-true (stamp_of r).seconds (stamp_of s).seconds p.0 in
    let b = eqb-true (stamp_of r).nanoseconds (stamp_of s).nanoseconds p.1 in
    omega (arith, a, b)

-- so a follow-up and a response that are paired are of one ticket
pub pairs_are_exchanges : PairsAreExchanges
pairs_are_exchanges server tickets i j a b answered told landed stands p q g pair = by a.follow_up refl pair
  where
    by : (f : Bool) → a.follow_up ≡ f
        → (((cond f (answer_message server a 2 a.reading) (answer_message server a 1 answered)).message_type == 2)
        && (is_same_stamp (cond f (answer_message server a 2 a.reading) (answer_message server a 1 answered)).originate
        b.originate
        && is_same_stamp (cond f (answer_message server a 2 a.reading) (answer_message server a 1 answered)).receive
        (stamp_of b.reading))) ≡ true
        → i ≡ j
    by true f e =
        same_promise tickets i j a b (no_promise_is_repeated server tickets stands) p q f g
        (same_reading a.reading b.reading
        (and_parts (is_same_stamp a.originate b.originate) (is_same_stamp (stamp_of a.reading) (stamp_of b.reading))
        e).1)
    by false f e = absurd (cc)
