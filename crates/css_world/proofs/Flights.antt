-- Texts in flight: which comes next, and what is left.
use Rattle.std.proofs.Common.{◌≡◌, ◌≢◌, ℕ, suc, ◌-◌, ◌<◌, ◌≤◌, arith, Bool, true, false, cond, List, [], ◌∷◌, ◌++◌}
use Rattle.std.proofs.Common.{length, take, drop, refl, ap, sym, subst, ◌∙◌, ◌⊎◌, append_assoc, length-append}
use Rattle.std.proofs.Common.{length-drop, eq-eqb, ne_eqb, Some, None, Ok, Err, reverse}
use Rattle.css_world.specs.declared.session.Phase.{Phase}
use Rattle.css_world.specs.declared.session.Phase.TheVariants.{Open, Over}
use Rattle.css_world.specs.Flights.{Session, opened_from, closed_from, grown, with_news, with_written, first_in}
use Rattle.css_world.specs.Flights.{rest_in, phase_of, queue_of, SessionCarries}
use Rattle.css_world.proofs.Names.{reverse-reverse, reverse-append, take-append-drop, take-append_seam, WorldFault}
use Rattle.css_world.proofs.Names.{Absent, numbered, in_flight, next_of}

-- ---- numbers
-- where items are numbered from 1, the number of an item is one more than how many came before it
numbered-at : {A : Type 0} (after : List A) (item : A) (before : List A)
    → numbered (suc (length before)) (after ++ item ∷ before) ≡ Some item
numbered-at [] item before =
    ap (λ b. cond b (Some item) (numbered (suc (length before)) before))
    (eq-eqb (suc (length before)) (suc (length before)) refl)
numbered-at (x ∷ after) item before =
    let longer : suc (length before) ≢ suc (length (after ++ item ∷ before)) =
    λ same. absurd (omega (arith, same, length-append after (item ∷ before))) in
    ap (λ b. cond b (Some x) (numbered (suc (length before)) (after ++ item ∷ before)))
    (ne_eqb (suc (length before)) (suc (length (after ++ item ∷ before))) longer)
    ∙ numbered-at after item before

-- no item has a number above their count
numbered-beyond : {A : Type 0} (number : ℕ) (items : List A) → length items < number → numbered number items ≡ None
numbered-beyond number [] above = refl
numbered-beyond number (x ∷ older) above =
    let other : number ≢ suc (length older) = λ same. absurd (omega (arith, same, above)) in
    ap (λ b. cond b (Some x) (numbered number older)) (ne_eqb number (suc (length older)) other)
    ∙ numbered-beyond number older (omega (arith, above))

-- ---- queues
-- What was sent, the newest first, is a queue, its oldest text first, before what has come.
pub record Splits (sent received queue : List (List ℕ)) : Type 0 where
  pub come : List (List ℕ)
  pub parts : sent ≡ reverse queue ++ come
  pub count : length come ≡ length received

-- such a queue is what is in flight
pub splits-queue : (sent received queue : List (List ℕ)) → Splits sent received queue
    → reverse (in_flight sent received) ≡ queue
splits-queue sent received queue splits =
    let many : length sent - length received ≡ length (reverse queue) =
    omega (arith, ap length splits.parts, length-append (reverse queue) splits.come, splits.count) in
    ap (λ k. reverse (take k sent)) many
    ∙ ap (λ all. reverse (take (length (reverse queue)) all)) splits.parts
    ∙ ap reverse (take-append_seam (reverse queue) splits.come)
    ∙ reverse-reverse queue

-- and so no more came than was sent
pub splits-fewer : (sent received queue : List (List ℕ)) → Splits sent received queue → length received ≤ length sent
splits-fewer sent received queue splits =
    omega (arith, ap length splits.parts, length-append (reverse queue) splits.come, splits.count)

-- what is in flight is such a queue
pub flight-splits : (sent received : List (List ℕ)) → length received ≤ length sent
    → Splits sent received (reverse (in_flight sent received))
flight-splits sent received fewer =
    let many : ℕ = length sent - length received in
    record {
      come = drop many sent;
      parts =
          sym (ap (λ front. front ++ drop many sent) (reverse-reverse (take many sent)) ∙ take-append-drop many sent);
      count = omega (arith, length-drop many sent, fewer);
    }

-- more texts that are sent go to the end of the queue
pub splits-sent : (sent received queue more : List (List ℕ)) → Splits sent received queue
    → Splits (reverse more ++ sent) received (queue ++ more)
splits-sent sent received queue more splits = record {
  come = splits.come;
  parts = ap (λ all. reverse more ++ all) splits.parts
      ∙ sym (append_assoc (reverse more) (reverse queue) splits.come)
      ∙ ap (λ front. front ++ splits.come) (sym (reverse-append queue more));
  count = splits.count;
}

-- the first text of the queue is before what has come
first-parts : (text : List ℕ) (queue come : List (List ℕ))
    → reverse (text ∷ queue) ++ come ≡ reverse queue ++ text ∷ come
first-parts text queue come =
    ap (λ front. front ++ come) (reverse-append (text ∷ []) queue) ∙ append_assoc (reverse queue) (text ∷ []) come

-- when it comes the queue is without it
pub splits-come : (sent received queue : List (List ℕ)) (text came : List ℕ) → Splits sent received (text ∷ queue)
    → Splits sent (came ∷ received) queue
splits-come sent received queue text came splits = record {
  come = text ∷ splits.come;
  parts = splits.parts ∙ first-parts text queue splits.come;
  count = ap suc splits.count;
}

-- the text that comes next is the first of the queue, if there is one
pub splits-next : (sent received queue : List (List ℕ)) → Splits sent received queue
    → next_of sent received ≡ first_in Open queue
splits-next sent received [] splits =
    let few : length sent < suc (length received) = omega (arith, ap length splits.parts, splits.count) in
    numbered-beyond (suc (length received)) sent few
splits-next sent received (text ∷ queue) splits =
    ap (λ n. numbered (suc n) sent) (sym splits.count)
    ∙ ap (numbered (suc (length splits.come))) (splits.parts ∙ first-parts text queue splits.come)
    ∙ numbered-at (reverse queue) text splits.come

-- ---- the phase of a session
-- a session that opens wasn't open before
pub opened-ok : (phase : Phase) (live opened : Bool) (old new : Session) → phase ≡ phase_of live opened
    → opened_from phase old ≡ Ok new
    → (live ≡ false) × (opened ≡ false) × (new ≡ record { phase = Open; down = old.down; up = old.up })
opened-ok phase live opened old new is ok = grind (arith, is, ok)

-- one that doesn't open is open, or it was
pub opened-err : (phase : Phase) (live opened : Bool) (old : Session) (fault : WorldFault)
    → phase ≡ phase_of live opened → opened_from phase old ≡ Err fault
    → ((live ≡ true) ⊎ (opened ≡ true)) × (fault ≡ Absent)
opened-err phase live opened old fault is err = grind (arith, is, err)

-- a session that closes is open
pub closed-ok : (phase : Phase) (live opened : Bool) (new : Session) → phase ≡ phase_of live opened
    → closed_from phase ≡ Ok new → (live ≡ true) × (new ≡ record { phase = Over; down = []; up = [] })
closed-ok phase live opened new is ok = grind (arith, is, ok)

-- one that doesn't close isn't
pub closed-err : (phase : Phase) (live opened : Bool) (fault : WorldFault) → phase ≡ phase_of live opened
    → closed_from phase ≡ Err fault → (live ≡ false) × (fault ≡ Absent)
closed-err phase live opened fault is err = grind (arith, is, err)

-- whether it is open, by its phase
pub is-live : (live opened : Bool) → phase_of live opened ≡ Open → live ≡ true
is-live live opened is = grind (arith, is)

-- ---- sessions
-- the first text in a queue is the next one, if the session is open
first-of : (live opened : Bool) (sent received : List (List ℕ)) → length received ≤ length sent
    → first_in (phase_of live opened) (queue_of live sent received) ≡ cond live (next_of sent received) None
first-of true opened sent received fewer =
    sym (splits-next sent received (reverse (in_flight sent received)) (flight-splits sent received fewer))
first-of false true sent received fewer = refl
first-of false false sent received fewer = refl

-- what is left in a queue, where a text came
rest-of : (opened : Bool) (sent received queue : List (List ℕ)) (text : List ℕ) → Splits sent received queue
    → first_in (phase_of true opened) queue ≡ Some text
    → Splits sent (text ∷ received) (rest_in (phase_of true opened) queue)
rest-of opened sent received [] text splits is = absurd (cc)
rest-of opened sent received (first ∷ queue) text splits is = splits-come sent received queue first text splits

module _ {session : Session} {opened : Bool} {told heard written received : List (List ℕ)} where
  -- the first text of the television is the one that comes next
  pub first-down : {live : Bool} → SessionCarries session live opened told heard written received
      → first_in session.phase session.down ≡ cond live (next_of told heard) None
  first-down {live} carries =
      ap (λ p. first_in p session.down) carries.phase ∙ ap (first_in (phase_of live opened)) carries.down
      ∙ first-of live opened told heard carries.heard_of

  -- so is the first of the companion
  pub first-up : {live : Bool} → SessionCarries session live opened told heard written received
      → first_in session.phase session.up ≡ cond live (next_of written received) None
  first-up {live} carries =
      ap (λ p. first_in p session.up) carries.phase ∙ ap (first_in (phase_of live opened)) carries.up
      ∙ first-of live opened written received carries.received_of

  -- the queue of an open session
  down-splits : SessionCarries session true opened told heard written received → Splits told heard session.down
  down-splits carries = subst (Splits told heard) (sym carries.down) (flight-splits told heard carries.heard_of)

  -- and that of its companion
  up-splits : SessionCarries session true opened told heard written received → Splits written received session.up
  up-splits carries = rw carries.up (flight-splits written received carries.received_of)

  -- a text of the television came
  pub heard-one : (text : List ℕ) → SessionCarries session true opened told heard written received
      → first_in session.phase session.down ≡ Some text
      → SessionCarries (record session { down = rest_in session.phase session.down }) true opened told
      (text ∷ heard) written received
  heard-one text carries is =
      let first : first_in (phase_of true opened) session.down ≡ Some text =
      ap (λ p. first_in p session.down) (sym carries.phase) ∙ is in
      let left : Splits told (text ∷ heard) (rest_in session.phase session.down) =
      rw carries.phase (rest-of opened told heard session.down text (down-splits carries) first) in
      record {
        phase = carries.phase;
        down = sym (splits-queue told (text ∷ heard) (rest_in session.phase session.down) left);
        up = carries.up;
        heard_of = splits-fewer told (text ∷ heard) (rest_in session.phase session.down) left;
        received_of = carries.received_of;
      }

  -- a text of the companion came
  pub raised-one : (text : List ℕ) → SessionCarries session true opened told heard written received
      → first_in session.phase session.up ≡ Some text
      → SessionCarries (record session { up = rest_in session.phase session.up }) true opened told heard
      written (text ∷ received)
  raised-one text carries is =
      let first : first_in (phase_of true opened) session.up ≡ Some text =
      ap (λ p. first_in p session.up) (sym carries.phase) ∙ is in
      let left : Splits written (text ∷ received) (rest_in session.phase session.up) =
      rw carries.phase (rest-of opened written received session.up text (up-splits carries) first) in
      record {
        phase = carries.phase;
        down = carries.down;
        up = sym (splits-queue written (text ∷ received) (rest_in session.phase session.up) left);
        heard_of = carries.heard_of;
        received_of = splits-fewer written (text ∷ received) (rest_in session.phase session.up) left;
      }

  -- the companion wrote a text
  pub written-one : (text : List ℕ) → SessionCarries session true opened told heard written received
      → SessionCarries (with_written (Some text) session) true opened told heard (text ∷ written) received
  written-one text carries =
      let more : Splits (text ∷ written) received (session.up ++ text ∷ []) =
      splits-sent written received session.up (text ∷ []) (up-splits carries) in
      record {
        phase = carries.phase;
        down = carries.down;
        up = sym (splits-queue (text ∷ written) received (session.up ++ text ∷ []) more);
        heard_of = carries.heard_of;
        received_of = splits-fewer (text ∷ written) received (session.up ++ text ∷ []) more;
      }

  -- the queue where the television told more, by whether the session is open
  grown-queue : (live : Bool) (news after : List (List ℕ))
      → SessionCarries session live opened told heard written received → after ≡ reverse news ++ told
      → (grown session.phase session.down news ≡ queue_of live after heard) × (length heard ≤ length after)
  grown-queue true news after carries is =
      let more : Splits after heard (session.down ++ news) = subst (λ all. Splits all heard (session.down ++ news))
      (sym is) (splits-sent told heard session.down news (down-splits carries)) in (
        ap (λ p. grown p session.down news) carries.phase ∙ sym (splits-queue after heard (session.down ++ news) more),
        splits-fewer after heard (session.down ++ news) more,
      )
  grown-queue false news after carries is = (
    ap (λ p. grown p session.down news) carries.phase ∙ shut opened ∙ carries.down,
    omega (arith, ap length is, length-append (reverse news) told, carries.heard_of),
  )
    where
      shut : (was : Bool) → grown (phase_of false was) session.down news ≡ session.down
      shut true = refl
      shut false = refl

  -- the television told more
  pub told-more : {live : Bool} (news after : List (List ℕ))
      → SessionCarries session live opened told heard written received → after ≡ reverse news ++ told
      → SessionCarries (with_news news session) live opened after heard written received
  told-more {live} news after carries is =
      let queue = grown-queue live news after carries is in
      record {
        phase = carries.phase;
        down = queue.0;
        up = carries.up;
        heard_of = queue.1;
        received_of = carries.received_of;
      }

-- nothing is in flight on a session that opens
pub opened-now : (session : Session) (told heard written received : List (List ℕ))
    → SessionCarries session false false told heard written received → told ≡ [] → written ≡ []
    → SessionCarries (record {
      phase = Open;
      down = session.down;
      up = session.up;
    }) true true told heard written received
opened-now session told heard written received carries nothing none = record {
  phase = refl;
  down = carries.down ∙ sym (empty-queue told heard nothing carries.heard_of);
  up = carries.up ∙ sym (empty-queue written received none carries.received_of);
  heard_of = carries.heard_of;
  received_of = carries.received_of;
}
  where
    empty-queue : (sent come : List (List ℕ)) → sent ≡ [] → length come ≤ length sent
        → reverse (in_flight sent come) ≡ []
    empty-queue sent come is fewer =
        splits-queue sent come [] (record { come = sent; parts = refl; count = omega (arith, ap length is, fewer) })

-- nor on one that closes
pub closed-now : (session : Session) (opened : Bool) (told heard written received : List (List ℕ))
    → SessionCarries session true opened told heard written received → opened ≡ true
    → SessionCarries (record { phase = Over; down = []; up = [] }) false opened told heard written received
closed-now session opened told heard written received carries was = record {
  phase = ap (phase_of false) (sym was);
  down = refl;
  up = refl;
  heard_of = carries.heard_of;
  received_of = carries.received_of;
}
