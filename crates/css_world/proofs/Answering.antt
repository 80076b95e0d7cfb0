-- An answer is given, and a datagram lands: both ends stand for the line too.
use Rattle.std.proofs.Common.{◌≡◌, ◌≢◌, ℕ, ◌-◌, append_assoc, ◌<◌, ◌≤◌, arith, true, false, not, List, [], ◌∷◌, ◌++◌}
use Rattle.std.proofs.Common.{length, refl, ap, sym, ◌∙◌, ◌⊎◌, inl, inr, eq-eqb, ne_eqb}
use Rattle.std.specs.Prelude.{◌&&◌, map, unwrap_or, slice_set, Option, Some, None, is_some, option_to_list}
use Rattle.std.specs.Option.{option_map}
use Rattle.css_model.specs.declared.Message.{Message}
use Rattle.css_model.specs.declared.Why.TheVariants as why
use Rattle.css_companion.specs.Standing as companions
use Rattle.css_server.specs.declared.server.Answered.{Answered}
use Rattle.css_world.specs.declared.television.Television.{Television}
use Rattle.css_world.specs.Standing.{Kept, AreStored, owner, open_ticket, EndsStand, IsAnswerTo, Answers}
use Rattle.css_world.specs.Lanes.{LaneStands}
use Rattle.css_world.specs.declared.lane.Lane.{Lane}
use Rattle.css_world.proofs.Names.{option_flatten, encoded, Clock, Took, Companion, Server, Ticket, response_to}
use Rattle.css_world.proofs.Names.{follow_up_for, Header, Give, Land, Numbered, tickets, taken_for, datagrams, made_for}
use Rattle.css_world.proofs.Names.{server_of, answers_to, is_given, peer, bytes_of, events_of, history_of, numbered}
use Rattle.css_world.proofs.Names.{stored, spent, is_for, made_count, mapped_some, numbered-le}
use Rattle.css_world.proofs.Storing.{pushed, spent_stored}
use Rattle.css_world.proofs.Carrying.{own_line, all_lanes, one_lane}
use Rattle.css_world.proofs.Numbers.{stored_none, mapped_none}
use Rattle.css_world.proofs.Verbs.{quiet}

-- ---- an answer
-- the answer is that of the television that the header declares: it tells nothing but what that declares
pub answer_same : (server : Server) (header : Header) (ticket : Ticket) (reading : ℕ) (answered : Answered)
    → server.precision ≡ header.tv_precision → server.error ≡ header.tv_error
    → IsAnswerTo server ticket reading answered → IsAnswerTo (server_of header) ticket reading answered
answer_same server header ticket reading answered precision error is = record {
  response = rw error at (rw precision at is.response);
  follow_up = rw error at (rw precision at is.follow_up);
}

-- datagrams are seen as their bytes
abbrev AreDatagrams : List (List ℕ) → List Message → Type 0
AreDatagrams items made = AreStored (λ number. encoded) items made

-- a first item is stored, and the one after it, if there is one
answer_pushed : {A B : Type 0} (see : A → B) (items : List B) (older : List A) (first : A) (more : Option A)
    → AreStored (λ number. see) items older
    → AreStored (λ number. see) (items ++ see first ∷ option_to_list (option_map see more))
    ((option_to_list more ++ first ∷ []) ++ older)
answer_pushed see items older first None are = pushed (λ number. see) items older first (see first) are refl
answer_pushed see items older first (Some second) are =
    rw (append_assoc items (see first ∷ []) (see second ∷ [])) at
    (pushed (λ number. see) (items ++ see first ∷ []) (first ∷ older) second (see second)
    (pushed (λ number. see) items older first (see first) are refl) refl)

-- what a ticket that is taken out was
pub open_is : (lines : List Numbered) (take : ℕ) (o : Option Ticket) (ticket : Ticket)
    → option_flatten (option_map (open_ticket lines take) o) ≡ Some ticket
    → (o ≡ Some ticket) × (is_given take lines ≡ false)
open_is lines take o ticket e = grind (arith, e)

-- what an answered ticket was
pub answered_is : (server : Server) (reading : ℕ) (o : Option Ticket) (result : Option Answered) (answered : Answered)
    → Answers server reading o result → result ≡ Some answered
    → (ticket : Ticket) × (o ≡ Some ticket) × IsAnswerTo server ticket reading answered
answered_is server reading o result answered is e = grind (arith, is, e)

-- where nothing is answered, no ticket was taken out
pub none_answered : (server : Server) (reading : ℕ) (o : Option Ticket) (result : Option Answered)
    → Answers server reading o result → result ≡ None → o ≡ None
none_answered server reading o result answers e = grind (arith, answers, e)

-- a take that has no ticket any more can't be answered
pub not_open : (lines : List Numbered) (take : ℕ) (o : Option Ticket)
    → option_flatten (option_map (open_ticket lines take) o) ≡ None → (is_some o && not (is_given take lines)) ≡ false
not_open lines take o e = grind (arith, e)

-- a companion is stored as itself
pub owner_stored : (o : Option ℕ) (number who : ℕ) → option_map (owner number) o ≡ Some who → o ≡ Some who
owner_stored o number who is = grind (arith, is)

-- the datagrams of an answer are stored
answer_made : (server : Server) (ticket : Ticket) (reading : ℕ) (answered : Answered) (items : List (List ℕ))
    (older : List Message) → IsAnswerTo server ticket reading answered → AreDatagrams items older
    → AreDatagrams (items ++ answered.response ∷ option_to_list answered.follow_up)
    (answers_to server reading (Some ticket) ++ older)
answer_made server ticket reading answered items older is are =
    let response : Message = response_to server ticket reading in
    let follow_up : Option Message = follow_up_for server ticket reading in
    rw is.response (rw is.follow_up (answer_pushed encoded items older response follow_up are))

-- and the companion that they are for, once for each of them
answer_owned : (server : Server) (ticket : Ticket) (reading asker : ℕ) (answered : Answered) (items older : List ℕ)
    → IsAnswerTo server ticket reading answered → AreStored owner items older
    → AreStored owner (items ++ asker ∷ option_to_list (option_map (λ bytes. asker) answered.follow_up))
    (map (λ (m : Message). asker) (answers_to server reading (Some ticket)) ++ older)
answer_owned server ticket reading asker answered items older is are =
    by (follow_up_for server ticket reading) is.follow_up
  where
    by : (f : Option Message) → answered.follow_up ≡ option_map encoded f
        → AreStored owner (items ++ asker ∷ option_to_list (option_map (λ bytes. asker) answered.follow_up))
        (map (λ (m : Message). asker) (option_to_list f ++ response_to server ticket reading ∷ []) ++ older)
    by None none = rw none (answer_pushed (λ who. who) items older asker None are)
    by (Some message) some = rw some (answer_pushed (λ who. who) items older asker (Some asker) are)

-- so does `give`
pub given : (old : Kept) (lines : List Numbered) (number t w who l take reading asker : ℕ) (ticket : Ticket)
    (answered : Answered) (tv : Television) (made : List (List ℕ)) (owners : List ℕ)
    → EndsStand old lines → option_flatten (stored old.tv.takes.items take) ≡ Some ticket
    → stored old.taken_for take ≡ Some asker → tv.tv ≡ old.tv.tv → tv.takes.items ≡ spent old.tv.takes.items take
    → IsAnswerTo (server_of old.header) ticket reading answered
    → made ≡ old.datagrams ++ answered.response ∷ option_to_list answered.follow_up
    → owners ≡ old.made_for ++ asker ∷ option_to_list (option_map (λ bytes. asker) answered.follow_up)
    → ((is_some (numbered take (tickets old.header lines)) && not (is_given take lines)) ≡ true)
    × EndsStand (record old { tv = tv; datagrams = made; made_for = owners })
    (own_line number t w who l (Give take reading) ∷ lines)
given old lines number t w who l take reading asker ticket answered tv made owners ends found whose same_tv put is
    stored_so put_too =
    let before : List Ticket = tickets old.header lines in
    let now : Numbered = own_line number t w who l (Give take reading) in
    let was_open : (numbered take before ≡ Some ticket) × (is_given take lines ≡ false) =
    open_is lines take (numbered take before) ticket (ap option_flatten (sym (ends.takes.each take)) ∙ found) in
    let was_taken : numbered take before ≡ Some ticket = was_open.0 in
    let can : (is_some (numbered take before) && not (is_given take lines)) ≡ true =
    ap (λ (o : Option Ticket). is_some o && not (is_given take lines)) was_taken ∙ ap not was_open.1 in
    let same_made : datagrams old.header (now ∷ lines) ≡ answers_to (server_of old.header) reading (Some ticket)
    ++ datagrams old.header lines =
    ap (λ (o : Option Ticket). answers_to (server_of old.header) reading o ++ datagrams old.header lines) was_taken in
    let asked_for = owner_stored (numbered take (taken_for lines)) take asker (sym (ends.taken_for.each take) ∙ whose)
    in
    let same_owners : made_for old.header (now ∷ lines)
    ≡ map (λ (m : Message). asker) (answers_to (server_of old.header) reading (Some ticket)) ++ made_for old.header
    lines =
    ap (λ (o : Option Ticket). map (λ (m : Message). unwrap_or (numbered take (taken_for lines)) 0)
    (answers_to (server_of old.header) reading o) ++ made_for old.header lines) was_taken
    ∙ ap (λ (o : Option ℕ). map (λ (m : Message). unwrap_or o 0)
    (answers_to (server_of old.header) reading (Some ticket)) ++ made_for old.header lines) asked_for in
    let gone : (item : Ticket) → open_ticket (now ∷ lines) take item ≡ None = λ item. rw (eq-eqb take take refl) refl in
    let rest : (other : ℕ) (item : Ticket) → take ≢ other
    → open_ticket (now ∷ lines) other item ≡ open_ticket lines other item =
    λ other item differs. rw (ne_eqb take other differs) refl in
    let within : take ≤ length before = numbered-le take before ticket was_taken in
    let ahead : (n : ℕ) → length before < n → is_given n (now ∷ lines) ≡ false = λ n above.
    let differs : take ≢ n = omega arith in rw (ne_eqb take n differs) (ends.none_ahead n above) in
    let are : AreDatagrams made
    (answers_to (server_of old.header) reading (Some ticket) ++ datagrams old.header lines) =
    rw stored_so (answer_made (server_of old.header) ticket reading answered old.datagrams (datagrams old.header lines)
    is ends.datagrams) in
    let owned = answer_owned (server_of old.header) ticket reading asker answered old.made_for
    (made_for old.header lines) is ends.made_for in (
      can,
      record {
        lanes = all_lanes old.header lines number t w who l (Give take reading) old.lanes (λ n. refl) ends.lanes;
        stage = rw same_tv ends.stage;
        server = rw same_tv ends.server;
        in_range = ends.in_range;
        none_ahead = ahead;
        requests = ends.requests;
        askers = ends.askers;
        takes = rw put (spent_stored (open_ticket lines) (open_ticket (now ∷ lines)) old.tv.takes.items before take gone
            rest ends.takes);
        taken_for = ends.taken_for;
        datagrams = rw same_made are;
        made_for = rw same_owners (rw put_too owned);
      },
    )

-- ---- a landing
pub landed : (old : Kept) (lines : List Numbered) (number t w who l datagram reading : ℕ) (bytes : List ℕ)
    (lane : Lane) (companion : Companion)
    → EndsStand old lines → 1 ≤ who → who ≤ length old.lanes → stored old.lanes who ≡ Some lane
    → stored old.datagrams datagram ≡ Some bytes → stored old.made_for datagram ≡ Some who
    → companions.StandsFor companion (Clock why.Land reading ∷ Took peer bytes ∷ history_of who old.header lines)
    → (is_for who (numbered datagram (made_for old.header lines)) ≡ true)
    × EndsStand (record old { lanes = slice_set old.lanes (who - 1) (record lane { companion = companion }) })
    (own_line number t w who l (Land datagram reading) ∷ lines)
landed old lines number t w who l datagram reading bytes lane companion ends first within is_lane found whose stands =
    let made : List Message = datagrams old.header lines in
    let own = history_of who old.header lines in
    let was = ends.lanes who lane is_lane in
    let came = mapped_some encoded (numbered datagram made) bytes (sym (ends.datagrams.each datagram) ∙ found) in
    let same : bytes_of (numbered datagram made) ≡ bytes = ap bytes_of came.1 ∙ came.2 in
    let mine = owner_stored (numbered datagram (made_for old.header lines)) datagram who
    (sym (ends.made_for.each datagram) ∙ whose) in
    let after : Lane = record lane { companion = companion } in
    let stand : LaneStands who (events_of old.header lines)
    (Clock why.Land reading ∷ Took peer (bytes_of (numbered datagram made)) ∷ own) after =
    record { companion = rw same stands; cii = was.cii; ts = was.ts } in (
      ap (is_for who) mine ∙ eq-eqb who who refl,
      quiet old lines number t w who l (Land datagram reading) old.tv.tv (slice_set old.lanes (who - 1) after) tt ends
          refl ends.stage (one_lane old.header lines number t w who l (Land datagram reading) old.lanes after refl first
          within ends.lanes stand),
    )

-- Where no datagram of that number is stored, or it is for another companion, none lands.
pub not_landing : (old : Kept) (lines : List Numbered) (who datagram : ℕ) → EndsStand old lines
    → ((stored old.datagrams datagram ≡ None) ⊎ (stored old.made_for datagram ≡ None))
    → is_for who (numbered datagram (made_for old.header lines)) ≡ false
not_landing old lines who datagram ends none =
    let nobody : stored old.made_for datagram ≡ None = by none in
    ap (is_for who) (mapped_none (owner datagram) (numbered datagram (made_for old.header lines))
    (sym (ends.made_for.each datagram) ∙ nobody))
  where
    by : (stored old.datagrams datagram ≡ None) ⊎ (stored old.made_for datagram ≡ None)
        → stored old.made_for datagram ≡ None
    by (inl missing) = stored_none old.datagrams old.made_for datagram
        (ends.datagrams.count ∙ sym (made_count old.header lines) ∙ sym ends.made_for.count) missing
    by (inr nobody) = nobody

pub not_for : (old : Kept) (lines : List Numbered) (who other datagram : ℕ) → EndsStand old lines
    → stored old.made_for datagram ≡ Some other → other ≢ who
    → is_for who (numbered datagram (made_for old.header lines)) ≡ false
not_for old lines who other datagram ends whose differs =
    let theirs = owner_stored (numbered datagram (made_for old.header lines)) datagram other
    (sym (ends.made_for.each datagram) ∙ whose) in
    ap (is_for who) theirs ∙ ne_eqb other who differs
