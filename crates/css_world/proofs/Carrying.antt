-- What the ends do at a line: they stand for the lines with it.
use Rattle.std.proofs.Common.{◌≡◌, ◌≢◌, ℕ, suc, ◌-◌, ◌==◌, cond, ◌<◌, ◌≤◌, arith, Bool, true, false, List, [], ◌∷◌}
use Rattle.std.proofs.Common.{◌++◌, length, refl, ap, sym, ◌∙◌, inl, inr, option_map, ◌&&◌, slice_set, Option, Some}
use Rattle.std.proofs.Common.{option_to_list, Ok}
use Rattle.std.specs.List.{AllByRecursion}
use Rattle.css_model.specs.declared.TheConstants.{LIMIT}
use Rattle.css_model.specs.declared.Why.TheVariants as why
use Rattle.css_companion.specs.Standing as companions
use Rattle.css_server.specs.Exchanges as servers
use Rattle.css_server.specs.Exchanges.{greatest_reading}
use Rattle.css_meaning.proofs.Ends.{history_now, history_other}
use Rattle.css_world.specs.declared.television.Television.{Television}
use Rattle.css_world.specs.Standing.{Kept, AreStored, request_bytes, owner, open_ticket, EndsStand}
use Rattle.css_world.specs.Lanes.{LaneStands, LanesStand}
use Rattle.css_world.specs.declared.lane.Lane.{Lane}
use Rattle.css_world.proofs.Names.{eqb_tells, encoded, decoded, request_at, stamp_of, History, Clock, Sent, Companion}
use Rattle.css_world.proofs.Names.{Server, Ticket, ticket_for, is_greater, Header, Verb, Ask, Take, Numbered, requests}
use Rattle.css_world.proofs.Names.{askers, tickets, ticket_at, taken_for, datagrams, is_given, peer, done_by, events_of}
use Rattle.css_world.proofs.Names.{history_of, numbered, stored, mapped_some, request_back}
use Rattle.css_world.proofs.Numbers.{stored_same, set_there, set_others}
use Rattle.css_world.proofs.Storing.{pushed}

-- a line of companion `who`
abbrev pub own_line : (number t w who l : ℕ) → Verb → Numbered
own_line number t w who l verb =
    record { number = number; line = record { t = t; w = w; who = who; l = l; verb = verb } }

-- a line of companion `who`, by what happens there
pub at_line : (world : Kept) (lines : List Numbered) (now : Numbered) (who : ℕ) (verb : Verb)
    → now.line.who ≡ who → now.line.verb ≡ verb
    → EndsStand world (own_line now.number now.line.t now.line.w who now.line.l verb ∷ lines)
    → EndsStand world (now ∷ lines)
at_line world lines now who verb own is ends =
    let said : EndsStand world (own_line now.number now.line.t now.line.w who now.line.l now.line.verb ∷ lines) =
    rw is ends in
    rw own said

-- ---- lanes
-- the histories of companions after lines
abbrev pub histories : Header → List Numbered → ℕ → History
histories header lines = λ who. history_of who header lines

module _ (header : Header) (lines : List Numbered) (number t w who l : ℕ) (verb : Verb) where
  -- the lines with one more
  abbrev after : List Numbered
  after = own_line number t w who l verb ∷ lines

  -- what companion `n` did, and what it did by then where it carries the verb out
  abbrev did : ℕ → History
  did n = history_of n header lines

  abbrev does : ℕ → History
  does n = done_by header n (datagrams header lines) (events_of header lines) verb (did n)

  -- Where the verb adds nothing to a history, whosever line it is, all lanes stand for their histories, if they stand
  -- for what happened at the television.
  pub all_lanes : (lanes : List Lane) → ((n : ℕ) → does n ≡ did n)
      → LanesStand (events_of header after) (histories header lines) lanes
      → LanesStand (events_of header after) (histories header after) lanes
  all_lanes lanes still stand n lane found =
      let same : history_of n header after ≡ did n = by (who == n) in rw same (stand n lane found)
    where
      by : (b : Bool) → cond b (does n) (did n) ≡ did n
      by true = still n
      by false = refl

  -- At a line of companion `who` the lane of each other one stands for its own history of before.
  pub own_lanes : (lanes : List Lane)
      → ((n : ℕ) (lane : Lane) → stored lanes n ≡ Some lane → n ≢ who
      → LaneStands n (events_of header after) (did n) lane)
      → ((lane : Lane) → stored lanes who ≡ Some lane → LaneStands who (events_of header after) (does who) lane)
      → LanesStand (events_of header after) (histories header after) lanes
  own_lanes lanes others own n lane found = elim (eqb_tells n who) [
    | inl same ↦
        let now = own_line number t w who l verb in
        let here = own lane (rw same.1 at found) in
        rw same.1 (rw (history_now header now lines who refl) here)
    | inr differs ↦
        let now = own_line number t w who l verb in
        rw (history_other header now lines n (λ same. differs.1 (sym same))) (others n lane found differs.1)
  ]

  -- where nothing happened at the television, one lane alone was touched
  pub one_lane : (lanes : List Lane) (lane : Lane) → events_of header after ≡ events_of header lines → 1 ≤ who
      → who ≤ length lanes → LanesStand (events_of header lines) (histories header lines) lanes
      → LaneStands who (events_of header lines) (does who) lane
      → LanesStand (events_of header after) (histories header after) (slice_set lanes (who - 1) lane)
  one_lane lanes lane none first within stand here =
      own_lanes (slice_set lanes (who - 1) lane)
      (λ n other found differs.
      rw none (stand n other (sym (set_others lanes who n lane first differs) ∙ found)))
      (λ same found.
      let is : lane ≡ same =
      stored_same (slice_set lanes (who - 1) lane) who lane same (set_there lanes who lane first within) found in
      rw none (rw is at here))

-- ---- a request
pub asked : (old : Kept) (lines : List Numbered) (number t w who l reading : ℕ) (lane : Lane)
    (companion : Companion) (items : List (List ℕ)) (owners : List ℕ)
    → EndsStand old lines → 1 ≤ who → who ≤ length old.lanes → stored old.lanes who ≡ Some lane → reading < LIMIT
    → companions.StandsFor companion
    (Sent peer (encoded (request_at reading)) ∷ Clock why.Ask reading ∷ history_of who old.header lines)
    → items ≡ old.requests ++ encoded (request_at reading) ∷ [] → owners ≡ old.askers ++ who ∷ []
    → EndsStand (record old {
      lanes = slice_set old.lanes (who - 1) (record lane { companion = companion });
      requests = items;
      askers = owners;
    }) (own_line number t w who l (Ask reading) ∷ lines)
asked old lines number t w who l reading lane companion items owners ends first within found range stands put put_too =
    let before = ends.lanes who lane found in
    let stored_after : AreStored request_bytes (old.requests ++ encoded (request_at reading) ∷ [])
    (reading ∷ requests lines) =
    pushed request_bytes old.requests (requests lines) reading (encoded (request_at reading)) ends.requests refl in
    let owned_after : AreStored owner (old.askers ++ who ∷ []) (who ∷ askers lines) =
    pushed owner old.askers (askers lines) who who ends.askers refl in
    record {
      lanes = one_lane old.header lines number t w who l (Ask reading) old.lanes (record lane { companion = companion })
          refl first within ends.lanes (record { companion = stands; cii = before.cii; ts = before.ts });
      stage = ends.stage;
      server = ends.server;
      in_range = (range, ends.in_range);
      none_ahead = ends.none_ahead;
      requests = rw put stored_after;
      askers = rw put_too owned_after;
      takes = ends.takes;
      taken_for = ends.taken_for;
      datagrams = ends.datagrams;
      made_for = ends.made_for;
    }

-- ---- a take
-- what holds of each holds of that of a number
numbered_each : {A : Type 0} (P : A → Type 0) (number : ℕ) (items : List A) (item : A) → AllByRecursion P items
    → numbered number items ≡ Some item → P item
numbered_each P number [] item all e = absurd (cc)
numbered_each P number (x ∷ older) item all e =
    let next = numbered_each P number older item all.1 in grind (arith, all, e, next)

-- a stored request is read back
pub stored_request : (world : Kept) (lines : List Numbered) (number : ℕ) (bytes : List ℕ) → EndsStand world lines
    → stored world.requests number ≡ Some bytes
    → (asked : ℕ) × (numbered number (requests lines) ≡ Some asked) × (decoded bytes ≡ Ok (request_at asked))
stored_request world lines number bytes ends found =
    let sent = mapped_some (request_bytes number) (numbered number (requests lines)) bytes
    (sym (ends.requests.each number) ∙ found) in
    let range : sent.0 < LIMIT =
    numbered_each (λ reading. reading < LIMIT) number (requests lines) sent.0 ends.in_range sent.1 in
    (sent.0, sent.1, ap decoded (sym sent.2) ∙ request_back sent.0 range)

-- the server's ticket is that of the lines
pub ticket_same : (server : Server) (header : Header) (older : List Ticket) (reading asked : ℕ)
    → server.follow ≡ header.follow → server.greatest ≡ greatest_reading older
    → ticket_for server reading (stamp_of asked) ≡ ticket_at header older reading asked
ticket_same server header older reading asked follow greatest =
    let by_follow : Bool → Ticket = λ f. record {
      originate = stamp_of asked;
      reading = reading;
      follow_up = f && is_greater reading server.greatest;
    } in
    let by_greatest : Option ℕ → Ticket = λ g. record {
      originate = stamp_of asked;
      reading = reading;
      follow_up = header.follow && is_greater reading g;
    } in
    ap by_follow follow ∙ ap by_greatest greatest

-- `take` leaves ends that stand for one line more
pub taken : (old : Kept) (lines : List Numbered) (number t w who l request reading asked asker : ℕ) (tv : Television)
    (owners : List ℕ) → EndsStand old lines → numbered request (requests lines) ≡ Some asked
    → numbered request (askers lines) ≡ Some asker → tv.tv.stage ≡ old.tv.tv.stage → servers.StandsFor tv.tv.server
    (ticket_at old.header (tickets old.header lines) reading asked ∷ tickets old.header lines)
    → tv.takes.items ≡ old.tv.takes.items ++ Some (ticket_at old.header (tickets old.header lines) reading asked) ∷ []
    → owners ≡ old.taken_for ++ asker ∷ []
    → EndsStand (record old { tv = tv; taken_for = owners }) (own_line number t w who l (Take request reading) ∷ lines)
taken old lines number t w who l request reading asked asker tv owners ends sent whose same_stage stands put put_too =
    let before : List Ticket = tickets old.header lines in
    let ticket : Ticket = ticket_at old.header before reading asked in
    let now = own_line number t w who l (Take request reading) in
    let same : tickets old.header (now ∷ lines) ≡ ticket ∷ before =
    ap (λ (o : Option ℕ). option_to_list (option_map (ticket_at old.header before reading) o) ++ before) sent in
    let same_owners : taken_for (now ∷ lines) ≡ asker ∷ taken_for lines =
    ap (λ (o : Option ℕ). option_to_list o ++ taken_for lines) whose in
    let not_given : is_given (suc (length before)) lines ≡ false =
    ends.none_ahead (suc (length before)) (omega arith) in
    let seen : Some ticket ≡ open_ticket lines (suc (length before)) ticket = rw not_given refl in
    let stored_after : AreStored (open_ticket lines) (old.tv.takes.items ++ Some ticket ∷ []) (ticket ∷ before) =
    pushed (open_ticket lines) old.tv.takes.items before ticket (Some ticket) ends.takes seen in
    let stored_so : AreStored (open_ticket lines) tv.takes.items (ticket ∷ before) = rw put stored_after in
    let owned_after : AreStored owner (old.taken_for ++ asker ∷ []) (asker ∷ taken_for lines) =
    pushed owner old.taken_for (taken_for lines) asker asker ends.taken_for refl in
    let ahead : (take : ℕ) → suc (length before) < take → is_given take lines ≡ false =
    λ take above. ends.none_ahead take (omega arith) in
    record {
      lanes = all_lanes old.header lines number t w who l (Take request reading) old.lanes (λ n. refl) ends.lanes;
      stage = rw same_stage ends.stage;
      server = rw same stands;
      in_range = ends.in_range;
      none_ahead = rw same ahead;
      requests = ends.requests;
      askers = ends.askers;
      takes = rw same stored_so;
      taken_for = rw same_owners (rw put_too owned_after);
      datagrams = ends.datagrams;
      made_for = ends.made_for;
    }
