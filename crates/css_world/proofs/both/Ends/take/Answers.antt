-- The request that is stored is read back, and its ticket is stored.
use Rattle.std.proofs.Common.{◌≡◌, ◌⊎◌, inl, inr, refl, sym, ap, ◌∙◌, true, false, cond, List, ℕ, [], ◌∷◌, ◌++◌}
use Rattle.std.specs.Prelude.{◌&&◌, Some, None, is_some, Result, Ok, Err}
use Rattle.css_meaning.proofs.Tickets.{askers_count}
use Rattle.css_world.specs.Standing.{Kept, kept, EndsStand, request_bytes}
use Rattle.css_world.proofs.Names.{stamp_of, Ticket, ticket_for, Take, WorldFault, Absent, Numbered, requests, askers}
use Rattle.css_world.proofs.Names.{tickets, ticket_at, numbered, stored, can_happen}
use Rattle.css_world.proofs.Carrying.{at_line, stored_request, taken, ticket_same}
use Rattle.css_world.proofs.Answering.{owner_stored}
use Rattle.css_world.proofs.Numbers.{stored_none, mapped_none}
use Rattle.css_world.proofs.Verbs.{refuses-absent, wants}
use Rattle.css_world.proofs.Owning.{are_on, are_told, same_lanes, refused_memory}
use Rattle.css_world.proofs.both.Ends.take.Goals as goal

-- where no request of this number is stored, none can be taken
none-sent : (world : Kept) (lines : List Numbered) (who request reading : ℕ) → EndsStand world lines
    → stored world.requests request ≡ None → can_happen world.header lines who (Take request reading) ≡ false
none-sent world lines who request reading ends missing =
    ap (λ o. is_some o && true)
    (mapped_none (request_bytes request) (numbered request (requests lines))
    (sym (ends.requests.each request) ∙ missing))

-- one that isn't stored has no companion, and the other way round
not_stored : (world : Kept) (lines : List Numbered) (request : ℕ) → EndsStand world lines
    → (stored world.requests request ≡ None) ⊎ (stored world.askers request ≡ None)
    → stored world.requests request ≡ None
not_stored world lines request ends (inl missing) = missing
not_stored world lines request ends (inr nobody) =
    stored_none world.askers world.requests request
    (ends.askers.count ∙ askers_count lines ∙ sym ends.requests.count) nobody

pub take-requires-clause-request : goal.take-requires-clause-request
take-requires-clause-request c =
    let header = c.requires.ready.0 in
    let lines = c.requires.ready.1 in
    let ready = c.requires.ready.2 in
    let old : Kept = kept header c.args.self.now in
    let found : stored old.requests c.args.request ≡ Some c.in-Some.request.now =
    ap (λ (items : List (List ℕ)). stored items c.args.request) (sym c.deref.ensures.value)
    ∙ c.in-Some.ensures.some.0 in
    let sent = stored_request old lines c.args.request c.in-Some.request.now ready.ends found in
    (sent.0, sent.2)

pub returns-in_default-clause-carries : goal.returns-in_default-clause-carries
returns-in_default-clause-carries c = λ who header lines now own is ready may.
    let old : Kept = kept header c.args.self.now in
    refuses-absent _ _ lines now who (Take c.args.request c.args.reading)
    (none-sent old lines who c.args.request c.args.reading ready.ends
    (not_stored old lines c.args.request ready.ends
    (rw c.deref-2.ensures.value at (rw c.deref.ensures.value at c.in_default.ensures.none))))

pub returns-in_err-take-clause-carries : goal.returns-in_err-take-clause-carries
returns-in_err-take-clause-carries c = λ who header lines now own is ready may.
    wants _ _ c.from_residual.result lines now who (Take c.args.request c.args.reading)
    c.from_residual.ensures.1

pub returns-in_err-push-clause-carries : goal.returns-in_err-push-clause-carries
returns-in_err-push-clause-carries c = λ who header lines now own is ready may.
    wants _ _ c.from_residual-in_err-push.result lines now who (Take c.args.request c.args.reading)
    c.from_residual-in_err-push.ensures.1

pub returns-clause-carries : goal.returns-clause-carries
returns-clause-carries c = λ who header lines now own is ready may.
    let old : Kept = kept header c.args.self.now in
    let found : stored old.requests c.args.request ≡ Some c.in-Some.request.now =
    ap (λ (items : List (List ℕ)). stored items c.args.request) (sym c.deref.ensures.value)
    ∙ c.in-Some.ensures.some.0 in
    let whose : stored old.askers c.args.request ≡ Some c.in-Some.asker =
    ap (λ (items : List ℕ). stored items c.args.request) (sym c.deref-2.ensures.value)
    ∙ c.in-Some.ensures.some.1 in
    let asker = owner_stored (numbered c.args.request (askers lines)) c.args.request c.in-Some.asker
    (sym (ready.ends.askers.each c.args.request) ∙ whose) in
    let sent = stored_request old lines c.args.request c.in-Some.request.now ready.ends found in
    let before : List Ticket = tickets header lines in
    let same : ticket_for old.tv.tv.server c.args.reading (stamp_of sent.0)
    ≡ ticket_at header before c.args.reading sent.0 =
    ticket_same old.tv.tv.server header before c.args.reading sent.0 ready.are.declares.follow
    ready.ends.server.greatest in
    let ok : Result (Unit {0}) WorldFault = Ok tt in
    record {
      answer = ap (λ o. cond (is_some o && true) ok (Err Absent)) sent.1;
      are = are_told (are_on old lines now who (Take c.args.request c.args.reading) own is may ready.are) refl
          c.take.ensures.declared (ap (λ stage. stage.addresses) c.take.ensures.stage) (same_lanes old.lanes);
      ends = at_line _ lines now who (Take c.args.request c.args.reading) own is
          (taken old lines now.number now.line.t now.line.w who now.line.l c.args.request c.args.reading sent.0
          c.in-Some.asker c.take.new.self c.push.new.self.items ready.ends sent.1 asker c.take.ensures.stage
          (rw same at (c.in_ok-take.ensures.stands sent.0 before sent.2 ready.ends.server))
          (c.in_ok-take.ensures.takes sent.0 sent.2
          ∙ ap (λ (ticket : Ticket). old.tv.takes.items ++ Some ticket ∷ []) same) c.in_ok-push.ensures.items);
    }

pub returns-in_err-take-clause-refused : goal.returns-in_err-take-clause-refused
returns-in_err-take-clause-refused c = refused_memory _ _ c.from_residual.result c.from_residual.ensures.1

pub returns-in_err-push-clause-refused : goal.returns-in_err-push-clause-refused
returns-in_err-push-clause-refused c =
    refused_memory _ _ c.from_residual-in_err-push.result c.from_residual-in_err-push.ensures.1
