use Rattle.std.proofs.Common.{refl, sym, ◌∙◌, ap, ℕ, ◌∷◌, [], ◌++◌, inr}
use Rattle.css_model.specs.declared.Why.TheVariants as why
use Rattle.css_model.specs.History.{Sent}
use Rattle.css_model.specs.Wire.{encoded, request_at}
use Rattle.css_outside.specs.Outsides.{clock_entries}
use Rattle.css_outside.specs.declared.calls.Clocked.{Clocked}
use Rattle.css_drive.specs.CompanionDue.{send_to}
use Rattle.css_drive.specs.declared.companion_live.Live.{Live}
use Rattle.css_drive.specs.Notes.{standpoint}
use Rattle.css_drive.specs.Proper.{SendDatagram}
use Rattle.css_drive.specs.Stages.{at}
use Rattle.css_drive.proofs.CompanionSteps.{comes, stands_adds, stops_by_fault, fails_over, at_err, failed}
use Rattle.css_drive.proofs.CompanionSteps as calls
use Rattle.css_drive.proofs.companion_live.Run.request.Goals as goal

pub returns-clause-called : goal.returns-clause-called
returns-clause-called g c = record {
  mid = at g.O.Outside.told g.O.Outside.counts c.read.new.self;
  reads = record {
    clocked = c.in_ok-clocked.clocked;
    read = c.in_ok-clocked.ensures.told;
    bytes = c.ask-bytes.result;
    request = c.ask-bytes.ensures.request;
    known = λ own h k. record {
      stands = c.ask-bytes.ensures.stands _ h c.args.peer k.stands;
      setup = ap (λ x. x.setup) c.ask-bytes.ensures.keeps ∙ k.setup;
      local = c.ask-bytes.ensures.own ∙ k.local;
    };
  };
  sent = c.in_ok-send_datagram.ensures.told;
  live = refl;
}

pub returns-in_err-send_datagram-clause-called : goal.returns-in_err-send_datagram-clause-called
returns-in_err-send_datagram-clause-called g c =
    at_err _ _ _ _ c.from_residual-in_err-send_datagram.ensures.1 (inr (
      at g.O.Outside.told g.O.Outside.counts
          c.read.new.self,
      record {
        clocked = c.in_ok-clocked.clocked;
        read = c.in_ok-clocked.ensures.told;
        bytes = c.ask-bytes.result;
        request = c.ask-bytes.ensures.request;
        known = λ own h k. record {
          stands = c.ask-bytes.ensures.stands _ h c.args.peer k.stands;
          setup = ap (λ x. x.setup) c.ask-bytes.ensures.keeps ∙ k.setup;
          local = c.ask-bytes.ensures.own ∙ k.local;
        };
      },
      fails_over c.in_ok-check.ensures.on c.in_err-send_datagram.ensures.told,
    ))

pub returns-in_err-check-clause-called : goal.returns-in_err-check-clause-called
returns-in_err-check-clause-called g c =
    at_err _ _ _ _ c.from_residual-in_err-check.ensures.1 (inr (
      at g.O.Outside.told g.O.Outside.counts
          c.read.new.self,
      record {
        clocked = c.in_ok-clocked.clocked;
        read = c.in_ok-clocked.ensures.told;
        bytes = c.ask-bytes.result;
        request = c.ask-bytes.ensures.request;
        known = λ own h k. record {
          stands = c.ask-bytes.ensures.stands _ h c.args.peer k.stands;
          setup = ap (λ x. x.setup) c.ask-bytes.ensures.keeps ∙ k.setup;
          local = c.ask-bytes.ensures.own ∙ k.local;
        };
      },
      c.in_err-check.ensures.unmade _,
    ))

pub returns-clause-goes : goal.returns-clause-goes
returns-clause-goes g c some config before started h s k d =
    let read = c.in_ok-clocked.ensures.told in
    let clocked : Clocked = c.in_ok-clocked.clocked in
    let p : ℕ = c.args.peer in
    let asked = clock_entries why.Ask clocked ++ h in
    let s1 = calls.stands_asked {after = g.W.Observes.saw started c.note_sleep.new.observer} s d clocked read
    (c.note_sleep.ensures (standpoint config h) started _ c.in_ok-clocked.ensures.on
    (c.in_ok-clocked.ensures.saw started _ s.saw_so)) in
    let k1 = read.known config.companion h k in
    let wc = ap {A = Live} (λ x. x.wc) s1.facts ∙ ap {A = Live} (λ x. x.wc) read.only ∙ some in
    let e1 = ap (λ o. send_to o (encoded (request_at clocked.reading))) wc
    ∙ ap (λ b. SendDatagram p b) (sym c.ask-bytes.ensures.request) in
    comes (stands_adds s1 (SendDatagram p c.ask-bytes.result) e1 (Sent p c.ask-bytes.result ∷ []) refl s1.peers
    c.in_ok-send_datagram.ensures.told
    (c.asked.ensures (standpoint config asked) started _ c.in_ok-check.ensures.on s1.saw_so)
    (ap {A = Live} (λ x. record x { asked = x.turn }) s1.facts))
    (record {
      stands = c.ask-bytes.ensures.stands _ _ p k1.stands;
      setup = ap (λ x. x.setup) c.ask-bytes.ensures.keeps ∙ k1.setup;
      local = c.ask-bytes.ensures.own ∙ k1.local;
    }) _ refl

pub returns-in_err-send_datagram-clause-goes : goal.returns-in_err-send_datagram-clause-goes
returns-in_err-send_datagram-clause-goes g c some config before started h s k d =
    let read = c.in_ok-clocked.ensures.told in
    let s1 = calls.stands_asked {after = g.W.Observes.saw started c.note_sleep.new.observer} s d _ read
    (c.note_sleep.ensures (standpoint config h) started _ c.in_ok-clocked.ensures.on
    (c.in_ok-clocked.ensures.saw started _ s.saw_so)) in
    let l = (c.ask-bytes.ensures.stands _ _ c.args.peer (read.known _ h k).stands).client.lawful in
    at_err _ _ _ _ c.from_residual-in_err-send_datagram.ensures.1
    (stops_by_fault s1 (record { rises = l.rises.1; asks = l.asks.1 })
    (fails_over c.in_ok-check.ensures.on c.in_err-send_datagram.ensures.told) s1.saw_so)

pub returns-in_err-check-clause-goes : goal.returns-in_err-check-clause-goes
returns-in_err-check-clause-goes g c some config before started h s k d =
    let read = c.in_ok-clocked.ensures.told in
    let s1 = calls.stands_asked {after = g.W.Observes.saw started c.note_sleep.new.observer} s d _ read
    (c.note_sleep.ensures (standpoint config h) started _ c.in_ok-clocked.ensures.on
    (c.in_ok-clocked.ensures.saw started _ s.saw_so)) in
    let l = (c.ask-bytes.ensures.stands _ _ c.args.peer (read.known _ h k).stands).client.lawful in
    at_err _ _ _ _ c.from_residual-in_err-check.ensures.1
    (stops_by_fault s1 (record { rises = l.rises.1; asks = l.asks.1 }) (c.in_err-check.ensures.unmade _) s1.saw_so)

pub returns-in_err-clocked-clause-goes : goal.returns-in_err-clocked-clause-goes
returns-in_err-clocked-clause-goes g c some config before started h s k d =
    failed s _ _ k c.from_residual.ensures.1 c.in_err-clocked.ensures.told _
    (c.in_err-clocked.ensures.saw started _ s.saw_so)
