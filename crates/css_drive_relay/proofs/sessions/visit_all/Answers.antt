use Rattle.std.proofs.Common.{refl, sym, ◌∙◌, arith}
use Rattle.std.proofs.lemmas.List.Elements.{same_from_all_zip}
use Rattle.css_drive.proofs.CompanionSteps.{at_err}
use Rattle.css_drive.proofs.TvSteps.{peers_all, peer_from}
use Rattle.css_drive_relay.proofs.Steps as steps
use Rattle.css_drive_relay.proofs.sessions.visit_all.Goals as goal

pub loop-peer-init : goal.loop-peer-init
loop-peer-init g c = record {
  goes = λ plan start h s.
      steps.visits c.args.live.now c.args.what.now (h, s)
      (sym (c.deref-peer-items.ensures.value ∙ same_from_all_zip _ _ _ (rw c.in_ok-left.ensures.ok at
      c.clone.ensures).cases.0 (λ x y e. e)));
  keeps = record { made = refl; dialled = λ e. e; dials = omega arith; floor = λ le. le; early = tt };
}

pub loop-peer-preserved : goal.loop-peer-preserved
loop-peer-preserved g c = record {
  goes = λ plan start h s.
      let x = steps.visits c.loop-peer.live c.args.what.now (c.loop-peer.invariant.goes plan start h s)
      (peer_from c.deref-peer-items.result.now c.loop-peer.peer-index c.loop-peer-test.true) in
      c.in_ok-visit_one.ensures.goes plan _ start x.0 x.1;
  keeps = steps.keeps_on c.loop-peer.invariant.keeps c.in_ok-visit_one.ensures.keeps;
}

pub returns-clause-goes : goal.returns-clause-goes
returns-clause-goes g c plan start h s =
    let over = c.loop-peer-test.false in
    steps.visits c.loop-peer.live c.args.what.now (c.loop-peer.invariant.goes plan start h s)
    (peers_all c.deref-peer-items.result.now c.loop-peer.peer-index (omega (arith, over)))

pub returns-in_err-visit_one-clause-goes : goal.returns-in_err-visit_one-clause-goes
returns-in_err-visit_one-clause-goes g c plan start h s =
    let x = steps.visits c.loop-peer.live c.args.what.now (c.loop-peer.invariant.goes plan start h s)
    (peer_from c.deref-peer-items.result.now c.loop-peer.peer-index c.loop-peer-test.true) in
    at_err _ _ _ _ c.from_residual-in_err-visit_one.ensures.1 (c.in_err-visit_one.ensures.goes plan _ start x.0 x.1)
