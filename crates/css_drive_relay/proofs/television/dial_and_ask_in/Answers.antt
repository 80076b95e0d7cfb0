use Rattle.std.proofs.Common.{inl, inr}
use Rattle.css_drive.proofs.CompanionSteps.{at_err}
use Rattle.css_drive.specs.Stages.{At, at}
use Rattle.css_drive_relay.proofs.AsCompanion.{all_three}
use Rattle.css_drive_relay.proofs.television.dial_and_ask_in.Goals as goal

pub returns-in_err-dial_cii-clause-called : goal.returns-in_err-dial_cii-clause-called
returns-in_err-dial_cii-clause-called g c =
    at_err _ _ _ _ c.from_residual.ensures.1 (inl c.in_err-dial_cii.ensures.called)

pub returns-in_err-dial_wc-clause-called : goal.returns-in_err-dial_wc-clause-called
returns-in_err-dial_wc-clause-called g c =
    let a : At = at g.O.Outside.told g.O.Outside.counts c.dial_cii.new.self in
    at_err _ _ _ _ c.from_residual-in_err-dial_wc.ensures.1
    (inr (inl (a, c.in_ok-dial_cii.ensures.called, c.in_err-dial_wc.ensures.called)))

pub returns-clause-called : goal.returns-clause-called
returns-clause-called g c =
    all_three _ _ _ (at g.O.Outside.told g.O.Outside.counts c.dial_cii.new.self)
    (at g.O.Outside.told g.O.Outside.counts c.dial_wc.new.self) c.in_ok-dial_cii.ensures.called
    c.in_ok-dial_wc.ensures.called _ _ c.ask.ensures.called
