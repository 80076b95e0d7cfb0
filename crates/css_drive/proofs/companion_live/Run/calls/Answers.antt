use Rattle.std.proofs.Common.{refl}
use Rattle.css_drive.proofs.CompanionSteps.{◌>=>◌, leads_err}
use Rattle.css_drive.proofs.companion_live.Run.calls.Goals as goal

pub returns-in_err-dial_cii-clause-goes : goal.returns-in_err-dial_cii-clause-goes
returns-in_err-dial_cii-clause-goes g c =
    leads_err _ _ c.from_residual.ensures.1 (c.in_err-dial_cii.ensures.goes _ refl)

pub returns-in_err-dial_wc-clause-goes : goal.returns-in_err-dial_wc-clause-goes
returns-in_err-dial_wc-clause-goes g c =
    leads_err _ _ c.from_residual-in_err-dial_wc.ensures.1
    (c.in_ok-dial_cii.ensures.goes _ refl >=> c.in_err-dial_wc.ensures.goes _)

pub returns-in_err-dial_ts-clause-goes : goal.returns-in_err-dial_ts-clause-goes
returns-in_err-dial_ts-clause-goes g c =
    leads_err _ _ c.from_residual-in_err-dial_ts.ensures.1
    (c.in_ok-dial_cii.ensures.goes _ refl >=> c.in_ok-dial_wc.ensures.goes _ >=> c.in_err-dial_ts.ensures.goes)

pub returns-in_err-ask-clause-goes : goal.returns-in_err-ask-clause-goes
returns-in_err-ask-clause-goes g c =
    leads_err _ _ c.from_residual-in_err-ask.ensures.1
    (c.in_ok-dial_cii.ensures.goes _ refl >=> c.in_ok-dial_wc.ensures.goes _ >=> c.in_ok-dial_ts.ensures.goes
    >=> c.in_err-ask.ensures.goes _ refl)

pub returns-in_err-take-clause-goes : goal.returns-in_err-take-clause-goes
returns-in_err-take-clause-goes g c =
    leads_err _ _ c.from_residual-in_err-take.ensures.1
    (c.in_ok-dial_cii.ensures.goes _ refl >=> c.in_ok-dial_wc.ensures.goes _ >=> c.in_ok-dial_ts.ensures.goes
    >=> (rw c.rest.ensures.shown at (c.in_ok-ask.ensures.goes c.args.config.now refl))
    >=> c.in_err-take.ensures.goes _)

pub returns-in_err-hear-clause-goes : goal.returns-in_err-hear-clause-goes
returns-in_err-hear-clause-goes g c =
    leads_err _ _ c.from_residual-in_err-hear.ensures.1
    (c.in_ok-dial_cii.ensures.goes _ refl >=> c.in_ok-dial_wc.ensures.goes _ >=> c.in_ok-dial_ts.ensures.goes
    >=> (rw c.rest.ensures.shown at (c.in_ok-ask.ensures.goes c.args.config.now refl))
    >=> c.in_ok-take.ensures.goes _ >=> c.in_err-hear.ensures.goes refl _)

pub returns-in_err-hear-2-clause-goes : goal.returns-in_err-hear-2-clause-goes
returns-in_err-hear-2-clause-goes g c =
    leads_err _ _ c.from_residual-in_err-hear-2.ensures.1
    (c.in_ok-dial_cii.ensures.goes _ refl >=> c.in_ok-dial_wc.ensures.goes _ >=> c.in_ok-dial_ts.ensures.goes
    >=> (rw c.rest.ensures.shown at (c.in_ok-ask.ensures.goes c.args.config.now refl))
    >=> c.in_ok-take.ensures.goes _ >=> c.in_ok-hear.ensures.goes refl _
    >=> c.in_err-hear-2.ensures.goes refl _)

pub returns-clause-goes : goal.returns-clause-goes
returns-clause-goes g c =
    c.in_ok-dial_cii.ensures.goes _ refl >=> c.in_ok-dial_wc.ensures.goes _ >=> c.in_ok-dial_ts.ensures.goes
    >=> (rw c.rest.ensures.shown at (c.in_ok-ask.ensures.goes c.args.config.now refl))
    >=> c.in_ok-take.ensures.goes _ >=> c.in_ok-hear.ensures.goes refl _
    >=> c.in_ok-hear-2.ensures.goes refl _
