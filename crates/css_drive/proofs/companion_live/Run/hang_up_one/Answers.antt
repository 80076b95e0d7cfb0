use Rattle.std.proofs.Common.{sym, ap, ◌∙◌}
use Rattle.css_drive.specs.CompanionDue.{hang_up}
use Rattle.css_drive.proofs.CompanionSteps.{at_err, fails_over, stops_by_fault}
use Rattle.css_drive.proofs.CompanionEnds as ends
use Rattle.css_drive.proofs.companion_live.Run.hang_up_one.Goals as goal

pub returns-clause-goes : goal.returns-clause-goes
returns-clause-goes g c cfg before started end x rest d =
    ends.hung x (d ∙ ap (λ o. hang_up o rest) (sym c.peer_of.ensures ∙ c.in-Some.is)) c.in_ok-hang_up.ensures.told
    c.close.ensures

pub returns-clause-shut : goal.returns-clause-shut
returns-clause-shut g c =
    ends.shut c.args.session _ c.close.new.self c.close.ensures (sym c.peer_of.ensures ∙ c.in-Some.is)

pub returns-in_err-hang_up-clause-goes : goal.returns-in_err-hang_up-clause-goes
returns-in_err-hang_up-clause-goes g c cfg before started end x rest d =
    at_err _ _ _ _ c.from_residual-in_err-hang_up.ensures.1 (stops_by_fault x.stands x.lawful
    (fails_over c.in_ok-check.ensures.on c.in_err-hang_up.ensures.told) x.stands.saw_so)

pub returns-in_err-check-clause-goes : goal.returns-in_err-check-clause-goes
returns-in_err-check-clause-goes g c cfg before started end x rest d =
    at_err _ _ _ _ c.from_residual.ensures.1 (stops_by_fault x.stands x.lawful (c.in_err-check.ensures.unmade _)
    x.stands.saw_so)
