use Rattle.css_drive.proofs.companion_calls.check.Goals as goal

pub returns-in-Err-clause-unmade : goal.returns-in-Err-clause-unmade
returns-in-Err-clause-unmade g c at = c.unseen.ensures.unmade at _ c.in-Err.ensures
