use Rattle.std.proofs.Common.{◌∙◌, sym}
use Rattle.css_drive.proofs.CompanionSteps.{at_err}
use Rattle.css_drive.proofs.TvSteps.{unused_of, may_take}
use Rattle.css_drive.proofs.tv_turns.turn.Goals as goal

pub returns-in_err-serve-clause-goes : goal.returns-in_err-serve-clause-goes
returns-in_err-serve-clause-goes g c from script s =
    at_err _ _ _ _ c.from_residual-in_err-serve.ensures.1 (c.in_err-serve.ensures from c.begin.new.air
    (rw c.rest.ensures.shown at (may_take (c.in_ok-begin.ensures.goes from script s)
    (sym c.is_over.ensures ∙ c.if-is_over.false))))

pub welcome-requires : goal.welcome-requires
welcome-requires g c =
    let r = c.requires.ready in
    unused_of (c.in_ok-serve.ensures r.from c.begin.new.air
    (rw c.rest.ensures.shown at (may_take (c.in_ok-begin.ensures.goes r.from r.script_so r.ends)
    (sym c.is_over.ensures ∙ c.if-is_over.false))))

pub returns-in_err-welcome-clause-goes : goal.returns-in_err-welcome-clause-goes
returns-in_err-welcome-clause-goes g c from script s =
    at_err _ _ _ _ c.from_residual-in_err-welcome.ensures.1 (c.in_err-welcome.ensures from c.begin.new.air
    (c.in_ok-serve.ensures from c.begin.new.air
    (rw c.rest.ensures.shown at (may_take (c.in_ok-begin.ensures.goes from script s)
    (sym c.is_over.ensures ∙ c.if-is_over.false)))))

pub returns-clause-goes : goal.returns-clause-goes
returns-clause-goes g c from script s =
    c.hear_all.ensures from c.begin.new.air (c.in_ok-welcome.ensures from c.begin.new.air
    (c.in_ok-serve.ensures from c.begin.new.air
    (rw c.rest.ensures.shown at (may_take (c.in_ok-begin.ensures.goes from script s)
    (sym c.is_over.ensures ∙ c.if-is_over.false)))))
