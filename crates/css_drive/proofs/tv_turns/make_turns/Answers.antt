use Rattle.std.proofs.Common.{◌∙◌, sym}
use Rattle.css_drive.proofs.tv_turns.make_turns.Goals as goal

pub returns-in-Err : goal.returns-in-Err
returns-in-Err g c from script s = c.in-Err.ensures.goes from script (c.turns.invariant.goes from script s)

pub returns : goal.returns
returns g c from script s =
    c.hang_up_all.ensures from c.turns.air (sym c.goes_on.ensures ∙ c.turns-test.false)
    (c.turns.invariant.goes from script s)
