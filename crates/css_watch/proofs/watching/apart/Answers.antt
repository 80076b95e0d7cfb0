-- What is told of the answers says whether they contradict each other, and names two that do.
use Rattle.std.proofs.Common.{ap}
use Rattle.css_agree.proofs.Disagreements.{told}
use Rattle.css_agree.specs.declared.agreed.Agreed.TheVariants.{Nothing, Within, Disagree}
use Rattle.css_watch.specs.Progress.{between_in}
use Rattle.css_watch.proofs.watching.apart.Goals as goal

pub returns-in-Disagree-clause-value : goal.returns-in-Disagree-clause-value
returns-in-Disagree-clause-value c answers s = ap between_in (c.in-Disagree.ensures.value answers s)

pub returns-in-Disagree-clause-some : goal.returns-in-Disagree-clause-some
returns-in-Disagree-clause-some c answers s =
    told c.args.agree.now.local c.args.reading answers (Disagree c.in-Disagree.low c.in-Disagree.high)
    (c.in-Disagree.ensures.agrees answers s)

pub returns-in-Within-clause-value : goal.returns-in-Within-clause-value
returns-in-Within-clause-value c answers s = ap between_in (c.in-Within.ensures.value answers s)

pub returns-in-Within-clause-some : goal.returns-in-Within-clause-some
returns-in-Within-clause-some c answers s =
    told c.args.agree.now.local c.args.reading answers (Within c.in-Within.field-0)
    (c.in-Within.ensures.agrees answers s)

pub returns-in-Nothing-clause-value : goal.returns-in-Nothing-clause-value
returns-in-Nothing-clause-value c answers s = ap between_in (c.in-Nothing.ensures.value answers s)

pub returns-in-Nothing-clause-some : goal.returns-in-Nothing-clause-some
returns-in-Nothing-clause-some c answers s =
    told c.args.agree.now.local c.args.reading answers Nothing (c.in-Nothing.ensures.agrees answers s)
