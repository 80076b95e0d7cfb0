use Rattle.std.proofs.Common.{ℤ, sym, subst}
use Rattle.css_companion.specs.Headline.{IsPromised}
use Rattle.css_companion.specs.Standing.{own_of}
use Rattle.css_companion.specs.declared.report.Report.{Report}
use Rattle.css_companion.specs.declared.report.Report.TheVariants as report
use Rattle.css_companion_c.proofs.reading.ticks.Goals as goal

pub returns-in-Ok-timing-clause-truth : goal.returns-in-Ok-timing-clause-truth
returns-in-Ok-timing-clause-truth c = λ _ history known.
    let Promised = λ (r : Report). IsPromised
    (own_of c.args.follower.now.companion) c.args.follower.now.companion.setup.selector history c.args.reading r in
    subst (λ (lo : ℤ). Promised (report.Ticks lo c.placed.result.hi)) (sym c.placed.ensures.ends.0)
    (subst (λ (hi : ℤ). Promised (report.Ticks c.in-Ok.ticks.lo hi)) (sym c.placed.ensures.ends.1)
    (subst Promised c.in-Ok.ensures.ticks (c.report.ensures.headline history known)))
