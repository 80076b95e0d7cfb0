-- The image of small products is small.
use Rattle.std.proofs.Common.{rules}
use Rattle.css_clock.proofs.Near.{image-near}
use Rattle.css_clock.proofs.steps.near_image.Goals as goal

pub returns-clause-near_lo : goal.returns-clause-near_lo
returns-clause-near_lo c =
    (image-near c.args.since c.image.result c.args.factor c.args.divisor c.requires.positive c.requires.fits
    (search rules)).0

pub returns-clause-near_hi : goal.returns-clause-near_hi
returns-clause-near_hi c =
    (image-near c.args.since c.image.result c.args.factor c.args.divisor c.requires.positive c.requires.fits
    (search rules)).1
