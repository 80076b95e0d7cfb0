use Rattle.css_gen.proofs.CrowdGoing.{begins}
use Rattle.css_gen.proofs.generator.Generator.new.Goals as goal

pub invariant_of-result : goal.invariant_of-result
invariant_of-result c =
    rw c.start.ensures.crowd
    (begins c.args.seed c.args.lines c.args.companions c.requires.most c.requires.some c.requires.few)
