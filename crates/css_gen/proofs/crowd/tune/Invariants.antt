use Rattle.std.proofs.Common.{◌≡◌}
use Rattle.css_gen.specs.Crowd as crowds
use Rattle.css_gen.proofs.crowd.tune.Given as goal

abbrev pub invariant-loop-others : goal.invariant-loop-others
invariant-loop-others l =
    (l.fast ≡ (crowds.tuned l.initial.course l.others).fast)
    × (l.course ≡ record l.initial.course { words = (crowds.tuned l.initial.course l.others).left })
