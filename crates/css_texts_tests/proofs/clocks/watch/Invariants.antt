use Rattle.std.proofs.Common.{◌<◌}
use Rattle.std.specs.Option.{ForSome}
use Rattle.css_texts_tests.proofs.clocks.watch.Given as goal

-- the next line comes after the last one
abbrev pub invariant-loop-line : goal.invariant-loop-line
invariant-loop-line g l = ForSome l.drift.last (λ last. last.line < l.line)
