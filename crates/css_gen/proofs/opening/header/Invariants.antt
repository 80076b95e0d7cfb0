use Rattle.std.proofs.Common.{◌≡◌, replicate}
use Rattle.css_gen.specs.Opening.{companion}
use Rattle.css_gen.proofs.opening.header.Given as goal

-- so many companions are in the list
abbrev pub invariant-loop-declared : goal.invariant-loop-declared
invariant-loop-declared l = l.list.items ≡ replicate l.declared companion
