-- The readings are those that the answers so far allow.
use Rattle.std.proofs.Common.{take}
use Rattle.css_companion_c.specs.When.{AreMet}
use Rattle.css_companion_c.proofs.reaching.met.Given as goal

abbrev pub invariant-loop-answer : goal.invariant-loop-answer
invariant-loop-answer l = AreMet l.local l.values l.floor (take l.answer-index l.answers) l.readings
