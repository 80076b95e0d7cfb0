-- From `end` on the spans of the answers so far are too wide.
use Rattle.std.proofs.Common.{take}
use Rattle.css_companion_c.specs.Until.{IsWideFrom}
use Rattle.css_companion_c.proofs.until.all_wide_from.Given as goal

abbrev pub invariant-loop-answer : goal.invariant-loop-answer
invariant-loop-answer l = IsWideFrom l.local l.width l.floor (take l.answer-index l.answers) l.end
