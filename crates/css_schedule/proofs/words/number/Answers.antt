use Rattle.std.proofs.Common.{arith, inl}
use Rattle.css_schedule.proofs.Quick.{number_at-below, number_at-beyond}
use Rattle.css_schedule.proofs.words.number.Goals as goal

pub returns-in-Some-clause-value : goal.returns-in-Some-clause-value
returns-in-Some-clause-value c = number_at-below _ _ _ _ c.in-Some.ensures (omega arith)

pub returns-in-Some-2-clause-value : goal.returns-in-Some-2-clause-value
returns-in-Some-2-clause-value c = inl (number_at-beyond _ _ _ _ c.in-Some.ensures (omega arith))
