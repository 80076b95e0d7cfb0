use Rattle.std.proofs.Common.{inl, ap}
use Rattle.css_text.specs.Readings.{value_or_fault}
use Rattle.css_text.proofs.Readings.{reading_found, reading_none}
use Rattle.css_text.proofs.reading.value_in.Goals as goal

pub returns-in-Ok : goal.returns-in-Ok
returns-in-Ok c = ap value_or_fault (reading_found _ _ c.in-Ok.ensures.ok.0 c.in-Ok.ensures.ok.1)

pub returns-in_default : goal.returns-in_default
returns-in_default c =
    inl (ap value_or_fault
    (reading_none _ (c.in-Err.ensures.err (λ m. c.in_default.not-Memory (c.classify.ensures.memory.1 m)))))
