-- Whether an answer is accepted.
use Rattle.std.specs.Prelude.{ℕ, pos, int_lt, if◌then◌else◌, Result, Ok, Err}
use Rattle.css_model.specs.WallClock.{Answer, Local, scaled_width}
use Rattle.css_span.specs.declared.fault.AcceptFault.{AcceptFault}
use Rattle.css_span.specs.declared.fault.AcceptFault.TheVariants.{Impossible}

-- it is impossible where its scaled width at the reading is below zero
abbrev pub verdict : Local → ℕ → Answer → Result (Unit {0}) AcceptFault
verdict own reading answer =
    if int_lt (scaled_width own answer reading) (pos 0) then Err (Impossible (scaled_width own answer reading))
    else Ok tt
