-- Whether an answer is added.
use Rattle.std.specs.Prelude.{ℕ, pos, int_lt, if◌then◌else◌, Result, Ok, Err}
use Rattle.css_model.specs.WallClock.{Answer, Local, scaled_width}
use Rattle.css_agree.specs.declared.fault.AgreeFault.{AgreeFault}
use Rattle.css_agree.specs.declared.fault.AgreeFault.TheVariants.{Impossible}

-- it is impossible where its scaled width at the reading is below zero
abbrev pub verdict : Local → ℕ → Answer → Result (Unit {0}) AgreeFault
verdict own reading answer =
    let width = scaled_width own answer reading in
    if int_lt width (pos 0) then Err (Impossible width) else Ok tt
