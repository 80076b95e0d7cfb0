-- What is told of answers, as a function of them.
use Rattle.std.specs.Prelude.{ℕ, int_lt, if◌then◌else◌, reverse, Option, Some, None}
use Rattle.css_model.specs.WallClock.{Local, lo, hi}
use Rattle.css_span.specs.Frontiers.{Answers}
use Rattle.css_agree.specs.declared.agreed.Agreed.{Agreed}
use Rattle.css_agree.specs.declared.agreed.Agreed.TheVariants.{Nothing, Within, Disagree}
use Rattle.css_agree.specs.declared.best.Best.{Best}
use Rattle.css_agree.specs.Bests.{bests_of, best_of}

-- by the best answer at each end
abbrev pub told_by : Local → ℕ → Option Best → Agreed
told_by own reading None = Nothing
told_by own reading (Some best) =
    if int_lt (hi own best.high reading) (lo own best.low reading) then Disagree best.low best.high
    else Within (record { lo = lo own best.low reading; hi = hi own best.high reading })

-- What answers say together at the reading. Of each declared error the best answer at each end counts, and of these the
-- best one: the end before it is rounded decides, then which answer landed earlier, then which error came first.
unfoldable pub agreed_of : Local → ℕ → Answers → Agreed
agreed_of own reading added = told_by own reading (best_of own reading (reverse (bests_of own reading added)))
