-- The line of a report with ticks.
use Rattle.std.proofs.Common.{◌≡◌, subst, ℕ, List, Option, Some, Result, Ok}
use Rattle.std.specs.Prelude.{IfOk}
use Rattle.css_agree.specs.declared.agreed.Agreed.{Agreed}
use Rattle.css_companion.specs.declared.knowledge.Timing.{Timing}
use Rattle.css_companion.specs.declared.report.Cause.{Cause}
use Rattle.css_model.specs.WallClock.{Answer}
use Rattle.css_num.specs.Spans.{Interval}
use Rattle.css_num.specs.declared.memory.Memory.{Memory}
use Rattle.css_watch_lines.specs.Lines.{line_text}
use Rattle.css_watch_lines.specs.declared.known.Ticks.{Ticks}
use Rattle.css_watch.specs.Telling.{with_ticks}

-- what the companion tells is what its history does
pub ticks_as : (number reading : ℕ) (ticks : Ticks) (said : Agreed) (wall : Interval) (answer : Answer)
    (timing : Timing) (w : Option Interval) (a : Option Answer) (t : Result Timing Cause)
    (line : Result (List ℕ) Memory) → Some wall ≡ w → Some answer ≡ a → Ok timing ≡ t
    → IfOk line (λ text. text ≡ line_text (with_ticks number reading ticks said (Some wall) (Some answer) (Ok timing)))
    → IfOk line (λ text. text ≡ line_text (with_ticks number reading ticks said w a t))
ticks_as number reading ticks said wall answer timing w a t line ew ea et told =
    let W : Option Interval → Type 0 = λ x. IfOk line (λ text. text ≡ line_text (with_ticks number reading ticks said x
    (Some answer) (Ok timing))) in
    let A : Option Answer → Type 0 = λ x. IfOk line (λ text. text ≡ line_text (with_ticks number reading ticks said w x
    (Ok timing))) in
    let T : Result Timing Cause → Type 0 = λ x. IfOk line (λ text. text ≡ line_text (with_ticks number reading ticks
    said w a x)) in
    subst T et (subst A ea (subst W ew told))
