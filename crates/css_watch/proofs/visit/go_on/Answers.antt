use Rattle.std.proofs.Common.{refl}
use Rattle.css_watch.proofs.Following as following
use Rattle.css_watch.proofs.visit.go_on.Goals as goal

pub returns-in-Some-clause-parts : goal.returns-in-Some-clause-parts
returns-in-Some-clause-parts g c =
    following.unwritten_breaks c.args.progress.now c.args.why.now _ _ c.in-Some.fault _ c.unwritten.ensures.value refl
    (c.in-Some.ensures _ c.ended_line-line.ensures) refl refl

pub returns-in-Ok-clause-parts : goal.returns-in-Ok-clause-parts
returns-in-Ok-clause-parts g c =
    following.goes_on c.args.progress.now c.args.why.now _ _
    refl (c.in-None.ensures _ c.ended_line-line.ensures) c.in-Ok.ensures.hangs

pub returns-in-Err-clause-parts : goal.returns-in-Err-clause-parts
returns-in-Err-clause-parts g c =
    following.unhung_breaks c.args.progress.now c.args.why.now _ _ c.in-Err.fault _ c.fault_of.ensures.value refl
    (c.in-None.ensures _ c.ended_line-line.ensures) c.in-Err.ensures.hangs
