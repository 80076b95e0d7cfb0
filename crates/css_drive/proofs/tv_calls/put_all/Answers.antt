use Rattle.std.proofs.Common.{◌+◌, drop, arith}
use Rattle.css_drive.proofs.CompanionSteps.{at_err}
use Rattle.css_drive.proofs.TvSteps.{owing, left_at, peers_all}
use Rattle.css_drive.proofs.tv_calls.put_all.Goals as goal

pub returns-in_err-put_one : goal.returns-in_err-put_one
returns-in_err-put_one g c place from air s =
    at_err _ _ _ _ c.from_residual.ensures.1 (c.in_err-put_one.ensures place (drop (c.loop-out.out-index + 1)
    c.args.outs.now) from air
    (owing place (left_at c.args.outs.now c.loop-out.out-index c.out-item.result c.loop-out-test.true c.out-item.is)
    (c.loop-out.invariant place from air s)))

pub loop-out-preserved : goal.loop-out-preserved
loop-out-preserved g c = λ place from air s.
    c.in_ok-put_one.ensures place (drop (c.loop-out.out-index + 1) c.args.outs.now) from air
    (owing place (left_at c.args.outs.now c.loop-out.out-index c.out-item.result c.loop-out-test.true c.out-item.is)
    (c.loop-out.invariant place from air s))

pub returns : goal.returns
returns g c place from air s =
    owing place (peers_all c.args.outs.now c.loop-out.out-index (omega (arith, c.loop-out-test.false)))
    (c.loop-out.invariant place from air s)
