use Rattle.std.proofs.Common.{arith, refl}
use Rattle.css_drive.specs.Proper.{TakeText}
use Rattle.css_drive.specs.TvDue.{from_texts}
use Rattle.css_drive.proofs.CompanionSteps.{at_err}
use Rattle.css_drive.proofs.TvSteps.{first_due, none_due, later}
use Rattle.css_drive.proofs.tv_calls.hear_all.Goals as goal

pub returns-in_err-hear : goal.returns-in_err-hear
returns-in_err-hear g c from air s =
    at_err _ _ _ _ c.from_residual.ensures.1 (c.in_err-hear.ensures from air
    (first_due from_texts _ (c.peers.invariant from air s) c.in-Some.peer c.in-Some.ensures (TakeText c.in-Some.peer)
    (λ live rest. refl)))

pub peers-preserved : goal.peers-preserved
peers-preserved g c from air s =
    let x = first_due from_texts _ (c.peers.invariant from air s) c.in-Some.peer c.in-Some.ensures
    (TakeText c.in-Some.peer) (λ live rest. refl) in
    record { place = _; is_at = c.in_ok-hear.ensures from air x; next = refl }

pub peers-smaller : goal.peers-smaller
peers-smaller g c = later _ _ c.in-Some.peer c.in-Some.ensures (omega arith)

pub returns : goal.returns
returns g c from air s = none_due from_texts _ (c.peers.invariant from air s) c.in_default.ensures
