use Rattle.std.proofs.Common.{◌∷◌, arith, refl, []}
use Rattle.css_model.specs.History.{HungUp}
use Rattle.css_drive.specs.Proper.{HangUp}
use Rattle.css_drive.specs.TvStanding.{hanging_up}
use Rattle.css_drive.proofs.TvSteps.{added, failed, moved, turns_over, first_due, none_due, later, all_hung}
use Rattle.css_drive.proofs.tv_calls.hang_up_all.Goals as goal

pub peers-init : goal.peers-init
peers-init g c = λ from air enough s. turns_over s enough

pub peers-preserved : goal.peers-preserved
peers-preserved g c = λ from air enough s.
    let x = first_due hanging_up _ (c.peers.invariant from air enough s) c.in-Some.peer c.in-Some.ensures
    (HangUp c.in-Some.peer) (λ live rest. refl) in
    record {
      place = _;
      is_at = moved x.is_at x.next (HungUp c.in-Some.peer ∷ []) tt refl (added c.in_default-hang_up.ensures.told);
      next = refl;
    }

pub peers-smaller : goal.peers-smaller
peers-smaller g c = later _ _ c.in-Some.peer c.in-Some.ensures (omega arith)

pub returns-in-Err : goal.returns-in-Err
returns-in-Err g c from air enough s =
    failed (c.peers.invariant from air enough s).is_at.history c.in-Err.ensures.told

pub returns : goal.returns
returns g c from air enough s =
    all_hung (none_due hanging_up _ (c.peers.invariant from air enough s) c.in_default.ensures) enough
