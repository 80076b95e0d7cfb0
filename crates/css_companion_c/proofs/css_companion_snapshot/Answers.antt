use Rattle.std.proofs.Common.{Some, sym, ap, ◌∙◌}
use Rattle.css_companion_c.specs.Snapshots.{IsSnapshotOf}
use Rattle.css_companion_c.proofs.Behind.{of}
use Rattle.css_companion_c.proofs.css_companion_snapshot.Goals as goal

pub returns-in-Some-clause-truth : goal.returns-in-Some-clause-truth
returns-in-Some-clause-truth c = λ done.
    of (IsSnapshotOf c.take_snapshot-code.new.out) _ _
    (c.in-Some.ensures.taken ∙ ap Some (sym c.deref.ensures)) (c.take_snapshot-code.ensures.truth done)
