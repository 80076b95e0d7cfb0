use Rattle.std.proofs.Common.{refl, ◌∙◌, ap, ◌∷◌}
use Rattle.css_model.specs.History.{Took}
use Rattle.css_drive.specs.Notes.{standpoint}
use Rattle.css_drive.proofs.CompanionSteps.{comes, stops_here, failed}
use Rattle.css_drive.proofs.CompanionSteps as calls
use Rattle.css_drive.proofs.companion_live.Run.land.Goals as goal

pub returns-then-clocked-clause-called : goal.returns-then-clocked-clause-called
returns-then-clocked-clause-called g c = record {
  clocked = c.in_ok-clocked.clocked;
  awake = c.read.new.self.companion.now;
  read = c.in_ok-clocked.ensures.told;
  known = λ own p h k.
      let taken = c.in_ok-clocked.ensures.told.known own _ (calls.knows_plain (Took p c.args.bytes.now) k refl refl
      refl refl refl refl refl) in
      rw c.if-clocked.true (calls.knows_plain _ (rw c.if-clocked.true at taken) refl refl refl refl refl refl refl);
}

pub returns-in-Ok-clause-called : goal.returns-in-Ok-clause-called
returns-in-Ok-clause-called g c = record {
  clocked = c.in_ok-clocked.clocked;
  awake = c.read.new.self.companion.now;
  read = c.in_ok-clocked.ensures.told;
  known = λ own p h k. rw c.if-clocked.false (
      let k2 = rw c.if-clocked.false at (c.in_ok-clocked.ensures.told.known own h k) in record {
        stands = c.in-Ok.ensures.stands _ h p k2.stands;
        setup = ap (λ x. x.setup) c.in-Ok.ensures.keeps ∙ k2.setup;
        local = c.in-Ok.ensures.own ∙ k2.local;
      });
}

pub returns-then-clocked-clause-goes : goal.returns-then-clocked-clause-goes
unfolding returns-then-clocked-clause-called
returns-then-clocked-clause-goes g c config before started h p s k =
    let taken = calls.knows_plain (Took p c.args.bytes.now) k refl refl refl refl refl refl refl in
    let read = c.in_ok-clocked.ensures.told in
    comes (calls.stands_landed s _ read (c.landed.ensures (standpoint _ (_ ∷ h)) (read.known config.companion _ taken)
    started _ c.in_ok-clocked.ensures.on (c.in_ok-clocked.ensures.saw started _ s.saw_so)))
    ((returns-then-clocked-clause-called g c).known config.companion p h k) _ refl

pub returns-in-Ok-clause-goes : goal.returns-in-Ok-clause-goes
unfolding returns-in-Ok-clause-called
returns-in-Ok-clause-goes g c config before started h p s k =
    let taken = calls.knows_plain (Took p c.args.bytes.now) k refl refl refl refl refl refl refl in
    let read = c.in_ok-clocked.ensures.told in
    comes (calls.stands_landed s _ read (c.landed.ensures (standpoint _ (_ ∷ h)) (read.known config.companion _ taken)
    started _ c.in_ok-clocked.ensures.on (c.in_ok-clocked.ensures.saw started _ s.saw_so)))
    ((returns-in-Ok-clause-called g c).known config.companion p h k) _ refl

pub returns-in-Err-clause-goes : goal.returns-in-Err-clause-goes
returns-in-Err-clause-goes g c config before started h p s k =
    let read = c.in_ok-clocked.ensures.told in
    let taken = read.known _ _ (calls.knows_plain (Took p c.args.bytes.now) k refl refl refl refl refl refl refl) in
    stops_here (calls.stands_landed s _ read (c.landed.ensures (standpoint _ (_ ∷ h)) taken started _
    c.in_ok-clocked.ensures.on (c.in_ok-clocked.ensures.saw started _ s.saw_so)))
    (calls.lawful_plain _ _ taken.stands.client.lawful refl refl) _ _ tt tt

pub returns-in_err-clocked-clause-goes : goal.returns-in_err-clocked-clause-goes
returns-in_err-clocked-clause-goes g c config before started h p s k =
    failed s _ _ (calls.knows_plain (Took p c.args.bytes.now) k refl refl refl refl refl refl refl)
    c.from_residual.ensures.1 c.in_err-clocked.ensures.told _ (c.in_err-clocked.ensures.saw started _ s.saw_so)
