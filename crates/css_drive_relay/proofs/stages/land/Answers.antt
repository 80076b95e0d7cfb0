use Rattle.std.proofs.Common.{sym, subst, ◌∷◌}
use Rattle.css_drive.proofs.CompanionSteps.{at_err}
use Rattle.css_model.specs.History.{Took}
use Rattle.css_outside.specs.declared.calls.Clocked.{Clocked}
use Rattle.css_relay.specs.Relays.{Relay, StandsFor}
use Rattle.css_drive_relay.proofs.Landing as landing
use Rattle.css_drive_relay.proofs.Steps as steps
use Rattle.css_drive_relay.proofs.stages.land.Goals as goal

pub returns-in_err-landed-clause-goes : goal.returns-in_err-landed-clause-goes
returns-in_err-landed-clause-goes g c plan peer none start h s k =
    at_err _ _ _ _ c.from_residual.ensures.1
    (steps.stops_by_fault s.runs (steps.lawful s.knows) c.in_err-landed.ensures.told)

pub returns-then-landed-clause-goes : goal.returns-then-landed-clause-goes
returns-then-landed-clause-goes g c plan peer none start h s k =
    landing.asleep {live = c.args.live.now} {clocked = c.in_ok-landed.landed} s none c.in_ok-landed.ensures.told
    c.if-landed.true

pub returns-in_err-contradicts-clause-goes : goal.returns-in_err-contradicts-clause-goes
returns-in_err-contradicts-clause-goes g c plan peer none start h s k =
    at_err _ _ _ _ c.from_residual-in_err-contradicts.ensures.1
    (landing.memory {live = c.args.live.now} {clocked = c.in_ok-landed.landed} s none c.in_ok-landed.ensures.told _
    c.in_err-contradicts.ensures.err)

pub returns-in_err-or_memory-clause-goes : goal.returns-in_err-or_memory-clause-goes
returns-in_err-or_memory-clause-goes g c plan peer none start h s k =
    at_err _ _ _ _ c.from_residual-in_err-or_memory.ensures.1
    (landing.memory {live = c.args.live.now} {clocked = c.in_ok-landed.landed} s none c.in_ok-landed.ensures.told _
    c.in_err-or_memory.ensures.err)

pub returns-clause-goes : goal.returns-clause-goes
returns-clause-goes g c plan peer none start h s k =
    let clocked : Clocked = c.in_ok-landed.landed in
    let read = c.in_ok-landed.ensures.told in
    let awake = c.if-landed.false in
    let before = landing.read_before {live = c.args.live.now} {clocked = clocked} s none read awake k in
    let taken = landing.read_taken {live = c.args.live.now} {clocked = clocked} s none read awake k in
    let x = landing.compared {live = c.args.live.now} {clocked = clocked} s none read awake k
    (rw c.in_ok-contradicts.ensures.ok at (c.compare.ensures.compares (Took peer c.args.bytes.now ∷ h)
    taken.companion.stands (landing.before {live = c.args.live.now} {clocked = clocked} s none read awake k))) in
    rw (c.cut_if.ensures.live, c.cut_if.ensures.on) (landing.goes c.read.new.live c.land.new.self
    c.in_ok-contradicts.contradicts x.0
    (landing.knows_landed {live = c.args.live.now} {clocked = clocked} s none read awake k c.compare.new.self
    c.land.new.self c.compare.ensures.rest
    (rw c.in_ok-or_memory.ensures.ok at (c.land.ensures.stands h peer
    (subst (λ (r : Relay). StandsFor r.companion h) (sym c.compare.ensures.rest) before.companion.stands)))
    c.land.ensures.keeps c.land.ensures.own c.land.ensures.wc_url c.land.ensures.agree x.1))
