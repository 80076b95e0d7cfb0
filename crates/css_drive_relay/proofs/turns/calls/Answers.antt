use Rattle.std.proofs.Common.{Ok, Err}
use Rattle.css_drive.proofs.CompanionSteps.{at_err}
use Rattle.css_drive_relay.proofs.AsCompanion as companion
use Rattle.css_drive_relay.proofs.turns.calls.Goals as goal

pub returns-in_err-dial_and_ask-clause-goes : goal.returns-in_err-dial_and_ask-clause-goes
returns-in_err-dial_and_ask-clause-goes g c start h s =
    at_err _ _ _ _ c.from_residual.ensures.1 (companion.goes_calls c.args.live.now s _ (Err _)
    (rw c.companion.ensures.value at c.in_err-dial_and_ask.ensures.called))

pub returns-in_err-served-clause-goes : goal.returns-in_err-served-clause-goes
returns-in_err-served-clause-goes g c start h s =
    let asked = rw c.rest.ensures.shown at (companion.goes_calls c.args.live.now s _ (Ok tt)
    (rw c.companion.ensures.value at c.in_ok-dial_and_ask.ensures.called)) in
    at_err _ _ _ _ c.from_residual-in_err-served.ensures.1
    (c.in_err-served.ensures.goes _ start asked.0 asked.1 asked.2 asked.3)

pub returns-then-not-served-clause-goes : goal.returns-then-not-served-clause-goes
returns-then-not-served-clause-goes g c start h s =
    let asked = rw c.rest.ensures.shown at (companion.goes_calls c.args.live.now s _ (Ok tt)
    (rw c.companion.ensures.value at c.in_ok-dial_and_ask.ensures.called)) in
    rw c.if-not-served.true at (c.in_ok-served.ensures.goes _ start asked.0 asked.1 asked.2 asked.3)

pub returns-in_err-welcome-clause-goes : goal.returns-in_err-welcome-clause-goes
returns-in_err-welcome-clause-goes g c start h s =
    let asked = rw c.rest.ensures.shown at (companion.goes_calls c.args.live.now s _ (Ok tt)
    (rw c.companion.ensures.value at c.in_ok-dial_and_ask.ensures.called)) in
    let served = rw c.if-not-served.false at (c.in_ok-served.ensures.goes _ start asked.0 asked.1 asked.2 asked.3) in
    at_err _ _ _ _ c.from_residual-in_err-welcome.ensures.1 (c.in_err-welcome.ensures.goes _ start served.0 served.1)

pub returns-in_err-heard-clause-goes : goal.returns-in_err-heard-clause-goes
returns-in_err-heard-clause-goes g c start h s =
    let asked = rw c.rest.ensures.shown at (companion.goes_calls c.args.live.now s _ (Ok tt)
    (rw c.companion.ensures.value at c.in_ok-dial_and_ask.ensures.called)) in
    let served = rw c.if-not-served.false at (c.in_ok-served.ensures.goes _ start asked.0 asked.1 asked.2 asked.3) in
    let came = c.in_ok-welcome.ensures.goes _ start served.0 served.1 in
    at_err _ _ _ _ c.from_residual-in_err-heard.ensures.1 (c.in_err-heard.ensures.goes _ start came.0 came.1)

pub returns-then-not-heard-clause-goes : goal.returns-then-not-heard-clause-goes
returns-then-not-heard-clause-goes g c start h s =
    let asked = rw c.rest.ensures.shown at (companion.goes_calls c.args.live.now s _ (Ok tt)
    (rw c.companion.ensures.value at c.in_ok-dial_and_ask.ensures.called)) in
    let served = rw c.if-not-served.false at (c.in_ok-served.ensures.goes _ start asked.0 asked.1 asked.2 asked.3) in
    let came = c.in_ok-welcome.ensures.goes _ start served.0 served.1 in
    rw c.if-not-heard.true at (c.in_ok-heard.ensures.goes _ start came.0 came.1)

pub returns-clause-goes : goal.returns-clause-goes
returns-clause-goes g c start h s =
    let asked = rw c.rest.ensures.shown at (companion.goes_calls c.args.live.now s _ (Ok tt)
    (rw c.companion.ensures.value at c.in_ok-dial_and_ask.ensures.called)) in
    let served = rw c.if-not-served.false at (c.in_ok-served.ensures.goes _ start asked.0 asked.1 asked.2 asked.3) in
    let came = c.in_ok-welcome.ensures.goes _ start served.0 served.1 in
    let told = rw c.if-not-heard.false at (c.in_ok-heard.ensures.goes _ start came.0 came.1) in
    c.visit_all.ensures.goes _ start told.0 told.1
