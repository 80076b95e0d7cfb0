use Rattle.std.proofs.Common.{refl, sym, Ok, Err, ◌++◌}
use Rattle.css_model.specs.History.{Sent}
use Rattle.css_model.specs.declared.Why.TheVariants as why
use Rattle.css_outside.specs.Outsides.{clock_entries, sleep_entries}
use Rattle.css_outside.specs.declared.calls.Clocked.{Clocked}
use Rattle.css_companion.specs.Standing.{own_of}
use Rattle.css_relay.proofs.ReadBack.{answer_is_no_request}
use Rattle.css_drive.proofs.CompanionSteps.{at_err}
use Rattle.css_drive_relay.proofs.Steps as steps
use Rattle.css_drive_relay.proofs.stages.respond.Goals as goal

pub returns-in-Err-clause-goes : goal.returns-in-Err-clause-goes
returns-in-Err-clause-goes g c plan some start h s =
    steps.here (steps.receives {clocked = c.in_ok-taken.taken} s some c.in_ok-taken.ensures.told
    (Err c.in-Err.field-0) c.in-Err.ensures.value)

pub returns-in_err-given-in-Ok-clause-goes : goal.returns-in_err-given-in-Ok-clause-goes
returns-in_err-given-in-Ok-clause-goes g c plan some start h s =
    let s1 = steps.receives {clocked = c.in_ok-taken.taken} s some c.in_ok-taken.ensures.told (Ok c.in-Ok.ticket)
    c.in-Ok.ensures.value in
    at_err _ _ _ _ c.from_residual-in_err-given-in-Ok.ensures.1
    (steps.stops_by_fault s1.runs (steps.lawful s1.knows) c.in_err-given-in-Ok.ensures.told)

pub returns-in-Err-answer-clause-goes : goal.returns-in-Err-answer-clause-goes
returns-in-Err-answer-clause-goes g c plan some start h s =
    let s1 = steps.receives {clocked = c.in_ok-taken.taken} s some c.in_ok-taken.ensures.told (Ok c.in-Ok.ticket)
    c.in-Ok.ensures.value in
    steps.here (steps.answers {clocked = c.in_ok-given-in-Ok.given} s1 c.in_ok-given-in-Ok.ensures.told
    (Err c.in-Err-answer.field-0) c.in-Err-answer.ensures.value)

pub returns-in-Ok-answer-clause-goes : goal.returns-in-Ok-answer-clause-goes
returns-in-Ok-answer-clause-goes g c plan some start h s =
    let s1 = steps.receives {clocked = c.in_ok-taken.taken} s some c.in_ok-taken.ensures.told (Ok c.in-Ok.ticket)
    c.in-Ok.ensures.value in
    let read = c.in_ok-given-in-Ok.ensures.told in
    let clocked : Clocked = c.in_ok-given-in-Ok.given in
    let older = clock_entries why.Take c.in_ok-taken.taken ++ h in
    let before = sleep_entries clocked.slept ++ older in
    steps.made (steps.answers {clocked = clocked} s1 read (Ok c.in-Ok-answer.answer) c.in-Ok-answer.ensures.value)
    (Sent c.args.peer c.in-Ok-answer.answer) refl
    (answer_is_no_request (own_of c.read-in-Ok.new.live.relay.companion) before clocked.reading c.in-Ok.ticket
    c.in-Ok-answer.answer (sym (c.in-Ok-answer.ensures.value before
    (steps.knows_read read s1.knows).companion.stands))) _ _ c.send_datagram.result
    c.send_datagram.ensures.told
