use Rattle.std.proofs.Common.{refl, inr}
use Rattle.css_app.proofs.Commands.{as_asked, driven_tells, relay_last, relay_writes, unwritten, writes_tells}
use Rattle.css_app.proofs.program.run_command.Goals as goal

-- ---- what is done is what the words ask for
pub returns-then-words-clause-does : goal.returns-then-words-clause-does
returns-then-words-clause-does g c = rw c.in-Companion.is (
  λ plain. absurd (cc),
  λ recorded. record {
    ran = inr (c.run_of-run.result, c.run_of-run.ensures.asked, c.record_companion.ensures.makes);
    complete = λ wrote called. as_asked _ c.run_of-run.ensures.asked (c.record_companion.ensures.complete wrote called);
  },
)

pub returns-else-words-clause-does : goal.returns-else-words-clause-does
returns-else-words-clause-does g c = rw c.in-Companion.is (
  λ plain. record {
    ran = as_asked _ c.run_of-run.ensures.asked c.companion.ensures.ran;
    complete = λ bytes sheet is ok read wrote called.
        as_asked _ c.run_of-run.ensures.asked (c.companion.ensures.complete bytes sheet is ok read wrote called);
  },
  λ recorded. absurd (cc),
)

pub returns-in-Ok-clause-does : goal.returns-in-Ok-clause-does
returns-in-Ok-clause-does g c = rw c.in-Pair.is (record {
  ran = as_asked _ c.in-Ok.ensures.run (rw c.in-Ok.ensures.child at c.pair.ensures.ran);
  complete = λ bytes script is ok read wrote called spawned.
      as_asked _ c.in-Ok.ensures.run (c.pair.ensures.complete bytes script is ok read wrote called spawned);
})

pub returns-in-Relay-clause-does : goal.returns-in-Relay-clause-does
returns-in-Relay-clause-does g c =
    let made = c.drive_relay.ensures in
    let ended = c.drive_relay.result in
    rw (c.in-Relay.is, c.status_of.ensures.value)
    (record {
      ran = inr (c.relay_run_of.result, c.relay_run_of.ensures.asked, (ended, made.ran, refl));
      complete = relay_last ended made.counted.kind made.counted.faults;
    })

pub returns-in-Watch-clause-does : goal.returns-in-Watch-clause-does
returns-in-Watch-clause-does g c = rw c.in-Watch.is (record {
  ran = inr (c.watch_run_of.result, c.watch_run_of.ensures.asked, c.watch_television.ensures.makes);
  complete = c.watch_television.ensures.complete;
})

-- ---- the counts of the devices that a command doesn't use are as before
pub returns-in-Replay-clause-counted : goal.returns-in-Replay-clause-counted
returns-in-Replay-clause-counted g c = record {
  reads = c.replay.ensures.counted_reads;
  writes = c.replay.ensures.counted_writes;
  calls = c.replay.ensures.quiet.calls _;
  dials = c.replay.ensures.quiet.dials _;
  spawns = c.replay.ensures.quiet.spawns _;
}

pub returns-in-Agree-false-clause-counted : goal.returns-in-Agree-false-clause-counted
returns-in-Agree-false-clause-counted g c = c.agree.ensures.counted _ _

pub returns-in-Agree-true-clause-counted : goal.returns-in-Agree-true-clause-counted
returns-in-Agree-true-clause-counted g c = c.agree_pairs.ensures.counted _ _

pub returns-in-Audit-clause-counted : goal.returns-in-Audit-clause-counted
returns-in-Audit-clause-counted g c = c.audit.ensures.counted _ _

pub returns-in-Migrate-clause-counted : goal.returns-in-Migrate-clause-counted
returns-in-Migrate-clause-counted g c = c.migrate.ensures.counted _ _

pub returns-then-words-clause-counted : goal.returns-then-words-clause-counted
returns-then-words-clause-counted g c = c.record_companion.ensures.counted _ _

pub returns-else-words-clause-counted : goal.returns-else-words-clause-counted
returns-else-words-clause-counted g c = c.companion.ensures.counted _

pub returns-in-Tv-clause-counted : goal.returns-in-Tv-clause-counted
returns-in-Tv-clause-counted g c = c.tv.ensures.counted _ _

pub returns-in-Relay-clause-counted : goal.returns-in-Relay-clause-counted
returns-in-Relay-clause-counted g c =
    let made = c.drive_relay.ensures.counted in
    rw c.status_of.ensures.value
    (driven_tells c.drive_relay.result (unwritten c.drive_relay.result _ (relay_writes made.kind)) made.faults
    made.dials)

pub returns-in-Watch-clause-counted : goal.returns-in-Watch-clause-counted
returns-in-Watch-clause-counted g c = c.watch_television.ensures.counted _ _

pub returns-in-Generate-clause-counted : goal.returns-in-Generate-clause-counted
returns-in-Generate-clause-counted g c =
    writes_tells _ _ _ c.generate.result c.generate.ensures.writes c.generate.ensures.counted_writes

pub returns-in-Survey-clause-counted : goal.returns-in-Survey-clause-counted
returns-in-Survey-clause-counted g c =
    writes_tells _ _ _ c.survey.result c.survey.ensures.writes c.survey.ensures.counted_writes
