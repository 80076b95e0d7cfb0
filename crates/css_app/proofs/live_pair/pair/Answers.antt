use Rattle.std.proofs.Common.{◌∙◌, arith, inl, inr, refl}
use Rattle.std.proofs.lemmas.Grind.{common_steps}
use Rattle.css_app.specs.Ended.{script_in}
use Rattle.css_app.specs.Live.{bad_line, driven_status}
use Rattle.css_app.proofs.Commands.{as_due, both_tell, driven_tells, pairs_as_due, took_none}
use Rattle.css_app.proofs.live_pair.pair.Goals as goal

-- the script was not read
pub returns-in-Err : goal.returns-in-Err
returns-in-Err g c =
    let none = took_none script_in bad_line (λ bad. tt) _ c.in-Err.status c.in-Err.ensures.value
    c.in-Err.ensures.counted in
    record {
      ran = inl (((refl, refl, refl), refl, refl), c.in-Err.ensures.value);
      complete = λ bytes script is ok read wrote called spawned. inl (none.lacks bytes script is ok read);
      counted = none.tells _ _ _;
      no_usage = none.no_usage;
    }

-- the child was started
pub returns : goal.returns
returns g c =
    let run = c.drive_companion.ensures in
    let ended = c.drive_companion.result in
    let finish = c.finish-finished.ensures in
    let words = c.deref.ensures.value ∙ c.in-Ok-child_words.ensures in
    let spawned = rw c.in-Ok-start.ensures.counted at finish.counted in
    rw (c.with_child.ensures.value, c.status_of-companion.ensures.value)
    (record {
      ran = inr (record {
        text = c.in-Ok.script.items;
        gives = c.in-Ok.ensures.value;
        beside = inr (record {
          companion = driven_status ended;
          makes = record {
            began = g.F.Listens.heard c.prepare.new.self;
            followed = _;
            planned = rw (← c.empty.ensures.cues, ← c.empty.ensures.meter) c.in-Ok-prepare.ensures.as_sheet;
            before = c.prepare.ensures.same_seen;
            heard = refl;
            ended = ended;
            ran = run.ran;
            tells = refl;
          };
          finished = c.finish-finished.result;
          told = rw (c.in-Ok-start.ensures.told, words, c.deref-2.ensures.value) at finish.told;
          running = grind (arith, common_steps, c.in-Ok-start.ensures.ok, finish.ok, finish.err);
          tells = refl;
        });
      });
      complete = λ bytes script is ok read wrote called.
          pairs_as_due c.args.config _ _ (driven_status ended) c.finish-finished.result _ _
          (as_due run.ran.history ended run.ran.told run.ran.proper run.ran.ends run.write_faults run.net_faults
          wrote called) spawned;
      counted = rw c.in-Ok.ensures.counted
          (both_tell ended c.finish-finished.result
          (driven_tells {s = g.P.Spawner.faults c.args.spawner.now} ended run.write_faults run.net_faults
          run.dial_faults) spawned);
      no_usage = rw (c.with_child.ensures.value, c.status_of-companion.ensures.value) at
          (c.with_child.ensures.no_usage c.status_of-companion.ensures.no_usage);
    })
