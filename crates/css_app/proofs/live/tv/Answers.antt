use Rattle.std.proofs.Common.{◌≡◌, refl, inl, inr}
use Rattle.css_app.specs.Ended.{script_in}
use Rattle.css_app.specs.Live.{bad_line}
use Rattle.css_app.proofs.Commands.{as_due, driven_tells, no_write, script_of_text, took_none, tv_dials, unwritten}
use Rattle.css_app.proofs.live.tv.Goals as goal

-- the script was not read
pub returns-in-Err : goal.returns-in-Err
returns-in-Err g c =
    let none = took_none script_in bad_line (λ bad. tt) _ c.in-Err.status c.in-Err.ensures.value
    c.in-Err.ensures.counted in
    record {
      ran = inl (refl, c.in-Err.ensures.value);
      complete = λ bytes script is ok read called. inl (none.lacks bytes script is ok read);
      counted = λ writes. none.tells writes _;
      dials = refl;
      no_usage = none.no_usage;
    }

-- the run
pub returns : goal.returns
returns g c =
    let ended = c.drive_tv.result in
    let made = c.drive_tv.ensures in
    let ran = rw c.deref.ensures.value at made.ran in
    rw c.status_of.ensures.value
    (record {
      ran = inr (record {
        script = c.in-Ok.script.items;
        gives = c.in-Ok.ensures.value;
        ended = ended;
        ran = ran;
        tells = refl;
      });
      complete = λ bytes script is ok read called.
          let taken = script_of_text _ bytes _ c.in-Ok.script.items is c.in-Ok.ensures.value in
          let same : c.in-Ok.script.items ≡ script = cc (taken, ok) in
          rw (← same) (as_due ran.h ended ran.grew ran.proper ran.ends
          (unwritten ended 0 made.counted.no_writes) made.counted.faults no_write called);
      counted = λ writes spawns. rw c.in-Ok.ensures.counted
          (driven_tells ended (unwritten ended writes made.counted.no_writes) made.counted.faults
          (tv_dials _ ran.h ended ran.ends made.counted.dials));
      dials = made.counted.dials;
      no_usage = rw c.status_of.ensures.value at c.status_of.ensures.no_usage;
    })
