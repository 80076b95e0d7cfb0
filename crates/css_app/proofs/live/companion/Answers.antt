use Rattle.std.proofs.Common.{refl, inl, inr}
use Rattle.css_follow.specs.Sheets.{sheet_in}
use Rattle.css_status.specs.declared.status.Status.TheVariants.{BadSheet}
use Rattle.css_app.proofs.Commands.{as_due, driven_tells, took_none}
use Rattle.css_app.proofs.live.companion.Goals as goal

-- the sheet was not read
pub returns-in-Err : goal.returns-in-Err
returns-in-Err g c =
    let none = took_none sheet_in BadSheet (λ bad. tt) _ c.in-Err.status c.in-Err.ensures.value
    c.in-Err.ensures.counted in
    record {
      ran = inl ((refl, refl, refl), c.in-Err.ensures.value);
      complete = λ bytes sheet is ok read wrote called. inl (none.lacks bytes sheet is ok read);
      counted = none.tells _ _;
      no_usage = none.no_usage;
    }

-- the run
pub returns : goal.returns
returns g c =
    let run = c.drive_companion.ensures in
    let ended = c.drive_companion.result in
    rw c.status_of.ensures.value
    (record {
      ran = inr (record {
        sheet = c.in-Ok.sheet;
        gives = c.in-Ok.ensures.value;
        makes = record {
          began = _;
          followed = _;
          planned = c.in-Ok-prepare.ensures.as_sheet;
          before = c.prepare.ensures.same_seen;
          heard = refl;
          ended = ended;
          ran = run.ran;
          tells = refl;
        };
      });
      complete = λ bytes sheet is ok read.
          as_due run.ran.history ended run.ran.told run.ran.proper run.ran.ends run.write_faults run.net_faults;
      counted = λ spawns.
          rw c.in-Ok.ensures.counted (driven_tells ended run.write_faults run.net_faults run.dial_faults);
      no_usage = rw c.status_of.ensures.value at c.status_of.ensures.no_usage;
    })
