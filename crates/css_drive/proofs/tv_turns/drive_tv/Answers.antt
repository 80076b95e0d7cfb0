use Rattle.std.proofs.Common.{ap, refl}
use Rattle.css_outside.specs.Outsides.{Counts}
use Rattle.css_drive.specs.TvDue.{run_of}
use Rattle.css_drive.specs.declared.driven.Driven.TheVariants as driven
use Rattle.css_drive.proofs.TvSteps.{failed, stops, at_first, listens, begins}
use Rattle.css_drive.proofs.tv_turns.drive_tv.Goals as goal

pub returns-in-Err : goal.returns-in-Err
returns-in-Err g c =
    let x = failed (at_first (run_of c.args.run c.args.script.now) _) (c.end_of.ensures.failed _ _ _ refl
    c.in-Err.ensures.told c.in-Err.ensures.counted.faults
    (ap (λ (x : Counts). x.dial_faults) c.in-Err.ensures.counted.same)) in
    record { ran = x.ran; counted = x.counted }

pub returns-in-Err-new : goal.returns-in-Err-new
returns-in-Err-new g c =
    let t = listens (run_of c.args.run c.args.script.now) c.in-Ok.ensures.told c.in-Ok.ensures.counted in
    let x = stops t refl refl driven.Memory tt tt refl (λ e. cc) in
    record { ran = x.ran; counted = x.counted }

pub make_turns-ended-requires-clause-ready : goal.make_turns-ended-requires-clause-ready
make_turns-ended-requires-clause-ready g c = record {
  from = _;
  script_so = refl;
  ends = begins (run_of c.args.run c.args.script.now) c.in-Ok.ensures.told c.in-Ok.ensures.counted _
      c.in-Ok-new.ensures.addresses c.in-Ok-new.ensures.stands c.in-Ok-new.ensures.server
      c.new-turns.ensures refl;
}

pub returns : goal.returns
returns g c =
    let x = c.make_turns-ended.ensures _ refl (begins (run_of c.args.run c.args.script.now)
    c.in-Ok.ensures.told c.in-Ok.ensures.counted _ c.in-Ok-new.ensures.addresses c.in-Ok-new.ensures.stands
    c.in-Ok-new.ensures.server c.new-turns.ensures refl) in
    record { ran = x.ran; counted = x.counted }
