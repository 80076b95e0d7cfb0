-- A run ended before the header was written, or began after it.
use Rattle.std.proofs.Common.{ℕ, List, [], arith, refl, rules, sym, append-nil}
use Rattle.std.proofs.KnownBytes.{Appends-nil}
use Rattle.std.proofs.lemmas.Grind.{common_steps}
use Rattle.std.specs.Prelude.{Option, Result, Ok, Err}
use Rattle.std.specs.Result.{result_err}
use Rattle.css_outside.specs.declared.fault.OutFault.{OutFault}
use Rattle.css_outside.specs.declared.fault.OutFault.TheVariants as fault
use Rattle.css_drive.specs.CompanionStanding.{IsEndOf}
use Rattle.css_drive.specs.Ends.{CountsWriteFault}
use Rattle.css_drive.specs.Proper.{Empty}
use Rattle.css_drive.specs.declared.driven.Driven.{Driven}
use Rattle.css_drive.specs.declared.driven.Driven.TheVariants as driven
use Rattle.css_record.specs.Lines.{record_of}
use Rattle.css_record.specs.Runs.{HoldsRecord, Writes}
use Rattle.css_record.proofs.record.drive_record.Goals as goal

pub returns-in-Err-clause-recorded : goal.returns-in-Err-clause-recorded
returns-in-Err-clause-recorded g c = record {
  history = [];
  told = grind (arith, common_steps);
  proper = Empty;
  ends = tt;
  promised = tt;
  wrote = record { front = []; of = (record_of c.args.config [], refl); grew = Appends-nil _ };
}

-- what a run leaves that ended so, after what was written
ends_by : {T : Type 0} {written : Result T OutFault} {held holds : Option (List ℕ)} {was is : ℕ} {bytes : List ℕ}
    (ended : Driven) → IsEndOf (result_err written) ended → Writes written held holds was is bytes
    → HoldsRecord held holds bytes ended × CountsWriteFault was is ended
ends_by {written = Ok x} driven.WriteFault so w = absurd (so refl)
ends_by {written = Ok x} {bytes = bytes} driven.Memory so w =
    (record { front = bytes; of = ([], sym (append-nil bytes)); grew = w.wrote }, w.counted)
ends_by {written = Ok x} _ so w = (w.wrote, w.counted)
ends_by {written = Err (fault.Failed failure)} ended so w = rw so (w.wrote, w.counted)
ends_by {written = Err fault.Memory} ended so w = rw so (w.wrote, w.counted)

pub returns : goal.returns
returns g c =
    let run = c.drive.ensures in
    let made = run.made in
    let name = sym made.saw_so.name in
    let header = c.put-written.ensures _ c.header_of.ensures in
    let left = ends_by c.drive.result made.so (made.saw_so.writes c.args.config.companion _ _ header) in
    let wrote = left.0 in
    let faults = left.1 in
    record {
      recorded = search rules;
      net_faults = run.net_faults;
      write_faults = search rules;
      dial_faults = run.dial_faults;
    }
