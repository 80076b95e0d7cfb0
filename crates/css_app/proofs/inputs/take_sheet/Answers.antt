use Rattle.std.proofs.Common.{ap, refl}
use Rattle.css_follow.specs.Sheets.{sheet_in, sheet_lines, sheet_of, unless_refused}
use Rattle.css_follow.specs.declared.line.Form.{Form}
use Rattle.css_follow.proofs.SheetsRead.{read-ok}
use Rattle.css_lines.specs.Lines.{lines_of}
use Rattle.css_lines.specs.Meaning.{Outcome}
use Rattle.css_status.specs.declared.status.Status.TheVariants.{BadSheet}
use Rattle.css_app.proofs.Commands.{none_at}
use Rattle.css_app.proofs.inputs.take_sheet.Goals as goal

pub returns-in-Ok-drive-clause-value : goal.returns-in-Ok-drive-clause-value
returns-in-Ok-drive-clause-value g c =
    let f = c.in-Ok-drive.ensures.done in
    rw c.sheet.ensures
    (record {
      read = f.read;
      all = record { took = f.took; at_end = f.at_end };
      is = read-ok f.read c.drive.new.lines.sheet (ap (λ (o : Outcome Form). o.verdict) f.all) f.stood;
    })

pub returns-clause-value : goal.returns-clause-value
unfolding sheet_in
returns-clause-value g c =
    let run = c.in-Err.ensures in
    rw c.sheet_status.ensures
    (none_at sheet_in BadSheet (λ bad. tt) sheet_lines (λ line why. line)
    (λ bytes line why e. ap (λ v. unless_refused v (sheet_of (lines_of bytes))) e) _ _ _ _
    (λ bad all. (bad, refl, all)) c.in-Err.stop run.counted_writes run.ran)
