use Rattle.std.proofs.Common.{refl}
use Rattle.css_app.specs.Ended.{script_in, script_lines, why_of}
use Rattle.css_app.specs.Live.{bad_line}
use Rattle.css_app.proofs.Commands.{gives-script, none_at, script-bad}
use Rattle.css_app.proofs.inputs.take_script.Goals as goal

pub returns-in-Ok-drive-clause-value : goal.returns-in-Ok-drive-clause-value
returns-in-Ok-drive-clause-value g c = gives-script _ _ _ _ c.drive.new.lines c.in-Ok-drive.ensures.done

pub returns-clause-value : goal.returns-clause-value
returns-clause-value g c =
    let run = c.in-Err.ensures in
    rw c.line_status.ensures
    (none_at script_in bad_line (λ bad. tt) script_lines (λ line why. (line, why_of why)) script-bad
    _ _ _ _ (λ bad all. (bad, refl, all)) c.in-Err.stop run.counted_writes run.ran)
