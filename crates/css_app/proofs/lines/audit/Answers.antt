-- A yes of the audit says that each report is right, and a refusal says what is wrong.
use Rattle.std.proofs.Common.{ℕ, arith}
use Rattle.std.proofs.lemmas.Grind.{common_steps}
use Rattle.css_lines.specs.declared.reader.Refusal.{Refusal}
use Rattle.css_audit.specs.declared.fault.AuditFault.{AuditFault}
use Rattle.css_audit.proofs.Promise.{says_right}
use Rattle.css_status.proofs.OverLines.{IsOfLine, never_done, read_all, stop_ends, stopped}
use Rattle.css_app.specs.Ended.{audit_refused}
use Rattle.css_app.proofs.Commands.{tells_lines}
use Rattle.css_app.proofs.lines.audit.Goals as goal

pub returns-in-Ok-clause-does : goal.returns-in-Ok-clause-does
returns-in-Ok-clause-does g c =
    record { lines = read_all c.in-Ok.ensures.ran; right = λ done. says_right _ _ _ _ _ c.in-Ok.ensures.done }

of_line : (line : ℕ) (why : Refusal AuditFault) → IsOfLine (audit_refused line why)
of_line line why = grind (arith, common_steps)

pub returns : goal.returns
returns g c =
    let run = c.in-Err.ensures in
    let stop = c.in-Err.stop in
    rw c.audit_status.ensures
    (record {
      does = record {
        lines = stopped audit_refused of_line stop run.ran run.counted_reads run.counted_writes;
        right = λ done. elim (never_done audit_refused of_line stop done) [ ];
      };
      counted = tells_lines (stop_ends audit_refused of_line stop run.counted_reads run.counted_writes);
    })
