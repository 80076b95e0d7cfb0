-- The words in which a fault is told.
use Rattle.std.specs.Prelude.{ℕ, ◌++◌, List, codes, decimal}
use Rattle.std.specs.Fmt.{signed_decimal}
use Rattle.css_cii.specs.FaultWords as texts
use Rattle.css_cii.specs.Names.{json_name}
use Rattle.css_audit.specs.declared.fault.AuditFault.{AuditFault}
use Rattle.css_audit.specs.declared.fault.AuditFault.TheVariants as fault

-- the words of a fault
abbrev pub fault_words : AuditFault → List ℕ
fault_words fault.Form = codes "form"
fault_words (fault.Broken earlier excess) =
    codes "broken with line " ++ decimal earlier ++ codes " by " ++ signed_decimal excess
fault_words fault.Absent = codes "absent"
fault_words (fault.BadCii number reason) = codes "cii text " ++ decimal number ++ codes ": " ++ texts.fault_words reason
fault_words (fault.Moved property old new) = codes "moved " ++ json_name property
fault_words (fault.WrongReport right) = codes "wrong report"
fault_words fault.Memory = codes "out of memory"
