-- The fault of an audit for a fault of its parts.
use Rattle.css_schedule.specs.declared.fault.LineFault.{LineFault}
use Rattle.css_schedule.specs.declared.fault.LineFault.TheVariants as unread
use Rattle.css_companion.specs.declared.fault.CompanionFault.{CompanionFault}
use Rattle.css_companion.specs.declared.fault.CompanionFault.TheVariants as told
use Rattle.css_audit.specs.declared.fault.AuditFault.{AuditFault}
use Rattle.css_audit.specs.declared.fault.AuditFault.TheVariants as fault

-- of a line that was not read
abbrev pub read_fault : LineFault → AuditFault
read_fault unread.Form = fault.Form
read_fault unread.Memory = fault.Memory

-- of a text that the companion refuses
abbrev pub told_fault : CompanionFault → AuditFault
told_fault (told.BadCii number reason) = fault.BadCii number reason
told_fault (told.Moved property old new) = fault.Moved property old new
told_fault told.Memory = fault.Memory
