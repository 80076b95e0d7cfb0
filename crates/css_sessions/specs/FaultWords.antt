-- The words in which a fault is told.
use Rattle.std.specs.Prelude.{ℕ, ◌++◌, List, codes}
use Rattle.css_tsmsg.specs.FaultWords as text
use Rattle.css_sessions.specs.declared.session.SessionFault.{SessionFault}
use Rattle.css_sessions.specs.declared.session.SessionFault.TheVariants as fault

-- the words of a fault
abbrev pub fault_words : SessionFault → List ℕ
fault_words fault.NoSession = codes "no session"
fault_words fault.SetupTwice = codes "setup twice"
fault_words (fault.BadText why) = codes "bad text: " ++ text.fault_words why
fault_words fault.Full = codes "full"
fault_words fault.Memory = codes "out of memory"
