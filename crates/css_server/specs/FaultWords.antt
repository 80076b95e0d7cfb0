-- The words in which a fault is told.
use Rattle.std.specs.Prelude.{ℕ, ◌++◌, List, codes}
use Rattle.css_model.specs.FaultWords as wc
use Rattle.css_server.specs.declared.fault.ServeFault.{ServeFault}
use Rattle.css_server.specs.declared.fault.ServeFault.TheVariants as fault

-- the words of a fault
abbrev pub fault_words : ServeFault → List ℕ
fault_words (fault.Undecodable wc_fault) = codes "no datagram of the protocol: " ++ wc.fault_words wc_fault
fault_words fault.NotARequest = codes "an answer where a request was awaited"
