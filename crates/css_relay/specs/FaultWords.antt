-- The words in which a fault is told.
use Rattle.std.specs.Prelude.{ℕ, ◌++◌, List, codes, decimal}
use Rattle.std.specs.Fmt.{signed_decimal}
use Rattle.css_model.specs.FaultWords as wc
use Rattle.css_relay.specs.declared.fault.RelayFault.{RelayFault}
use Rattle.css_relay.specs.declared.fault.RelayFault.TheVariants as fault

-- the words of a fault
abbrev pub fault_words : RelayFault → List ℕ
fault_words (fault.Undecodable wc_fault) = codes "no datagram of the protocol: " ++ wc.fault_words wc_fault
fault_words fault.NotARequest = codes "an answer where a request was awaited"
fault_words fault.NoAnswer = codes "the wall clock isn't known"
fault_words (fault.Beyond span) =
    codes "no reading of a wall clock: " ++ signed_decimal span.lo ++ codes " to " ++ signed_decimal span.hi
fault_words (fault.Wide half) = codes "too wide: " ++ decimal half ++ codes " either way"
