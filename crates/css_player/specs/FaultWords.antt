-- The words in which a fault is told.
use Rattle.std.specs.Prelude.{ℕ, List, codes}
use Rattle.css_player.specs.declared.command.PlayerFault.{PlayerFault}
use Rattle.css_player.specs.declared.command.PlayerFault.TheVariants as fault

-- the words of a fault
abbrev pub fault_words : PlayerFault → List ℕ
fault_words fault.NoProgramme = codes "no programme"
fault_words fault.Speed = codes "speed"
fault_words fault.Range = codes "range"
fault_words fault.Full = codes "full"
fault_words fault.Memory = codes "out of memory"
