-- The words in which a fault is told.
use Rattle.std.specs.Prelude.{ℕ, List, codes}
use Rattle.css_player.specs.FaultWords as player
use Rattle.css_tv.specs.declared.fault.TvFault.{TvFault}
use Rattle.css_tv.specs.declared.fault.TvFault.TheVariants as fault

-- the words of a fault
abbrev pub fault_words : TvFault → List ℕ
fault_words (fault.Player player_fault) = player.fault_words player_fault
fault_words fault.Memory = codes "out of memory"
