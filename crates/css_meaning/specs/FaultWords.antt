-- The words in which a fault is told.
use Rattle.std.specs.Prelude.{ℕ, ◌++◌, List, codes, decimal}
use Rattle.std.specs.Fmt.{signed_decimal}
use Rattle.css_player.specs.FaultWords.{fault_words as player_words}
use Rattle.css_meaning.specs.declared.fault.WorldFault.{WorldFault}
use Rattle.css_meaning.specs.declared.fault.WorldFault.TheVariants as fault

-- the words of a fault
abbrev pub fault_words : WorldFault → List ℕ
fault_words (fault.Broken earlier excess) =
    codes "broken with line " ++ decimal earlier ++ codes " by " ++ signed_decimal excess
fault_words fault.Absent = codes "absent"
fault_words (fault.Player reason) = player_words reason
fault_words fault.Memory = codes "out of memory"
