-- The words in which a fault is told.
use Rattle.std.specs.Prelude.{ℕ, List, codes}
use Rattle.css_player.specs.FaultWords.{fault_words as player_words}
use Rattle.css_schedule.specs.declared.fault.LineFault.{LineFault}
use Rattle.css_schedule.specs.declared.fault.LineFault.TheVariants as fault
use Rattle.css_schedule.specs.declared.fault.LineWhy.{LineWhy}
use Rattle.css_schedule.specs.declared.fault.LineWhy.TheVariants as why

-- the words of a fault
abbrev pub fault_words : LineFault → List ℕ
fault_words fault.Form = codes "no line of a schedule"
fault_words fault.Memory = codes "out of memory"

-- why a line ends the run, in a word or two
abbrev pub why_words : LineWhy → List ℕ
why_words why.Long = codes "long"
why_words why.Form = codes "form"
why_words why.Absent = codes "absent"
why_words (why.Player refused) = player_words refused
