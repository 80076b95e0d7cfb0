-- The words in which a fault is told.
use Rattle.std.specs.Prelude.{ℕ, ◌++◌, List, codes}
use Rattle.css_tsmsg.specs.Names.{json_name}
use Rattle.css_tsmsg.specs.declared.fault.TsFault.{TsFault}
use Rattle.css_tsmsg.specs.declared.fault.TsFault.TheVariants as fault

-- the words of a fault
abbrev pub fault_words : TsFault → List ℕ
fault_words fault.NotJson = codes "not json"
fault_words fault.NotObject = codes "not object"
fault_words fault.Fractional = codes "fractional"
fault_words (fault.Field name) = codes "field " ++ json_name name
fault_words (fault.Range name) = codes "range " ++ json_name name
fault_words fault.Memory = codes "out of memory"
