-- The words in which a fault is told.
use Rattle.std.specs.Prelude.{ℕ, ◌++◌, List, codes}
use Rattle.std.specs.Fmt.{signed_decimal}
use Rattle.css_agree.specs.declared.fault.AgreeFault.{AgreeFault}
use Rattle.css_agree.specs.declared.fault.AgreeFault.TheVariants as fault

-- the words of a fault
abbrev pub fault_words : AgreeFault → List ℕ
fault_words (fault.Impossible width) = codes "impossible: the scaled width is " ++ signed_decimal width
fault_words fault.Memory = codes "out of memory"
