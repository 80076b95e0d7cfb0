-- The words in which a fault is told.
use Rattle.std.specs.Prelude.{ℕ, ◌++◌, List, codes, decimal}
use Rattle.std.specs.Fmt.{signed_decimal}
use Rattle.css_moments.specs.declared.fault.DriftFault.{DriftFault}
use Rattle.css_moments.specs.declared.fault.DriftFault.TheVariants as fault

-- the words of a fault
abbrev pub fault_words : DriftFault → List ℕ
fault_words (fault.Broken earlier excess) =
    codes "broken with line " ++ decimal earlier ++ codes " by " ++ signed_decimal excess
