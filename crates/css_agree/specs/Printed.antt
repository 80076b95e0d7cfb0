-- The lines that are printed for answers.
use Rattle.std.specs.Prelude.{ℕ, ℤ, ◌++◌, int_lt, if◌then◌else◌, List, [], ◌∷◌, codes, decimal, Result, Ok, Err}
use Rattle.std.specs.Int.{int_max, int_min}
use Rattle.std.specs.Fmt.{signed_decimal}
use Rattle.css_model.specs.WallClock.{Local, lo, hi}
use Rattle.css_span.specs.Frontiers.{Answers}
use Rattle.css_model.specs.WallClock as wall_clock
use Rattle.css_agree.specs.declared.agreed.Agreed.{Agreed}
use Rattle.css_agree.specs.declared.agreed.Agreed.TheVariants.{Nothing, Within, Disagree}
use Rattle.css_agree.specs.declared.fault.AgreeFault.{AgreeFault}

-- `N impossible`
abbrev pub impossible_line : ℕ → List ℕ
impossible_line number = decimal number ++ codes " impossible\n"

-- `N none NoAnswer`
abbrev pub no_answer_line : ℕ → List ℕ
no_answer_line number = decimal number ++ codes " none NoAnswer\n"

-- a word and two ends, after the line's number
abbrev pub ends_line : ℕ → List ℕ → ℤ → ℤ → List ℕ
ends_line number word low high =
    decimal number ++ word ++ signed_decimal low ++ codes " " ++ signed_decimal high ++ codes "\n"

-- `N agree LO HI`
abbrev pub agree_line : ℕ → ℤ → ℤ → List ℕ
agree_line number low high = ends_line number (codes " agree ") low high

-- `N disagree LO HI`
abbrev pub disagree_line : ℕ → ℤ → ℤ → List ℕ
disagree_line number low high = ends_line number (codes " disagree ") low high

-- what is printed for a line with an answer: something only where it isn't added
abbrev pub added_text : ℕ → Result (Unit {0}) AgreeFault → List ℕ
added_text number (Ok done) = []
added_text number (Err fault) = impossible_line number

-- what is printed where the answers say this at the reading
abbrev pub agreed_text : Local → ℕ → ℕ → Agreed → List ℕ
agreed_text own number reading Nothing = no_answer_line number
agreed_text own number reading (Within span) = agree_line number span.lo span.hi
agreed_text own number reading (Disagree low high) = disagree_line number (lo own low reading) (hi own high reading)

-- the greatest lower end at the reading of an answer's span and those of others
abbrev pub greatest_low : Local → ℕ → wall_clock.Answer → Answers → ℤ
greatest_low own reading first [] = lo own first reading
greatest_low own reading first (next ∷ others) = int_max (lo own first reading) (greatest_low own reading next others)

-- the least upper end
abbrev pub least_high : Local → ℕ → wall_clock.Answer → Answers → ℤ
least_high own reading first [] = hi own first reading
least_high own reading first (next ∷ others) = int_min (hi own first reading) (least_high own reading next others)

-- two ends that are in order, or that aren't
abbrev pub between : ℕ → ℤ → ℤ → List ℕ
between number low high = if int_lt high low then disagree_line number low high else agree_line number low high

-- what is printed of the answers added, by the ends of their spans at the reading
abbrev pub at_text : Local → ℕ → ℕ → Answers → List ℕ
at_text own number reading [] = no_answer_line number
at_text own number reading (first ∷ others) =
    between number (greatest_low own reading first others) (least_high own reading first others)
