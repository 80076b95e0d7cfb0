-- How a reader stands for the lines that it has taken, and what it is told where a line was not read.
use Rattle.std.specs.Prelude.{◌≡◌, ℕ, true, false, List, [], ◌∷◌}
use Rattle.css_lines.specs.declared.reader.LineFault as engine
use Rattle.css_lines.specs.declared.reader.LineFault.TheVariants as lacks
use Rattle.css_schedule.specs.declared.fault.LineFault.{LineFault}
use Rattle.css_schedule.specs.declared.fault.LineFault.TheVariants as faults
use Rattle.css_migrate.specs.declared.migrate.Migrate.{Migrate}
use Rattle.css_migrate.specs.declared.migrate.NoLine.{NoLine}

-- it knows whether it has taken the header
abbrev pub Stands : Migrate → List (List ℕ) → Type 0
Stands migrate [] = migrate.opened ≡ false
Stands migrate (first ∷ texts) = migrate.opened ≡ true

-- a line outside the grammar is refused
abbrev pub unread_fault : LineFault → engine.LineFault NoLine
unread_fault faults.Form = lacks.Refused (record {})
unread_fault faults.Memory = lacks.Memory
