-- The lines that are still to come make the text whole.
use Rattle.std.proofs.Common.{◌≡◌, ◌+◌, drop}
use Rattle.css_printed.specs.Printed.{with_companions}
use Rattle.css_printed.proofs.printing.add_companion_lines.Given as goal

abbrev pub invariant-loop-companion : goal.invariant-loop-companion
invariant-loop-companion l = record {
  number : l.number ≡ l.companion-index + 1;
  text : with_companions l.text l.number (drop l.companion-index l.companions)
      ≡ with_companions l.initial.text 1 l.companions;
}
