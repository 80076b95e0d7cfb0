-- The exponents so far were too fine.
use Rattle.std.specs.Prelude.{pos, neg_ℤ, ◌≤ℤ◌}
use Rattle.css_relay.proofs.Exponents.{AreTooFine}
use Rattle.css_relay.proofs.exponent.exponent_for.Given as goal

abbrev pub invariant-loop-exponent : goal.invariant-loop-exponent
invariant-loop-exponent l = record {
  low : neg_ℤ (pos 30) ≤ℤ l.exponent;
  high : l.exponent ≤ℤ pos 30;
  below : AreTooFine l.half l.exponent;
}
