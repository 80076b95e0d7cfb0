use Rattle.css_text.proofs.WholeSteps.{Passed}
use Rattle.css_text.proofs.whole_text.rewrite_numerals.Given as goal

abbrev pub invariant-loop-i : goal.invariant-loop-i
invariant-loop-i l = Passed l.bytes l.text l.odd l.place l.copied l.start l.i
