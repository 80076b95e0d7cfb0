-- the bytes so far
use Rattle.std.proofs.Common.{◌≡◌, All, length}
use Rattle.css_hints.specs.HintLine.{IsPrintable}
use Rattle.css_hints.proofs.line.cut.Given as goal

abbrev pub invariant-loop-byte : goal.invariant-loop-byte
invariant-loop-byte l = All IsPrintable l.words × (length l.words ≡ l.byte-index)
