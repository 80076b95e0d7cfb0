use Rattle.std.proofs.Common.{arith, refl, sym}
use Rattle.css_drive.proofs.CompanionSteps.{at_err}
use Rattle.css_drive.proofs.TvSteps.{carries, line_waits, no_line, turn_begins}
use Rattle.css_drive.proofs.tv_lines.begin.Goals as goal

pub lines-init : goal.lines-init
lines-init g c = record {
  goes = λ from script s.
      turn_begins s c.requires.more c.in_ok-reading.reading c.in_ok-reading.ensures.told c.begin.new.self
      c.begin.ensures;
  turns = c.begin.ensures;
  since = sym c.since-from.ensures.value;
}

pub returns-then-reading-from-clause-goes : goal.returns-then-reading-from-clause-goes
returns-then-reading-from-clause-goes g c from script s =
    line_waits _ (c.lines.invariant.goes from script s) c.args.script.now script c.index-script-air.result
    c.lines-test.true c.index-script-air.is c.since-from.result c.lines.invariant.since c.if-reading-from.true

pub returns-in_err-carry_out-clause-goes : goal.returns-in_err-carry_out-clause-goes
returns-in_err-carry_out-clause-goes g c from script s =
    at_err _ _ _ _ c.from_residual-in_err-carry_out.ensures.1 (c.in_err-carry_out.ensures from c.lines.air refl
    (carries _ (c.lines.invariant.goes from script s) c.args.script.now script c.index-script-air.result
    c.lines-test.true c.index-script-air.is c.since-from.result c.lines.invariant.since
    (omega (arith, c.if-reading-from.false))))

pub lines-preserved : goal.lines-preserved
lines-preserved g c = record {
  goes = λ from script s.
      c.in_ok-carry_out.ensures from c.lines.air refl
      (carries _ (c.lines.invariant.goes from script s) c.args.script.now script c.index-script-air.result
      c.lines-test.true c.index-script-air.is c.since-from.result c.lines.invariant.since
      (omega (arith, c.if-reading-from.false)));
  turns = c.lines.invariant.turns;
  since = c.lines.invariant.since;
}

pub returns-clause-goes : goal.returns-clause-goes
returns-clause-goes g c from script s =
    no_line _ (c.lines.invariant.goes from script s) c.args.script.now script (omega (arith, c.lines-test.false))
