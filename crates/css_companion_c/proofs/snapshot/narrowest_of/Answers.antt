use Rattle.std.proofs.Common.{rules, arith}
use Rattle.std.proofs.lemmas.Grind.{common_steps}
use Rattle.std.proofs.lemmas.List.Elements.{All-more}
use Rattle.css_model.specs.WallClock.{IsAnswer}
use Rattle.css_companion_c.specs.Snapshots.{times_of}
use Rattle.css_companion_c.specs.declared.snapshot.SnapshotAnswer.{SnapshotAnswer}
use Rattle.css_companion_c.proofs.snapshot.narrowest_of.Goals as goal

pub loop-answer-preserved : goal.loop-answer-preserved
loop-answer-preserved c = record {
  best = first_of (search rules, grind (arith, common_steps));
  range =
      All-more (λ (k : SnapshotAnswer). IsAnswer (times_of k)) c.args.kept.now c.loop-answer.answer-index
      _ (omega arith)
      c.loop-answer.invariant.range c.in_ok-answer_of.ensures.range;
}
