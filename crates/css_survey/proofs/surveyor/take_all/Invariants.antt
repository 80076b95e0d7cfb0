use Rattle.std.proofs.Common.{◌≡◌}
use Rattle.css_survey.specs.Surveys.{HasTaken}
use Rattle.css_survey.proofs.surveyor.take_all.Given as goal

-- the lines that were given were taken
abbrev pub invariant-loop-given : goal.invariant-loop-given
invariant-loop-given l = record {
  generator : l.generator ≡ record l.fn.generator { given = l.given };
  taken : HasTaken l.survey l.fn.generator.seed l.fn.generator.companions l.given;
}
