-- The line is that of its version, and so are its ranges.
use Rattle.std.proofs.Common.{ℕ, List, subst}
use Rattle.std.specs.Prelude.{◌==◌, if◌then◌else◌}
use Rattle.css_num.specs.Gives.{GivesBy}
use Rattle.css_schedule.specs.Lines.{line_of_words, second_of_words}
use Rattle.css_schedule.specs.Words.{words_left}
use Rattle.css_schedule.specs.declared.fault.LineFault.TheVariants.{Memory}
use Rattle.css_schedule.proofs.InRange.{by_version, line_range, line_is_of}
use Rattle.css_schedule.proofs.reading.read_line.Goals as goal

pub returns-clause-value : goal.returns-clause-value
returns-clause-value c =
    let version = c.args.version in
    let companions = c.args.companions in
    subst (λ (words : List (List ℕ)). GivesBy (λ x. x) Memory c.line.result (if version == 1 then line_of_words words
    else second_of_words companions words)) c.all_words.ensures
    (by_version (version == 1) companions (words_left c.all_words.result) c.line.result c.line.ensures)

pub returns-clause-range : goal.returns-clause-range
returns-clause-range c =
    line_range (c.args.version == 1) c.args.companions (words_left c.all_words.result) c.line.result
    (by_version (c.args.version == 1) c.args.companions (words_left c.all_words.result) c.line.result c.line.ensures)

pub returns-clause-of : goal.returns-clause-of
returns-clause-of c =
    line_is_of (c.args.version == 1) c.args.companions (words_left c.all_words.result) c.line.result
    (by_version (c.args.version == 1) c.args.companions (words_left c.all_words.result) c.line.result c.line.ensures)
