use Rattle.std.proofs.Common.{◌∙◌, sym, ap}
use Rattle.css_companion_c.specs.Codes.{report_code}
use Rattle.css_companion_c.proofs.Copies.{shown_is, holds}
use Rattle.css_companion_c.proofs.snapshot.position.Goals as goal

pub returns-in-Err-clause-code : goal.returns-in-Err-clause-code
returns-in-Err-clause-code c = λ companion copy _ history known.
    c.in-Err.ensures.code copy.in_range (c.early-code.ensures.later c.if-code-ne-DONE.false)
    ∙ ap report_code (shown_is c.args.snapshot.now companion history c.args.reading copy known)

pub returns-in-Ok-clause-code : goal.returns-in-Ok-clause-code
returns-in-Ok-clause-code c = λ companion copy _ history known.
    sym (c.in-Ok.ensures.code copy.in_range (c.early-code.ensures.later c.if-code-ne-DONE.false))
    ∙ ap report_code (shown_is c.args.snapshot.now companion history c.args.reading copy known)

pub returns-in-Ok-clause-truth : goal.returns-in-Ok-clause-truth
returns-in-Ok-clause-truth c = λ _ companion copy.
    holds c.args.snapshot.now companion c.args.reading c.in-Ok.position copy c.in-Ok.ensures.ok
