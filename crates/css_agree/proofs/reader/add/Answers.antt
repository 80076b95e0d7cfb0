use Rattle.std.proofs.Common.{◌≡◌, ◌⊎◌, sym, subst, ◌∙◌, ap}
use Rattle.std.specs.Prelude.{Err}
use Rattle.css_model.specs.WallClock.{Answer}
use Rattle.css_agree.specs.Keeping.{Kept, StandsFor}
use Rattle.css_agree.specs.Verdicts.{verdict}
use Rattle.css_agree.specs.declared.fault.AgreeFault.TheVariants.{Memory}
use Rattle.css_agree.proofs.Reading.{answer-added, impossible-left}
use Rattle.css_agree.proofs.reader.add.Goals as goal

pub returns-in-Ok-clause-stands : goal.returns-in-Ok-clause-stands
returns-in-Ok-clause-stands c = λ added stands.
    subst (StandsFor c.add.new.self)
    (sym (answer-added c.args.agree.now.local c.args.answer added
    (sym (ap (λ (a : Answer). verdict c.args.agree.now.local a.t4 c.args.answer) c.answer.view_is) ∙
    c.in-Ok.ensures.verdict)))
    (c.in-Ok.ensures.ok.stands added stands)

pub returns-in-Ok-print_words-clause-stands : goal.returns-in-Ok-print_words-clause-stands
returns-in-Ok-print_words-clause-stands c = λ added stands.
    subst (StandsFor c.add.new.self)
    (sym (impossible-left c.args.agree.now.local c.args.answer added c.in-Err-Impossible.field-0
    c.in-Err-Impossible.field-0-0 c.in-Err-Impossible.field-0-is
    (subst (λ (a : Answer). (verdict c.args.agree.now.local a.t4 c.args.answer ≡ Err c.in-Err-Impossible.field-0)
    ⊎ (c.in-Err-Impossible.field-0 ≡ Memory)) c.answer.view_is c.in-Err-Impossible.ensures.verdict)))
    (subst (λ (k : Kept). StandsFor k added) (sym c.in-Err-Impossible.ensures.err) stands)
