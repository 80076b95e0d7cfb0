use Rattle.std.proofs.Common.{sym, ◌∙◌, ap, ◌++◌, List, ℕ}
use Rattle.css_agree.specs.Naming.{answers_of}
use Rattle.css_agree.proofs.Pairs.{between-said, on_ok}
use Rattle.css_agree.proofs.naming.print_names.Goals as goal

pub returns : goal.returns
returns c = on_ok _ _ c.print_numbers.result
    (λ e named stands keeps.
    let own = c.args.agree.now.local in
    let r = c.args.reading in
    let names = c.args.names.now in
    let low = rw (c.local.ensures.value, c.deref.ensures.value) at c.number_of_best-low.ensures in
    let high = rw (c.local-2.ensures.value, c.deref-2.ensures.value) at c.number_of_best-high.ensures in
    e ∙ ap (λ (t : List ℕ). c.args.out.now.items ++ t)
    (between-said own c.args.number r named names c.number_of_best-low.result c.number_of_best-high.result
    (sym (c.contradicts.ensures.value (answers_of named) stands) ∙ c.if-not-contradicts.false) keeps low high))
    c.print_numbers.ensures
