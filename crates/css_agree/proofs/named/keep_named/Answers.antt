-- The new answer joins at the end, or the one of its declared error makes room for the better of the two.
use Rattle.std.proofs.Common.{ap, sym, ◌∙◌, [], ◌∷◌, ◌++◌}
use Rattle.std.specs.Prelude.{◌==◌}
use Rattle.std.proofs.Math.ListN.{set}
use Rattle.std.proofs.lemmas.List.Quantifiers.{position-Some}
use Rattle.css_agree.specs.declared.named.Named.{Named}
use Rattle.css_agree.specs.Named as names
use Rattle.css_agree.proofs.Leading.{kept_with-none, kept_with-at}
use Rattle.css_agree.proofs.named.keep_named.Goals as goal

pub returns-in_ok-push-in-None-clause-ok : goal.returns-in_ok-push-in-None-clause-ok
returns-in_ok-push-in-None-clause-ok c =
    let kept = c.args.kept.now.items in
    let none =
    rw (c.deref.ensures.value, ap (λ (n : Named). n.answer.error) c.named.view_is) at c.in-None.ensures.none in
    let joined = kept_with-none c.args.end c.args.local.now c.args.reading c.args.named.now kept none in
    c.in_ok-push-in-None.ensures.items ∙ ap (λ (n : Named). kept ++ n ∷ []) c.named.view_is ∙ sym joined

pub returns-in-Some-clause-ok : goal.returns-in-Some-clause-ok
returns-in-Some-clause-ok c =
    let kept = c.args.kept.now.items in
    let own = c.args.local.now in
    let r = c.args.reading in
    let n = c.args.named.now in
    let place =
    rw (c.deref.ensures.value, ap (λ (n : Named). n.answer.error) c.named.view_is) at c.in-Some.ensures.first in
    let first = position-Some (λ (x : Named). x.answer.error == n.answer.error) kept c.in-Some.place c.index.result.now
    (sym place) in
    let replaced = kept_with-at c.args.end own r n kept c.in-Some.place c.index.result.now first.0 first.2 first.1 in
    let better = c.chosen.ensures ∙ ap (λ (x : Named). names.chosen c.args.end own r x n) c.index.ensures in
    ap (λ (x : Named). set kept c.in-Some.place x) better ∙ sym replaced
