-- The new answer joins at the end, or the best of its declared error makes room for the better of the two.
use Rattle.std.proofs.Common.{ℕ, ◌<◌, ap, sym, subst, ◌∙◌}
use Rattle.std.specs.Prelude.{◌==◌}
use Rattle.std.proofs.Math.ListN.{set, length-set}
use Rattle.std.proofs.lemmas.List.Quantifiers.{position-Some}
use Rattle.css_model.specs.WallClock.{Answer}
use Rattle.css_agree.specs.declared.best.Best.{Best}
use Rattle.css_agree.specs.Bests as bests
use Rattle.css_agree.proofs.Places.{kept_with-none, kept_with-at, undone-at}
use Rattle.css_agree.proofs.best.keep.Goals as goal

pub returns-in_ok-push-in-None-clause-ok : goal.returns-in_ok-push-in-None-clause-ok
returns-in_ok-push-in-None-clause-ok c =
    let kept = c.args.kept.now.items in
    let none = rw (c.deref.ensures.value, ap (λ (a : Answer). a.error) c.answer.view_is) at c.in-None.ensures.none in
    let joined = kept_with-none c.args.local.now c.args.reading c.args.answer kept none in
    c.in_ok-push-in-None.ensures.items ∙ sym joined

pub returns-in-Some-clause-ok : goal.returns-in-Some-clause-ok
returns-in-Some-clause-ok c =
    let kept = c.args.kept.now.items in
    let b = c.index.result.now in
    let place = rw (c.deref.ensures.value, ap (λ (a : Answer). a.error) c.answer.view_is) at c.in-Some.ensures.first in
    let own = c.args.local.now in
    let r = c.args.reading in
    let a = c.args.answer in
    let first = position-Some (λ (best : Best). best.low.error == a.error) kept c.in-Some.place b (sym place) in
    let replaced = kept_with-at own r a kept c.in-Some.place b first.0 first.2 first.1 in
    let better = c.better.ensures ∙ ap (λ (best : Best). bests.better_of own r best (bests.alone a)) c.index.ensures in
    ap (λ (best : Best). set kept c.in-Some.place best) better ∙ sym replaced

pub returns-in-Some-clause-undone : goal.returns-in-Some-clause-undone
returns-in-Some-clause-undone c =
    let kept = c.args.kept.now.items in
    let b = c.index.result.now in
    let i = c.in-Some.place in
    let place = rw (c.deref.ensures.value, ap (λ (a : Answer). a.error) c.answer.view_is) at c.in-Some.ensures.first in
    let first =
    position-Some (λ (best : Best). best.low.error == c.args.answer.error) kept i b (sym place) in
    record {
      place = subst (λ (n : ℕ). i < n) (sym (length-set kept i c.better.result)) first.0;
      back = ap (λ (x : Best). set (set kept i c.better.result) i x) c.index.ensures
          ∙ undone-at kept i c.better.result b;
    }
