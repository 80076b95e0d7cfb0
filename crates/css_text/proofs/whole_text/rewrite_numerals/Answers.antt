-- Each byte goes on the run, settles it, or stays behind none; the end settles the last one.
use Rattle.std.proofs.Common.{◌∙◌, ap, ◌+◌, refl, sym}
use Rattle.css_text.proofs.WholeSteps.{goes_on, settles, passes, at_end, top}
use Rattle.std.specs.Prelude.{min}
use Rattle.css_text.proofs.whole_text.rewrite_numerals.Goals as goal
use Rattle.css_text.proofs.whole_text.rewrite_numerals.Goals.{then-not-is_in_run, then-start-i+in_ok-more}
use Rattle.css_text.proofs.whole_text.rewrite_numerals.Goals.{else-not-is_in_run, else-start-i}

pub loop-i-preserved : goal.loop-i-preserved
loop-i-preserved c = elim c.if-not-is_in_run.branch [
  | then-not-is_in_run w ↦
      rw (w.start-is, w.copied-is, w.odd-is, w.text-is, c.after-place.ensures) elim w.if-start-i.branch [
        | then-start-i+in_ok-more v ↦
            rw (v.copied-is, v.odd-is, v.text-is)
            (settles _ _ _ _ _ _ _ _ _ _ (sym c.is_in_run.ensures ∙ w.if-not-is_in_run.true) refl c.loop-i-test.true
            v.in_ok-more.ensures.0
            (v.saturating_add-odd.ensures ∙ ap (λ n. min (c.loop-i.odd + n) top) v.in_ok-more.ensures.1)
            c.loop-i.invariant)
        | else-start-i v ↦
            rw (v.copied-is, v.odd-is, v.text-is)
            (passes _ _ _ _ _ _ _ _ (sym c.is_in_run.ensures ∙ w.if-not-is_in_run.true) refl c.loop-i-test.true
            v.if-start-i.false c.loop-i.invariant)
      ]
  | else-not-is_in_run w ↦
      rw (w.copied-is, w.start-is, w.odd-is, w.text-is, c.after-place.ensures)
      (goes_on _ _ _ _ _ _ _ _ (sym c.is_in_run.ensures ∙ w.if-not-is_in_run.false) refl c.loop-i-test.true
      c.loop-i.invariant)
]

pub returns-clause-text : goal.returns-clause-text
returns-clause-text c = c.in_ok-more-2.ensures.0 ∙ (at_end _ _ _ _ _ _ _ (c.loop-i-test.false) c.loop-i.invariant).0

pub returns-clause-odd : goal.returns-clause-odd
returns-clause-odd c =
    c.saturating_add-odd-2.ensures ∙
    (ap (λ n. min (c.loop-i.odd + n) top) c.in_ok-more-2.ensures.1 ∙
    (at_end _ _ _ _ _ _ _ c.loop-i-test.false c.loop-i.invariant).1)
