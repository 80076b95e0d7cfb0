-- An answer that has both ends has them in order.
use Rattle.std.proofs.Common.{◌≡◌, ◌∙◌, ◌+◌, ◌-◌, ◌*◌, ℕ, ap, ap₂, sym, subst, arith, rules}
use Rattle.std.specs.Prelude.{pos, ◌≤ℤ◌, ◌+ℤ◌, ◌-ℤ◌, ◌*ℤ◌}
use Rattle.std.proofs.lemmas.Int.{ints}
use mir.Syntax.{w128}
use mir.Val.{to_z, of_z}
use Rattle.css_model.specs.declared.TheConstants.{F}
use Rattle.css_model.specs.Numbers.{floor_div}
use Rattle.css_model.specs.WallClock.{Answer, Local, IsLocal, lower, upper, lo, hi, scaled_width}
use Rattle.css_model.proofs.Ends.{lo-hi}
use Rattle.css_agree.proofs.ends.are_in_order.Goals as goal

-- the answer with the lower end of one and the upper end of another
abbrev both_of : Answer → Answer → Answer
both_of low high = record high { t3 = low.t3; t4 = low.t4 }

same_low : (own : Local) (low high : Answer) (r : ℕ) → low.precision ≡ high.precision → low.error ≡ high.error
    → lo own (both_of low high) r ≡ lo own low r
unfolding lo lower
same_low own low high r precision error =
    sym (ap₂ (λ (p e : ℕ). floor_div (pos (F + own.error) *ℤ (pos low.t3 -ℤ pos (p + 1))
    +ℤ pos (F - e) *ℤ (pos r -ℤ pos (low.t4 + 2 * own.precision + 1))) (F + own.error)) precision error)

in_order : (own : Local) (low high : Answer) (r : ℕ) → IsLocal own → low.precision ≡ high.precision
    → low.error ≡ high.error → pos 0 ≤ℤ scaled_width own (both_of low high) r → lo own low r ≤ℤ hi own high r
unfolding hi upper
in_order own low high r local precision error wide =
    subst (λ z. z ≤ℤ hi own high r) (same_low own low high r precision error)
    (lo-hi own (both_of low high) r local wide)

pub returns : goal.returns
returns c = λ e.
    let own = c.args.local.now in
    let r = c.args.reading in
    let precision : Answer → ℕ = λ a. a.precision in
    let error : Answer → ℕ = λ a. a.error in
    let width = ap₂ (λ (l h : Answer). scaled_width own (both_of l h) r) c.low.view_is c.high.view_is in
    let held : to_z w128 (of_z w128 c.scaled_width.result) ≡ c.scaled_width.result = search rules in
    in_order own c.args.low.now c.args.high.now r c.requires.local
    (sym (ap precision c.low.view_is) ∙ c.if-low-high.false ∙ ap precision c.high.view_is)
    (sym (ap error c.low.view_is) ∙ c.if-low-high-2.false ∙ ap error c.high.view_is)
    (omega (arith, ints, e, held, c.scaled_width.ensures, width))
