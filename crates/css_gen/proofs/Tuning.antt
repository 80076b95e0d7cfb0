-- The oscillators of one companion more, and the first course of a crowd.
use Rattle.std.proofs.Common.{◌≡◌, ℕ, suc, ◌+◌, arith, ap, sym, ◌∙◌, ◌==◌, slice_set}
use Rattle.css_gen.specs.Draws.{draw}
use Rattle.css_gen.specs.Crowd.{Tuned, tuned}
use Rattle.css_gen.specs.declared.course.Course.{Course}

-- the table and the words after one draw more, for the companion of that place
abbrev pub tuned_once : Tuned → (place : ℕ) → Tuned
tuned_once before place = record {
  fast = slice_set before.fast place ((draw 2 before.left).number == 0);
  left = (draw 2 before.left).left;
}

pub tuned_next : (first : Course) (more : ℕ) → tuned first (more + 1) ≡ tuned_once (tuned first more) (more + 1)
unfolding tuned
tuned_next first more =
    let same : suc more ≡ more + 1 = omega arith in
    sym (ap (tuned first) same) ∙ ap (tuned_once (tuned first more)) same
