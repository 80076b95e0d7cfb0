-- What is drawn is below the number that it is drawn below.
use Rattle.std.proofs.Common.{ℕ, ◌%◌, ◌<◌, arith}
use Rattle.rand_pcg.specs.Lcg.{Lcg}
use Rattle.rand_pcg.specs.Pcg.{pcg32}
use Rattle.css_gen.specs.Draws.{draw}

pub draw-below : (below : ℕ) (words : Lcg) → 0 < below → (draw below words).number < below
unfolding draw
draw-below below words h = let word : ℕ = (pcg32 words).0 in remainder word below h
  where
    remainder : (word below : ℕ) → 0 < below → word % below < below
    remainder word below h = omega arith
