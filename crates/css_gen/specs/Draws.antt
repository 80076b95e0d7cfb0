-- The random words of a seed, and what is drawn from them.
use Rattle.std.specs.Prelude.{ℕ, ◌%◌}
use Rattle.rand_core.specs.Pcg32Seed.{pcg32_seed}
use Rattle.rand_pcg.specs.Lcg.{Lcg}
use Rattle.rand_pcg.specs.Pcg.{pcg32, pcg32_of_seed}

-- the generator of a seed's words
unfoldable pub words_of : ℕ → Lcg
words_of seed = pcg32_of_seed (pcg32_seed 16 seed)

-- a number that was drawn, and the words that are left
pub record Drawn : Type 0 where
  pub number : ℕ
  pub left : Lcg

-- The next word modulo `below`: one of 0 to `below - 1`.
unfoldable pub draw : ℕ → Lcg → Drawn
draw below words = record { number = (pcg32 words).0 % below; left = (pcg32 words).1 }
