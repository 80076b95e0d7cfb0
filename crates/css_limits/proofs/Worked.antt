-- The two worlds of one exchange between exact clocks, computed: nothing is lost at either end.
use Rattle.std.proofs.Common.{◌≡◌, refl}
use Rattle.std.specs.Prelude.{pos}
use Rattle.css_model.specs.WallClock.{Answer, lo, hi, lower, upper}
use Rattle.css_limits.specs.Limits.{exact}
use Rattle.css_limits.specs.Worlds.{longest, shortest, gone, latest_last, earliest_last, until_last, until_between}
use Rattle.css_limits.specs.Worlds.{between_own}

abbrev pub exact_answer : Answer
exact_answer = record { t1 = 1000; t2 = 5000; t3 = 5200; t4 = 1600; precision = 1; error = 0 }

ends : (lo exact exact_answer 1601 ≡ pos 5198) × (hi exact exact_answer 1601 ≡ pos 5604)
unfolding lo hi lower upper
ends = (refl, refl)

least : (earliest_last exact exact_answer 1600 1601).wall ≡ 5198
unfolding longest shortest gone until_last until_between between_own
least = refl

greatest : (latest_last exact exact_answer 1601).wall ≡ 5604
unfolding longest
greatest = refl
