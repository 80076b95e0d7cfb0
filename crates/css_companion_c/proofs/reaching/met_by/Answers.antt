use Rattle.std.proofs.Common.{arith}
use Rattle.std.proofs.lemmas.Int.{ints}
use Rattle.css_companion_c.proofs.reaching.met_by.Goals as goal

pub returns : goal.returns
returns c = record {
  from = λ reading.
      let iff = c.upper_reaches.ensures.meaning reading in (
        λ h. let q = iff.0 (omega (arith, ints)) in omega (arith, ints),
        λ h. let q = iff.1 (omega (arith, ints)) in omega (arith, ints),
      );
  end = λ reading.
      let iff = c.lower_reaches.ensures.meaning reading in (
        λ h. let q = iff.0 (omega (arith, ints)) in omega (arith, ints),
        λ h. let q = iff.1 (omega (arith, ints)) in omega (arith, ints),
      );
  near = λ reading range.
      record {
        low = c.lower_reaches.ensures.near reading range;
        high = c.upper_reaches.ensures.near reading range;
      };
}
