-- Each generated line is accepted after those before it, with one companion and with several.
use Rattle.std.proofs.Common.{◌≡◌, ℕ, suc, zero, ◌+◌, ◌-◌, ◌*◌, ◌<◌, ◌≤◌, ◌==◌, arith, sym, subst, refl, Bool, true}
use Rattle.std.proofs.Common.{false, option_map, eqb-true, slice_get, unwrap_or, replicate}
use Rattle.std.proofs.lemmas.Int.{ints}
use Rattle.css_meaning.specs.Accepted.{AreAccepted}
use Rattle.css_gen.specs.Course.{started, course_after}
use Rattle.css_gen.specs.Crowd.{gathered, crowd_after}
use Rattle.css_survey.specs.Generated.{header_for, generated, GeneratedLinesAreAccepted}
use Rattle.css_survey.proofs.Names.{eqb-false, length-replicate, All-replicate, IsLocal, IsCompanion, IsCount, Header}
use Rattle.css_survey.proofs.Names.{IsDeclared, companion, AreSome, pts-utf8, stem-utf8}
use Rattle.css_survey.proofs.Accepting.{all-hold}
use Rattle.css_survey.proofs.Generating.{one_state, one_drawn, crowd_state, crowd_drawn}
use Rattle.css_survey.proofs.Opening.{opening-holds}

-- ---- what the header declares
-- the clock of each companion is in range, and so is that of a number that none has
local-ok : (companions place : ℕ)
    → IsLocal (unwrap_or (option_map (λ c. c.local) (slice_get (replicate companions companion) place))
    (record { error = 0; precision = 0 }))
local-ok zero place = record { error = omega arith; precision = omega arith }
local-ok (suc companions) zero = record { error = omega arith; precision = omega arith }
local-ok (suc companions) (suc place) = local-ok companions place

header-declared : (companions : ℕ) → AreSome companions → IsDeclared (header_for companions)
header-declared companions some = record {
  tv = record {
    tv_error = omega arith;
    tv_precision = omega (arith, ints);
    companions = All-replicate IsCompanion companions companion (record { selector = pts-utf8; stem = stem-utf8 });
  };
  companions = subst IsCount (sym (length-replicate companions companion))
      (record { low = some.low; high = some.high });
  exponent = record { sfits = omega (arith, ints) };
  local = λ who. local-ok companions (who - 1);
}

-- ---- the lines
-- the first lines of accepted ones are accepted
front-accepted : (header : Header) (seed companions more count : ℕ)
    → AreAccepted header (generated seed companions (more + count))
    → AreAccepted header (generated seed companions count)
unfolding generated
front-accepted header seed companions zero count h = let same : 0 + count ≡ count = omega arith in rw same at h
front-accepted header seed companions (suc more) count h =
    let same : suc more + count ≡ suc (more + count) = omega arith in
    front-accepted header seed companions more count (rw same at h).4

one-accepted : (seed count : ℕ) → count ≤ 200000 → AreAccepted (header_for 1) (generated seed 1 (8 + count))
unfolding started course_after
one-accepted seed count few =
    (all-hold seed 1 8 (λ n. one_state (course_after seed n)) (one_drawn seed)
    (opening-holds seed 1 (started seed).tv_fast (λ who. (started seed).own_fast)
    (record { low = omega arith; high = omega arith })) count few).accepted

several-accepted : (seed companions count : ℕ) → AreSome companions → 2 ≤ companions → count ≤ 200000
    → AreAccepted (header_for companions) (generated seed companions (3 + 5 * companions + count))
unfolding gathered started crowd_after
several-accepted seed companions count some several few =
    let crowd = gathered seed companions in
    (all-hold seed companions (3 + 5 * companions) (λ n. crowd_state (crowd_after seed companions n))
    (λ n. crowd_drawn seed companions n some several)
    (opening-holds seed companions crowd.course.tv_fast (crowd_state crowd).fast some) count few).accepted

lines-accepted : (seed companions count : ℕ) → AreSome companions → count < 200000
    → AreAccepted (header_for companions) (generated seed companions count)
lines-accepted seed companions count some few = by (companions == 1) refl
  where
    by : (b : Bool) → (companions == 1) ≡ b → AreAccepted (header_for companions) (generated seed companions count)
    by true e =
        subst (λ (n : ℕ). AreAccepted (header_for n) (generated seed n count)) (sym (eqb-true companions 1 e))
        (front-accepted (header_for 1) seed 1 8 count (one-accepted seed count (omega (arith, few))))
    by false e =
        let low = some.low in
        front-accepted (header_for companions) seed companions (3 + 5 * companions) count
        (several-accepted seed companions count some (omega (arith, eqb-false companions 1 e, low))
        (omega (arith, few)))

pub generated_accepted : GeneratedLinesAreAccepted
generated_accepted seed companions count some few =
    record { declared = header-declared companions some; accepted = lines-accepted seed companions count some few }
