-- The best of what is kept is what is told, it is the best of all answers added, and it is still possible.
use Rattle.std.proofs.Common.{◌≡◌, ◌∙◌, subst, arith}
use Rattle.std.specs.Prelude.{None, Some, pos, ◌≤ℤ◌}
use Rattle.std.proofs.lemmas.Int.{ints}
use mir.Syntax.{w128}
use mir.Val.{to_z, of_z}
use Rattle.css_num.specs.Spans.{Interval}
use Rattle.css_model.specs.WallClock.{IsLocal, lo, hi, scaled_width}
use Rattle.css_span.specs.Frontiers.{Answers}
use Rattle.css_agree.specs.Keeping.{Kept, StandsFor}
use Rattle.css_agree.specs.Told.{agreed_of}
use Rattle.css_agree.specs.declared.agreed.Agreed.TheVariants.{Within, Disagree}
use Rattle.css_agree.proofs.Shared.{nothing-added, found-is, found-possible, low-is, high-is}
use Rattle.css_agree.proofs.Standing.{kept-holds}
use Rattle.css_agree.proofs.Told.{agreed_is, in_order, out_of_order, told_agrees, told_true}
use Rattle.css_agree.proofs.agree.Agree.at.Goals as goal

-- nothing is kept
pub returns-in_default-clause-value : goal.returns-in_default-clause-value
returns-in_default-clause-value c = λ added stands.
    agreed_is c.args.self.now c.args.reading added None stands
    (found-is c.args.reading _ c.args.self.now _ _ c.self.view_is c.deref.ensures.value c.in_default.ensures)

pub returns-in_default-clause-agrees : goal.returns-in_default-clause-agrees
returns-in_default-clause-agrees c = λ added stands.
    nothing-added c.args.self.now.local c.args.reading c.args.self.now.bests added
    (kept-holds c.args.self.now added stands)
    (found-is c.args.reading _ c.args.self.now _ _ c.self.view_is c.deref.ensures.value c.in_default.ensures)

-- the ends are in order
told : goal.Then-lo-hi → Interval
told c = record { lo = to_z w128 (of_z w128 c.lowest-lo.result); hi = to_z w128 (of_z w128 c.highest-hi.result) }

within : (c : goal.Then-lo-hi) (added : Answers) → StandsFor c.args.self.now added
    → Within (told c) ≡ agreed_of c.args.self.now.local c.args.reading added
unfolding told
within c added stands =
    let now = c.args.self.now in
    let r = c.args.reading in
    let best = c.in-Some.best in
    let low : c.lowest-lo.result ≡ lo now.local best.low r =
    low-is r _ now best.low _ c.self.view_is c.lowest-lo.ensures in
    let high : c.highest-hi.result ≡ hi now.local best.high r =
    high-is r _ now best.high _ c.self.view_is c.highest-hi.ensures in
    in_order now.local r best (told c) (omega (arith, ints, low)) (omega (arith, ints, high))
    (omega (arith, ints, low, high))
    ∙ agreed_is now r added (Some best) stands
    (found-is r _ now _ (Some best) c.self.view_is c.deref.ensures.value c.in-Some.ensures)

is_local : (c : goal.Then-lo-hi) → IsLocal c.args.self.now.local
is_local c = subst (λ (k : Kept). IsLocal k.local) c.self.view_is c.self.invariant.local

pub returns-then-lo-hi-clause-value : goal.returns-then-lo-hi-clause-value
unfolding told
returns-then-lo-hi-clause-value c = within c

pub returns-then-lo-hi-clause-agrees : goal.returns-then-lo-hi-clause-agrees
unfolding told
returns-then-lo-hi-clause-agrees c = λ added stands.
    told_agrees c.args.self.now.local c.args.reading added (Within (told c)) (is_local c) (within c added stands)

pub returns-then-lo-hi-clause-truth : goal.returns-then-lo-hi-clause-truth
unfolding told
returns-then-lo-hi-clause-truth c = λ added stands.
    told_true c.args.self.now c.args.reading added (Within (told c)) (is_local c) stands (within c added stands)

-- the ends are out of order
apart : (c : goal.Else-lo-hi) (added : Answers) → StandsFor c.args.self.now added
    → Disagree c.in-Some.best.low c.in-Some.best.high ≡ agreed_of c.args.self.now.local c.args.reading added
apart c added stands =
    let now = c.args.self.now in
    let r = c.args.reading in
    let best = c.in-Some.best in
    let low : c.lowest-lo.result ≡ lo now.local best.low r =
    low-is r _ now best.low _ c.self.view_is c.lowest-lo.ensures in
    let high : c.highest-hi.result ≡ hi now.local best.high r =
    high-is r _ now best.high _ c.self.view_is c.highest-hi.ensures in
    out_of_order now.local r best (omega (arith, ints, low, high))
    ∙ agreed_is now r added (Some best) stands
    (found-is r _ now _ (Some best) c.self.view_is c.deref.ensures.value c.in-Some.ensures)

has_local : (c : goal.Else-lo-hi) → IsLocal c.args.self.now.local
has_local c = subst (λ (k : Kept). IsLocal k.local) c.self.view_is c.self.invariant.local

pub returns-else-lo-hi-clause-value : goal.returns-else-lo-hi-clause-value
returns-else-lo-hi-clause-value c = apart c

pub returns-else-lo-hi-clause-agrees : goal.returns-else-lo-hi-clause-agrees
returns-else-lo-hi-clause-agrees c = λ added stands.
    told_agrees c.args.self.now.local c.args.reading added (Disagree c.in-Some.best.low c.in-Some.best.high)
    (has_local c) (apart c added stands)

pub returns-else-lo-hi-clause-truth : goal.returns-else-lo-hi-clause-truth
returns-else-lo-hi-clause-truth c = λ added stands.
    told_true c.args.self.now c.args.reading added (Disagree c.in-Some.best.low c.in-Some.best.high) (has_local c)
    stands (apart c added stands)

-- the two that are named are possible
pub returns-else-lo-hi-clause-possible : goal.returns-else-lo-hi-clause-possible
returns-else-lo-hi-clause-possible c = λ later.
    let now = c.args.self.now in
    let r = c.args.reading in
    let best = c.in-Some.best in
    let found = found-is r _ now _ (Some best) c.self.view_is c.deref.ensures.value c.in-Some.ensures in
    let possible = found-possible r _ now best c.self.view_is c.self.invariant later found in (
      subst (λ (k : Kept). pos 0 ≤ℤ scaled_width k.local best.low r) c.self.view_is possible.low.wide,
      subst (λ (k : Kept). pos 0 ≤ℤ scaled_width k.local best.high r) c.self.view_is possible.high.wide,
    )
