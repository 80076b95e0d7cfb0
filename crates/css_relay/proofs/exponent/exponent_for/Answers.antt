-- The first exponent that isn't too fine is the least.
use Rattle.std.proofs.Common.{rules, ◌≤◌, pos, to_z, w8}
use Rattle.css_model.specs.Numbers.{precision_ns}
use Rattle.css_relay.specs.Precisions.{IsLeastExponent}
use Rattle.css_relay.proofs.Exponents.{found_least, is_exponent}
use Rattle.css_relay.proofs.exponent.exponent_for.Goals as goal

pub returns-then-half-precision_ns-clause-least : goal.returns-then-half-precision_ns-clause-least
returns-then-half-precision_ns-clause-least c =
    let known = c.loop-exponent.invariant in
    let enough : c.args.half ≤ precision_ns (to_z w8 c.loop-exponent.exponent-bits) = search rules in
    found_least c.args.half (to_z w8 c.loop-exponent.exponent-bits) known.low known.high enough known.below

pub returns-then-half-precision_ns-clause-value : goal.returns-then-half-precision_ns-clause-value
returns-then-half-precision_ns-clause-value c =
    is_exponent c.args.half (to_z w8 c.loop-exponent.exponent-bits) c.requires
    (returns-then-half-precision_ns-clause-least c)

pub returns-clause-value : goal.returns-clause-value
returns-clause-value c =
    let least : IsLeastExponent c.args.half (pos 30) = search rules in
    is_exponent c.args.half (pos 30) c.requires least
