use Rattle.std.proofs.Common.{◌≡◌, ◌∙◌, ◌*◌, arith, ap, to_z, of_z, true, false}
use Rattle.std.specs.Prelude.{ℤ, pos, int_lt, ◌+ℤ◌, unsigned_abs}
use Rattle.std.proofs.Math.Facts.{to_z-of_z}
use Rattle.std.proofs.lemmas.Int.{ints}
use mir.Syntax.{w128}
use Rattle.css_model.proofs.Narrowest.{is_less, is_not_less}
use Rattle.css_companion_c.specs.Leads.{distance}
use Rattle.css_companion_c.proofs.Reached.{needed_same, presented_forward, presented_backward}
use Rattle.css_companion_c.proofs.reaching.presented.Goals as goal

pub returns-then-timing-lt0-clause-meaning : goal.returns-then-timing-lt0-clause-meaning
returns-then-timing-lt0-clause-meaning c =
    let timing = c.args.timing.now in
    let factor = timing.rate.units_per_second * unsigned_abs timing.speed in
    let far_told : to_z w128 (of_z w128 c.distance.result) ≡ c.distance.result = omega (arith, ints) in
    let next_told : to_z w128 (of_z w128 c.next_distance.result) ≡ c.next_distance.result = omega (arith, ints) in
    let tick = to_z-of_z c.ranges.tick in
    let far = far_told ∙ c.distance.ensures.value ∙ ap (λ (t : ℤ). distance c.args.timing.now t) tick in
    let next = next_told ∙ c.next_distance.ensures.value ∙ ap (λ (t : ℤ). distance c.args.timing.now t
    +ℤ pos (c.args.timing.now.rate.units_per_tick * 1000000000)) tick in
    let way : int_lt timing.speed (pos 0) ≡ true = is_less timing.speed (pos 0) (omega (arith, ints)) in
    presented_backward timing c.args.tick c.needed-come.result c.needed-passed.result _ way
    (record { units = c.factor-factor.ensures.units; early = c.requires.early })
    (needed_same c.needed-come.result _ (distance timing c.args.tick) _ factor far c.factor-factor.ensures.value
    c.needed-come.ensures.meaning)
    (needed_same c.needed-passed.result _ _ _ factor next c.factor-factor.ensures.value
    c.needed-passed.ensures.meaning) (omega (arith, ints)) (omega (arith, ints))

pub returns-else-timing-lt0-clause-meaning : goal.returns-else-timing-lt0-clause-meaning
returns-else-timing-lt0-clause-meaning c =
    let timing = c.args.timing.now in
    let factor = timing.rate.units_per_second * unsigned_abs timing.speed in
    let far_told : to_z w128 (of_z w128 c.distance.result) ≡ c.distance.result = omega (arith, ints) in
    let next_told : to_z w128 (of_z w128 c.next_distance.result) ≡ c.next_distance.result = omega (arith, ints) in
    let tick = to_z-of_z c.ranges.tick in
    let far = far_told ∙ c.distance.ensures.value ∙ ap (λ (t : ℤ). distance c.args.timing.now t) tick in
    let next = next_told ∙ c.next_distance.ensures.value ∙ ap (λ (t : ℤ). distance c.args.timing.now t
    +ℤ pos (c.args.timing.now.rate.units_per_tick * 1000000000)) tick in
    let way : int_lt timing.speed (pos 0) ≡ false = is_not_less timing.speed (pos 0) (omega (arith, ints)) in
    presented_forward timing c.args.tick c.needed-come.result c.needed-passed.result _ way
    (record { units = c.factor-factor.ensures.units; early = c.requires.early })
    (needed_same c.needed-come.result _ (distance timing c.args.tick) _ factor far c.factor-factor.ensures.value
    c.needed-come.ensures.meaning)
    (needed_same c.needed-passed.result _ _ _ factor next c.factor-factor.ensures.value
    c.needed-passed.ensures.meaning) (omega (arith, ints)) (omega (arith, ints))
