-- Each turn makes one watch more.
use Rattle.std.proofs.Common.{◌≡◌, [], List, length, arith, sym, ap, subst, ◌∙◌}
use Rattle.css_world.specs.declared.watch.Watch.{Watch}
use Rattle.css_world.specs.Standing.{IsNew}
use Rattle.css_world.proofs.Fresh.{Each, none_made, one_made, counts_more}
use Rattle.css_world.proofs.clocks.watches.Goals as goal

pub loop-companion-init : goal.loop-companion-init
loop-companion-init c =
    let empty : c.new-own.result.items ≡ [] = c.new-own.ensures.items in
    record {
      count = ap (λ (xs : List Watch). length xs) empty;
      within = omega arith;
      each = subst (Each IsNew c.args.companions.now) (sym empty) (none_made IsNew c.args.companions.now);
    }

pub loop-companion-preserved : goal.loop-companion-preserved
loop-companion-preserved c =
    let before = c.loop-companion.own.items in
    let place = c.loop-companion.companion-index in
    let declared = c.companion-item.result in
    let watch : Watch = c.watch.result in
    let so_far = c.loop-companion.invariant in
    record {
      count = ap (λ (xs : List Watch). length xs) c.in_ok-push.ensures.items
          ∙ counts_more before watch place so_far.count;
      within = omega (arith, c.loop-companion-test.true);
      each = rw c.in_ok-push.ensures.items (one_made IsNew c.args.companions.now before place declared watch
          so_far.count c.loop-companion-test.true c.companion-item.is c.watch.ensures so_far.each);
    }

pub returns : goal.returns
returns c =
    let so_far = c.loop-companion.invariant in
    record { count = omega (arith, so_far.count, so_far.within, c.loop-companion-test.false); each = so_far.each }
