-- Each turn makes one lane more.
use Rattle.std.proofs.Common.{◌≡◌, [], List, length, arith, sym, ap, subst, ◌∙◌}
use Rattle.css_world.specs.declared.lane.Lane.{Lane}
use Rattle.css_world.specs.Lanes.{IsFresh}
use Rattle.css_world.proofs.Names.{IsCompanion}
use Rattle.css_world.proofs.Fresh.{Each, none_made, one_made, counts_more}
use Rattle.css_world.proofs.lanes.Lanes.new.Goals as goal

pub loop-companion-init : goal.loop-companion-init
loop-companion-init c =
    let empty : c.new-list.result.items ≡ [] = c.new-list.ensures.items in
    record {
      count = ap (λ (xs : List Lane). length xs) empty;
      within = omega arith;
      each = subst (Each IsFresh c.args.companions.now) (sym empty) (none_made IsFresh c.args.companions.now);
    }

pub new-requires : goal.new-requires
new-requires c =
    let place = c.loop-companion.companion-index in
    let declared = c.companion-item.result in
    subst IsCompanion (sym c.companion-item.is) (c.requires place declared c.loop-companion-test.true)

pub loop-companion-preserved : goal.loop-companion-preserved
loop-companion-preserved c =
    let before = c.loop-companion.list.items in
    let place = c.loop-companion.companion-index in
    let declared = c.companion-item.result in
    let lane : Lane = c.in_ok-lane.lane in
    let so_far = c.loop-companion.invariant in
    record {
      count = ap (λ (xs : List Lane). length xs) c.in_ok-push.ensures.items
          ∙ counts_more before lane place so_far.count;
      within = omega (arith, c.loop-companion-test.true);
      each = rw c.in_ok-push.ensures.items (one_made IsFresh c.args.companions.now before place declared lane
          so_far.count c.loop-companion-test.true c.companion-item.is c.in_ok-lane.ensures so_far.each);
    }

pub returns : goal.returns
returns c =
    let so_far = c.loop-companion.invariant in
    record { count = omega (arith, so_far.count, so_far.within, c.loop-companion-test.false); each = so_far.each }
