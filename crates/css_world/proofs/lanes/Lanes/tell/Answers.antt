-- One output more.
use Rattle.std.proofs.Common.{arith, refl}
use Rattle.css_world.proofs.Delivered.{none_yet, told_on, kept_on, as_many}
use Rattle.css_world.proofs.lanes.Lanes.tell.Goals as goal

pub loop-out-init : goal.loop-out-init
loop-out-init c = record {
  told = none_yet c.args.self.now.list.items;
  rest = record { companions = refl };
  few = c.requires.few;
}

pub loop-out-preserved : goal.loop-out-preserved
loop-out-preserved c =
    let first = c.args.self.now.list.items in
    let before = c.loop-out.self.list.items in
    let after = c.tell_one.new.self.list.items in
    let so_far = c.loop-out.invariant in
    record {
      told = told_on c.loop-out.yielded c.in-Some.out first before after so_far.told c.in_ok-tell_one.ensures.told;
      rest = kept_on first before after so_far.rest c.tell_one.ensures.rest;
      few = omega (arith, as_many before after c.tell_one.ensures.rest, so_far.few);
    }
