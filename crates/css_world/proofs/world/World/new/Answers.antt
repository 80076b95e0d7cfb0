-- Both ends did nothing yet, and nothing is stored.
use Rattle.std.proofs.Common.{rules, ◌∙◌}
use Rattle.css_world.proofs.Began.{begun_ready}
use Rattle.css_world.proofs.world.World.new.Goals as goal

pub returns-clause-stands : goal.returns-clause-stands
returns-clause-stands c = record {
  clocks = c.in_ok-clocks.ensures;
  ready = begun_ready _ (record {
    header = c.requires.0;
    count = c.requires.1;
    exponent = search rules;
    tv = record {
      server = c.in_ok-new-2.ensures.server;
      serves = c.in_ok-new-2.ensures.serves;
      addresses = c.in_ok-new-2.ensures.addresses;
      stands = c.in_ok-new-2.ensures.stands;
      takes = c.in_ok-new-2.ensures.takes;
    };
    lanes = rw (c.deref.ensures.value ∙ c.list.ensures) at c.in_ok-new.ensures;
    requests = c.new-4.ensures.items;
    askers = c.new-5.ensures.items;
    taken_for = c.new-6.ensures.items;
    datagrams = c.new-7.ensures.items;
    made_for = c.new-8.ensures.items;
  });
}
