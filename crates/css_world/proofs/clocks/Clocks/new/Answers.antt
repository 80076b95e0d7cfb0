-- Nothing was shown yet, and nothing was read.
use Rattle.std.proofs.Common.{rules, ◌∙◌}
use Rattle.css_world.proofs.Began.{new_watch}
use Rattle.css_world.proofs.clocks.Clocks.new.Goals as goal

pub returns : goal.returns
returns c =
    let own = rw (c.deref.ensures.value ∙ c.list.ensures) at c.in_ok-watches.ensures in
    record {
      tv = record {
        error = c.new.ensures.drift.0;
        precision = search rules;
        drift = c.new.ensures.drift.2;
        last = c.new.ensures.last.0;
        woken = c.new.ensures.last.1;
      };
      count = own.count;
      own = new_watch c.args.header.now c.in_ok-watches.field-0.items own;
    }
