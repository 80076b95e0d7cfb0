-- The map with one more exchange, or as it was.
use Rattle.std.proofs.Common.{◌<◌, ◌*◌, ◌^◌}
use Rattle.css_model.specs.Wire.{second}
use Rattle.css_client.proofs.Exchanges.{adds-noted, undone-noted, all-noted}
use Rattle.css_client.proofs.promises.Promises.note.Goals as goal

pub invariant_of-self : goal.invariant_of-self
invariant_of-self c =
    all-noted (λ e. e.1 < 2 ^ 32 * second) c.exchange_of-exchange.result c.args.promise.landed
    c.self.inside.landings.entries c.insert_first.new.landings.entries
    c.insert_first.result c.insert_first.ensures.new c.insert_first.ensures.ok c.insert_first.ensures.err
    c.requires.landed c.self.invariant

pub returns-clause-ok : goal.returns-clause-ok
returns-clause-ok c =
    adds-noted c.exchange_of-exchange.result c.args.promise c.self.inside.landings.entries
    c.insert_first.new.landings.entries c.args.self.now
    c.insert_first.result c.exchange_of-exchange.ensures.asked c.exchange_of-exchange.ensures.received
    c.insert_first.ensures.new c.insert_first.ensures.ok c.insert_first.ensures.ordered c.self.view_is

pub returns-clause-undone : goal.returns-clause-undone
returns-clause-undone c =
    undone-noted c.exchange_of-exchange.result c.args.promise c.self.inside.landings.entries
    c.insert_first.new.landings.entries c.args.self.now
    c.insert_first.result c.exchange_of-exchange.ensures.asked c.exchange_of-exchange.ensures.received
    c.insert_first.ensures.new c.insert_first.ensures.ok c.self.view_is
