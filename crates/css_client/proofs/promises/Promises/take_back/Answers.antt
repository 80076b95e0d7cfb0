-- The map with one exchange less.
use Rattle.std.proofs.Common.{◌<◌, ◌*◌, ◌^◌, ℕ, sym, subst, List}
use Rattle.std.specs.Prelude.{All}
use Rattle.css_model.specs.Wire.{second}
use Rattle.css_client.specs.declared.promises.Exchange.{Exchange}
use Rattle.css_client.proofs.Exchanges.{without-at, all-remove}
use Rattle.css_client.proofs.promises.Promises.take_back.Goals as goal

pub invariant_of-self : goal.invariant_of-self
invariant_of-self c =
    subst (λ (es : List (Exchange × ℕ)). All (λ e. e.1 < 2 ^ 32 * second) es) (sym c.remove.ensures.entries)
    (all-remove (λ e. e.1 < 2 ^ 32 * second) _ c.self.inside.landings.entries c.self.invariant)

pub returns : goal.returns
returns c =
    without-at c.exchange_of.result c.args.originate c.args.receive c.self.inside.landings.entries
    c.remove.new.self.entries c.args.self.now
    c.exchange_of.ensures.asked c.exchange_of.ensures.received c.remove.ensures.entries c.self.view_is
