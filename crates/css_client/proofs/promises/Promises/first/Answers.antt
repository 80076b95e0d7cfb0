-- What the map has at the exchange is what is remembered of it.
use Rattle.std.proofs.Common.{◌∙◌, ◌<◌, ℕ, ◌*◌, ◌^◌, sym, subst}
use Rattle.std.specs.Prelude.{IfSome, Option}
use Rattle.css_model.specs.Wire.{second}
use Rattle.css_client.proofs.Exchanges.{known-at, found-all}
use Rattle.css_client.proofs.promises.Promises.first.Goals as goal

pub returns-clause-value : goal.returns-clause-value
returns-clause-value c =
    c.copied.ensures ∙ c.get.ensures.value
    ∙ known-at c.exchange_of.result c.args.originate c.args.receive c.self.inside.landings.entries c.args.self.now
    c.exchange_of.ensures.asked c.exchange_of.ensures.received c.self.view_is

pub returns-clause-range : goal.returns-clause-range
returns-clause-range c =
    subst (λ (o : Option ℕ). IfSome o (λ landed. landed < 2 ^ 32 * second))
    (sym (c.copied.ensures ∙ c.get.ensures.value))
    (found-all (λ landed. landed < 2 ^ 32 * second) _ c.self.inside.landings.entries c.self.invariant)
