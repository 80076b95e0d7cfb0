-- Those that stay are some of those that were there, in their order.
use Rattle.std.proofs.Common.{◌∙◌, ◌<◌, ◌*◌, ◌^◌, ℕ, sym, ap, subst, List}
use Rattle.std.specs.Prelude.{All, not, nat_lt}
use Rattle.css_model.specs.Wire.{second}
use Rattle.css_client.specs.declared.promises.Exchange.{Exchange}
use Rattle.css_client.specs.declared.promises.Promise.{Promise}
use Rattle.css_client.specs.Clients.{asked_since}
use Rattle.css_client.proofs.Exchanges.{seen, seen-since, all-filter}
use Rattle.css_client.proofs.promises.Promises.forget_before.Goals as goal

pub invariant_of-self : goal.invariant_of-self
invariant_of-self c =
    subst (λ (es : List (Exchange × ℕ)). All (λ e. e.1 < 2 ^ 32 * second) es) (sym c.drop_before.ensures)
    (all-filter (λ e. e.1 < 2 ^ 32 * second)
    (λ e. not (nat_lt e.0.asked c.args.oldest)) c.self.inside.landings.entries c.self.invariant)

pub returns : goal.returns
returns c =
    ap (λ (es : List (Exchange × ℕ)). seen es) c.drop_before.ensures
    ∙ seen-since c.args.oldest c.self.inside.landings.entries
    ∙ ap (λ (ps : List Promise). asked_since c.args.oldest ps) c.self.view_is
