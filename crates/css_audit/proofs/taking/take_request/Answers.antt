use Rattle.std.proofs.Common.{subst, List, ◌∷◌}
use Rattle.std.specs.Prelude.{ℕ}
use Rattle.css_model.specs.declared.Why.TheVariants as why
use Rattle.css_model.specs.History.{Clock, Sent}
use Rattle.css_companion.specs.Standing as companions
use Rattle.css_audit.specs.Entries.{history_in, wall_peer}
use Rattle.css_audit.proofs.taking.take_request.Goals as goal

pub returns-clause-tells : goal.returns-clause-tells
returns-clause-tells c = λ older keeps.
    subst (λ (bytes : List ℕ). companions.StandsFor c.ask.new.self
    (Sent wall_peer bytes ∷ Clock why.Ask c.args.reading ∷ history_in older)) c.ask.ensures.request
    (c.ask.ensures.stands _ (history_in older) wall_peer keeps.told)
