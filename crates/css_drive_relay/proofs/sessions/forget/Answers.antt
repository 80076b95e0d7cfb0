use Rattle.std.proofs.Common.{ap, ℕ, List, eqb, not, rules}
use Rattle.std.proofs.lemmas.Fn.{filter_same}
use Rattle.css_drive_relay.specs.Places.{Facts}
use Rattle.css_drive_relay.specs.Standing.{facts_in}
use Rattle.css_drive_relay.proofs.sessions.forget.Goals as goal

pub returns-clause-facts : goal.returns-clause-facts
returns-clause-facts c =
    ap {A = List ℕ} {B = Facts} (λ xs. record (facts_in c.args.live.now) { peers = xs })
    (filter_same _ (λ (other : ℕ). not (eqb other c.args.peer)) _ (λ x b f' k. search rules) _ _
    c.retain.ensures.filtered)
