use Rattle.std.proofs.Common.{◌≡◌, ◌∙◌, ap, sym, subst, ℕ}
use Rattle.css_agree.specs.Keeping.{Kept}
use Rattle.css_companion.specs.Standing.{own_of}
use Rattle.css_model.specs.History.{History, accepted_answers}
use Rattle.css_relay.specs.Relays.{Relay, StandsFor}
use Rattle.css_span.specs.Frontiers.{error_count}
use Rattle.css_relay.proofs.Agreeing as agreeing
use Rattle.css_relay.proofs.relay.Relay.forget_stale.Goals as goal

-- how many answers are kept is said of the relay's companion
abbrev Counts : ℕ → Relay → Type 0
Counts kept r = (history : History) → StandsFor r.companion history
    → kept ≡ error_count (accepted_answers (own_of r.companion) history)

pub returns-then-kept-eq0-clause-stands : goal.returns-then-kept-eq0-clause-stands
returns-then-kept-eq0-clause-stands c h s a =
    let counts : Counts c.kept.result c.args.self.now = subst (Counts c.kept.result) c.self.view_is
    (c.kept.ensures.errors _) in
    agreeing.forgot (sym (counts h s) ∙ c.if-kept-eq0.true) a
    (ap {A = Kept} (λ x. x.local) c.forget.ensures.value ∙ ap {A = Relay} (λ r. r.agree.local) c.self.view_is)
    c.forget.ensures.stands

pub returns-else-kept-eq0-clause-stands : goal.returns-else-kept-eq0-clause-stands
returns-else-kept-eq0-clause-stands c h s a =
    let counts : Counts c.kept.result c.args.self.now = subst (Counts c.kept.result) c.self.view_is
    (c.kept.ensures.errors _) in
    agreeing.counts (λ e. c.if-kept-eq0.false (counts h s ∙ e)) a
