use Rattle.std.proofs.Common.{Result, Ok, Err, IfOk, ap, ◌∙◌}
use Rattle.css_sessions.specs.Kept.{Kept, windows_in}
use Rattle.css_sessions.proofs.InForce.{windows_stand}
use Rattle.css_sessions.proofs.sessions.Sessions.windows.Goals as goal

implied : {V E : Type 0} (P Q : V → Type 0) (r : Result V E) → ((v : V) → P v → Q v) → IfOk r P → IfOk r Q
implied P Q (Ok v) more h = more v h
implied P Q (Err e) more h = h

pub returns-clause-in_force : goal.returns-clause-in_force
returns-clause-in_force c =
    implied _ _ c.windows.result
    (λ ws is h stands.
    is ∙ ap windows_in (c.as_slice.ensures.value ∙ ap (λ (k : Kept). k.list) c.self.view_is) ∙ windows_stand
    c.args.self.now h stands)
    c.windows.ensures
