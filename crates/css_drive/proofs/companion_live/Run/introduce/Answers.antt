use Rattle.std.proofs.Common.{refl, sym, ◌∙◌, ap, ℕ}
use Rattle.css_drive.specs.CompanionDue.{Connected}
use Rattle.css_drive.specs.Proper.{SendText}
use Rattle.css_drive.proofs.CompanionSteps.{comes, at_err}
use Rattle.css_drive.proofs.companion_live.Run.introduce.Goals as goal

pub returns-in-Gone-clause-goes : goal.returns-in-Gone-clause-goes
returns-in-Gone-clause-goes g c at setup before started h s k when =
    let p : ℕ = c.args.peer in
    let said = rw c.in-Gone.is at c.in_ok-say.ensures in
    let x = said.goes at c.args.config.now (Connected p) before started h s k
    (when, ap (λ b. SendText p b) (sym (c.bytes.ensures ∙ setup))) in
    comes x.stands x.known _ x.next.1

pub returns-in-Sent-clause-goes : goal.returns-in-Sent-clause-goes
returns-in-Sent-clause-goes g c at setup before started h s k when =
    let p : ℕ = c.args.peer in
    let said = rw c.in-Sent.is at c.in_ok-say.ensures in
    let x = said.goes at c.args.config.now (Connected p) before started h s k
    (when, ap (λ b. SendText p b) (sym (c.bytes.ensures ∙ setup))) in
    c.present.ensures.goes (said.kept refl ∙ at) before started x.history x.stands x.known x.next

pub returns-in_err-say-clause-goes : goal.returns-in_err-say-clause-goes
returns-in_err-say-clause-goes g c at setup before started h s k when =
    let p : ℕ = c.args.peer in
    at_err _ _ _ _ c.from_residual.ensures.1 (c.in_err-say.ensures.goes at c.args.config.now (Connected p) before
    started h s k (when, ap (λ b. SendText p b) (sym (c.bytes.ensures ∙ setup))))
