use Rattle.std.proofs.Common.{sym, ap, ◌∙◌}
use Rattle.css_drive.specs.CompanionTurns.{is_asking}
use Rattle.css_drive.proofs.CompanionSteps as calls
use Rattle.css_drive.proofs.companion_live.Run.ask.Goals as goal

pub returns-clause-goes : goal.returns-clause-goes
returns-clause-goes g c config every before started h s k d =
    let live = c.args.self.now.live.now in
    c.request.ensures.goes c.in-Some.is config before started h s k
    (calls.ask_due s d c.in-Some.is (ap (λ n. is_asking n live.turn live.asked) every ∙ sym c.if-not-is_time.ensures))
