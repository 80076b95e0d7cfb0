use Rattle.std.proofs.Common.{◌∙◌, ◌++◌, ap}
use Rattle.css_follow.proofs.Listening as listening
use Rattle.css_follow.proofs.listens.BeforeListens.tell.Goals as goal

pub returns : goal.returns
returns g c =
    let one = c.in_ok-told.ensures in
    listening.tells_on c.tell.result c.args.report.now _ _ _ _ _ c.told.new.out _
    (listening.listener_hears c.args.report.now _ _ _ _ _ _ one.keeps one.as_planned one.ends_as_planned one.heard)
    (one.said ∙ ap (λ w. c.args.out.now ++ w) one.as_planned) c.tell.ensures
