use Rattle.css_watch.proofs.Following as following
use Rattle.css_watch.proofs.visit.hang_up_one.Goals as goal

pub returns-in-Some-clause-hangs : goal.returns-in-Some-clause-hangs
returns-in-Some-clause-hangs g c =
    following.one_hung _ _ _ _ c.args.session c.in-Some.peer c.hang_up.result c.in-Some.is c.hang_up.ensures.told
    c.hang_up.ensures.counted
