use Rattle.css_watch.proofs.Following as following
use Rattle.css_watch.proofs.visit.hang_up.Goals as goal

pub returns-in-Err-clause-hangs : goal.returns-in-Err-clause-hangs
returns-in-Err-clause-hangs g c =
    following.hangs_first _ _ _ _ _ _ c.in-Err.fault c.in-Err.ensures.hangs

pub returns-clause-hangs : goal.returns-clause-hangs
returns-clause-hangs g c =
    following.hangs_on _ _ _ _ _ _ _ _ c.hang_up_one-2.result c.in-Ok.ensures.hangs c.hang_up_one-2.ensures.hangs
