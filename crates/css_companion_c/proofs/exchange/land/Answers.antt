use Rattle.std.proofs.Common.{◌∙◌, sym}
use Rattle.css_companion_c.proofs.Noticing.{refused_by}
use Rattle.css_companion_c.proofs.exchange.land.Goals as goal

pub returns-in-Ok-clause-notices : goal.returns-in-Ok-clause-notices
returns-in-Ok-clause-notices c on h peer known agrees =
    c.accept.ensures.notices on h peer
    (record { stands = known; agrees = agrees; judged = sym (c.judge.ensures _ h known) ∙ c.in-Ok.is })

pub returns-in-Err-clause-notices : goal.returns-in-Err-clause-notices
returns-in-Err-clause-notices c on h peer known agrees =
    refused_by c.args.follower.now c.refuse.new.companion h peer c.args.reading c.args.bytes.now c.in-Err.field-0
    (sym (c.judge.ensures _ h known) ∙ c.in-Err.is) agrees c.refuse.ensures.keeps.1
