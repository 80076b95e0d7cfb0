use Rattle.std.proofs.Common.{◌≡◌, sym, subst, Some}
use Rattle.css_tv.specs.declared.event.TvEvent.{TvEvent}
use Rattle.css_drive.specs.CompanionStanding.{shown}
use Rattle.css_drive.specs.TvProgress.{Turned, event_of}
use Rattle.css_drive.specs.TvStanding.{Stops, past_line}
use Rattle.css_drive.proofs.TvSteps.{heard_of, owing, passed_over, line_happens, line_refused}
use Rattle.css_drive.proofs.tv_lines.carry_out.Goals as goal

pub returns-in-Ok-None : goal.returns-in-Ok-None
returns-in-Ok-None g c from air lines x = passed_over x (rw c.in-Ok-None.field-0-is at c.in-Ok-None.ensures.value)

pub returns-in-Ok : goal.returns-in-Ok
returns-in-Ok g c from air lines x =
    let e : TvEvent = c.in-Ok-Some.event in
    let is : Some e ≡ event_of c.args.reading c.args.line.now.verb =
    rw c.in-Ok-Some.field-0-is at c.in-Ok-Some.ensures.value in
    let done = rw c.new-outs.ensures.items at c.in-Ok.ensures.outcome in
    c.put_all.ensures (Turned c.args.reading) from (past_line air) (owing (Turned c.args.reading)
    (sym c.deref.ensures.value)
    (heard_of (line_happens x e is c.step.new.self.stage c.step.new.out.items done) c.step.new.self c.step.new.out.items
    done c.in-Ok.ensures.stands c.in-Ok.ensures.server))

pub returns : goal.returns
returns g c from air lines x =
    let refused = rw c.in-Err-Player.field-0-is at c.in-Err-Player.ensures.outcome in
    subst (Stops from (shown (g.O.Outside.told c.args.outside.now) (g.O.Outside.counts c.args.outside.now))) (cc)
    (line_refused x c.in-Ok-Some.event (rw c.in-Ok-Some.field-0-is at c.in-Ok-Some.ensures.value)
    c.in-Err-Player.fault refused.2)
