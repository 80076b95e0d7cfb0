use Rattle.std.proofs.Common.{◌∙◌, ap, sym, refl, ℕ, List, []}
use Rattle.css_model.specs.declared.Why.TheVariants as why
use Rattle.css_server.specs.Tickets.{Server, received}
use Rattle.css_tv.specs.Stages.{Television}
use Rattle.css_drive.specs.TvProgress.{Taken, Received, Served, ticketed}
use Rattle.css_drive.specs.TvStanding.{progress_at, with_tv}
use Rattle.css_drive.proofs.TvSteps.{airs_as, read_on}
use Rattle.css_drive.proofs.tv_calls.receive.Goals as goal

pub returns-in-Err : goal.returns-in-Err
returns-in-Err g c taken e from air s =
    let r = c.in_ok-reading.reading in
    let peer : ℕ = c.args.peer in
    let x = read_on s why.Take refl r c.in_ok-reading.ensures.told in
    let p = progress_at from.run (with_tv air c.args.tv.now) (Taken peer taken) [] x.events in
    let same = c.in-Err.ensures.err in
    airs_as x (ap (λ (t : Television). t.stage) same)
    (ap (ticketed peer r p) (ap (λ (b : List ℕ). received p.server b r) e ∙ sym c.in-Err.ensures.value)
    ∙ ap (λ (t : Television). record p { place = Served; server = t.server }) (sym same))

pub returns-in-Ok : goal.returns-in-Ok
returns-in-Ok g c taken e from air s =
    let r = c.in_ok-reading.reading in
    let peer : ℕ = c.args.peer in
    let x = read_on s why.Take refl r c.in_ok-reading.ensures.told in
    let p = progress_at from.run (with_tv air c.args.tv.now) (Taken peer taken) [] x.events in
    c.answer.ensures from air (airs_as x c.in-Ok.ensures.stage
    (ap (ticketed peer r p) (ap (λ (b : List ℕ). received p.server b r) e ∙ sym c.in-Ok.ensures.value)
    ∙ ap (λ (y : Server). record p { place = Received peer c.in-Ok.ticket; server = y }) (sym c.in-Ok.ensures.ok)))
