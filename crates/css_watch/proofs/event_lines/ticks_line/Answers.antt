use Rattle.std.proofs.Common.{◌≡◌, ◌∙◌, ap, subst}
use Rattle.std.specs.Prelude.{IfOk}
use Rattle.css_num.specs.Spans.{Interval}
use Rattle.css_watch_lines.specs.Lines.{Known, line_text}
use Rattle.css_watch_lines.specs.declared.known.Known.{Known as Ticking}
use Rattle.css_watch.specs.Telling.{known_by}
use Rattle.css_watch.proofs.Lines as telling
use Rattle.css_watch.proofs.event_lines.ticks_line.Goals as goal

pub returns : goal.returns
returns c history s =
    let P : Ticking → Type 0 = λ x. IfOk c.known_line.result (λ text. text ≡ line_text (Known c.args.number
    c.args.reading x)) in
    let K : Interval → Ticking = λ x. known_by c.args.ticks x c.in-Some.wall c.in-Some-answer.answer c.in-Ok.timing in
    telling.ticks_as c.args.number c.args.reading c.args.ticks c.args.said.now c.in-Some.wall c.in-Some-answer.answer
    c.in-Ok.timing _ _ _
    c.known_line.result (c.in-Some.ensures.span _ history s) (c.in-Some-answer.ensures _ history s)
    (c.in-Ok.ensures.meaning history s)
    (subst P (c.known_by.ensures ∙ ap K c.agreed_in-agreed.ensures) c.known_line.ensures.text)
