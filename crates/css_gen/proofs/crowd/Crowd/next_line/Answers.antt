use Rattle.std.proofs.Common.{ap, ◌∙◌, subst, sym, length}
use Rattle.css_schedule.specs.declared.line.Line.{Line}
use Rattle.css_gen.specs.Crowd.{happening_of, line_of_turn}
use Rattle.css_gen.specs.Standing.{CanTurn, IsKnown}
use Rattle.css_gen.specs.declared.crowd.Turn.{Turn}
use Rattle.css_gen.proofs.Crowds.{turn-can, next-known}
use Rattle.css_gen.proofs.crowd.Crowd.next_line.Goals as goal

pub line-line-requires : goal.line-line-requires
line-line-requires c = subst (CanTurn c.args.self.now) (sym c.in_ok-turn.ensures) (turn-can c.args.self.now c.requires)

pub remember-requires : goal.remember-requires
remember-requires c =
    let is = c.line-line.ensures.line
    ∙ ap (λ (turn : Turn). line_of_turn turn (happening_of c.args.self.now.askers turn).verb) c.in_ok-turn.ensures in
    subst (λ (line : Line). IsKnown (length c.args.self.now.senders) line.verb) (sym is)
    (next-known c.args.self.now c.requires)
