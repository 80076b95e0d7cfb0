use Rattle.std.proofs.Common.{ap, ◌∙◌, subst, sym, length}
use Rattle.css_schedule.specs.declared.line.Line.{Line}
use Rattle.css_schedule.specs.Ranges.{IsLine, IsSecond}
use Rattle.css_gen.specs.Crowd.{happening_of, line_of_turn}
use Rattle.css_gen.specs.Standing.{CanTurn, IsKnown}
use Rattle.css_gen.specs.declared.crowd.Turn.{Turn}
use Rattle.css_gen.proofs.Crowds.{turn-can, next-known}
use Rattle.css_gen.proofs.CrowdRanges.{next-range_of, next-second}
use Rattle.css_gen.proofs.crowd.Crowd.next_text.Goals as goal

pub line-line-requires : goal.line-line-requires
line-line-requires c = subst (CanTurn c.args.self.now) (sym c.in_ok-turn.ensures) (turn-can c.args.self.now c.requires)

pub print_line-requires-clause-line : goal.print_line-requires-clause-line
print_line-requires-clause-line c =
    let is = c.line-line.ensures.line
    ∙ ap (λ (turn : Turn). line_of_turn turn (happening_of c.args.self.now.askers turn).verb) c.in_ok-turn.ensures in
    subst IsLine (sym is) (next-range_of c.args.self.now c.requires)

pub print_line-requires-clause-of : goal.print_line-requires-clause-of
print_line-requires-clause-of c =
    let is = c.line-line.ensures.line
    ∙ ap (λ (turn : Turn). line_of_turn turn (happening_of c.args.self.now.askers turn).verb) c.in_ok-turn.ensures in
    subst (IsSecond 16) (sym is) (next-second c.args.self.now c.requires)

pub remember-requires : goal.remember-requires
remember-requires c =
    let is = c.line-line.ensures.line
    ∙ ap (λ (turn : Turn). line_of_turn turn (happening_of c.args.self.now.askers turn).verb) c.in_ok-turn.ensures in
    subst (λ (line : Line). IsKnown (length c.args.self.now.senders) line.verb) (sym is)
    (next-known c.args.self.now c.requires)
