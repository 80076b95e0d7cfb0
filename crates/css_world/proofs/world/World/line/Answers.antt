-- A line that was shown, read and carried out is one more.
use Rattle.css_world.specs.Standing.{World, Means, TellsTruth}
use Rattle.std.proofs.Common.{◌∷◌, ℕ, refl, sym, ap, ◌∙◌, Err, subst}
use Rattle.css_world.proofs.Names.{result_and, err_from_is_err_and, Line, Numbered, reading_tested}
use Rattle.css_world.proofs.Going.{Steps, world_as, lines_next, means_fault, not_ok, may_take, stood, is_second}
use Rattle.css_world.proofs.Going.{line_answers, line_stands, line_true}
use Rattle.css_world.proofs.world.World.line.Goals as goal

-- a line of a number
abbrev numbered : ℕ → Line → Numbered
numbered number line = record { number = number; line = line }

steps : (c : goal.After-carry_out)
    → Steps c.self.inside.header c.self.inside.clocks c.show.new.self c.read.new.self c.self.inside.ends
    c.carry_out.new.self c.args.out.now.items c.carry_out.new.out.items c.carry_out.result
    (numbered c.args.number c.args.line)
steps c = record {
  range = c.requires.line;
  of = is_second c.self.view_is refl c.requires.of;
  shown_ok = c.in_ok-show.ensures.verdict;
  shown_to = c.in_ok-show.ensures.stands;
  read_ok = c.in_ok-read.ensures.verdict;
  read_to = c.in_ok-read.ensures.stands;
  prints = c.carry_out.ensures.prints;
}

pub show-requires-clause-of : goal.show-requires-clause-of
show-requires-clause-of c =
    is_second c.self.view_is (stood c.self.view_is c.requires.stands.1).clocks.count c.requires.of

pub show-requires-clause-next : goal.show-requires-clause-next
show-requires-clause-next c =
    lines_next _ c.requires.stands.0 c.args.number (stood c.self.view_is c.requires.stands.1) c.requires.stands.2

pub read-requires : goal.read-requires
read-requires c =
    let stands = stood c.self.view_is c.requires.stands.1 in
    record { of = is_second c.self.view_is (c.in_ok-show.ensures.count ∙ stands.clocks.count) c.requires.of }

pub carry_out-requires-clause-of : goal.carry_out-requires-clause-of
carry_out-requires-clause-of c =
    is_second c.self.view_is (stood c.self.view_is c.requires.stands.1).ready.are.count c.requires.of

pub carry_out-requires-clause-ready : goal.carry_out-requires-clause-ready
carry_out-requires-clause-ready c =
    let header = c.self.inside.header in
    let lines = c.requires.stands.0 in
    let stands = stood c.self.view_is c.requires.stands.1 in (
      header,
      lines,
      stands.ready,
      may_take header lines (numbered c.args.number c.args.line)
          (sym (c.in_ok-read.ensures.verdict header (numbered c.args.number c.args.line ∷ lines) lines
          (c.in_ok-show.ensures.stands header lines stands.clocks))),
    )

pub returns-in_err-show-clause-answers : goal.returns-in_err-show-clause-answers
returns-in_err-show-clause-answers c =
    let now : Numbered = numbered c.args.number c.args.line in
    let exit = err_from_is_err_and c.from_residual.result c.from_residual.ensures.1 in
    subst (λ (w : World). Means w c.args.out.now.items c.args.out.now.items c.from_residual.result now) c.self.view_is
    (means_fault (world_as c.self.inside.header c.self.inside.clocks c.self.inside.ends) c.args.out.now.items
    c.from_residual.result c.in_err-show.field-0.0 now (exit.1 ∙ ap Err exit.2) (λ lines stands.
    ap (λ r. result_and r (reading_tested c.self.inside.header lines now))
    (sym (c.in_err-show.ensures.verdict c.self.inside.header lines stands.clocks))))

pub returns-in_err-read-clause-answers : goal.returns-in_err-read-clause-answers
returns-in_err-read-clause-answers c =
    let now : Numbered = numbered c.args.number c.args.line in
    let header = c.self.inside.header in
    let exit = err_from_is_err_and c.from_residual-in_err-read.result c.from_residual-in_err-read.ensures.1 in
    subst (λ (w : World). Means w c.args.out.now.items c.args.out.now.items c.from_residual-in_err-read.result now)
    c.self.view_is
    (means_fault (world_as header c.self.inside.clocks c.self.inside.ends) c.args.out.now.items
    c.from_residual-in_err-read.result c.in_err-read.field-0.0 now (exit.1 ∙ ap Err exit.2) (λ lines stands.
    ap (λ r. result_and r (reading_tested header lines now))
    (sym (c.in_ok-show.ensures.verdict header lines stands.clocks))
    ∙ sym (c.in_err-read.ensures.verdict header (now ∷ lines) lines
    (c.in_ok-show.ensures.stands header lines stands.clocks))))

pub returns-in_err-show-clause-stands : goal.returns-in_err-show-clause-stands
returns-in_err-show-clause-stands c = λ lines stands next.
    not_ok c.from_residual.result _ _ c.from_residual.ensures.1

pub returns-in_err-read-clause-stands : goal.returns-in_err-read-clause-stands
returns-in_err-read-clause-stands c = λ lines stands next.
    not_ok c.from_residual-in_err-read.result _ _ c.from_residual-in_err-read.ensures.1

pub returns-in_err-show-clause-truth : goal.returns-in_err-show-clause-truth
returns-in_err-show-clause-truth c = λ lines stands next.
    not_ok c.from_residual.result _ _ c.from_residual.ensures.1

pub returns-in_err-read-clause-truth : goal.returns-in_err-read-clause-truth
returns-in_err-read-clause-truth c = λ lines stands next.
    not_ok c.from_residual-in_err-read.result _ _ c.from_residual-in_err-read.ensures.1

pub returns-clause-answers : goal.returns-clause-answers
returns-clause-answers c =
    subst (λ (w : World). Means w c.args.out.now.items c.carry_out.new.out.items c.carry_out.result
    (numbered c.args.number c.args.line)) c.self.view_is (line_answers c.carry_out.result (steps c))

pub returns-clause-stands : goal.returns-clause-stands
returns-clause-stands c = rw c.self.view_is at (line_stands c.carry_out.result (steps c))

pub returns-clause-truth : goal.returns-clause-truth
returns-clause-truth c =
    subst (λ (w : World). TellsTruth w c.carry_out.result (numbered c.args.number c.args.line)) c.self.view_is
    (line_true c.carry_out.result (steps c))
