use Rattle.std.proofs.Common.{◌≡◌, arith, sym, ◌∙◌, vec_len}
use Rattle.std.proofs.lemmas.Bool.{eqb-true, eqb-false}
use Rattle.std.proofs.lemmas.List.{nil_from_length}
use Rattle.css_lines.proofs.Steps.{all_taken, takes_last}
use Rattle.css_lines.proofs.running.take_last.Goals as goal

pub returns-then-is_empty-clause-all : goal.returns-then-is_empty-clause-all
returns-then-is_empty-clause-all g c start read p =
    let none : vec_len c.args.pending.now.text ≡ 0 =
    eqb-true (vec_len c.args.pending.now.text) 0 (sym c.is_empty.ensures ∙ c.if-is_empty.true) in
    all_taken _ _ start read _ _ _ p (nil_from_length _ (omega arith))

pub returns-clause-all : goal.returns-clause-all
returns-clause-all g c start read p =
    let some = eqb-false (vec_len c.args.pending.now.text) 0 (sym c.is_empty.ensures ∙ c.if-is_empty.false) in
    takes_last _ _ start read _ _ _ p _ _ _ _ (omega (arith, some))
    (c.take_line.ensures.taken _ p.stood p.taken) c.take_line.ensures.stands c.take_line.ensures.number
