use Rattle.std.proofs.Common.{length, arith, ap, sym, ◌∙◌}
use Rattle.css_gen.proofs.Landing.{own-length, other-last, none-made}
use Rattle.css_gen.proofs.senders.Senders.recent_answers.Goals as goal
use Rattle.css_gen.proofs.senders.Senders.recent_answers.Goals.{then-at-who, else-at-who}

pub takes-init : goal.takes-init
takes-init c = (omega arith, omega arith, omega arith)

pub takes-preserved : goal.takes-preserved
takes-preserved c =
    elim c.if-at-who.branch [
      | then-at-who w ↦
          let own = sym c.at.ensures ∙ w.if-at-who.true in
          let many = own-length c.args.who c.args.self.now c.takes.take c.takes-test.true own in
          (omega arith, omega arith, omega (arith, many, c.takes.invariant.2, w.found-is))
      | else-at-who w ↦
          let same = ap length (other-last c.args.who c.args.self.now c.takes.take c.takes-test.true
          (λ e. w.if-at-who.false (c.at.ensures ∙ e))) in
          (omega arith, omega arith, omega (arith, same, c.takes.invariant.2, w.found-is))
    ]

pub returns-after-takes-clause-many : goal.returns-after-takes-clause-many
returns-after-takes-clause-many c =
    let none = none-made c.args.who c.args.self.now c.takes.take c.takes-test.false in
    omega (arith, none, c.takes.invariant.2)
