use Rattle.std.proofs.Common.{◌-◌, length, arith, ap, sym, ◌∙◌, ℕ, List, slice_index}
use Rattle.css_gen.specs.Crowd.{datagrams}
use Rattle.css_gen.proofs.Landing.{own-length, own-newest, own-older, other-last}
use Rattle.css_gen.proofs.senders.Senders.datagram.Goals as goal
use Rattle.css_gen.proofs.senders.Senders.datagram.Goals.{then-at-who+else-before-lt2, else-at-who}

pub returns-then-before-lt2 : goal.returns-then-before-lt2
returns-then-before-lt2 c =
    own-newest c.args.who c.args.self.now c.takes.take c.takes.before c.takes-test.true
    (sym c.at.ensures ∙ c.if-at-who.true) c.if-before-lt2.true
    ∙ c.takes.invariant.2

pub takes-preserved : goal.takes-preserved
takes-preserved c =
    elim c.if-at-who.branch [
      | then-at-who+else-before-lt2 w ↦
          let own = sym c.at.ensures ∙ w.if-at-who.true in
          let many = own-length c.args.who c.args.self.now c.takes.take c.takes-test.true own in
          let older = own-older c.args.who c.args.self.now c.takes.take c.takes.before c.takes-test.true own
          (omega (arith, w.if-before-lt2.false)) in (
            omega arith,
            omega (arith, many, c.takes.invariant.1, w.before-is, w.if-before-lt2.false),
            ap (slice_index (datagrams c.args.who c.args.self.now (c.takes.take - 1))) w.before-is
                ∙ sym older ∙ c.takes.invariant.2,
          )
      | else-at-who w ↦
          let same = other-last c.args.who c.args.self.now c.takes.take c.takes-test.true
          (λ e. w.if-at-who.false (c.at.ensures ∙ e)) in
          let many = ap length same in (
            omega arith,
            omega (arith, many, c.takes.invariant.1, w.before-is),
            ap (slice_index (datagrams c.args.who c.args.self.now (c.takes.take - 1))) w.before-is
                ∙ sym (ap (λ (list : List ℕ). slice_index list c.takes.before) same) ∙ c.takes.invariant.2,
          )
    ]
