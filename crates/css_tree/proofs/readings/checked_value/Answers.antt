-- The two tests of the code are those of the definition.
use Rattle.std.proofs.Common.{rules}
use Rattle.css_tree.proofs.Stepwise.{beyond-product, small-product, beyond-ticks, read-ticks}
use Rattle.css_tree.proofs.readings.checked_value.Goals as goal

pub quotient-quotient-requires-clause-small : goal.quotient-quotient-requires-clause-small
quotient-quotient-requires-clause-small c =
    let small = small-product c.less-since.result c.factor-factor.result c.in-Some.product (search rules) in
    search (rules, small)

pub returns-in-None : goal.returns-in-None
returns-in-None c =
    beyond-product c.args.id c.args.gear c.args.value c.less-since.result c.factor-factor.result (search rules)
    (search rules) (search rules)

pub returns-in-None-tick : goal.returns-in-None-tick
returns-in-None-tick c =
    beyond-ticks c.args.id c.args.gear c.args.value c.less-since.result c.factor-factor.result c.in-Some.product
    c.divisor.result c.quotient-quotient.result c.more.result
    (record {
      since_is = search rules;
      factor_is = search rules;
      found_is = search rules;
      divisor_is = search rules;
      quotient_is = search rules;
      ticks_is = search rules;
    })
    (search rules)

pub returns-in-Some-tick : goal.returns-in-Some-tick
returns-in-Some-tick c =
    let read =
    read-ticks c.args.id c.args.gear c.args.value c.less-since.result c.factor-factor.result c.in-Some.product
    c.divisor.result c.quotient-quotient.result c.more.result c.in-Some-tick.ticks
    (record {
      since_is = search rules;
      factor_is = search rules;
      found_is = search rules;
      divisor_is = search rules;
      quotient_is = search rules;
      ticks_is = search rules;
    })
    (search rules) in
    search (rules, read)
