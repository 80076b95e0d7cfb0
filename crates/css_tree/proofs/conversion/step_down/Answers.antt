-- Both ends are read, the first one first.
use Rattle.std.proofs.Common.{◌≡◌, rules}
use Rattle.std.specs.Prelude.{Ok}
use Rattle.css_tree.specs.Trees.{gear_of, checked_step}
use Rattle.css_tree.proofs.conversion.step_down.Goals as goal

pub returns-in_err-last-clause-value : goal.returns-in_err-last-clause-value
returns-in_err-last-clause-value c =
    let first : checked_step c.args.id (gear_of c.args.nodes.now c.args.id) c.args.span.lo ≡ Ok c.in_ok-first.first =
    search rules in
    rw first (search rules)

pub returns-clause-value : goal.returns-clause-value
returns-clause-value c =
    let first : checked_step c.args.id (gear_of c.args.nodes.now c.args.id) c.args.span.lo ≡ Ok c.in_ok-first.first =
    search rules in
    let last : checked_step c.args.id (gear_of c.args.nodes.now c.args.id) c.args.span.hi ≡ Ok c.in_ok-last.last =
    search rules in
    rw (first, last) (search rules)
