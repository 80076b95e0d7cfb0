use Rattle.std.proofs.Common.{◌≡◌, ◌≤◌, ◌+◌, ◌++◌}
use Rattle.std.specs.Prelude.{map, reverse}
use Rattle.std.specs.Vec.{vec_len, vec_capacity}
use Rattle.css_tv.specs.Outcomes.{say}
use Rattle.css_tv.proofs.publishing.deliver.Given as goal

abbrev pub invariant-loop-one : goal.invariant-loop-one
invariant-loop-one l = record {
  told : l.out.items ++ map say (reverse l.said.items) ≡ l.fn.out.items ++ map say l.fn.said.items;
  room : vec_len l.out + vec_len l.said ≤ vec_capacity l.out;
}

abbrev pub decreases-loop-one : goal.decreases-loop-one
decreases-loop-one l = goal.left-loop-one l
