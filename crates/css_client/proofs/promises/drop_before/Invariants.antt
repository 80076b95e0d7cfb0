-- Those that are left out so far were all before.
use Rattle.std.proofs.Common.{◌≡◌}
use Rattle.std.specs.Prelude.{not, nat_lt}
use Rattle.std.specs.List.{filter}
use Rattle.std.specs.BTreeMap.{btree_map_len}
use Rattle.css_client.proofs.promises.drop_before.Given as goal

abbrev pub invariant-loop-landings : goal.invariant-loop-landings
invariant-loop-landings l = filter (λ e. not (nat_lt e.0.asked l.oldest)) l.landings.entries
    ≡ filter (λ e. not (nat_lt e.0.asked l.oldest)) l.initial.landings.entries

-- each turn leaves one out
abbrev pub decreases-loop-landings : goal.decreases-loop-landings
decreases-loop-landings l = btree_map_len l.landings
