-- A text is in flight to the companion that it is for.
use Rattle.std.proofs.Common.{ℕ, ◌≤◌, length, arith}
use Rattle.css_world.proofs.Delivered.{none_told, ok_then, lane_told, lane_kept}
use Rattle.css_world.proofs.lanes.Lanes.tell_one.Goals as goal
use Rattle.css_world.proofs.lanes.Lanes.tell_one.Goals.{then-who-eq0-via-then-who-eq0}
use Rattle.css_world.proofs.lanes.Lanes.tell_one.Goals.{then-who-eq0-via-else-who-eq0+then-who-len}

pub returns-then-who-eq0-clause-told : goal.returns-then-who-eq0-clause-told
returns-then-who-eq0-clause-told c =
    none_told c.args.out c.told_companion-who.result c.args.self.now.list.items c.told_companion-who.ensures
    (λ first within. elim c.then-who-eq0.branch [
      | then-who-eq0-via-then-who-eq0 w ↦ omega (arith, first)
      | then-who-eq0-via-else-who-eq0+then-who-len w ↦ omega (arith, within)
    ])

pub returns-clause-told : goal.returns-clause-told
returns-clause-told c =
    let who : ℕ = c.told_companion-who.result in
    let old = c.args.self.now.list.items in
    let first : 1 ≤ who = omega arith in
    let within : who ≤ length old = omega arith in
    ok_then c.tell.result c.tell.ensures.told (λ taken.
    lane_told c.args.out who old c.lane-lane.result.now c.tell.new.self c.told_companion-who.ensures first within
    c.lane-lane.ensures.value taken)

pub returns-clause-rest : goal.returns-clause-rest
returns-clause-rest c =
    lane_kept c.told_companion-who.result c.args.self.now.list.items c.lane-lane.result.now c.tell.new.self
    c.lane-lane.ensures.value c.tell.ensures.rest
