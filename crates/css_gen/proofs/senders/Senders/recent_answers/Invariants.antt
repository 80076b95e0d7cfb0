use Rattle.std.proofs.Common.{◌≡◌, ◌≤◌, ◌*◌, ◌+◌, min, length}
use Rattle.css_gen.specs.Crowd.{datagrams}
use Rattle.css_gen.proofs.senders.Senders.recent_answers.Given as goal

abbrev pub invariant-takes : goal.invariant-takes
invariant-takes l =
    (l.found ≤ 4) × (l.take ≤ l.answers)
    × (min (2 * l.found + length (datagrams l.who l.self l.take)) 8
    ≡ min (length (datagrams l.who l.self l.answers)) 8)

abbrev pub decreases-takes : goal.decreases-takes
decreases-takes l = l.take
