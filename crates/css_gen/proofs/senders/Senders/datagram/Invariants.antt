use Rattle.std.proofs.Common.{◌≡◌, ◌≤◌, ◌<◌, length, slice_index}
use Rattle.css_gen.specs.Crowd.{datagrams}
use Rattle.css_gen.proofs.senders.Senders.datagram.Given as goal

abbrev pub invariant-takes : goal.invariant-takes
invariant-takes l =
    (l.take ≤ l.answers) × (l.before < length (datagrams l.who l.self l.take))
    × (slice_index (datagrams l.who l.self l.take) l.before ≡ slice_index (datagrams l.who l.self l.answers) l.back)

abbrev pub decreases-takes : goal.decreases-takes
decreases-takes l = l.take
