-- what was said of the cues so far
use Rattle.std.proofs.Common.{◌≡◌, flat_map, take}
use Rattle.css_follow.specs.Standing.{news_at}
use Rattle.css_follow.proofs.waiting.announcement.Given as goal

abbrev pub invariant-loop-waiting : goal.invariant-loop-waiting
invariant-loop-waiting l = l.out ≡ flat_map (news_at l.report) (take l.waiting-index l.list)
