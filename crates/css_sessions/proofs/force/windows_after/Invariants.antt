use Rattle.std.proofs.Common.{◌≡◌, take}
use Rattle.std.specs.Prelude.{map}
use Rattle.css_sessions.specs.Kept.{windows_in, windowed_at, by_presentation}
use Rattle.css_sessions.proofs.force.windows_after.Given as goal

abbrev pub invariant-loop-session : goal.invariant-loop-session
invariant-loop-session l =
    l.windows.items ≡ windows_in
    (map (windowed_at l.peer (by_presentation l.presentation l.player)) (take l.session-index l.list))
