use Rattle.std.proofs.Common.{◌≡◌, drop}
use Rattle.css_sessions.specs.Kept.{talk_of}
use Rattle.css_sessions.proofs.news.has.Given as goal

abbrev pub invariant-loop-session : goal.invariant-loop-session
invariant-loop-session l = talk_of l.peer (drop l.session-index l.list) ≡ talk_of l.peer l.list
