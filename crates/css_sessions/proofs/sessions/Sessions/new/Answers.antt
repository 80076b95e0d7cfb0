use Rattle.std.proofs.Common.{[], sym, subst, rules}
use Rattle.css_sessions.specs.Told.{IsReadable}
use Rattle.css_sessions.proofs.ReadBack.{state_ready}
use Rattle.css_sessions.proofs.sessions.Sessions.new.Goals as goal

pub invariant_of-result : goal.invariant_of-result
invariant_of-result c = (subst IsReadable (sym c.empty.ensures.value) (state_ready [] tt), search rules)
