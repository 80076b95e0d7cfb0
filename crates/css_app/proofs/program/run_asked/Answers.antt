-- What becomes of the words, from what their command does.
use Rattle.std.proofs.Common.{refl, rules}
use Rattle.css_app.proofs.Commands.{lacks_unused}
use Rattle.css_app.proofs.program.run_asked.Goals as goal

pub returns-in-Ok : goal.returns-in-Ok
returns-in-Ok g c = rw c.in-Ok.ensures.value (search rules)

pub returns-in-Err-Memory-clause-does : goal.returns-in-Err-Memory-clause-does
returns-in-Err-Memory-clause-does g c = lacks_unused _ _ refl
