-- One more is dropped after the place.
use Rattle.std.proofs.Common.{◌≡◌, ◌+◌, drop, sym}
use Rattle.std.proofs.lemmas.List.{drop-drop}
use Rattle.css_memory.proofs.places.past.Goals as goal

pub returns-then-at-items-clause-left : goal.returns-then-at-items-clause-left
returns-then-at-items-clause-left g c = sym (drop-drop 1 c.args.at c.args.items.now)
