-- Nobody stands at any place.
use Rattle.std.proofs.Common.{◌≡◌, ◌%◌, ℕ, Option, None, arith, get_or, replicate}
use Rattle.std.proofs.lemmas.List.{get_or-replicate}
use Rattle.std.proofs.lemmas.Nat.{mod_below}
use Rattle.css_devices.specs.declared.sender.Sender.{Sender}
use Rattle.css_devices.proofs.senders.Senders.new.Goals as goal

nobody_at : (peer : ℕ) → get_or {A = Option Sender} (replicate 64 None) (peer % 64) None ≡ None
nobody_at peer = get_or-replicate 64 (peer % 64) None None (mod_below peer 64 (omega arith))

pub returns-clause-nobody : goal.returns-clause-nobody
returns-clause-nobody c peer known means = absurd (cc (nobody_at peer, means.kept))
