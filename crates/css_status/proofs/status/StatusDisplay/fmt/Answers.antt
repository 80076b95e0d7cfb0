-- What is written piece by piece is the words of the status.
use Rattle.std.proofs.Common.{append_assoc}
use Rattle.std.proofs.Output.{has_written_of_eq}
use Rattle.css_status.proofs.status.StatusDisplay.fmt.Goals as goal

pub returns-in-Broken-clause-writes : goal.returns-in-Broken-clause-writes
returns-in-Broken-clause-writes g c =
    rw c.in-Broken.is (λ plain ok.
    has_written_of_eq _ _ _ _ _ (simp append_assoc) (c.write-in-Broken.ensures.writes plain ok))
