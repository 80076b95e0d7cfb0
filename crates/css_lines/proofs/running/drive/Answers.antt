use Rattle.std.proofs.Common.{◌≡◌, List, ℕ, Option, Some, Result, Ok, Err}
use Rattle.std.specs.Prelude.{MatchResult, OnOk, IfErr}
use Rattle.css_lines.specs.declared.ending.Stop.{Stop}
use Rattle.css_lines.specs.Meaning.{Meaning}
use Rattle.css_lines.specs.Ending.{Finishes, Stops, RanToEnd, RanUntil}
use Rattle.css_lines.proofs.Endings.{ran_to_end, ran_until}
use Rattle.css_lines.proofs.running.drive.Goals as goal

-- by how the run ended
ran : {L T Cause : Type 0} (m : Meaning Cause) (stands : L → List (List ℕ) → Type 0)
    (left_old left holds_old holds_new : Option (List ℕ)) (lines : L) (result : Result T (Stop Cause))
    → OnOk result (Finishes m stands left_old left holds_old holds_new lines)
    → IfErr result (λ stop. Stops m left_old left holds_old holds_new stop)
    → (bytes : List ℕ) → left_old ≡ Some bytes → MatchResult result
    (λ _. RanToEnd m stands bytes left holds_old holds_new lines) (RanUntil m bytes left holds_old holds_new)
ran m stands left_old left holds_old holds_new lines (Ok x) done stopped bytes is =
    ran_to_end m stands left_old left holds_old holds_new lines done bytes is
ran m stands left_old left holds_old holds_new lines (Err stop) done stopped bytes is =
    ran_until m left_old left holds_old holds_new stop stopped bytes is

pub returns-clause-ran : goal.returns-clause-ran
returns-clause-ran g c bytes is =
    ran _ _ _ _ _ _ _ _ c.drive_pieces.ensures.done c.drive_pieces.ensures.stopped bytes is
