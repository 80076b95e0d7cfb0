-- The words in which contracts say exactly what a call answers and what it leaves. What is expected is a total
-- definition, a value or the fault that comes first, and is never want of memory. Want of memory has no cause that a
-- contract could name, so it may come in place of anything that is expected.
use Rattle.std.specs.Prelude.{◌≡◌, ◌⊎◌, Result, Ok, Err, MatchResult}

-- the call answers what is expected, where `view` shows its value, or it answers want of memory
abbrev pub GivesBy : {T U E : Type 0} → (T → U) → E → Result T E → Result U E → Type 0
GivesBy view memory result expected =
    MatchResult result (λ value. expected ≡ Ok (view value)) (λ fault. (expected ≡ Err fault) ⊎ (fault ≡ memory))

-- the call turns the old state into the expected one, or it answers the expected fault and the state is as it was
abbrev pub Leaves : {T S E : Type 0} → Result T E → S → S → Result S E → Type 0
Leaves result old new expected =
    MatchResult result (λ _. expected ≡ Ok new) (λ fault. (new ≡ old) × (expected ≡ Err fault))

-- the same of a call that may answer want of memory too, after which the state is as it was as well
abbrev pub LeavesBy : {T S E : Type 0} → E → Result T E → S → S → Result S E → Type 0
LeavesBy memory result old new expected =
    MatchResult result (λ _. expected ≡ Ok new) (λ fault. (new ≡ old) × ((expected ≡ Err fault) ⊎ (fault ≡ memory)))
