-- What was written of the front of some bytes was written of all of them.
use Rattle.std.proofs.Common.{◌≡◌, ◌≤◌, ◌++◌, ℕ, List, Option, Result, Ok, Err, length, arith, length-append}
use Rattle.std.proofs.lemmas.List.{take-append-le}
use Rattle.std.specs.Io.{WritesAtMost}
use Rattle.std.specs.Io.KnownBytes.{WriteAppends}
use Rattle.css_outside.specs.Bytes.{IsPrefix}

pub bounded : {E : Type 0} → (front whole : List ℕ) (result : Result ℕ E) → IsPrefix front whole
    → WritesAtMost result front → WritesAtMost result whole
bounded front whole (Ok count) (rest, is) bound = rw is (omega (arith, length-append front rest, bound))
bounded front whole (Err error) prefix bound = tt

pub written : {E : Type 0} → (front whole : List ℕ) (old new : Option (List ℕ)) (result : Result ℕ E)
    → IsPrefix front whole → WritesAtMost result front
    → WriteAppends old new result front → WriteAppends old new result whole
written front whole old new (Ok count) (rest, is) bound appended =
    let within : count ≤ length front = bound in rw (is, take-append-le count front rest within) appended
written front whole old new (Err error) prefix bound kept = kept
