-- Lists that begin as before.
use Rattle.std.proofs.Common.{◌≡◌, List, ◌++◌, length, take, drop, append_assoc, ap, sym, ◌∙◌}
use Rattle.std.specs.Prelude.{Result, Ok, Err, OnOk, OnErr}
use Rattle.css_world.proofs.Names.{take-append_seam, take-append-drop}

-- a list that begins with a longer one begins with what that begins with
pub begins : {A : Type 0} (first more longer whole : List A) → longer ≡ first ++ more
    → take (length longer) whole ≡ longer → take (length first) whole ≡ first
begins first more longer whole is begun =
    let parts : whole ≡ first ++ (more ++ drop (length longer) whole) =
    sym (take-append-drop (length longer) whole) ∙ ap (λ front. front ++ drop (length longer) whole) (begun ∙ is)
    ∙ append_assoc first more (drop (length longer) whole) in
    ap (take (length first)) parts ∙ take-append_seam first (more ++ drop (length longer) whole)

-- what follows from what holds after a success
pub on_ok : {T E : Type 0} {P Q : Type 0} (result : Result T E) → (P → Q) → OnOk result P → OnOk result Q
on_ok (Ok x) f p = f p
on_ok (Err e) f p = tt

-- and after a fault
pub on_err : {T E : Type 0} {P Q : Type 0} (result : Result T E) → (P → Q) → OnErr result P → OnErr result Q
on_err (Ok x) f p = tt
on_err (Err e) f p = f p

-- what holds at either end holds after a fault
pub at_err : {T E : Type 0} {P : Type 0} (result : Result T E) → P → OnErr result P
at_err (Ok x) p = tt
at_err (Err e) p = p
