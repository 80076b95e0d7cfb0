-- Lines that are written one after the other.
use Rattle.std.proofs.Common.{◌≡◌, ℕ, ◌+◌, List, ◌++◌, take, drop, Option, Result, Ok, Err, ap, ◌∙◌, subst}
use Rattle.std.proofs.Common.{◌≤◌, length, min, arith}
use Rattle.std.proofs.KnownBytes.{Appends-trans}
use Rattle.std.proofs.Math.Seq.{take-add}
use Rattle.std.proofs.lemmas.List.{take-append-drop, length-take, length-drop}
use Rattle.std.specs.Prelude.{OnErr}
use Rattle.std.specs.Io.KnownBytes.{Appends}
use Rattle.css_outside.specs.Bytes.{AppendsPrefix}
use Rattle.css_watch.proofs.Telling.{prefix_more, prefix_on}

-- a line after the first n bytes
pub line_more : (a b c : Option (List ℕ)) (n m : ℕ) (bytes line : List ℕ) → Appends a b (take n bytes)
    → line ≡ take m (drop n bytes) → Appends b c line → Appends a c (take (n + m) bytes)
line_more a b c n m bytes line p is q =
    rw (take-add n m bytes) (Appends-trans a b c (take n bytes) (take m (drop n bytes)) p (subst (Appends b c) is q))

-- a part of a line after the first n bytes
pub line_part : (a b c : Option (List ℕ)) (n m : ℕ) (bytes line : List ℕ) → Appends a b (take n bytes)
    → line ≡ take m (drop n bytes) → AppendsPrefix b c line → AppendsPrefix a c bytes
line_part a b c n m bytes line p is q =
    let rest = drop m (drop n bytes) in
    let front = subst (AppendsPrefix b c) is q in
    let whole = ap (λ x. take n bytes ++ x) (take-append-drop m (drop n bytes)) ∙ take-append-drop n bytes in
    subst (AppendsPrefix a c) whole
    (prefix_on a b c (take n bytes) (take m (drop n bytes) ++ rest) p
    (prefix_more b c (take m (drop n bytes)) rest front))

-- the line ends where the bytes end, or before
pub line_fits : (n : ℕ) (bytes line : List ℕ) → n ≤ length bytes → line ≡ take (length line) (drop n bytes)
    → n + length line ≤ length bytes
line_fits n bytes line le is =
    let size = ap length is ∙ length-take (length line) (drop n bytes) ∙ ap (min (length line)) (length-drop n bytes)
    in omega (arith, size, le)

pub on_err_from : {T E P : Type 0} (r : Result T E) → P → OnErr r P
on_err_from (Ok x) p = tt
on_err_from (Err e) p = p
