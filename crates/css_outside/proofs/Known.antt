-- Steps of what is known of a device's bytes.
use Rattle.std.proofs.Common.{◌≡◌, ℕ, ◌+◌, ◌≤◌, List, [], ◌++◌, length, take, drop, Option, Some, None}
use Rattle.std.proofs.Common.{Ok, Err, Result, sym, ◌∙◌, ap, append_assoc, append-nil, refl, arith}
use Rattle.std.proofs.Math.Seq.{take-add}
use Rattle.std.proofs.lemmas.List.{take-append-drop, take_at, drop-drop, length-take-le}
use Rattle.std.specs.Prelude.{OnErr}
use Rattle.std.specs.Io.KnownBytes.{Appends, Consumes, Keeps}
use Rattle.css_outside.specs.declared.fault.OutFault.TheVariants as fault
use Rattle.css_outside.specs.declared.fault.OutFault.{OutFault}
use Rattle.css_outside.specs.declared.fault.Failed as plain
use Rattle.css_outside.specs.Bytes.{AppendsPrefix}
use Rattle.css_outside.specs.Faults.{CountsReadFaults, CountsCall}

-- nothing was appended
pub appends_none : (a : Option (List ℕ)) → Appends a a []
appends_none None = tt
appends_none (Some xs) = sym (append-nil xs)

-- two parts one after the other
pub appends_more : (a b c : Option (List ℕ)) (x y : List ℕ) → Appends a b x → Appends b c y → Appends a c (x ++ y)
appends_more None b c x y p q = tt
appends_more (Some xs) None c x y p q = absurd p
appends_more (Some xs) (Some ys) None x y p q = absurd q
appends_more (Some xs) (Some ys) (Some zs) x y p q = q ∙ ap (λ l. l ++ y) p ∙ append_assoc xs x y

-- nothing more was appended
pub appends_keep : (a b c : Option (List ℕ)) (x : List ℕ) → Appends a b x → Keeps b c → Appends a c x
appends_keep None b c x p q = tt
appends_keep (Some xs) None c x p q = absurd p
appends_keep (Some xs) (Some ys) None x p q = absurd q
appends_keep (Some xs) (Some ys) (Some zs) x p q = q ∙ p

-- nothing was taken
pub consumes_none : (a : Option (List ℕ)) → Consumes a a []
consumes_none None = tt
consumes_none (Some xs) = refl

-- two parts one after the other
pub consumes_more : (a b c : Option (List ℕ)) (x y : List ℕ) → Consumes a b x → Consumes b c y → Consumes a c (x ++ y)
consumes_more None b c x y p q = tt
consumes_more (Some xs) None c x y p q = absurd p
consumes_more (Some xs) (Some ys) None x y p q = absurd q
consumes_more (Some xs) (Some ys) (Some zs) x y p q = p ∙ ap (λ l. x ++ l) q ∙ sym (append_assoc x y zs)

-- nothing more was taken
pub consumes_keep : (a b c : Option (List ℕ)) (x : List ℕ) → Consumes a b x → Keeps b c → Consumes a c x
consumes_keep None b c x p q = tt
consumes_keep (Some xs) None c x p q = absurd p
consumes_keep (Some xs) (Some ys) None x p q = absurd q
consumes_keep (Some xs) (Some ys) (Some zs) x p q = p ∙ ap (λ l. x ++ l) (sym q)

-- after a write of n more bytes
pub appends_take : (a b c : Option (List ℕ)) (n m : ℕ) (xs : List ℕ) → Appends a b (take n xs)
    → Appends b c (take m (drop n xs)) → Appends a c (take (n + m) xs)
appends_take a b c n m xs p q = rw (take-add n m xs) (appends_more a b c (take n xs) (take m (drop n xs)) p q)

-- a fault after the first n bytes
pub stops_at : (a b c : Option (List ℕ)) (n : ℕ) (xs : List ℕ) → Appends a b (take n xs)
    → Keeps b c → AppendsPrefix a c xs
stops_at a b c n xs p q = record {
  front = take n xs;
  of = (drop n xs, sym (take-append-drop n xs));
  grew = appends_keep a b c (take n xs) p q;
}

-- what is left after n bytes were given
pub given_front : (bs copied rest : List ℕ) (at n : ℕ) → copied ≡ take n (drop at bs) → n ≤ length (drop at bs)
    → drop at bs ≡ take n (copied ++ rest) ++ drop (at + n) bs
given_front bs copied rest at n e le =
    let counts : length copied ≡ n = ap length e ∙ length-take-le n (drop at bs) le in
    sym (ap (λ l. l ++ drop (at + n) bs) (take_at copied rest n counts ∙ e)
    ∙ ap (λ l. take n (drop at bs) ++ l) (sym (drop-drop n at bs)) ∙ take-append-drop n (drop at bs))

-- a fact that holds anyway holds at an error
pub on_err_from : {T E P : Type 0} (r : Result T E) → P → OnErr r P
on_err_from (Ok x) p = tt
on_err_from (Err e) p = p

-- the count of a source's faults never falls
pub read_faults_never_fall : {T : Type 0} (before now : ℕ) (result : Result T plain.Failed)
    → CountsReadFaults before now result → before ≤ now
read_faults_never_fall before now (Ok answer) counted = omega (arith, counted)
read_faults_never_fall before now (Err failed) counted = counted.risen.kept

-- nor does that of a sink's
pub write_faults_never_fall : {T : Type 0} (before now : ℕ) (result : Result T OutFault)
    → CountsCall before now result → before ≤ now
write_faults_never_fall before now (Ok answer) counted = omega (arith, counted)
write_faults_never_fall before now (Err (fault.Failed failure)) counted = counted.risen.kept
write_faults_never_fall before now (Err fault.Memory) counted = omega (arith, counted)
