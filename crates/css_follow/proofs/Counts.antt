-- How many intervals were measured, and are still to be measured.
use Rattle.std.proofs.Common.{◌≡◌, ℕ, ◌+◌, ◌-◌, List, [], ◌∷◌, ◌++◌, Bool, true, false, cond, ap, refl, sym, ◌∙◌, map}
use Rattle.std.proofs.Common.{reverse, arith, zero-add, add_comm}
use Rattle.std.specs.Prelude.{◌==◌, nat_lt, nat_le, if◌then◌else◌}
use Rattle.std.specs.List.{sum_by, count_by}
use Rattle.std.proofs.lemmas.Bool.Decides.{nat_tests}
use Rattle.std.proofs.lemmas.List.{reverse-append}
use Rattle.std.proofs.lemmas.List.Sums.{sum_by-append}
use Rattle.css_companion.specs.declared.report.Report.{Report}
use Rattle.css_follow.specs.declared.notes.Note.{Note}
use Rattle.css_follow.specs.Following.{told}
use Rattle.css_follow.specs.Measuring.{Measuring, says_of, ends_of}
use Rattle.css_follow.specs.Standing.{heard_in, spoken_in, seen_by, intervals_in}
use Rattle.css_follow.specs.Widths.{is_interval, intervals, width_line, measured, are_measured}
use Rattle.css_follow.proofs.Marks.{heard-more, spoken-more}

-- ---- sums
sum-cons : {A : Type 0} (f : A → ℕ) (x : A) (xs : List A) → sum_by f (x ∷ xs) ≡ f x + sum_by f xs
sum-cons f x xs = sum_by-append f (x ∷ []) xs ∙ ap (λ k. k + sum_by f xs) (zero-add (f x))

sum-reverse : {A : Type 0} (f : A → ℕ) (xs : List A) → sum_by f (reverse xs) ≡ sum_by f xs
sum-reverse f [] = refl
sum-reverse f (x ∷ xs) =
    ap (sum_by f) (reverse-append (x ∷ []) xs) ∙ sum_by-append f (reverse xs) (x ∷ [])
    ∙ ap (λ k. sum_by f (reverse xs) + k) (zero-add (f x)) ∙ add_comm (sum_by f (reverse xs)) (f x)
    ∙ ap (λ k. f x + k) (sum-reverse f xs) ∙ sym (sum-cons f x xs)

count-map : (notes : List Note) → count_by is_interval (map (λ n. n.report) notes) ≡ intervals_in notes
count-map [] = refl
count-map (n ∷ notes) =
    sum-cons (λ r. cond (is_interval r) 1 0) n.report (map (λ m. m.report) notes)
    ∙ ap (λ k. cond (is_interval n.report) 1 0 + k) (count-map notes)
    ∙ sym (sum-cons (λ m. cond (is_interval m.report) 1 0) n notes)

-- the intervals that were heard are those of the notes
pub intervals-heard : (notes : List Note) → intervals (heard_in notes) ≡ intervals_in notes
intervals-heard notes =
    sum-reverse (λ r. cond (is_interval r) 1 0) (map (λ n. n.report) notes) ∙ count-map notes

-- one more note
pub intervals-more : (notes : List Note) (note : Note)
    → intervals_in (notes ++ note ∷ []) ≡ cond (is_interval note.report) 1 0 + intervals_in notes
intervals-more notes note =
    let a = sum_by-append (λ n. cond (is_interval n.report) 1 0) notes (note ∷ []) in
    omega (arith, a)

-- ---- tests
some-left : (count measured : ℕ) → nat_lt 0 (count - measured) ≡ nat_lt measured count
some-left count measured = grind (arith, nat_tests)

none-left : (count measured : ℕ) → ((count - measured) == 0) ≡ nat_le count measured
none-left count measured = grind (arith, nat_tests)

less-left : (b : Bool) (count measured : ℕ)
    → (if b then (count - measured) - 1 else (count - measured)) ≡ count - (cond b 1 0 + measured)
less-left true count measured = omega arith
less-left false count measured = omega arith

-- ---- a meter
-- how many are left after one more note
pub left-next : (count left next_left : ℕ) (notes next : List Note) (r : Report) (text : List ℕ)
    → left ≡ count - intervals_in notes → next ≡ notes ++ record { report = r; text = text } ∷ []
    → next_left ≡ (if is_interval r then left - 1 else left) → next_left ≡ count - intervals_in next
left-next count left next_left notes next r text e noted f =
    f ∙ ap (λ l. if is_interval r then l - 1 else l) e ∙ less-left (is_interval r) count (intervals_in notes)
    ∙ ap (λ k. count - k) (sym (intervals-more notes (record { report = r; text = text })))
    ∙ ap (λ n. count - intervals_in n) (sym noted)

-- what a meter says is what it measures
pub said-meter : (count left : ℕ) (notes : List Note) (r : Report) (text : List ℕ) → left ≡ count - intervals_in notes
    → text ≡ (if nat_lt 0 left then width_line r else []) → text ≡ measured count (heard_in notes) r
said-meter count left notes r text e said =
    said ∙ ap (λ l. if nat_lt 0 l then width_line r else []) e
    ∙ ap (λ b. if b then width_line r else []) (some-left count (intervals_in notes))
    ∙ ap (λ k. if nat_lt k count then width_line r else []) (sym (intervals-heard notes))

-- and it ends where all were measured
pub ends-meter : (count next_left : ℕ) (notes next : List Note) (r : Report) (text : List ℕ)
    → next ≡ notes ++ record { report = r; text = text } ∷ [] → next_left ≡ count - intervals_in next
    → (next_left == 0) ≡ are_measured count (r ∷ heard_in notes)
ends-meter count next_left notes next r text noted e =
    ap (λ l. l == 0) e ∙ none-left count (intervals_in next) ∙ ap (nat_le count) (sym (intervals-heard next))
    ∙ ap (are_measured count) (ap heard_in noted ∙ heard-more notes (record { report = r; text = text }))

-- what a meter says that isn't done
pub says-meter : (self : Measuring) (notes : List Note) (count : ℕ) (done : Bool) (r : Report) (text : List ℕ)
    → self ≡ record { count = count; seen = seen_by notes done } → done ≡ false
    → text ≡ measured count (heard_in notes) r → text ≡ says_of self r
says-meter self notes count done r text e f said = rw (e, f) said

-- what it heard, where it isn't done
pub heard-meter : (self : Measuring) (notes next : List Note) (count : ℕ) (done ends : Bool) (r : Report)
    (text : List ℕ) → self ≡ record { count = count; seen = seen_by notes done } → done ≡ false
    → next ≡ notes ++ record { report = r; text = text } ∷ []
    → text ≡ measured count (heard_in notes) r → ends ≡ are_measured count (r ∷ heard_in notes)
    → seen_by next ends ≡ told r (says_of self r) (ends_of self r) self.seen
heard-meter self notes next count done ends r text e f noted said ended =
    let heard = ap heard_in noted ∙ heard-more notes (record { report = r; text = text }) in
    let spoken = ap spoken_in noted ∙ spoken-more notes (record { report = r; text = text })
    ∙ ap (λ t. t ∷ spoken_in notes) said in
    rw (e, f, heard, spoken, ended) refl
