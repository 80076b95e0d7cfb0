-- Forests as clocks are added and changed, and the clocks above a clock.
use Rattle.std.proofs.Common.{◌≡◌, ℕ, ◌<◌, ◌⊎◌, inl, inr, ◌∙◌, refl, ap, subst, arith, suc, zero, List, [], ◌∷◌, ◌++◌}
use Rattle.std.proofs.Common.{length}
use Rattle.std.specs.Prelude.{Option, Some, None, Ok, Err, Bool, true, if◌then◌else◌, slice_get, slice_set}
use Rattle.css_tree.specs.declared.node.Node.{Node}
use Rattle.css_tree.specs.declared.node.Link.{Link}
use Rattle.std.proofs.lemmas.Option.{slice_get_within}
use Rattle.css_tree.specs.declared.fault.ClockFault.TheVariants.{Unavailable}
use Rattle.css_tree.specs.Trees.{known_in, known, is_available, all_available, Clocks, IsClock, IsLink, IsForest}
use Rattle.css_tree.specs.Trees.{parent_by, parent_in, parent_of, upwards, lineage}

-- an element of a longer list is one of the list, or the last
get-append : {X : Type 0} (xs : List X) (y : X) (k : ℕ) (x : X) → slice_get (xs ++ y ∷ []) k ≡ Some x
    → (slice_get xs k ≡ Some x) ⊎ ((k ≡ length xs) × (y ≡ x))
get-append [] y zero x h = inr (refl, cc)
get-append [] y (suc k) x h = cc
get-append (z ∷ xs) y zero x h = inl h
get-append (z ∷ xs) y (suc k) x h =
    elim (get-append xs y k x h) [ inl e ↦ inl e | inr e ↦ inr (omega (arith, e.0), e.1) ]

-- an element of a changed list is one of the list, or the changed one
get-set : {X : Type 0} (xs : List X) (i : ℕ) (y : X) (k : ℕ) (x : X) → slice_get (slice_set xs i y) k ≡ Some x
    → (slice_get xs k ≡ Some x) ⊎ ((k ≡ i) × (y ≡ x))
get-set [] i y k x h = inl h
get-set (z ∷ xs) zero y zero x h = inr (refl, cc)
get-set (z ∷ xs) zero y (suc k) x h = inl h
get-set (z ∷ xs) (suc i) y zero x h = inl h
get-set (z ∷ xs) (suc i) y (suc k) x h =
    elim (get-set xs i y k x h) [ inl e ↦ inl e | inr e ↦ inr (omega (arith, e.0), e.1) ]

-- one clock more
pub IsForest-push : (clocks : Clocks) (node : Node) → IsForest clocks → IsClock (length clocks) node
    → IsForest (clocks ++ node ∷ [])
IsForest-push clocks node forest clock = record {
  each = λ id one h. elim (get-append clocks node id one h) [
    | inl e ↦ forest.each id one e
    | inr e ↦ rw (e.0, ← e.1) clock
  ];
}

-- one clock changed
pub IsForest-set : (clocks : Clocks) (i : ℕ) (node : Node) → IsForest clocks → IsClock i node
    → IsForest (slice_set clocks i node)
IsForest-set clocks i node forest clock = record {
  each = λ id one h. elim (get-set clocks i node id one h) [
    | inl e ↦ forest.each id one e
    | inr e ↦ rw (e.0, ← e.1) clock
  ];
}

-- the link by which there is a parent
linked : (id p : ℕ) (node : Node) (link : Option Link) → IsClock id node → node.link ≡ link → parent_by link ≡ Some p
    → p < id
linked id p node None clock e h = cc
linked id p node (Some link) clock e h =
    let is : p ≡ link.parent = cc in
    rw is (clock.linked link e).before

-- a parent comes before its children
found : (clocks : Clocks) (id p : ℕ) (node : Option Node) → IsForest clocks → slice_get clocks id ≡ node
    → parent_in node ≡ Some p → p < id
found clocks id p None forest e h = cc
found clocks id p (Some node) forest e h = linked id p node node.link (forest.each id node e) refl h

pub parent-before : (clocks : Clocks) (id p : ℕ) → IsForest clocks → parent_of clocks id ≡ Some p → p < id
parent-before clocks id p forest h = found clocks id p (slice_get clocks id) forest refl h

-- steps enough are as good as more
upwards-same : (clocks : Clocks) → IsForest clocks → (m k : ℕ) (from : Option ℕ)
    → ((q : ℕ) → from ≡ Some q → (q < m) × (q < k)) → upwards m clocks from ≡ upwards k clocks from
upwards-same clocks forest zero zero from h = refl
upwards-same clocks forest zero (suc k) None h = refl
upwards-same clocks forest zero (suc k) (Some id) h = absurd (omega (arith, (h id refl).0))
upwards-same clocks forest (suc m) zero None h = refl
upwards-same clocks forest (suc m) zero (Some id) h = absurd (omega (arith, (h id refl).1))
upwards-same clocks forest (suc m) (suc k) None h = refl
upwards-same clocks forest (suc m) (suc k) (Some id) h =
    ap (λ above. id ∷ above) (upwards-same clocks forest m k (parent_of clocks id) (λ q e.
    let before = parent-before clocks id q forest e in
    let inside = h id refl in
    (omega (arith, before, inside.0), omega (arith, before, inside.1))))

-- above no clock there is none
upwards-none : (clocks : Clocks) (most : ℕ) → upwards most clocks None ≡ []
upwards-none clocks zero = refl
upwards-none clocks (suc most) = refl

-- a root has no ancestors
pub lineage-root : (clocks : Clocks) (id : ℕ) → parent_of clocks id ≡ None → lineage clocks id ≡ id ∷ []
lineage-root clocks id e = ap (λ above. id ∷ above) (ap (λ from. upwards id clocks from) e ∙ upwards-none clocks id)

-- those of another clock are its parent and the parent's ancestors
pub lineage-up : (clocks : Clocks) (id p : ℕ) → IsForest clocks → parent_of clocks id ≡ Some p
    → lineage clocks id ≡ id ∷ lineage clocks p
lineage-up clocks id p forest e =
    let before = parent-before clocks id p forest e in
    ap (λ above. id ∷ above)
    (ap (λ from. upwards id clocks from) e ∙ upwards-same clocks forest id (suc p) (Some p) (λ q s. let is : q ≡ p =
    cc in (omega (arith, before, is), omega (arith, is))))

-- a clock that is known is in the list
known_is : (id : ℕ) (found : Option Node) (node : Node) → known_in id found ≡ Ok node → found ≡ Some node
known_is id None node h = cc
known_is id (Some one) node h = cc

pub known-get : (clocks : Clocks) (id : ℕ) (node : Node) → known clocks id ≡ Ok node → slice_get clocks id ≡ Some node
known-get clocks id node h = known_is id (slice_get clocks id) node h

-- and it has a number below theirs
pub known-within : (clocks : Clocks) (id : ℕ) (node : Node) → known clocks id ≡ Ok node → id < length clocks
known-within clocks id node h = slice_get_within clocks id node (known-get clocks id node h)

-- the link in hand is the one that there is
pub same-link : (id : ℕ) (link of : Link) → IsLink id link → Some link ≡ Some of → IsLink id of
same-link id link of is h = let e : link ≡ of = cc in subst (λ (l : Link). IsLink id l) e is

-- where a clock is available, what is told is what those above it tell
pub all_available-up : (clocks : Clocks) (id p : ℕ) → IsForest clocks → parent_of clocks id ≡ Some p
    → is_available clocks id ≡ true
    → all_available clocks (lineage clocks id) ≡ all_available clocks (lineage clocks p)
all_available-up clocks id p forest e h =
    ap (all_available clocks) (lineage-up clocks id p forest e)
    ∙ ap (λ (b : Bool). if b then all_available clocks (lineage clocks p) else Err (Unavailable id)) h
