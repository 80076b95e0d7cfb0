-- What a generator gives next, of one companion or of several, and the crowd after it.
use Rattle.std.proofs.Common.{◌≡◌, ℕ, suc, zero, ◌+◌, ◌-◌, ◌<◌, ◌≤◌, arith, ap, sym, subst, ◌∙◌, refl, Bool, true}
use Rattle.std.proofs.Common.{false, List, lt-ltb, leb-true, leb-false, eqb-true, ◌==◌, nat_le, if◌then◌else◌, Option}
use Rattle.std.proofs.Common.{Some, None}
use Rattle.css_gen.specs.Bounds.{IsSmall}
use Rattle.css_gen.specs.Course.{course_after}
use Rattle.css_gen.specs.Crowd.{tuned, gathered, crowd_after, next_crowd}
use Rattle.css_gen.specs.Second.{openings, second_line, second_line_from, second_text, second_text_from, crowd_from}
use Rattle.css_gen.specs.Generated.{line_from, line_numbered, line_for, text_from, text_numbered, text_in, next_text}
use Rattle.css_gen.specs.Standing.{AreSome, IsReady, course_from, crowd_with, line_with, text_with, CanGive, Follows}
use Rattle.css_gen.specs.Standing.{IsGenerator}
use Rattle.css_gen.specs.declared.course.Course.{Course}
use Rattle.css_gen.specs.declared.crowd.Crowd.{Crowd}
use Rattle.css_gen.proofs.Bounds.{course-small}
use Rattle.css_gen.proofs.Crowds.{crowd-ready}
use Rattle.css_gen.proofs.Going.{course-goes_on, text-is}

-- ---- several companions
-- the crowd after a line is the one before the next line
crowd-goes_on : (seed given : ℕ) (crowd : Crowd)
    → crowd ≡ crowd_after seed crowd.companions (given - openings crowd.companions)
    → crowd_from crowd (given + 1) ≡ crowd_after seed crowd.companions (given + 1 - openings crowd.companions)
unfolding crowd_after
crowd-goes_on seed given crowd follows = by (nat_le (given + 1) (openings crowd.companions)) refl
  where
    opening : ℕ
    opening = openings crowd.companions

    by : (b : Bool) → nat_le (given + 1) opening ≡ b
        → (if b then crowd else next_crowd crowd) ≡ crowd_after seed crowd.companions (given + 1 - opening)
    by true e =
        let early = leb-true (given + 1) opening e in
        let same : given - opening ≡ given + 1 - opening = omega (arith, early) in
        follows ∙ ap (crowd_after seed crowd.companions) same
    by false e =
        let late = leb-false (given + 1) opening e in
        let next : suc (given - opening) ≡ given + 1 - opening = omega (arith, late) in
        ap next_crowd follows ∙ ap (crowd_after seed crowd.companions) next

-- what is written at a crowd is the text of that line
second_text-is : (seed given : ℕ) (crowd : Crowd)
    → crowd ≡ crowd_after seed crowd.companions (given - openings crowd.companions)
    → second_text_from crowd (given + 1) ≡ second_text seed crowd.companions (given + 1)
unfolding second_text
second_text-is seed given crowd follows =
    let opening = openings crowd.companions in
    let same : given - opening ≡ given + 1 - (opening + 1) = omega arith in
    ap (λ (c : Crowd). second_text_from c (given + 1)) (follows ∙ ap (crowd_after seed crowd.companions) same)

-- ---- one companion, or several
-- no companion comes or goes
from-kept : (crowd : Crowd) (number : ℕ) → (crowd_from crowd number).companions ≡ crowd.companions
from-kept crowd number = by (nat_le number (openings crowd.companions))
  where
    by : (b : Bool) → (if b then crowd else next_crowd crowd).companions ≡ crowd.companions
    by true = refl
    by false = refl

pub companions-kept : (crowd : Crowd) (number : ℕ) → (crowd_with crowd number).companions ≡ crowd.companions
companions-kept crowd number = by (crowd.companions == 1)
  where
    by : (b : Bool)
        → (if b then record crowd { course = course_from crowd.course number } else crowd_from crowd number).companions
        ≡ crowd.companions
    by true = refl
    by false = from-kept crowd number

-- the crowd follows the seed's lines
pub goes_on : (seed given : ℕ) (crowd : Crowd) → Follows (crowd.companions == 1) seed given crowd
    → Follows ((crowd_with crowd (given + 1)).companions == 1) seed (given + 1) (crowd_with crowd (given + 1))
goes_on seed given crowd follows =
    subst (λ (n : ℕ). Follows (n == 1) seed (given + 1) (crowd_with crowd (given + 1)))
    (sym (companions-kept crowd (given + 1))) (by (crowd.companions == 1) follows)
  where
    by : (one : Bool) → Follows one seed given crowd → Follows one seed (given + 1)
        (if one then record crowd { course = course_from crowd.course (given + 1) } else crowd_from crowd (given + 1))
    by true h = ap (λ (c : Course). course_from c (given + 1)) h ∙ course-goes_on seed given
    by false h =
        crowd-goes_on seed given crowd h
        ∙ ap (λ (n : ℕ). crowd_after seed n (given + 1 - openings n)) (sym (from-kept crowd (given + 1)))

-- so does its generator
pub next-is : (seed lines given : ℕ) (crowd next : Crowd) → IsGenerator seed lines given crowd
    → next ≡ crowd_with crowd (given + 1) → IsGenerator seed lines (given + 1) next
next-is seed lines given crowd next is same = record {
  few = is.few;
  companions = subst AreSome (sym (ap (λ (x : Crowd). x.companions) same ∙ companions-kept crowd (given + 1)))
      is.companions;
  follows = subst (λ (x : Crowd). Follows (x.companions == 1) seed (given + 1) x) (sym same)
      (goes_on seed given crowd is.follows);
}

-- a line more can be given
pub can_give : (seed given : ℕ) (crowd : Crowd) → AreSome crowd.companions → given ≤ 200000
    → Follows (crowd.companions == 1) seed given crowd → CanGive (crowd.companions == 1) crowd
can_give seed given crowd some few = by (crowd.companions == 1)
  where
    by : (one : Bool) → Follows one seed given crowd → CanGive one crowd
    by true h = subst IsSmall (sym h) (course-small seed (given - 9) (omega (arith, few)))
    by false h =
        subst IsReady (sym h)
        (crowd-ready seed crowd.companions (given - openings crowd.companions) some (omega (arith, few)))

-- what is written is the text of the next line
text_with-is : (seed given : ℕ) (crowd : Crowd) → Follows (crowd.companions == 1) seed given crowd
    → text_with crowd (given + 1) ≡ text_in seed crowd.companions (given + 1)
text_with-is seed given crowd = by (crowd.companions == 1)
  where
    by : (one : Bool) → Follows one seed given crowd
        → (if one then text_from crowd.course (given + 1) else second_text_from crowd (given + 1))
        ≡ (if one then text_numbered seed (given + 1) else second_text seed crowd.companions (given + 1))
    by true h = text-is seed given crowd.course h
    by false h = second_text-is seed given crowd h

-- so it is what comes next
pub text-next : (seed lines given : ℕ) (crowd : Crowd) (text : List ℕ) → given < lines
    → Follows (crowd.companions == 1) seed given crowd → text ≡ text_with crowd (given + 1) → Some text
    ≡ next_text (record { seed = seed; lines = lines; companions = crowd.companions; given = given })
text-next seed lines given crowd text before follows is =
    let next : Option (List ℕ) = Some (text_in seed crowd.companions (given + 1)) in
    ap (λ (t : List ℕ). Some t) (is ∙ text_with-is seed given crowd follows)
    ∙ sym (ap (λ (b : Bool). if b then next else None) (lt-ltb given lines before))

-- so it is of the line
pub line_with-is : (seed given : ℕ) (crowd : Crowd) → Follows (crowd.companions == 1) seed given crowd
    → line_with crowd (given + 1) ≡ line_for seed crowd.companions (given + 1)
unfolding line_numbered second_line
line_with-is seed given crowd = by (crowd.companions == 1)
  where
    by : (one : Bool) → Follows one seed given crowd
        → (if one then line_from crowd.course (given + 1) else second_line_from crowd (given + 1))
        ≡ (if one then line_numbered seed (given + 1) else second_line seed crowd.companions (given + 1))
    by true h =
        let same : given - 9 ≡ given + 1 - 10 = omega arith in
        ap (λ (c : Course). line_from c (given + 1)) (h ∙ ap (course_after seed) same)
    by false h =
        let opening = openings crowd.companions in
        let same : given - opening ≡ given + 1 - (opening + 1) = omega arith in
        ap (λ (c : Crowd). second_line_from c (given + 1)) (h ∙ ap (crowd_after seed crowd.companions) same)

-- ---- the start
-- no line was given
pub starts : (seed companions : ℕ) → Follows (companions == 1) seed 0 (gathered seed companions)
unfolding gathered crowd_after course_after tuned
starts seed companions = by (companions == 1) refl
  where
    by : (one : Bool) → (companions == 1) ≡ one → Follows one seed 0 (gathered seed companions)
    by true e =
        let one = eqb-true companions 1 e in
        ap (λ (n : ℕ). (gathered seed n).course) one
    by false e =
        let none : zero ≡ 0 - openings companions = omega arith in ap (crowd_after seed companions) none

-- so a generator begins
pub begins : (seed lines companions : ℕ) → lines ≤ 200000 → 1 ≤ companions → companions ≤ 16
    → IsGenerator seed lines 0 (gathered seed companions)
unfolding gathered
begins seed lines companions short some few = record {
  few = short;
  companions = record { low = some; high = few };
  follows = starts seed companions;
}
