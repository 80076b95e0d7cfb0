-- What a generator of one companion gives next, and the course after it.
use Rattle.std.proofs.Common.{◌≡◌, ℕ, suc, ◌+◌, ◌-◌, arith, ap, ◌∙◌, refl, Bool, true, false, ltb-true, ltb-false}
use Rattle.std.proofs.Common.{nat_lt, if◌then◌else◌}
use Rattle.css_gen.specs.Course.{next_course, course_after}
use Rattle.css_gen.specs.Generated.{text_from, text_numbered}
use Rattle.css_gen.specs.Standing.{course_from}
use Rattle.css_gen.specs.declared.course.Course.{Course}

-- the course after a line is the one before the next line
pub course-goes_on : (seed given : ℕ)
    → course_from (course_after seed (given - 9)) (given + 1) ≡ course_after seed (given + 1 - 9)
unfolding course_after
course-goes_on seed given = by (nat_lt (given + 1) 10) refl
  where
    by : (b : Bool) → nat_lt (given + 1) 10 ≡ b
        → (if b then course_after seed (given - 9) else next_course (course_after seed (given - 9)))
        ≡ course_after seed (given + 1 - 9)
    by true e =
        let early = ltb-true (given + 1) 10 e in
        let same : given - 9 ≡ given + 1 - 9 = omega (arith, early) in ap (course_after seed) same
    by false e =
        let late = ltb-false (given + 1) 10 e in
        let next : suc (given - 9) ≡ given + 1 - 9 = omega (arith, late) in ap (course_after seed) next

-- what is written at a course is the text of that line
pub text-is : (seed given : ℕ) (course : Course) → course ≡ course_after seed (given - 9)
    → text_from course (given + 1) ≡ text_numbered seed (given + 1)
unfolding text_numbered
text-is seed given course follows =
    let same : given - 9 ≡ given + 1 - 10 = omega arith in
    ap (λ (c : Course). text_from c (given + 1)) (follows ∙ ap (course_after seed) same)
