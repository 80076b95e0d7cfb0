-- Each generated line after the opening is drawn, with one companion and with several.
use Rattle.std.proofs.Common.{◌≡◌, ℕ, suc, ◌+◌, ◌-◌, ◌*◌, ◌≤◌, arith, ap, subst, refl, Bool, true, false, cond, List}
use Rattle.std.specs.Prelude.{nat_le, slice_index_or, ◌==◌}
use Rattle.std.proofs.lemmas.Bool.{le-ltb, ne_eqb}
use Rattle.css_gen.specs.Bounds.{IsSmall}
use Rattle.css_gen.specs.Course.{clock, later, next_line, next_course, course_after}
use Rattle.css_gen.specs.Crowd.{turn, happening_of, next_line_of, next_crowd, crowd_after}
use Rattle.css_gen.specs.Generated.{line_numbered}
use Rattle.css_gen.specs.Second.{openings, second_line}
use Rattle.css_gen.proofs.Bounds.{course-small}
use Rattle.css_gen.proofs.Crowds.{crowd-ready, crowd-companions}
use Rattle.css_gen.proofs.CrowdRanges.{next-range_of, next-second, next-few}
use Rattle.css_survey.specs.Generated.{heading, line_for}
use Rattle.css_survey.proofs.Names.{lt-leb, is_own, IsSecond, Verb, Ask, Take, Give, Land, Print, Sleep, AreSome}
use Rattle.css_survey.proofs.Names.{IsReady, Course, Crowd, next-range}
use Rattle.css_survey.proofs.Accepting.{State, IsDrawn}
use Rattle.css_survey.proofs.Comes.{Comes}
use Rattle.css_survey.proofs.Drawn.{ones, one-step, one-senders, one-askers, turn-step}

-- ---- one companion
-- what it leaves behind: all requests are its own
abbrev pub one_state : Course → State
one_state course = record {
  tv_fast = course.tv_fast;
  fast = λ who. course.own_fast;
  time = course.time;
  senders = ones course.requests;
  askers = ones course.takes;
  answers = course.answers;
}

-- each line is of the one companion
pub of-one : (t w l : ℕ) (verb : Verb) → IsSecond 1 (record { t = t; w = w; who = 1; l = l; verb = verb })
of-one t w l verb = record { who = omega arith; own = λ own. omega arith; none = λ zero. absurd (omega (arith, zero)) }

one-drawn : (course : Course) → IsSmall course
    → IsDrawn 1 (one_state course) (next_line course) (one_state (next_course course))
unfolding later
one-drawn course small =
    let line = next_line course in
    let step = one-step (later course) small.answers in
    record {
      range = next-range course small;
      second = of-one line.t line.w line.l line.verb;
      late = omega arith;
      tv = refl;
      own = λ some. refl;
      comes = step.comes;
      is = simp (
        step.kept.tv_fast,
        step.kept.own_fast,
        step.kept.time,
        step.kept.answers,
        one-senders (later course),
        one-askers (later course),
      );
    }

pub one_drawn : (seed n : ℕ) → n ≤ 200000 → IsDrawn 1 (one_state (course_after seed n))
    (line_for seed 1 (1 + suc (8 + n))) (one_state (course_after seed (suc n)))
unfolding line_numbered course_after
one_drawn seed n few =
    let late = le-ltb (1 + suc (8 + n)) 10 (omega arith) in
    let number : 1 + suc (8 + n) - 10 ≡ n = omega arith in
    simp (late, number) (one-drawn (course_after seed n) (course-small seed n few))

-- ---- several companions
-- what they leave behind
abbrev pub crowd_state : Crowd → State
crowd_state crowd = record {
  tv_fast = crowd.course.tv_fast;
  fast = λ who. slice_index_or crowd.fast (who - 1) false;
  time = crowd.course.time;
  senders = crowd.senders;
  askers = crowd.askers;
  answers = crowd.course.answers;
}

-- what a companion may say, the television may say for it
comes-whose : (senders askers : List ℕ) (given w who l : ℕ) (verb : Verb) → Comes senders askers given w who l verb
    → Comes senders askers given w (cond (is_own verb) who 0) (cond (is_own verb) l 0) verb
comes-whose senders askers given w who l (Ask r) comes = comes
comes-whose senders askers given w who l (Take n r) comes = comes
comes-whose senders askers given w who l (Give n r) comes = comes
comes-whose senders askers given w who l (Land n r) comes = comes
comes-whose senders askers given w who l (Print r) comes = comes
comes-whose senders askers given w who l Sleep comes = comes
comes-whose senders askers given w who l _ comes = absurd comes

crowd-drawn : (companions : ℕ) (crowd : Crowd) → IsReady crowd → crowd.companions ≡ companions
    → IsDrawn companions (crowd_state crowd) (next_line_of crowd) (crowd_state (next_crowd crowd))
unfolding turn later
crowd-drawn companions crowd ready same =
    let its = turn crowd in
    let line = next_line_of crowd in
    let verb = (happening_of crowd.askers its).verb in
    let step = turn-step crowd.senders crowd.askers its ready.senders ready.askers ready.course.answers in
    let second = next-second crowd ready in
    record {
      range = next-range_of crowd ready;
      second = record {
        who = subst (λ n. line.who ≤ n) same (next-few crowd ready);
        own = second.own;
        none = second.none;
      };
      late = omega arith;
      tv = refl;
      own = by (is_own verb);
      comes = comes-whose crowd.senders crowd.askers crowd.course.answers line.w its.who
          (clock its.course.own_fast its.course.time) verb step.comes;
      is = simp (step.kept.tv_fast, step.kept.time, step.kept.answers);
    }
  where
    by : (own : Bool) → 1 ≤ cond own (turn crowd).who 0
        → cond own (clock (turn crowd).course.own_fast (turn crowd).course.time) 0
        ≡ clock (slice_index_or crowd.fast (cond own (turn crowd).who 0 - 1) false) (turn crowd).course.time
    by true some = ap (λ n. clock (slice_index_or crowd.fast n false) (turn crowd).course.time) (omega arith)
    by false some = absurd (omega (arith, some))

pub crowd_drawn : (seed companions n : ℕ) → AreSome companions → 2 ≤ companions → n ≤ 200000
    → IsDrawn companions (crowd_state (crowd_after seed companions n))
    (line_for seed companions (heading companions + suc (3 + 5 * companions + n)))
    (crowd_state (crowd_after seed companions (suc n)))
unfolding second_line crowd_after
crowd_drawn seed companions n some several few =
    let apart : (companions == 1) ≡ false = ne_eqb companions 1 (λ one. omega (arith, one, several)) in
    let number = companions + 1 + suc (3 + 5 * companions + n) in
    let kept = crowd-companions seed companions n in
    let late : nat_le number (openings companions) ≡ false = lt-leb number (openings companions) (omega arith) in
    let place : number - (openings companions + 1) ≡ n = omega arith in
    simp (apart, place) (simp kept (simp late (crowd-drawn companions (crowd_after seed companions n)
    (crowd-ready seed companions n some few)
    kept)))
