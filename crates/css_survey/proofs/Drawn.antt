-- Whatever is drawn, what a generated line says can happen.
use Rattle.std.proofs.Common.{◌≡◌, ℕ, ◌-◌, ◌*◌, ◌≤◌, arith, refl, Bool, true, false, List, length}
use Rattle.std.specs.Prelude.{All, ◌==◌, nat_lt, min, if◌then◌else◌, replicate}
use Rattle.css_gen.specs.Draws.{draw}
use Rattle.css_gen.specs.Course.{Happening, asked, taken, taken_back, given, given_next, landed, landed_back, printed}
use Rattle.css_gen.specs.Course.{chosen, happening, tv_clock, own_clock}
use Rattle.css_gen.specs.Crowd.{turn, datagrams, landed_from, landed_of, slept, chosen_of, happening_of, senders_after}
use Rattle.css_gen.specs.Crowd.{askers_after}
use Rattle.css_gen.proofs.Draws.{draw-below}
use Rattle.css_survey.proofs.Names.{eqb-false, ltb-false, nat_tests, length-replicate, get_or-replicate, replicate_more}
use Rattle.css_survey.proofs.Names.{All-get_or, Course, Crowd}
use Rattle.css_survey.proofs.MadeOf.{IsFor, datagrams-for, all-for}
use Rattle.css_survey.proofs.Comes.{Comes, given_after}

-- what comes of a crowd
abbrev Becomes : {A : Type 0} → (Crowd → A) → Type 0
Becomes {A = A} next = A

-- Whose turn it is. The generator's crate exports no name for that.
abbrev pub Turn : Type 0
Turn = Becomes turn

-- what happens changes neither time nor an oscillator
pub record IsKept (course : Course) (next : Happening) : Type 0 where
  pub answers : next.course.answers ≡ given_after course.answers next.verb
  pub time : next.course.time ≡ course.time
  pub tv_fast : next.course.tv_fast ≡ course.tv_fast
  pub own_fast : next.course.own_fast ≡ course.own_fast

chosen-kept : (choice : ℕ) (course : Course) → IsKept course (chosen choice course)
unfolding chosen
chosen-kept choice course =
    record { answers = grind arith; time = grind arith; tv_fast = grind arith; own_fast = grind arith }

chosen_of-kept : (choice : ℕ) (made : List ℕ) (course : Course) → IsKept course (chosen_of choice made course)
unfolding chosen chosen_of
chosen_of-kept choice made course =
    record { answers = grind arith; time = grind arith; tv_fast = grind arith; own_fast = grind arith }

-- what happens can be said by a line of companion `who`
pub record IsStep (senders askers : List ℕ) (who : ℕ) (course : Course) (next : Happening) : Type 0 where
  pub comes : Comes senders askers course.answers (tv_clock course) who (own_clock course) next.verb
  pub kept : IsKept course next

module _ (senders askers : List ℕ) (who : ℕ) (course : Course) (requests : length senders ≡ course.requests)
    (takes : length askers ≡ course.takes) (within : course.answers ≤ course.takes) where
  abbrev Says : Happening → Type 0
  Says next = Comes senders askers course.answers (tv_clock course) who (own_clock course) next.verb

  taken-says : Says (taken course)
  taken-says = by (course.requests == 0) refl
    where
      by : (b : Bool) → (course.requests == 0) ≡ b
          → Says (if b then asked course else taken_back course (draw (min course.requests 4) course.words))
      by true e = refl
      by false e =
          let below = draw-below (min course.requests 4) course.words
          (omega (arith, eqb-false course.requests 0 e)) in
          (omega (arith, below), omega (arith, requests), refl)

  given-says : Says (given course)
  given-says = by (course.answers == course.takes) refl
    where
      by : (b : Bool) → (course.answers == course.takes) ≡ b → Says (if b then asked course else given_next course)
      by true e = refl
      by false e = (refl, omega (arith, eqb-false course.answers course.takes e), refl)

  -- one of these datagrams lands
  landed_of-says : (made : List ℕ) → All (IsFor who askers course.answers) made → Says (landed_of made course)
  landed_of-says made all = by (length made == 0) refl
    where
      by : (b : Bool) → (length made == 0) ≡ b
          → Says (if b then asked course else landed_from made course (draw (min (length made) 8) course.words))
      by true e = refl
      by false e =
          let drawn = draw (min (length made) 8) course.words in
          let below = draw-below (min (length made) 8) course.words (omega (arith, eqb-false (length made) 0 e)) in
          let own = All-get_or (IsFor who askers course.answers) made drawn.number 0 (omega (arith, below)) all in
          (own.is, refl)

  -- one of the last datagrams lands
  landed-says : ((number : ℕ) → 1 ≤ number → number ≤ 2 * course.answers → IsFor who askers course.answers number)
      → Says (landed course)
  landed-says made = by (course.answers == 0) refl
    where
      by : (b : Bool) → (course.answers == 0) ≡ b
          → Says (if b then asked course else landed_back course (draw (min (2 * course.answers) 8) course.words))
      by true e = refl
      by false e =
          let drawn = draw (min (2 * course.answers) 8) course.words in
          let below = draw-below (min (2 * course.answers) 8) course.words
          (omega (arith, eqb-false course.answers 0 e)) in
          let own = made (2 * course.answers - drawn.number) (omega (arith, below)) (omega arith) in
          (own.is, refl)

  -- by the first choices no datagram lands
  chosen-says : (choice : ℕ) → (4 ≤ choice → Says (landed course)) → Says (chosen choice course)
  unfolding chosen
  chosen-says choice lands =
      by (nat_lt choice 2) (choice == 2) (choice == 3) (nat_lt choice 6) refl refl refl
    where
      by : (a b c d : Bool) → nat_lt choice 2 ≡ a → (choice == 2) ≡ b → (choice == 3) ≡ c → Says
          (if a then asked course
          else if b then taken course
          else if c then given course
          else if d then landed course
          else printed course)
      by true b c d e f g = refl
      by false true c d e f g = taken-says
      by false false true d e f g = given-says
      by false false false true e f g =
          lands (omega (arith, ltb-false choice 2 e, eqb-false choice 2 f, eqb-false choice 3 g))
      by false false false false e f g = refl

  chosen_of-says : (choice : ℕ) → Says (chosen_of choice (datagrams who askers course.answers) course)
  unfolding chosen_of
  chosen_of-says choice = by (nat_lt choice 4) (nat_lt choice 6) (nat_lt choice 8) refl
    where
      by : (a b c : Bool) → nat_lt choice 4 ≡ a → Says
          (if a then chosen choice course
          else if b then landed_of (datagrams who askers course.answers) course
          else if c then printed course
          else slept course)
      by true b c e = chosen-says choice (λ high. absurd (grind (arith, nat_tests)))
      by false true c e = landed_of-says (datagrams who askers course.answers) (datagrams-for who askers course.answers)
      by false false true e = refl
      by false false false e = tt

-- whatever companion has its turn
pub turn-step : (senders askers : List ℕ) (turn : Turn) → length senders ≡ turn.course.requests
    → length askers ≡ turn.course.takes → turn.course.answers ≤ turn.course.takes
    → IsStep senders askers turn.who turn.course (happening_of askers turn)
unfolding happening_of
turn-step senders askers turn requests takes within =
    let choice = draw 9 turn.course.words in
    let drawn : Course = record turn.course { words = choice.left } in
    let kept = chosen_of-kept choice.number (datagrams turn.who askers turn.course.answers) drawn in
    record {
      comes = chosen_of-says senders askers turn.who drawn requests takes within choice.number;
      kept = record { answers = kept.answers; time = kept.time; tv_fast = kept.tv_fast; own_fast = kept.own_fast };
    }

-- ---- one companion
-- so many requests or takes, all of them the one companion's
abbrev pub ones : ℕ → List ℕ
ones count = replicate count 1

-- what happens is the companion's own
pub one-step : (course : Course) → course.answers ≤ course.takes
    → IsStep (ones course.requests) (ones course.takes) 1 course (happening course)
unfolding happening
one-step course within =
    let choice = draw 8 course.words in
    let drawn : Course = record course { words = choice.left } in
    let requests = length-replicate {A = ℕ} course.requests 1 in
    let takes = length-replicate {A = ℕ} course.takes 1 in
    let made : (number : ℕ) → 1 ≤ number → number ≤ 2 * course.answers
    → IsFor 1 (ones course.takes) course.answers number =
    λ number. all-for 1 (ones course.takes) course.answers number
    (λ i below. get_or-replicate course.takes i 1 0 (omega (arith, below, within))) in
    let kept = chosen-kept choice.number drawn in
    record {
      comes = chosen-says (ones course.requests) (ones course.takes) 1 drawn requests takes within choice.number
          (λ high. landed-says (ones course.requests) (ones course.takes) 1 drawn requests takes within made);
      kept = record { answers = kept.answers; time = kept.time; tv_fast = kept.tv_fast; own_fast = kept.own_fast };
    }

-- it sends all requests, and its requests are taken
pub one-senders : (course : Course)
    → ones (happening course).course.requests ≡ senders_after (ones course.requests) 1 (happening course).verb
unfolding happening chosen
one-senders course = grind (arith, replicate_more)

pub one-askers : (course : Course) → ones (happening course).course.takes
    ≡ askers_after (ones course.requests) (ones course.takes) (happening course).verb
unfolding happening chosen
one-askers course = grind (arith, replicate_more, get_or-replicate, draw-below)
