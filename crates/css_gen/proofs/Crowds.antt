-- What a crowd keeps from line to line: its numbers are small, and it knows who sent what.
use Rattle.std.proofs.Common.{◌≡◌, ℕ, suc, zero, ◌+◌, ◌≤◌, arith, sym, subst, ◌∙◌, refl, List, [], ◌∷◌, ◌++◌, length}
use Rattle.std.proofs.lemmas.List.{length-append}
use Rattle.css_gen.specs.Draws.{draw}
use Rattle.css_gen.specs.Bounds.{IsWithin}
use Rattle.css_gen.specs.Course.{Happening, chosen, started, later}
use Rattle.css_gen.specs.Crowd.{gathered, turn, datagrams, chosen_of, happening_of, senders_after, askers_after}
use Rattle.css_gen.specs.Crowd.{next_line_of, next_crowd, crowd_after}
use Rattle.css_gen.specs.Standing.{AreSome, IsReady, CanTurn, IsKnown}
use Rattle.css_gen.specs.declared.course.Course.{Course}
use Rattle.css_gen.specs.declared.crowd.Crowd.{Crowd}
use Rattle.css_gen.specs.declared.crowd.Turn.{Turn}
use Rattle.css_gen.proofs.Draws.{draw-below}
use Rattle.css_gen.proofs.Bounds.{IsGrown, later-grown, within-small}
use Rattle.std.proofs.lemmas.Bool.Decides.{nat_tests}
use Rattle.css_schedule.specs.declared.line.Verb.{Verb}
use Rattle.css_schedule.specs.declared.line.Verb.TheVariants.{Take}
use Rattle.css_gen.proofs.Ranges.{later-can}

-- ---- who sent what
length-more : (list : List ℕ) (who : ℕ) → length (list ++ who ∷ []) ≡ length list + 1
length-more list who = length-append list (who ∷ [])

-- what happens is counted in the course, and what is taken was sent
pub record IsCounted (course : Course) (happening : Happening) : Type 0 where
  pub senders : (senders : List ℕ) (who : ℕ) → length senders ≡ course.requests
      → length (senders_after senders who happening.verb) ≡ happening.course.requests
  pub askers : (senders askers : List ℕ) → length askers ≡ course.takes
      → length (askers_after senders askers happening.verb) ≡ happening.course.takes
  pub known : IsKnown course.requests happening.verb

senders-counted : (choice : ℕ) (made : List ℕ) (course : Course) (senders : List ℕ) (who : ℕ)
    → length senders ≡ course.requests → length (senders_after senders who (chosen_of choice made course).verb)
    ≡ (chosen_of choice made course).course.requests
unfolding chosen_of chosen
senders-counted choice made course senders who is = grind (arith, length-more)

askers-counted : (choice : ℕ) (made : List ℕ) (course : Course) (senders askers : List ℕ) → length askers ≡ course.takes
    → length (askers_after senders askers (chosen_of choice made course).verb)
    ≡ (chosen_of choice made course).course.takes
unfolding chosen_of chosen
askers-counted choice made course senders askers is = grind (arith, length-more)

-- the request that is taken, or this number
abbrev taken_or : ℕ → Verb → ℕ
taken_or none (Take request reading) = request
taken_or none _ = none

known-by : (requests : ℕ) (verb : Verb) → 1 ≤ taken_or 1 verb → taken_or 0 verb ≤ requests → IsKnown requests verb
known-by requests (Take request reading) low high = (low, high)
known-by requests _ low high = tt

taken-low : (choice : ℕ) (made : List ℕ) (course : Course) → 1 ≤ taken_or 1 (chosen_of choice made course).verb
unfolding chosen_of chosen
taken-low choice made course = grind (arith, draw-below, nat_tests)

taken-high : (choice : ℕ) (made : List ℕ) (course : Course)
    → taken_or 0 (chosen_of choice made course).verb ≤ course.requests
unfolding chosen_of chosen
taken-high choice made course = grind arith

pub happening_of-counted : (askers : List ℕ) (turn : Turn) → IsCounted turn.course (happening_of askers turn)
unfolding happening_of
happening_of-counted askers turn =
    let choice = draw 9 turn.course.words in
    let made = datagrams turn.who askers turn.course.answers in
    let drawn : Course = record turn.course { words = choice.left } in
    record {
      senders = senders-counted choice.number made drawn;
      askers = askers-counted choice.number made drawn;
      known = known-by turn.course.requests (chosen_of choice.number made drawn).verb
          (taken-low choice.number made drawn) (taken-high choice.number made drawn);
    }

-- ---- how large the numbers become
chosen_of-within : (choice lines : ℕ) (made : List ℕ) (course : Course) → IsGrown lines course
    → IsWithin (suc lines) (chosen_of choice made course).course
unfolding chosen_of chosen
chosen_of-within choice lines made course h =
    let time = h.time in
    let requests = h.requests in
    let takes = h.takes in
    let answers = h.answers in
    record { time = grind arith; requests = grind arith; takes = grind arith; answers = grind (arith, nat_tests) }

happening_of-within : (lines : ℕ) (askers : List ℕ) (turn : Turn) → IsGrown lines turn.course
    → IsWithin (suc lines) (happening_of askers turn).course
unfolding happening_of
happening_of-within lines askers turn h =
    let choice = draw 9 turn.course.words in
    chosen_of-within choice.number lines (datagrams turn.who askers turn.course.answers)
    (record turn.course { words = choice.left })
    (record { time = h.time; requests = h.requests; takes = h.takes; answers = h.answers })

turn-grown : (lines : ℕ) (crowd : Crowd) → IsWithin lines crowd.course → IsGrown lines (turn crowd).course
unfolding turn
turn-grown lines crowd h =
    let grown = later-grown lines crowd.course h in
    record { time = grown.time; requests = grown.requests; takes = grown.takes; answers = grown.answers }

-- at a turn nothing was sent or taken yet
turn-requests : (crowd : Crowd) → crowd.course.requests ≡ (turn crowd).course.requests
unfolding turn later
turn-requests crowd = refl

turn-takes : (crowd : Crowd) → crowd.course.takes ≡ (turn crowd).course.takes
unfolding turn later
turn-takes crowd = refl

-- ---- line after line
-- what a crowd keeps, after so many lines
record IsKept (lines count : ℕ) (crowd : Crowd) : Type 0 where
  within : IsWithin lines crowd.course
  companions : crowd.companions ≡ count
  senders : length crowd.senders ≡ crowd.course.requests
  askers : length crowd.askers ≡ crowd.course.takes

next-kept : (lines companions : ℕ) (crowd : Crowd) → IsKept lines companions crowd
    → IsKept (suc lines) companions (next_crowd crowd)
next-kept lines companions crowd h =
    let counted = happening_of-counted crowd.askers (turn crowd) in
    record {
      within = happening_of-within lines crowd.askers (turn crowd) (turn-grown lines crowd h.within);
      companions = h.companions;
      senders = counted.senders crowd.senders (next_line_of crowd).who (h.senders ∙ turn-requests crowd);
      askers = counted.askers crowd.senders crowd.askers (h.askers ∙ turn-takes crowd);
    }

gathered-kept : (seed companions : ℕ) → IsKept 0 companions (gathered seed companions)
unfolding gathered started
gathered-kept seed companions = record {
  within = record { time = omega arith; requests = omega arith; takes = omega arith; answers = omega arith };
  companions = refl;
  senders = refl;
  askers = refl;
}

crowd-kept : (seed companions lines : ℕ) → IsKept lines companions (crowd_after seed companions lines)
unfolding crowd_after
crowd-kept seed companions zero = gathered-kept seed companions
crowd-kept seed companions (suc lines) =
    next-kept lines companions (crowd_after seed companions lines) (crowd-kept seed companions lines)

pub crowd-companions : (seed companions lines : ℕ) → (crowd_after seed companions lines).companions ≡ companions
crowd-companions seed companions lines = (crowd-kept seed companions lines).companions

-- so a line more can be given after those of the longest schedule
pub crowd-ready : (seed companions lines : ℕ) → AreSome companions → lines ≤ 200000
    → IsReady (crowd_after seed companions lines)
crowd-ready seed companions lines some few =
    let kept = crowd-kept seed companions lines in
    record {
      companions = subst AreSome (sym kept.companions) some;
      course = within-small lines (crowd_after seed companions lines).course few kept.within;
      senders = kept.senders;
      askers = kept.askers;
    }

-- ---- a turn
pub turn-can : (crowd : Crowd) → IsReady crowd → CanTurn crowd (turn crowd)
unfolding turn later
turn-can crowd h =
    let can = later-can crowd.course h.course in
    let low = h.companions.low in
    let high = h.companions.high in
    let below = draw-below crowd.companions (later crowd.course).words (omega (arith, low)) in
    let answers = h.course.answers in
    let askers = h.askers in
    record {
      who = record { low = omega arith; high = omega (arith, below, high) };
      course = record { time = can.time; requests = can.requests; takes = can.takes; answers = can.answers };
      askers = omega (arith, answers, askers);
    }

-- what is taken was sent
pub next-known : (crowd : Crowd) → IsReady crowd → IsKnown (length crowd.senders) (next_line_of crowd).verb
next-known crowd h =
    subst (λ (n : ℕ). IsKnown n (next_line_of crowd).verb) (sym (h.senders ∙ turn-requests crowd))
    (happening_of-counted crowd.askers (turn crowd)).known
