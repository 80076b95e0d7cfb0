-- Which lines are generated after the opening where a schedule has several companions.
use Rattle.std.specs.Prelude.{ℕ, suc, zero, ◌+◌, ◌-◌, ◌*◌, ◌==◌, min, nat_lt, Bool, false, if◌then◌else◌}
use Rattle.std.specs.Prelude.{List, [], ◌∷◌, ◌++◌, length, replicate, slice_index, slice_index_or, slice_set}
use Rattle.rand_pcg.specs.Lcg.{Lcg}
use Rattle.css_schedule.specs.Owners.{is_own}
use Rattle.css_schedule.specs.declared.line.Line.{Line}
use Rattle.css_schedule.specs.declared.line.Verb.{Verb}
use Rattle.css_schedule.specs.declared.line.Verb.TheVariants.{Ask, Take, Land, Sleep}
use Rattle.css_gen.specs.Draws.{draw, Drawn}
use Rattle.css_gen.specs.Course.{tv_clock, own_clock, started, later, Happening, asked, printed, chosen}
use Rattle.css_gen.specs.declared.course.Course.{Course}
use Rattle.css_gen.specs.declared.crowd.Crowd.{Crowd}
use Rattle.css_gen.specs.declared.crowd.Turn.{Turn}

-- ---- the start
-- which of the companions' oscillators are fast, and the words that are left
pub record Tuned : Type 0 where
  pub fast : List Bool
  pub left : Lcg

-- The oscillators of the first companion, which the course has, and of so many more: one draw each, in order. There is
-- room for 16, and the places that no companion has are as the first one's.
unfoldable pub tuned : (first : Course) → (more : ℕ) → Tuned
tuned first zero = record { fast = replicate 16 first.own_fast; left = first.words }
tuned first (suc more) =
    let before = tuned first more in
    let own = draw 2 before.left in
    record { fast = slice_set before.fast (suc more) (own.number == 0); left = own.left }

-- nobody has sent anything yet
abbrev pub gathering : (companions : ℕ) → Course → Tuned → Crowd
gathering companions first tuned = record {
  companions = companions;
  course = record first { words = tuned.left };
  fast = tuned.fast;
  senders = [];
  askers = [];
}

-- so many companions at true time 0
unfoldable pub gathered : (seed : ℕ) → (companions : ℕ) → Crowd
gathered seed companions = gathering companions (started seed) (tuned (started seed) (companions - 1))

-- ---- whose turn it is
-- the companion that was drawn, and the course with its clock
abbrev pub turned : List Bool → Course → Drawn → Turn
turned fast course drawn = record {
  who = drawn.number + 1;
  course = record course { words = drawn.left; own_fast = slice_index_or fast drawn.number false };
}

-- true time grows, and a companion is drawn
unfoldable pub turn : Crowd → Turn
turn crowd = let course = later crowd.course in turned crowd.fast course (draw crowd.companions course.words)

-- ---- what happens at its line
-- The datagrams that answer a companion's requests, the newest first, where so many takes were answered. Each answer
-- makes two.
unfoldable pub datagrams : (who : ℕ) → (askers : List ℕ) → (answers : ℕ) → List ℕ
datagrams who askers zero = []
datagrams who askers (suc before) =
    let older = datagrams who askers before in
    if slice_index askers before == who then (2 * before + 2) ∷ (2 * before + 1) ∷ older else older

-- one of these lands, so many before the newest
abbrev pub landed_from : List ℕ → Course → Drawn → Happening
landed_from made course drawn = record {
  verb = Land (slice_index made drawn.number) (own_clock course);
  course = record course { words = drawn.left };
}

-- one of the newest eight lands; where there is none, a request is sent
abbrev pub landed_of : List ℕ → Course → Happening
landed_of made course =
    if length made == 0 then asked course
    else landed_from made course (draw (min (length made) 8) course.words)

-- the companion has slept
abbrev pub slept : Course → Happening
slept course = record { verb = Sleep; course = course }

-- What happens by a choice of 0 to 8. It is what happens with one companion, but for two things: of the datagrams those
-- land that answer this companion's requests, and it may sleep.
unfoldable pub chosen_of : (choice : ℕ) → (made : List ℕ) → Course → Happening
chosen_of choice made course =
    if nat_lt choice 4 then chosen choice course
    else if nat_lt choice 6 then landed_of made course
    else if nat_lt choice 8 then printed course
    else slept course

-- what happens at a companion's turn
unfoldable pub happening_of : (askers : List ℕ) → Turn → Happening
happening_of askers turn =
    let choice = draw 9 turn.course.words in
    chosen_of choice.number (datagrams turn.who askers turn.course.answers)
    (record turn.course { words = choice.left })

-- ---- the line
-- What no companion takes part in is the television's alone, and gives no companion's clock.
abbrev pub line_at : (t w who l : ℕ) → Verb → Line
line_at t w who l verb = record {
  t = t;
  w = w;
  who = if is_own verb then who else 0;
  l = if is_own verb then l else 0;
  verb = verb;
}

-- the line of a turn
abbrev pub line_of_turn : Turn → Verb → Line
line_of_turn turn verb = line_at turn.course.time (tv_clock turn.course) turn.who (own_clock turn.course) verb

-- the next line
abbrev pub next_line_of : Crowd → Line
next_line_of crowd = line_of_turn (turn crowd) (happening_of crowd.askers (turn crowd)).verb

-- ---- the crowd after it
-- who sent each request
abbrev pub senders_after : (senders : List ℕ) → (who : ℕ) → Verb → List ℕ
senders_after senders who (Ask reading) = senders ++ who ∷ []
senders_after senders who _ = senders

-- who sent the request of each take
abbrev pub askers_after : (senders : List ℕ) → (askers : List ℕ) → Verb → List ℕ
askers_after senders askers (Take request reading) = askers ++ slice_index senders (request - 1) ∷ []
askers_after senders askers _ = askers

-- the crowd with what that line adds
abbrev pub remembering : Crowd → Line → Crowd
remembering crowd line = record crowd {
  senders = senders_after crowd.senders line.who line.verb;
  askers = askers_after crowd.senders crowd.askers line.verb;
}

-- the crowd after the next line
abbrev pub next_crowd : Crowd → Crowd
next_crowd crowd = record (remembering crowd (next_line_of crowd)) {
  course = (happening_of crowd.askers (turn crowd)).course;
}

-- the crowd of a seed after so many lines
unfoldable pub crowd_after : (seed : ℕ) → (companions : ℕ) → (lines : ℕ) → Crowd
crowd_after seed companions zero = gathered seed companions
crowd_after seed companions (suc lines) = next_crowd (crowd_after seed companions lines)
