-- No interval is narrower than an answer's span, but for a few nanoseconds at each end.
use Rattle.std.specs.Prelude.{ℕ, ◌+◌, ◌-◌, ◌*◌, ◌≤◌, ◌≡◌, ℤ, pos, ◌+ℤ◌, ◌-ℤ◌, ◌≤ℤ◌}
use Rattle.css_model.specs.Numbers.{max_error}
use Rattle.css_model.specs.WallClock.{Answer, Local, lo, hi}
use Rattle.css_model.specs.World.{World, Errors, IsWorldFor, Reads}
use Rattle.css_model.specs.Truth.{Exchange, IsTimed}
use Rattle.css_limits.specs.Worlds.{since_asked}

-- Some world keeps the declared errors, has an exchange with the answer's times, and reads the companion's clock so
-- after its landing. There the wall clock shows this then.
pub record MayShow (own : Local) (answer : Answer) (reading wall : ℕ) : Type 0 where
  pub errors : Errors
  pub world : World
  pub who : ℕ
  pub exchange : Exchange
  pub sleeps : ℕ
  pub moment : ℕ
  pub is_world : IsWorldFor errors world who own
  pub declared : errors.tv ≤ answer.error
  pub timed : IsTimed world who own answer exchange sleeps
  pub later : exchange.landed ≤ moment
  pub reads : Reads world who moment own.precision reading sleeps
  pub shows : (world moment).wall ≡ wall

-- what each datagram declares: an error in its range, and a precision of at least a nanosecond
pub record IsDeclared (answer : Answer) : Type 0 where
  pub error : answer.error ≤ max_error
  pub precise : 1 ≤ answer.precision

-- No clock was read before it began to count, the television answered after it had the request, and the reading isn't
-- next to the landing.
pub record IsUsual (own : Local) (answer : Answer) (reading : ℕ) : Type 0 where
  pub t1 : own.precision ≤ answer.t1
  pub t2 : answer.precision ≤ answer.t2
  pub t3 : answer.t2 ≤ answer.t3
  pub late : answer.t4 + 2 * own.precision + 1 ≤ reading

-- When the request came, the wall clock had counted for at least the longest true time that the round trip can have
-- taken. A younger clock tells more than its answer does: it can't have shown less than 0 when the request was sent.
abbrev pub HasRun : Local → Answer → Type 0
HasRun own answer = since_asked own answer answer.t4 ≤ answer.t2 - answer.precision

-- in some such world the wall clock shows no more than this, and in some no less
pub record Reaches (own : Local) (answer : Answer) (reading : ℕ) (low high : ℤ) : Type 0 where
  pub least : ℕ
  pub may_be_least : MayShow own answer reading least
  pub low_enough : pos least ≤ℤ low
  pub greatest : ℕ
  pub may_be_greatest : MayShow own answer reading greatest
  pub high_enough : high ≤ℤ pos greatest

-- the interval contains what the wall clock shows in each such world
abbrev pub AlwaysIn : Local → Answer → ℕ → ℤ → ℤ → Type 0
AlwaysIn own answer reading low high = (wall : ℕ) → MayShow own answer reading wall
    → (low ≤ℤ pos wall) × (pos wall ≤ℤ high)

-- Where some world explains an answer and a reading, the wall clock can have shown both ends of the answer's span
-- there, but for a loss of so many nanoseconds: moments and clocks are whole.
abbrev pub EndsAreReached : ℕ → Type 0
EndsAreReached loss = (own : Local) (answer : Answer) (reading wall : ℕ)
    → IsDeclared answer → IsUsual own answer reading → HasRun own answer → MayShow own answer reading wall
    → Reaches own answer reading (lo own answer reading +ℤ pos loss) (hi own answer reading -ℤ pos loss)

-- So each interval that is always true contains every value between these.
abbrev pub NoneIsNarrower : ℕ → Type 0
NoneIsNarrower loss = (own : Local) (answer : Answer) (reading wall : ℕ) (low high value : ℤ)
    → IsDeclared answer → IsUsual own answer reading → HasRun own answer → MayShow own answer reading wall
    → AlwaysIn own answer reading low high
    → (lo own answer reading +ℤ pos loss) ≤ℤ value → value ≤ℤ (hi own answer reading -ℤ pos loss)
    → (low ≤ℤ value) × (value ≤ℤ high)

-- The upper end is reached however young the wall clock is.
abbrev pub UpperEndIsReached : ℕ → Type 0
UpperEndIsReached loss = (own : Local) (answer : Answer) (reading wall : ℕ)
    → IsDeclared answer → IsUsual own answer reading → MayShow own answer reading wall
    → (greatest : ℕ) × MayShow own answer reading greatest
    × ((hi own answer reading -ℤ pos loss) ≤ℤ pos greatest)

-- ---- a young wall clock
-- The request, the answer and the landing of a television whose wall clock begins to count only with the request.
abbrev pub young_answer : Answer
young_answer = record { t1 = 0; t2 = 1; t3 = 1; t4 = 1000; precision = 1; error = 0 }

abbrev pub exact : Local
exact = record { error = 0; precision = 0 }

-- Some world explains it, and the lower end of its span is below zero. But in each such world the wall clock has
-- counted since the request was sent.
pub record TellsMore (reading wall : ℕ) : Type 0 where
  pub declared : IsDeclared young_answer
  pub usual : IsUsual exact young_answer reading
  pub may_show : MayShow exact young_answer reading wall
  pub low_end : (lo exact young_answer reading) ≤ℤ pos 0
  pub counted : (other : ℕ) → MayShow exact young_answer reading other → 999 ≤ other
