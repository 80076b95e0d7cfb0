-- The responses of the whole run of a relay's visit, and what they make true of a companion that accepts nothing else.
use Rattle.std.specs.Prelude.{ℕ, ◌≡◌, ◌≤◌, ◌⊎◌, List, [], ◌∷◌, length, Option, Some, None, Ok, IfSome, IsTrue, ⊤}
use Rattle.std.specs.Result.{result_ok}
use Rattle.css_model.specs.declared.Message.{Message}
use Rattle.css_model.specs.declared.Why.TheVariants as why
use Rattle.css_model.specs.WallClock.{Local}
use Rattle.css_model.specs.Wire.{encoded, decoded, request_at}
use Rattle.css_model.specs.World.{World, Errors, IsWorldFor, IsInRange}
use Rattle.css_model.specs.History.{Entry, Clock, Sent, History, Each, Once, LandedAnswer, landed_answer}
use Rattle.css_model.specs.History.{landed_answers, is_possible}
use Rattle.css_model.specs.Explains.{IsLawful, WasAsked, HappensIn, Explains}
use Rattle.css_relay.specs.Answers.{answered_after}
use Rattle.css_relay.specs.TwoHops.{IsTrueResponse, IsTruthfulToAll, IsTrueAtLast}
use Rattle.css_drive_relay.specs.Places.{Place, Received, progress_of}
use Rattle.css_drive_relay.specs.Due.{IsProperRelay}
use Rattle.css_drive_relay.specs.declared.plan.Plan.{Plan}

-- ---- responses
-- the response to the request that was received, at the reading for its answer, unless it has a fault
abbrev pub given_at : Plan → ℕ → History → Place → Option Message
given_at plan reading older (Received peer ticket) =
    result_ok (answered_after plan.run.companion.local older reading ticket)
given_at plan reading older _ = None

-- the response that a run gives with an entry, whose datagram it sends next
abbrev pub given_by : Plan → Entry → History → Option Message
given_by plan (Clock why.Give reading) older = given_at plan reading older (progress_of plan older).place
given_by plan _ older = None

-- The bytes are the datagram of the response that the run gave with the newest entry of a history.
pub record IsResponse (plan : Plan) (bytes : List ℕ) (history : History) : Type 0 where
  pub reading : ℕ
  pub before : History
  pub message : Message
  pub just : history ≡ Clock why.Give reading ∷ before
  pub given : given_by plan (Clock why.Give reading) before ≡ Some message
  pub wire : bytes ≡ encoded message

-- they are a request of the relay's own, at the reading of the newest entry
pub record IsRequest (bytes : List ℕ) (history : History) : Type 0 where
  pub reading : ℕ
  pub before : History
  pub just : history ≡ Clock why.Ask reading ∷ before
  pub wire : bytes ≡ encoded (request_at reading)

-- a datagram that is sent is either
abbrev pub IsSentAt : Plan → Entry → History → Type 0
IsSentAt plan (Sent peer bytes) older = IsRequest bytes older ⊎ IsResponse plan bytes older
IsSentAt plan _ older = ⊤

-- Each datagram that a run sends is so.
abbrev pub SentIsKnown : Type 0
SentIsKnown = (plan : Plan) (history : History) → IsProperRelay plan history → Each (IsSentAt plan) history

-- the run gave this response after `before`
abbrev pub IsGiven : Plan → History → Message → History → Type 0
IsGiven plan history message before =
    Once (λ entry older. (given_by plan entry older ≡ Some message) × (older ≡ before)) history

-- the number of the last reading that was made for a request of others
abbrev pub last_take : History → ℕ
last_take [] = 0
last_take (Clock why.Take reading ∷ older) = length older
last_take (_ ∷ older) = last_take older

-- ---- one hop
-- the response is true where its request was taken and where it was given, and truthful to all who asked in time
pub record IsTrueAnswer (world : World) (tv_error : ℕ) (moment_of : ℕ → ℕ) (before : History) (message : Message)
    : Type 0 where
  pub response :
      IsTrueResponse world tv_error (moment_of (last_take before)) (moment_of (length before)) message
  pub truthful :
      IsTruthfulToAll world tv_error (moment_of (last_take before)) (moment_of (length before)) message

-- In each world that keeps the errors and explains a run's lawful calls, each response that the run gave is so.
abbrev pub GivenIsTrue : Type 0
GivenIsTrue = (errors : Errors) (world : World) (who : ℕ) (plan : Plan) (history : History) (moment_of : ℕ → ℕ)
    (message : Message) (before : History)
    → IsProperRelay plan history → IsWorldFor errors world who plan.run.companion.local → IsInRange world
    → IsLawful history → Explains world who errors.tv plan.run.companion.local history moment_of
    → IsGiven plan history message before → IsTrueAnswer world errors.tv moment_of before message

-- ---- two hops
-- A landed answer was read from a datagram that the run sent in answer, right after the reading for it. Its request was
-- sent no later than the relay took it, and it landed no sooner than that reading.
pub record IsFromRun (history : History) (moment_of : ℕ → ℕ) (second_moment_of : ℕ → ℕ) (landed : LandedAnswer)
    (older : History) : Type 0 where
  pub peer : ℕ
  pub bytes : List ℕ
  pub give : ℕ
  pub before : History
  pub sent : Once (λ entry earlier.
      (entry ≡ Sent peer bytes) × (earlier ≡ Clock why.Give give ∷ before)) history
  pub read : decoded bytes ≡ Ok landed.message
  pub ask : ℕ
  pub asked : WasAsked landed.message.originate ask older
  pub sent_before : second_moment_of ask ≤ moment_of (last_take before)
  pub landed_after : moment_of (length before) ≤ second_moment_of (length older)

-- an answer that lands at a second companion is from the run, or isn't accepted there
abbrev pub FromRunAt : History → (ℕ → ℕ) → Local → (ℕ → ℕ) → Entry → History → Type 0
FromRunAt history moment_of second_own second_moment_of entry older =
    IfSome (landed_answer entry older) (λ landed.
    IsTrue (is_possible second_own landed (landed_answers older))
    → IsFromRun history moment_of second_moment_of landed older)

-- In each world that keeps the errors of three clocks, explains a run's lawful calls, and has the readings of a second
-- companion that accepts nothing but what the run sent in answer, the second companion's spans contain the wall clock.
abbrev pub SecondHopsAreTrue : Type 0
SecondHopsAreTrue = (errors : Errors) (world : World)
    (who : ℕ) (plan : Plan) (history : History) (moment_of : ℕ → ℕ)
    (second : ℕ) (second_own : Local) (second_history : History) (second_moment_of : ℕ → ℕ)
    → IsProperRelay plan history
    → IsWorldFor errors world who plan.run.companion.local → IsWorldFor errors world second second_own → IsInRange world
    → IsLawful history → Explains world who errors.tv plan.run.companion.local history moment_of
    → IsLawful second_history → HappensIn world second second_own second_history second_moment_of
    → Each (FromRunAt history moment_of second_own second_moment_of) second_history
    → IsTrueAtLast world second errors.tv second_own second_history second_moment_of
