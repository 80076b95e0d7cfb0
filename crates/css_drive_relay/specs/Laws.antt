-- What holds of the run of every visit of a relay, by its calls alone.
use Rattle.std.specs.Prelude.{ℕ, ◌≡◌, List, length}
use Rattle.css_model.specs.declared.Message.{Message}
use Rattle.css_model.specs.Explains.{IsLawful, Explains}
use Rattle.css_model.specs.History.{History}
use Rattle.css_model.specs.WallClock.{Local}
use Rattle.css_model.specs.Wire.{encoded}
use Rattle.css_model.specs.World.{World, Errors, IsWorldFor, IsInRange}
use Rattle.css_relay.specs.TwoHops.{IsAnswerOf, IsTrueResponse, IsTruthfulToAll}
use Rattle.css_drive_relay.specs.Places.{Answers, progress_of}
use Rattle.css_drive_relay.specs.declared.plan.Plan.{Plan}

-- The bytes are the datagram of the answer to a request that was taken in the history.
pub record IsAnswerTo (own : Local) (history : History) (bytes : List ℕ) : Type 0 where
  pub message : Message
  pub wire : bytes ≡ encoded message
  pub answer : IsAnswerOf own history message

-- In each world that keeps the errors and explains the history, the answer is true, and so it is truthful to all who
-- asked for it before the request was taken, and where it lands after it was given.
pub record IsTrueTo (plan : Plan) (history : History) (bytes : List ℕ) : Type 0 where
  pub answers : IsAnswerTo plan.run.companion.local history bytes
  pub is_true : (errors : Errors) (world : World) (who : ℕ) (moment_of : ℕ → ℕ)
      → IsWorldFor errors world who plan.run.companion.local → IsInRange world → IsLawful history
      → Explains world who errors.tv plan.run.companion.local history moment_of
      → let taken = moment_of (length answers.answer.before_take) in
      let given = moment_of (length answers.answer.before_give) in
      IsTrueResponse world errors.tv taken given answers.message
      × IsTruthfulToAll world errors.tv taken given answers.message

-- Whatever a run is to send in answer is the true answer to a request that it took.
abbrev pub AnswersAreTrueTo : Type 0
AnswersAreTrueTo = (plan : Plan) (history : History) (peer : ℕ) (bytes : List ℕ)
    → (progress_of plan history).place ≡ Answers peer bytes → IsTrueTo plan history bytes
