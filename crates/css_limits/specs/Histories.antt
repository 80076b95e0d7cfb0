-- The histories of one exchange: a response, or a response and its follow-up, and a later reading.
use Rattle.std.specs.Prelude.{ℕ, ◌+◌, ◌≤◌, ◌≡◌, ℤ, pos, ◌+ℤ◌, ◌-ℤ◌, ◌≤ℤ◌, List, [], ◌∷◌, length, Some}
use Rattle.css_model.specs.declared.Message.{Message}
use Rattle.css_model.specs.declared.Why.TheVariants as why
use Rattle.css_model.specs.Numbers.{precision_ns}
use Rattle.css_model.specs.WallClock.{Answer, Local, lo, hi}
use Rattle.css_model.specs.World.{World, Errors, IsWorldFor}
use Rattle.css_model.specs.Wire.{reading_of, stamp_of}
use Rattle.css_model.specs.History.{Clock, Sent, Took, History, LandedAnswer, request_by, answer_in}
use Rattle.css_model.specs.Explains.{Explains, IsTruthful}
use Rattle.css_limits.specs.Limits.{IsUsual, HasRun}

-- A companion read its clock, sent a request, and took an answer, which landed at a reading.
pub record Trip : Type 0 where
  pub peer : ℕ
  pub request : List ℕ
  pub asked : ℕ
  pub answer : List ℕ
  pub message : Message
  pub landed : ℕ

-- the bytes are a request at the reading, and an answer to it
pub record IsTrip (trip : Trip) : Type 0 where
  pub request : request_by (Sent trip.peer trip.request) ≡ Some (stamp_of trip.asked)
  pub answer : answer_in trip.answer ≡ Some trip.message
  pub originate : trip.message.originate ≡ stamp_of trip.asked

-- what the companion did before the landing
abbrev pub taken : Trip → History
taken trip = Took trip.peer trip.answer ∷ Sent trip.peer trip.request ∷ Clock why.Ask trip.asked ∷ []

-- A history at a reading: what the companion did before the answer landed that counts, and that landing.
pub record Told : Type 0 where
  pub older : History
  pub landed : LandedAnswer
  pub answer : Answer

abbrev pub whole : Told → ℕ → History
whole told reading = Clock why.Turn reading ∷ Clock why.Land told.landed.reading ∷ told.older

-- the times that an answer tells, where its sending is known to come before this landing
abbrev pub times : Trip → Message → Answer
times trip message = record {
  t1 = trip.asked;
  t2 = reading_of message.receive;
  t3 = reading_of message.transmit;
  t4 = trip.landed;
  precision = precision_ns message.precision;
  error = message.error;
}

-- a response alone
abbrev pub told_by_response : Trip → Told
told_by_response trip = record {
  older = taken trip;
  landed = record { message = trip.message; reading = trip.landed };
  answer = times trip trip.message;
}

-- A world that keeps the declared errors explains the history as companion `who`'s, and makes the answer truthful. At
-- the last reading its wall clock shows this.
pub record Explained (own : Local) (who : ℕ) (told : Told) (reading wall : ℕ) : Type 0 where
  pub errors : Errors
  pub world : World
  pub moment_of : ℕ → ℕ
  pub is_world : IsWorldFor errors world who own
  pub explains : Explains world who errors.tv own (whole told reading) moment_of
  pub truthful : IsTruthful world errors.tv moment_of told.landed told.older
  pub shows : (world (moment_of (length told.older + 1))).wall ≡ wall

-- The two worlds of a history, and what they say of each interval that contains the wall clock in all such worlds.
pub record HasLimits (loss : ℕ) (own : Local) (who : ℕ) (told : Told) (reading : ℕ) : Type 0 where
  pub least : ℕ
  pub least_explained : Explained own who told reading least
  pub low_enough : pos least ≤ℤ (lo own told.answer reading +ℤ pos loss)
  pub greatest : ℕ
  pub greatest_explained : Explained own who told reading greatest
  pub high_enough : (hi own told.answer reading -ℤ pos loss) ≤ℤ pos greatest
  pub none_narrower : (low high value : ℤ)
      → ((wall : ℕ) → Explained own who told reading wall → (low ≤ℤ pos wall) × (pos wall ≤ℤ high))
      → (lo own told.answer reading +ℤ pos loss) ≤ℤ value → value ≤ℤ (hi own told.answer reading -ℤ pos loss)
      → (low ≤ℤ value) × (value ≤ℤ high)

-- Where some world explains the history of a response, it has limits.
abbrev pub ResponsesHaveLimits : ℕ → Type 0
ResponsesHaveLimits loss = (own : Local) (who : ℕ) (trip : Trip) (reading wall : ℕ) → IsTrip trip
    → IsUsual own (times trip trip.message) reading → HasRun own (times trip trip.message)
    → Explained own who (told_by_response trip) reading wall
    → HasLimits loss own who (told_by_response trip) reading

-- ---- follow-ups
-- a response, and a follow-up that landed after it
pub record Followed : Type 0 where
  pub trip : Trip
  pub follow_up : List ℕ
  pub message : Message
  pub landed : ℕ

-- The response promised this follow-up. Its own transmit value is its receive value, so that it says nothing more.
pub record IsFollowed (followed : Followed) (reading : ℕ) : Type 0 where
  pub trip : IsTrip followed.trip
  pub follow_up : answer_in followed.follow_up ≡ Some followed.message
  pub message_type : followed.message.message_type ≡ 3
  pub response : followed.trip.message
      ≡ record followed.message { message_type = 2; transmit = followed.message.receive }
  pub later : followed.trip.landed ≤ followed.landed
  pub earlier : followed.landed ≤ reading

abbrev pub told_by_follow_up : Followed → Told
told_by_follow_up followed = record {
  older = Took followed.trip.peer followed.follow_up ∷ Clock why.Land followed.trip.landed ∷ taken followed.trip;
  landed = record { message = followed.message; reading = followed.landed };
  answer = times followed.trip followed.message;
}

-- Where some world explains the history of a response and its follow-up, it has limits.
abbrev pub FollowUpsHaveLimits : ℕ → Type 0
FollowUpsHaveLimits loss = (own : Local) (who : ℕ) (followed : Followed) (reading wall : ℕ)
    → IsFollowed followed reading
    → IsUsual own (times followed.trip followed.message) reading
    → HasRun own (times followed.trip followed.message)
    → Explained own who (told_by_follow_up followed) reading wall
    → HasLimits loss own who (told_by_follow_up followed) reading
