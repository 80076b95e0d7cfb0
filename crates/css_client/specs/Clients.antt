-- What a client keeps. Of requests the newest stands first; promises stand in the order of their requests.
use Rattle.std.specs.Prelude.{ℕ, suc, ◌*◌, ◌^◌, ◌≤◌, List, [], ◌∷◌, Bool, not, ◌&&◌, if◌then◌else◌}
use Rattle.std.specs.Prelude.{Option, Some, None, unwrap_or, nat_lt, IsTrue, All, ◌⊎◌, ◌≡◌, ◌≢◌, ◌==◌}
use Rattle.std.specs.declared.cmp.Ordering.{Ordering}
use Rattle.std.specs.Ordering.{nat_cmp, ordering_then}
use Rattle.std.specs.List.{filter, list_any}
use Rattle.std.specs.Option.{option_or}
use Rattle.css_model.specs.declared.Stamp.{Stamp}
use Rattle.css_model.specs.declared.Message.{Message}
use Rattle.css_model.specs.Numbers.{precision_ns}
use Rattle.css_model.specs.WallClock.{Answer, Local}
use Rattle.css_model.specs.Wire.{second, is_same_stamp, stamp_of, reading_of}
use Rattle.css_span.specs.Frontiers.{Frontier}
use Rattle.css_client.specs.declared.promises.Exchange.{Exchange}
use Rattle.css_client.specs.declared.promises.Promise.{Promise}

-- The readings of the last 64 requests since the last sleep; what is remembered of the responses to them that promised
-- follow-ups; the estimate of the answers that were accepted since the last sleep; the least reading that may be handed
-- next; and the least one that may be handed after a sleep.
pub record Client : Type 0 where
  pub asked : List ℕ
  pub promises : List Promise
  pub estimate : Frontier
  pub floor : ℕ
  pub after_sleep : ℕ

-- the companion's own clock
abbrev pub local_of : Client → Local
local_of client = client.estimate.local

-- What is always true of a client. A floor of 2^32 seconds leaves no reading that may be handed next.
pub record IsClient (client : Client) : Type 0 where
  pub estimate : client.estimate.floor ≤ client.floor
  pub floor : client.floor ≤ 2 ^ 32 * second
  pub after_sleep : client.after_sleep ≤ 2 ^ 32 * second
  pub later : client.after_sleep ≤ suc client.floor

-- ---- requests
-- whether one of the requests has this originate value
abbrev pub is_among : Stamp → List ℕ → Bool
is_among originate asked = list_any (λ request. is_same_stamp (stamp_of request) originate) asked

-- no reading is below an older one
abbrev pub NeverFall : List ℕ → Type 0
NeverFall [] = Unit {0}
NeverFall (reading ∷ older) = All (λ earlier. earlier ≤ reading) older × NeverFall older

-- ---- promises
-- the order of exchanges: that of their requests, then of their receive values
abbrev pub exchange_cmp : Exchange → Exchange → Ordering
exchange_cmp x y = ordering_then (nat_cmp x.asked y.asked) (nat_cmp x.received y.received)

-- what an entry of the map remembers: the responses to a request are told apart by their receive values
abbrev pub promise_of : Exchange × ℕ → Promise
promise_of entry = record {
  originate = stamp_of entry.0.asked;
  receive = stamp_of entry.0.received;
  landed = entry.1;
}

-- whether a promise has these originate and receive values
abbrev pub is_promise : Stamp → Stamp → Promise → Bool
is_promise originate receive promise =
    is_same_stamp promise.originate originate && is_same_stamp promise.receive receive

-- the reading at which the promise with these originate and receive values landed
abbrev pub first_landed : Stamp → Stamp → List Promise → Option ℕ
first_landed originate receive [] = None
first_landed originate receive (promise ∷ others) =
    if is_promise originate receive promise then Some promise.landed else first_landed originate receive others

-- the promises but for the one with these originate and receive values
abbrev pub without_promise : Stamp → Stamp → List Promise → List Promise
without_promise originate receive [] = []
without_promise originate receive (promise ∷ others) =
    if is_promise originate receive promise then others else promise ∷ without_promise originate receive others

-- the promises but for those of requests before this reading
abbrev pub asked_since : ℕ → List Promise → List Promise
asked_since oldest promises = filter (λ promise. not (nat_lt (reading_of promise.originate) oldest)) promises

-- no two promises have the same originate and receive values
abbrev pub AreDistinct : List Promise → Type 0
AreDistinct [] = Unit {0}
AreDistinct (promise ∷ others) = (first_landed promise.originate promise.receive others ≡ None) × AreDistinct others

-- Nothing is remembered but of requests that are still asked, and of these no response twice.
pub record RemembersOnly (asked : List ℕ) (promises : List Promise) : Type 0 where
  pub of_asked : All (λ promise. IsTrue (is_among promise.originate asked)) promises
  pub once : AreDistinct promises

-- Those that matter are remembered as before: of requests that are still asked, and of those that may still be made.
abbrev pub RemembersAll : ℕ → List ℕ → List Promise → List Promise → Type 0
RemembersAll floor asked old new = (originate receive : Stamp)
    → IsTrue (is_among originate asked) ⊎ (floor ≤ reading_of originate)
    → first_landed originate receive new ≡ first_landed originate receive old

-- the times, precision and error of an answer, by what is remembered of earlier responses
abbrev pub answer_of : List Promise → ℕ → Message → Answer
answer_of promises reading message = record {
  t1 = reading_of message.originate;
  t2 = reading_of message.receive;
  t3 = reading_of message.transmit;
  t4 =
      if message.message_type == 3 then unwrap_or (first_landed message.originate message.receive promises) reading
      else reading;
  precision = precision_ns message.precision;
  error = message.error;
}

-- The new promises are the old ones with one more, unless there is one with its originate and receive values.
pub record Adds (promise : Promise) (old new : List Promise) : Type 0 where
  pub values : (originate receive : Stamp) → first_landed originate receive new
      ≡ option_or (first_landed originate receive old)
      (if is_promise originate receive promise then Some promise.landed else None)
  pub only : (asked : List ℕ) → IsTrue (is_among promise.originate asked) → RemembersOnly asked old
      → RemembersOnly asked new

-- What is remembered after an answer landed: a response that promises a follow-up is, if it is the first with its
-- values.
abbrev pub Remembers : ℕ → Message → List Promise → List Promise → Type 0
Remembers reading message old new =
    (message.message_type ≡ 2
    → Adds (record { originate = message.originate; receive = message.receive; landed = reading }) old new)
    × (message.message_type ≢ 2 → new ≡ old)
