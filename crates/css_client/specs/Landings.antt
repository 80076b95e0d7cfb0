-- What becomes of a datagram, by the history before it.
use Rattle.std.specs.Prelude.{ℕ, ◌≡◌, pos, int_lt, List, [], ◌∷◌, Bool, ◌==◌, if◌then◌else◌, Result, Ok, Err}
use Rattle.css_model.specs.declared.Stamp.{Stamp}
use Rattle.css_model.specs.declared.Message.{Message}
use Rattle.css_model.specs.declared.WcFault.{WcFault}
use Rattle.css_model.specs.declared.Why.TheVariants as why
use Rattle.css_model.specs.WallClock.{Answer, Local, scaled_width}
use Rattle.css_model.specs.Wire.{decoded}
use Rattle.css_model.specs.History.{History, Clock, Took, Slept, is_asked, landed_answers, times_of, accepted_answers}
use Rattle.css_client.specs.declared.landing.Landing.{Landing}
use Rattle.css_client.specs.declared.landing.Landing.TheVariants as landings

-- a refusal that tells a client nothing at all
abbrev pub IsRefusal : Landing → Type 0
IsRefusal (landings.Undecodable _) = Unit {0}
IsRefusal landings.NotAnAnswer = Unit {0}
IsRefusal landings.Unasked = Unit {0}
IsRefusal _ = ⊥

-- An answer is impossible where its width at its own landing is below zero.
abbrev pub verdict : Local → ℕ → Answer → Landing
verdict own reading answer =
    if int_lt (scaled_width own answer reading) (pos 0) then landings.Impossible (scaled_width own answer reading)
    else landings.Accepted

-- what becomes of a datagram of the protocol that landed at a reading
abbrev pub landing_of_message : Local → History → ℕ → Message → Landing
landing_of_message own history reading message =
    if message.message_type == 0 then landings.NotAnAnswer
    else if is_asked message.originate history then
    verdict own reading (times_of (record { message = message; reading = reading }) (landed_answers history))
    else landings.Unasked

-- what becomes of what was decoded
abbrev pub landing_of_decoded : Local → History → ℕ → Result Message WcFault → Landing
landing_of_decoded own history reading (Err fault) = landings.Undecodable fault
landing_of_decoded own history reading (Ok message) = landing_of_message own history reading message

-- what becomes of bytes that landed at a reading, after this history
abbrev pub landing_of : Local → History → ℕ → List ℕ → Landing
landing_of own history reading bytes = landing_of_decoded own history reading (decoded bytes)

-- ---- what a datagram tells
-- what was decoded is an answer to what is asked, or why it is refused
abbrev pub awaited_if : (Stamp → Bool) → Result Message WcFault → Result Message Landing
awaited_if asks (Err fault) = Err (landings.Undecodable fault)
awaited_if asks (Ok message) =
    if message.message_type == 0 then Err landings.NotAnAnswer
    else if asks message.originate then Ok message
    else Err landings.Unasked

-- bytes are an answer that may still come after this history, or why they are refused
abbrev pub awaited_of : History → List ℕ → Result Message Landing
awaited_of history bytes = awaited_if (λ originate. is_asked originate history) (decoded bytes)

-- what an answer tells, unless it is impossible at its landing
abbrev pub judged_answer : Local → ℕ → Answer → Result Answer Landing
judged_answer own reading answer =
    if int_lt (scaled_width own answer reading) (pos 0)
    then Err (landings.Impossible (scaled_width own answer reading)) else Ok answer

-- what an answer that may still come tells at its landing, or why the datagram is refused
abbrev pub judged_by : Local → History → ℕ → Result Message Landing → Result Answer Landing
judged_by own history reading (Err refusal) = Err refusal
judged_by own history reading (Ok message) =
    judged_answer own reading (times_of (record { message = message; reading = reading }) (landed_answers history))

-- what bytes tell that landed at a reading, after this history, or why they are refused
abbrev pub judged_of : Local → History → ℕ → List ℕ → Result Answer Landing
judged_of own history reading bytes = judged_by own history reading (awaited_of history bytes)

-- what becomes of a datagram, by what it tells
abbrev pub landing_by : Result Answer Landing → Landing
landing_by (Ok answer) = landings.Accepted
landing_by (Err refusal) = refusal

-- the answers with the one that a datagram tells in front, if it isn't refused
abbrev pub with_judged : Result Answer Landing → List Answer → List Answer
with_judged (Ok answer) answers = answer ∷ answers
with_judged (Err refusal) answers = answers

-- After this history: what becomes of a datagram is by what it tells; the accepted answers after it are those before,
-- with what it tells in front; and where the companion slept since, nothing is accepted.
pub record IsJudged (own : Local) (history : History) (peer reading : ℕ) (bytes : List ℕ) : Type 0 where
  pub landing : landing_of own history reading bytes ≡ landing_by (judged_of own history reading bytes)
  pub accepted : accepted_answers own (Clock why.Land reading ∷ Took peer bytes ∷ history)
      ≡ with_judged (judged_of own (Took peer bytes ∷ history) reading bytes) (accepted_answers own history)
  pub asleep : accepted_answers own (Clock why.Land reading ∷ Slept ∷ Took peer bytes ∷ history) ≡ []

-- So it is of each datagram that lands.
abbrev pub LandingsAreJudged : Type 0
LandingsAreJudged = (own : Local) (history : History) (peer reading : ℕ) (bytes : List ℕ)
    → IsJudged own history peer reading bytes
