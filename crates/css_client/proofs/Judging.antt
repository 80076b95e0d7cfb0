-- What a datagram tells, by what the client knows.
use Rattle.std.proofs.Common.{◌≡◌, ◌∙◌, ap, sym, refl, true, false, cond, List, ℕ, ◌∷◌, ◌++◌}
use Rattle.std.specs.Prelude.{Bool, Some, None, Result, Ok, Err, ◌==◌, not, int_lt, pos}
use Rattle.std.specs.Option.{option_map, option_and_then, option_to_list}
use Rattle.std.specs.Result.{result_ok}
use Rattle.css_model.specs.declared.Stamp.{Stamp}
use Rattle.css_model.specs.declared.Message.{Message}
use Rattle.css_model.specs.declared.WcFault.{WcFault}
use Rattle.css_model.specs.declared.Why.TheVariants as why
use Rattle.css_model.specs.WallClock.{Answer, Local, scaled_width}
use Rattle.css_model.specs.Wire.{decoded}
use Rattle.css_model.specs.History.{Clock, Took, History, is_asked, LandedAnswer, landed_answer, landed_answers}
use Rattle.css_model.specs.History.{times_of, possible_answers, accepted_answers}
use Rattle.css_client.specs.declared.landing.Landing.{Landing}
use Rattle.css_client.specs.declared.landing.Landing.TheVariants as landings
use Rattle.css_client.specs.Clients.{Client, local_of, is_among, answer_of}
use Rattle.css_client.specs.Landings.{verdict, landing_of, landing_of_decoded, awaited_if, awaited_of, judged_answer}
use Rattle.css_client.specs.Landings.{judged_by, judged_of, landing_by, with_judged, LandingsAreJudged}
use Rattle.css_client.specs.Standing.{StandsFor}
use Rattle.css_client.proofs.Answering.{asked_by_client, same_times}

-- ---- awaited
-- what is decoded is awaited alike where the same is asked
same_awaited : (asks knows : Stamp → Bool) → ((originate : Stamp) → asks originate ≡ knows originate)
    → (came : Result Message WcFault) → awaited_if asks came ≡ awaited_if knows came
same_awaited asks knows same (Err fault) = refl
same_awaited asks knows same (Ok message) =
    ap (λ (t : Bool). cond (message.message_type == 0) (Err landings.NotAnAnswer)
    (cond t (Ok message) (Err landings.Unasked))) (same message.originate)

-- so the client knows what is awaited
pub awaited_by_client : (client : Client) (history : History) (bytes : List ℕ) → StandsFor client history
    → awaited_of history bytes ≡ awaited_if (λ originate. is_among originate client.asked) (decoded bytes)
awaited_by_client client history bytes stands =
    same_awaited (λ originate. is_asked originate history) (λ originate. is_among originate client.asked)
    (λ originate. asked_by_client client history originate stands) (decoded bytes)

-- a message that is awaited was decoded, is no request, and is asked
pub record IsAwaited (asks : Stamp → Bool) (read : Result Message WcFault) (message : Message) : Type 0 where
  pub came : read ≡ Ok message
  pub answers : (message.message_type == 0) ≡ false
  pub asked : asks message.originate ≡ true

pub is_awaited : (asks : Stamp → Bool) (came : Result Message WcFault) (message : Message)
    → awaited_if asks came ≡ Ok message → IsAwaited asks came message
is_awaited asks (Err fault) message e = absurd (cc)
is_awaited asks (Ok other) message e = by (other.message_type == 0) (asks other.originate) refl refl e
  where
    by : (zero asked : Bool) → (other.message_type == 0) ≡ zero → asks other.originate ≡ asked
        → cond zero (Err landings.NotAnAnswer) (cond asked (Ok other) (Err landings.Unasked)) ≡ Ok message
        → IsAwaited asks (Ok other) message
    by true asked f g e = absurd (cc)
    by false false f g e = absurd (cc)
    by false true f g e =
        let same : other ≡ message = cc in
        record {
          came = ap (λ (m : Message). Ok m) same;
          answers = ap (λ (m : Message). m.message_type == 0) (sym same) ∙ f;
          asked = ap (λ (m : Message). asks m.originate) (sym same) ∙ g;
        }

-- so it is of a message that the client awaits
pub awaited-by_history : (client : Client) (history : History) (bytes : List ℕ) (message : Message)
    → StandsFor client history
    → awaited_if (λ originate. is_among originate client.asked) (decoded bytes) ≡ Ok message
    → IsAwaited (λ originate. is_asked originate history) (decoded bytes) message
awaited-by_history client history bytes message stands e =
    is_awaited (λ originate. is_asked originate history) (decoded bytes) message
    (awaited_by_client client history bytes stands ∙ e)

-- what isn't awaited lands as nothing
pub refused-none : (history : History) (peer reading : ℕ) (bytes : List ℕ) (refusal : Landing)
    → awaited_of history bytes ≡ Err refusal
    → landed_answer (Clock why.Land reading) (Took peer bytes ∷ history) ≡ None
refused-none history peer reading bytes refusal = by (decoded bytes)
  where
    landed : Message → LandedAnswer
    landed message = record { message = message; reading = reading }

    of_asked : (message : Message) (asked : Bool)
        → cond asked (Ok message) (Err landings.Unasked) ≡ Err refusal
        → option_map landed (cond asked (Some message) None) ≡ None
    of_asked message true e = absurd (cc)
    of_asked message false e = refl

    of_type : (message : Message) (zero : Bool)
        → cond zero (Err landings.NotAnAnswer) (cond (is_asked message.originate history) (Ok message)
        (Err landings.Unasked)) ≡ Err refusal
        → option_map landed (option_and_then (λ m. cond
        (is_asked m.originate history) (Some m) None) (cond zero None (Some message))) ≡ None
    of_type message true e = refl
    of_type message false e = of_asked message (is_asked message.originate history) e

    by : (came : Result Message WcFault)
        → awaited_if (λ originate. is_asked originate history) came ≡ Err refusal
        → option_map landed
        (option_and_then (λ m. cond (is_asked m.originate history) (Some m) None)
        (option_and_then (λ m. cond (m.message_type == 0) None (Some m)) (result_ok came))) ≡ None
    by (Err fault) e = refl
    by (Ok message) e = of_type message (message.message_type == 0) e

-- ---- judged
-- what isn't awaited tells nothing
pub judged-refused : (client : Client) (history : History) (reading : ℕ) (bytes : List ℕ) (refusal : Landing)
    → StandsFor client history
    → awaited_if (λ originate. is_among originate client.asked) (decoded bytes) ≡ Err refusal
    → judged_of (local_of client) history reading bytes ≡ Err refusal
judged-refused client history reading bytes refusal stands e =
    ap (λ (r : Result Message Landing). judged_by (local_of client) history reading r)
    (awaited_by_client client history bytes stands ∙ e)

-- what is awaited tells what the client takes it for
pub judged-awaited : (client : Client) (history : History) (reading : ℕ) (bytes : List ℕ) (message : Message)
    → StandsFor client history
    → awaited_if (λ originate. is_among originate client.asked) (decoded bytes) ≡ Ok message
    → judged_of (local_of client) history reading bytes
    ≡ judged_answer (local_of client) reading (answer_of client.promises reading message)
judged-awaited client history reading bytes message stands e =
    let own = local_of client in
    let is = awaited-by_history client history bytes message stands e in
    ap (λ (r : Result Message Landing). judged_by own history reading r)
    (awaited_by_client client history bytes stands ∙ e)
    ∙ ap (λ (a : Answer). judged_answer own reading a) (sym (same_times client history reading message stands is.asked))

-- ---- the law
-- what becomes of a datagram is by what it tells
landing_is_judged : (own : Local) (history : History) (reading : ℕ) (bytes : List ℕ)
    → landing_of own history reading bytes ≡ landing_by (judged_of own history reading bytes)
landing_is_judged own history reading bytes = by (decoded bytes)
  where
    times : Message → Answer
    times message = times_of (record { message = message; reading = reading }) (landed_answers history)

    of_width : (answer : Answer) (less : Bool)
        → cond less (landings.Impossible (scaled_width own answer reading)) landings.Accepted
        ≡ landing_by (cond less (Err (landings.Impossible (scaled_width own answer reading))) (Ok answer))
    of_width answer true = refl
    of_width answer false = refl

    of_asked : (message : Message) (asked : Bool)
        → cond asked (verdict own reading (times message)) landings.Unasked
        ≡ landing_by (judged_by own history reading (cond asked (Ok message) (Err landings.Unasked)))
    of_asked message true = of_width (times message) (int_lt (scaled_width own (times message) reading) (pos 0))
    of_asked message false = refl

    of_type : (message : Message) (zero : Bool)
        → cond zero landings.NotAnAnswer
        (cond (is_asked message.originate history) (verdict own reading (times message)) landings.Unasked)
        ≡ landing_by (judged_by own history reading (cond zero (Err landings.NotAnAnswer)
        (cond (is_asked message.originate history) (Ok message) (Err landings.Unasked))))
    of_type message true = refl
    of_type message false = of_asked message (is_asked message.originate history)

    by : (came : Result Message WcFault) → landing_of_decoded own history reading came
        ≡ landing_by (judged_by own history reading (awaited_if (λ originate. is_asked originate history) came))
    by (Err fault) = refl
    by (Ok message) = of_type message (message.message_type == 0)

-- and so are the answers that are accepted after it
judged_is_accepted : (own : Local) (history : History) (peer reading : ℕ) (bytes : List ℕ)
    → accepted_answers own (Clock why.Land reading ∷ Took peer bytes ∷ history)
    ≡ with_judged (judged_of own (Took peer bytes ∷ history) reading bytes) (accepted_answers own history)
judged_is_accepted own history peer reading bytes = by (decoded bytes)
  where
    landed : Message → LandedAnswer
    landed message = record { message = message; reading = reading }

    older : List LandedAnswer
    older = landed_answers history

    times : Message → Answer
    times message = times_of (landed message) older

    of_width : (answer : Answer) (less : Bool)
        → option_to_list (cond (not less) (Some answer) None) ++ possible_answers own older
        ≡ with_judged (cond less (Err (landings.Impossible (scaled_width own answer reading))) (Ok answer))
        (possible_answers own older)
    of_width answer true = refl
    of_width answer false = refl

    of_asked : (message : Message) (asked : Bool)
        → possible_answers own (option_to_list (option_map landed (cond asked (Some message) None)) ++ older)
        ≡ with_judged (judged_by own history reading (cond asked (Ok message) (Err landings.Unasked)))
        (possible_answers own older)
    of_asked message true = of_width (times message) (int_lt (scaled_width own (times message) reading) (pos 0))
    of_asked message false = refl

    of_type : (message : Message) (zero : Bool)
        → possible_answers own (option_to_list (option_map landed (option_and_then (λ m. cond
        (is_asked m.originate history) (Some m) None) (cond zero None (Some message)))) ++ older)
        ≡ with_judged (judged_by own history reading (cond zero (Err landings.NotAnAnswer)
        (cond (is_asked message.originate history) (Ok message) (Err landings.Unasked))))
        (possible_answers own older)
    of_type message true = refl
    of_type message false = of_asked message (is_asked message.originate history)

    by : (came : Result Message WcFault)
        → possible_answers own (option_to_list (option_map landed
        (option_and_then (λ m. cond (is_asked m.originate history) (Some m) None)
        (option_and_then (λ m. cond (m.message_type == 0) None (Some m)) (result_ok came)))) ++ older)
        ≡ with_judged (judged_by own history reading (awaited_if (λ originate. is_asked originate history) came))
        (possible_answers own older)
    by (Err fault) = refl
    by (Ok message) = of_type message (message.message_type == 0)

pub landings_are_judged : LandingsAreJudged
landings_are_judged own history peer reading bytes = record {
  landing = landing_is_judged own history reading bytes;
  accepted = judged_is_accepted own history peer reading bytes;
  asleep = refl;
}
