-- How a companion notices answers that contradict each other.
use Rattle.std.specs.Prelude.{ℕ, ◌≡◌, ◌==◌, ◌||◌, List, ◌∷◌, Bool, false, All, if◌then◌else◌}
use Rattle.std.specs.Prelude.{Option, Some, None, Result, Ok, Err}
use Rattle.css_agree.specs.Agreements.{AgreesAt, IsShared, IsTruthful, IsTrueOf}
use Rattle.css_agree.specs.Disagreements.{contradicts}
use Rattle.css_agree.specs.Keeping as keeping
use Rattle.css_agree.specs.declared.agreed.Agreed.{Agreed}
use Rattle.css_agree.specs.declared.agreed.Agreed.TheVariants.{Nothing, Within, Disagree}
use Rattle.css_cii.specs.Names.{json_name}
use Rattle.css_cii.specs.declared.fault.CiiFault.TheVariants as reasons
use Rattle.css_cii.specs.declared.name.CiiName.{CiiName}
use Rattle.css_client.specs.Landings.{judged_of, landing_of}
use Rattle.css_companion.specs.Printed.{fault_words}
use Rattle.css_companion.specs.Standing.{Companion, StandsFor, own_of, timing_now}
use Rattle.css_companion.specs.declared.fault.CompanionFault.{CompanionFault}
use Rattle.css_companion.specs.declared.fault.CompanionFault.TheVariants as faults
use Rattle.css_companion.specs.declared.knowledge.Timing.{Timing}
use Rattle.css_companion.specs.declared.report.Cause.{Cause}
use Rattle.css_companion.specs.declared.report.Cause.TheVariants as cause
use Rattle.css_companion_c.specs.Codes.{DISAGREE, NO_ANSWER, landing_code, narrow_code}
use Rattle.css_companion_c.specs.declared.follower.Follower.{Follower}
use Rattle.css_companion_c.specs.declared.reading.Ends.{Ends}
use Rattle.css_model.specs.History.{Clock, History, Took, accepted_answers}
use Rattle.css_model.specs.WallClock.{Answer, Local}
use Rattle.css_model.specs.World.{World, Errors, IsWorldFor, Reads}
use Rattle.css_model.specs.declared.Why.TheVariants as why
use Rattle.css_span.specs.Frontiers.{Answers}

-- the answers that were accepted since the last sleep
abbrev pub accepted : Companion → History → Answers
accepted companion history = accepted_answers (own_of companion) history

-- What is kept of these is their agreement, by the own clock.
pub record Agrees (follower : Follower) (history : History) : Type 0 where
  pub local : follower.agree.local ≡ own_of follower.companion
  pub stands : keeping.StandsFor follower.agree (accepted follower.companion history)

-- they haven't disagreed, and nothing was asked since
pub record BeginsAnew (follower : Follower) (history : History) : Type 0 where
  pub agrees : Agrees follower history
  pub agreeing : follower.disagrees ≡ false
  pub unasked : follower.asked ≡ None

-- ---- a datagram that lands
-- whether the answer that it tells makes them disagree there, if it is accepted
abbrev pub contradicted : Companion → History → ℕ → List ℕ → Bool
contradicted companion history reading bytes =
    contradicts (own_of companion) reading (judged_of (own_of companion) history reading bytes)
    (accepted companion history)

-- the code of what became of it
abbrev pub noticed_code : Companion → History → ℕ → List ℕ → ℕ
noticed_code companion history reading bytes =
    if contradicted companion history reading bytes then DISAGREE
    else landing_code (landing_of (own_of companion) history reading bytes)

-- whether the answer that it tells, if it is accepted, is to the request at this reading
abbrev pub is_answer_to : {Refusal : Type 0} → Option ℕ → Result Answer Refusal → Bool
is_answer_to (Some asked) (Ok answer) = answer.t1 == asked
is_answer_to (Some asked) (Err refusal) = false
is_answer_to None judged = false

-- The answer that it tells was added, if it was accepted; a disagreement is noted, and an answer to the last request.
-- What was refused last stays.
pub record Notices (peer reading : ℕ) (bytes : List ℕ) (old new : Follower) (history : History) : Type 0 where
  pub agrees : Agrees new (Clock why.Land reading ∷ Took peer bytes ∷ history)
  pub noted : new.disagrees ≡ (old.disagrees || contradicted old.companion history reading bytes)
  pub asked : new.asked ≡ old.asked
  pub answered : new.answered
      ≡ (old.answered || is_answer_to old.asked (judged_of (own_of old.companion) history reading bytes))
  pub refused : new.fault ≡ old.fault

-- No world that keeps the declared errors makes all of these answers truthful, where the own clock shows the reading.
abbrev pub AreNotAllTrue : Local → ℕ → Answers → Type 0
AreNotAllTrue own reading answers = (errors : Errors) (world : World) (who sleeps i : ℕ)
    → IsWorldFor errors world who own → Reads world who i own.precision reading sleeps
    → All (IsTruthful errors world who own sleeps i) answers
    → ⊥

-- ---- a request
-- it is the last one now, and no answer to it came; the answers stay
abbrev pub Asks : ℕ → Follower → Follower → Type 0
Asks reading old new =
    new ≡ record old { companion = new.companion; asked = Some reading; answered = false }

-- ---- a CII text
-- the property for which it is refused, if it is refused for one
abbrev pub refused_for : {T : Type 0} → Result T CompanionFault → Option CiiName
refused_for (Err (faults.BadCii number (reasons.Field name))) = Some name
refused_for (Err (faults.Moved name old new)) = Some name
refused_for _ = None

-- the words for that property, or else for the reason that the last control timestamp can't be read
abbrev pub words_by : Option CiiName → Result Timing Cause → Option (List ℕ)
words_by (Some name) timing = Some (json_name name)
words_by None (Err (cause.Unreadable reason)) = Some (fault_words reason)
words_by None _ = None

abbrev pub words_of : Follower → Option (List ℕ)
words_of follower = words_by follower.fault (timing_now follower.companion)

-- ---- what all answers say together
-- the code of what they say
abbrev pub agreed_code : Agreed → ℕ
agreed_code Nothing = NO_ANSWER
agreed_code (Within span) = narrow_code span.lo span.hi
agreed_code (Disagree low high) = DISAGREE

-- it is the code of what the accepted answers say together at the reading
abbrev pub IsAgreedCode : ℕ → ℕ → Follower → Type 0
IsAgreedCode reading code follower = (history : History) → Agrees follower history
    → (agreed : Agreed)
    × AgreesAt (own_of follower.companion) reading (accepted follower.companion history) agreed
    × (code ≡ agreed_code agreed)

-- the span goes from the greatest lower end of the spans of the accepted answers to the least upper end
abbrev pub IsTheirs : ℕ → Ends → Follower → Type 0
IsTheirs reading span follower = (history : History) → Agrees follower history
    → IsShared (own_of follower.companion) reading (accepted follower.companion history)
    (record { lo = span.lo; hi = span.hi })

-- it contains the wall clock in each world that keeps the declared errors and makes all of them truthful
abbrev pub IsTrueOfAll : ℕ → Ends → Follower → Type 0
IsTrueOfAll reading span follower = (history : History) → Agrees follower history
    → IsTrueOf (own_of follower.companion) reading (accepted follower.companion history)
    (record { lo = span.lo; hi = span.hi })

-- ---- for private clauses
-- the companion stands for this history, and a datagram that lands after it tells this answer
pub record Tells (follower : Follower) (history : History) (reading : ℕ) (bytes : List ℕ) (answer : Answer) :
    Type 0 where
  pub stands : StandsFor follower.companion history
  pub agrees : Agrees follower history
  pub judged : judged_of (own_of follower.companion) history reading bytes ≡ Ok answer
