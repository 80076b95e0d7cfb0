-- What a landing shows: a reading, an originate value that is asked, and a declared error in its range.
use Rattle.std.proofs.Common.{◌≡◌, ℕ, ◌≤◌, ap, sym, ◌∙◌, subst, Bool, true, false, cond, List, length, refl}
use Rattle.std.specs.Prelude.{pos, int_lt, Option, Some, None, ◌==◌, nat_lt, ◌&&◌, not, slice_index}
use Rattle.std.specs.Result.{result_ok}
use Rattle.std.specs.Option.{option_and_then, option_map}
use Rattle.std.proofs.lemmas.Bool.{ltb-false, cond-false}
use Rattle.std.proofs.lemmas.Option.{same_Some, cond_some, option_and_then_some}
use Rattle.css_model.specs.declared.Message.{Message}
use Rattle.css_model.specs.declared.WcFault.{WcFault}
use Rattle.css_model.specs.declared.WcFault.TheVariants as faults
use Rattle.css_model.specs.declared.Why.TheVariants as why
use Rattle.css_model.specs.Numbers.{max_error}
use Rattle.css_model.specs.Wire.{decoded, unless_fault, fault, fields, field_fault, second}
use Rattle.css_model.specs.History.{Entry, Clock, History, reading_at, landing_at, answer_in, just_taken}
use Rattle.css_model.specs.History.{awaited_answer, is_sleep, is_asked, LandedAnswer, landed_answer}

-- ---- the declared error
-- where a chain of tests finds no fault, its rest finds none
none_after : {A : Type 0} (b : Bool) (x : A) (y : Option A) → cond b (Some x) y ≡ None → y ≡ None
none_after true x y e = absurd (cc)
none_after false x y e = e

-- bytes with no fault have fields with none
fault-none : (bytes : List ℕ) → fault bytes ≡ None → field_fault (fields bytes) ≡ None
unfolding fault
fault-none bytes e =
    let after_version = cond (nat_lt 3 (slice_index bytes 1)) (Some faults.MessageType) (field_fault (fields bytes)) in
    none_after (nat_lt 3 (slice_index bytes 1)) faults.MessageType (field_fault (fields bytes))
    (none_after (not (slice_index bytes 0 == 0)) faults.Version after_version
    (none_after (not (length bytes == 32)) faults.Length _ e))

-- an answer whose fields have no fault declares an error in its range
field_fault-none : (message : Message) → (message.message_type == 0) ≡ false → field_fault message ≡ None
    → message.error ≤ max_error
field_fault-none message answer e =
    by (nat_lt max_error message.error) refl
    (none_after (int_lt (pos 30) message.precision) faults.Precision after_precision
    (sym (cond-false (message.message_type == 0) None
    (cond (int_lt (pos 30) message.precision) (Some faults.Precision) after_precision) answer) ∙ e))
  where
    after_precision : Option WcFault
    after_precision = cond (nat_lt max_error message.error) (Some faults.Error)
        (cond (nat_lt message.receive.nanoseconds second && nat_lt message.transmit.nanoseconds second) None
        (Some faults.Nanoseconds))

    by : (t : Bool) → nat_lt max_error message.error ≡ t
        → cond t (Some faults.Error)
        (cond (nat_lt message.receive.nanoseconds second && nat_lt message.transmit.nanoseconds second) None
        (Some faults.Nanoseconds)) ≡ None
        → message.error ≤ max_error
    by true e h = absurd (cc)
    by false e h = ltb-false max_error message.error e

-- what decodes has no fault and is the fields
unless_fault-ok : (first : Option WcFault) (a b : Message) → result_ok (unless_fault first a) ≡ Some b
    → (first ≡ None) × (a ≡ b)
unless_fault-ok None a b e = (refl, cc)
unless_fault-ok (Some x) a b e = absurd (cc)

-- a choice that gives something is the second
second_some : {A : Type 0} (b : Bool) (x y : A) → cond b None (Some x) ≡ Some y → (b ≡ false) × (x ≡ y)
second_some true x y e = absurd (cc)
second_some false x y e = (refl, cc)

-- an answer that decodes declares an error in its range
answer_in-error : (bytes : List ℕ) (message : Message) → answer_in bytes ≡ Some message → message.error ≤ max_error
answer_in-error bytes message e =
    option_and_then_some (λ x. cond (x.message_type == 0) None (Some x)) (result_ok (decoded bytes)) message e (λ x p q.
    let a = unless_fault-ok (fault bytes) (fields bytes) x p in
    let b = second_some (x.message_type == 0) x message q in
    field_fault-none message (subst (λ k. (k.message_type == 0) ≡ false) b.1 b.0)
    (subst (λ k. field_fault k ≡ None) (a.1 ∙ b.1) (fault-none bytes a.0)))

-- ---- the landing
-- what is known of an answer that landed with an entry
pub record IsLanding (entry : Entry) (older : History) (landed : LandedAnswer) : Type 0 where
  pub reading : reading_at entry ≡ Some landed.reading
  pub awake : is_sleep entry ≡ false
  pub asked : is_asked landed.message.originate older ≡ true
  pub error : landed.message.error ≤ max_error

-- a landing is a reading of the clock
landing_at-reading : (entry : Entry) (r : ℕ) → landing_at entry ≡ Some r
    → (reading_at entry ≡ Some r) × (is_sleep entry ≡ false)
landing_at-reading (Clock why.Land reading) r e = (e, refl)
landing_at-reading (Clock w reading) r e = absurd (cc)
landing_at-reading _ r e = absurd (cc)

-- an awaited answer is asked, and declares an error in its range
awaited_answer-is : (older : History) (message : Message) → awaited_answer older ≡ Some message
    → (is_asked message.originate older ≡ true) × (message.error ≤ max_error)
awaited_answer-is older message e =
    option_and_then_some (λ x. cond (is_asked x.originate older) (Some x) None)
    (option_and_then answer_in (just_taken older)) message e
    (λ x p q. option_and_then_some answer_in (just_taken older) x p (λ bytes u v.
    let asked = cond_some (is_asked x.originate older) x message q in (
      subst (λ (m : Message). is_asked m.originate older ≡ true) asked.1 asked.0,
      subst (λ (m : Message). m.error ≤ max_error) asked.1 (answer_in-error bytes x v),
    )))

-- what lands is known so
pub landed_answer-is : (entry : Entry) (older : History) (landed : LandedAnswer)
    → landed_answer entry older ≡ Some landed → IsLanding entry older landed
landed_answer-is entry older landed e =
    option_and_then_some (λ r. option_map (λ m. record { message = m; reading = r }) (awaited_answer older))
    (landing_at entry) landed e
    (λ r p q. by r p (awaited_answer older) refl q)
  where
    by : (r : ℕ) → landing_at entry ≡ Some r → (o : Option Message) → awaited_answer older ≡ o
        → option_map (λ (m : Message). record { message = m; reading = r }) o ≡ Some landed
        → IsLanding entry older landed
    by r p None a q = absurd (cc)
    by r p (Some m) a q =
        let at = landing_at-reading entry r p in
        let known = awaited_answer-is older m a in
        let made : LandedAnswer = record { message = m; reading = r } in
        let same : made ≡ landed = same_Some made landed q in
        let is_m : m ≡ landed.message = ap (λ (y : LandedAnswer). y.message) same in
        record {
          reading = at.0 ∙ ap (λ (y : LandedAnswer). Some y.reading) same;
          awake = at.1;
          asked = subst (λ (n : Message). is_asked n.originate older ≡ true) is_m known.0;
          error = subst (λ (n : Message). n.error ≤ max_error) is_m known.1;
        }
