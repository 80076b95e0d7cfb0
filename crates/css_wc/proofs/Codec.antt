-- A datagram that was written is read back.
use Rattle.std.proofs.Common.{◌≡◌, ℕ, ◌^◌, ◌<◌, ◌≤◌, ap, ◌∙◌, Bool, false, cond, List, [], ◌++◌, drop, refl}
use Rattle.std.specs.Prelude.{ℤ, Option, Some, None, Ok, nat_lt, FitsSigned}
use Rattle.std.specs.Int.{w8, cast_signed, cast_unsigned}
use Rattle.std.proofs.lemmas.Int.{to_z-of_z}
use Rattle.std.proofs.lemmas.Bool.{le-ltb}
use Rattle.byteorder.specs.Endian.{big_bytes, big_number}
use Rattle.byteorder.specs.Numbers.{big_number-reads_back}
use Rattle.css_model.specs.declared.Stamp.{Stamp}
use Rattle.css_model.specs.declared.Message.{Message}
use Rattle.css_model.specs.declared.WcFault.{WcFault}
use Rattle.css_model.specs.declared.WcFault.TheVariants as faults
use Rattle.css_model.specs.Wire.{encoded, decoded, fields, fault, field_fault, stamp_in, stamp_bytes}

-- the ranges of a message's fields, as its type has them
pub record IsStamp (s : Stamp) : Type 0 where
  pub seconds : s.seconds < 2 ^ 32
  pub nanoseconds : s.nanoseconds < 2 ^ 32

pub record IsMessage (m : Message) : Type 0 where
  pub message_type : m.message_type ≤ 3
  pub precision : FitsSigned w8 m.precision
  pub error : m.error < 2 ^ 32
  pub originate : IsStamp m.originate
  pub receive : IsStamp m.receive
  pub transmit : IsStamp m.transmit

stamp_same : (s : Stamp) (a b : ℕ) → a ≡ s.seconds → b ≡ s.nanoseconds → record { seconds = a; nanoseconds = b } ≡ s
stamp_same s a b p q =
    let f : ℕ → Stamp = λ n. record { seconds = n; nanoseconds = b } in
    let g : ℕ → Stamp = λ n. record { seconds = s.seconds; nanoseconds = n } in
    ap f p ∙ ap g q

message_same : (m : Message) (p : ℤ) (e : ℕ) (o r t : Stamp) → p ≡ m.precision → e ≡ m.error → o ≡ m.originate
    → r ≡ m.receive → t ≡ m.transmit
    → record { message_type = m.message_type; precision = p; error = e; originate = o; receive = r; transmit = t } ≡ m
message_same m p e o r t hp he ho hr ht =
    let f : ℤ → Message = λ n.
    record { message_type = m.message_type; precision = n; error = e; originate = o; receive = r; transmit = t } in
    let g : ℕ → Message = λ n.
    record {
      message_type = m.message_type;
      precision = m.precision;
      error = n;
      originate = o;
      receive = r;
      transmit = t;
    } in
    let h : Stamp → Message =
    λ n. record {
      message_type = m.message_type;
      precision = m.precision;
      error = m.error;
      originate = n;
      receive = r;
      transmit = t;
    } in
    let i : Stamp → Message =
    λ n. record {
      message_type = m.message_type;
      precision = m.precision;
      error = m.error;
      originate = m.originate;
      receive = n;
      transmit = t;
    } in
    let j : Stamp → Message =
    λ n. record {
      message_type = m.message_type;
      precision = m.precision;
      error = m.error;
      originate = m.originate;
      receive = m.receive;
      transmit = n;
    } in
    ap f hp ∙ ap g he ∙ ap h ho ∙ ap i hr ∙ ap j ht

stamp_in-bytes : (s : Stamp) (rest : List ℕ) → IsStamp s → stamp_in (stamp_bytes s ++ rest) ≡ s
stamp_in-bytes s rest h =
    let a : big_number 4 (stamp_bytes s ++ rest) ≡ s.seconds =
    big_number-reads_back 4 s.seconds (big_bytes 4 s.nanoseconds ++ rest) h.seconds in
    let b : big_number 4 (drop 4 (stamp_bytes s ++ rest)) ≡ s.nanoseconds =
    big_number-reads_back 4 s.nanoseconds rest h.nanoseconds in
    stamp_same s _ _ a b

pub fields-encoded : (m : Message) → IsMessage m → fields (encoded m) ≡ m
unfolding fields encoded
fields-encoded m h =
    let a : cast_signed w8 (cast_unsigned w8 m.precision) ≡ m.precision = to_z-of_z w8 m.precision h.precision in
    let b : big_number 4 (big_bytes 4 m.error
    ++ (stamp_bytes m.originate ++ stamp_bytes m.receive ++ stamp_bytes m.transmit)) ≡ m.error =
    big_number-reads_back 4 m.error (stamp_bytes m.originate ++ stamp_bytes m.receive ++ stamp_bytes m.transmit)
    h.error in
    let c : stamp_in (stamp_bytes m.originate ++ (stamp_bytes m.receive ++ stamp_bytes m.transmit)) ≡ m.originate =
    stamp_in-bytes m.originate (stamp_bytes m.receive ++ stamp_bytes m.transmit) h.originate in
    let d : stamp_in (stamp_bytes m.receive ++ stamp_bytes m.transmit) ≡ m.receive =
    stamp_in-bytes m.receive (stamp_bytes m.transmit) h.receive in
    let e : stamp_in (stamp_bytes m.transmit ++ []) ≡ m.transmit = stamp_in-bytes m.transmit [] h.transmit in
    message_same m _ _ _ _ _ a b c d e

after_type : (b : Bool) (o : Option WcFault) → b ≡ false → o ≡ None → cond b (Some faults.MessageType) o ≡ None
after_type b o e f = rw (e, f) refl

fault-encoded : (m : Message) → IsMessage m → field_fault m ≡ None → fault (encoded m) ≡ None
unfolding fault encoded
fault-encoded m h sound =
    after_type (nat_lt 3 m.message_type) (field_fault (fields (encoded m))) (le-ltb 3 m.message_type h.message_type)
    (ap field_fault (fields-encoded m h) ∙ sound)

-- what has no fault is read back
pub decoded-encoded : (m : Message) → IsMessage m → field_fault m ≡ None → decoded (encoded m) ≡ Ok m
decoded-encoded m h sound = rw (fault-encoded m h sound, fields-encoded m h) refl
