-- Datagrams and their faults, worked out by hand: the definitions compute to these.
use Rattle.std.proofs.Common.{◌≡◌, ℕ, refl, List, [], ◌∷◌, take, drop, Some, None}
use Rattle.std.specs.Prelude.{ℤ, pos, negsuc, Ok, Err, ◌++◌}
use Rattle.css_model.specs.declared.Stamp.{Stamp}
use Rattle.css_model.specs.declared.Message.{Message}
use Rattle.css_model.specs.declared.WcFault.TheVariants as faults
use Rattle.css_model.specs.Numbers.{precision_ns}
use Rattle.css_model.specs.Wire.{encoded, decoded, fault, fields, request_at, stamp_of}
use Rattle.css_model.specs.History.{request_in, answer_in}

-- ---- precisions
finest_precisions_are_a_nanosecond : (precision_ns (negsuc 127) ≡ 1) × (precision_ns (negsuc 29) ≡ 1)
finest_precisions_are_a_nanosecond = (refl, refl)

precisions_are_rounded_up : (precision_ns (negsuc 19) ≡ 954) × (precision_ns (negsuc 7) ≡ 3906250)
precisions_are_rounded_up = (refl, refl)

whole_seconds : (precision_ns (pos 0) ≡ 1000000000) × (precision_ns (pos 30) ≡ 1073741824000000000)
whole_seconds = (refl, refl)

-- ---- a request and its response
abbrev zero : Stamp
zero = record { seconds = 0; nanoseconds = 0 }

abbrev response : Stamp → Message
response originate = record {
  message_type = 1;
  precision = negsuc 29;
  error = 0;
  originate = originate;
  receive = stamp_of 5000;
  transmit = stamp_of 5200;
}

-- the bytes of a response at 5000 and 5200, after its originate value's
abbrev response_bytes : List ℕ → List ℕ
response_bytes originate =
    0 ∷ 1 ∷ 226 ∷ 0 ∷ 0 ∷ 0 ∷ 0 ∷ 0 ∷ originate
    ++ 0 ∷ 0 ∷ 0 ∷ 0 ∷ 0 ∷ 0 ∷ 19 ∷ 136 ∷ 0 ∷ 0 ∷ 0 ∷ 0 ∷ 0 ∷ 0 ∷ 20 ∷ 80 ∷ []

abbrev originate_1000 : List ℕ
originate_1000 = 0 ∷ 0 ∷ 0 ∷ 0 ∷ 0 ∷ 0 ∷ 3 ∷ 232 ∷ []

request_written : encoded (request_at 1000)
    ≡ 0 ∷ 0 ∷ 0 ∷ 0 ∷ 0 ∷ 0 ∷ 0 ∷ 0 ∷ originate_1000
    ++ 0 ∷ 0 ∷ 0 ∷ 0 ∷ 0 ∷ 0 ∷ 0 ∷ 0 ∷ 0 ∷ 0 ∷ 0 ∷ 0 ∷ 0 ∷ 0 ∷ 0 ∷ 0 ∷ []
unfolding encoded
request_written = refl

response_written : encoded (response (stamp_of 1000)) ≡ response_bytes originate_1000
unfolding encoded
response_written = refl

-- an originate value with more nanoseconds than a second has comes back as it was sent
abbrev odd_originate : Stamp
odd_originate = record { seconds = 0; nanoseconds = 4294967295 }

abbrev odd_response_bytes : List ℕ
odd_response_bytes = response_bytes (0 ∷ 0 ∷ 0 ∷ 0 ∷ 255 ∷ 255 ∷ 255 ∷ 255 ∷ [])

odd_originate_written : encoded (response odd_originate) ≡ odd_response_bytes
unfolding encoded
odd_originate_written = refl

odd_originate_read : decoded odd_response_bytes ≡ Ok (response odd_originate)
unfolding fault fields
odd_originate_read = refl

response_is_an_answer_alone : (request_in odd_response_bytes ≡ None)
    × (answer_in odd_response_bytes ≡ Some (response odd_originate))
unfolding fault fields
response_is_an_answer_alone = (refl, refl)

request_is_a_request_alone :
    (request_in (encoded (request_at 1000)) ≡ Some (request_at 1000)) × (answer_in (encoded (request_at 1000)) ≡ None)
unfolding encoded fault fields
request_is_a_request_alone = (refl, refl)

-- ---- faults
nothing_is_too_short : decoded [] ≡ Err faults.Length
unfolding fault
nothing_is_too_short = refl

one_byte_less_is_too_short : decoded (take 31 odd_response_bytes) ≡ Err faults.Length
unfolding fault
one_byte_less_is_too_short = refl

one_byte_more_is_too_long : decoded (odd_response_bytes ++ 0 ∷ []) ≡ Err faults.Length
unfolding fault
one_byte_more_is_too_long = refl

-- 32 bytes that begin with this version and type
abbrev version_and_type : ℕ → ℕ → List ℕ
version_and_type version message_type = version ∷ message_type ∷ drop 2 odd_response_bytes

version_comes_before_type : decoded (version_and_type 1 4) ≡ Err faults.Version
unfolding fault
version_comes_before_type = refl

type_is_at_most_3 : decoded (version_and_type 0 4) ≡ Err faults.MessageType
unfolding fault
type_is_at_most_3 = refl

-- a message with these fields, whose transmit value is in order
abbrev doubtful : (message_type : ℕ) → (precision : ℤ) → (error nanoseconds : ℕ) → Message
doubtful message_type precision error nanoseconds = record {
  message_type = message_type;
  precision = precision;
  error = error;
  originate = zero;
  receive = record { seconds = 0; nanoseconds = nanoseconds };
  transmit = zero;
}

greatest_fields_are_sound : decoded (encoded (doubtful 1 (pos 30) 25600000 999999999))
    ≡ Ok (doubtful 1 (pos 30) 25600000 999999999)
unfolding encoded fault fields
greatest_fields_are_sound = refl

precision_is_at_most_30 : decoded (encoded (doubtful 1 (pos 31) 25600000 999999999)) ≡ Err faults.Precision
unfolding encoded fault fields
precision_is_at_most_30 = refl

error_is_at_most_a_tenth : decoded (encoded (doubtful 1 (pos 30) 25600001 999999999)) ≡ Err faults.Error
unfolding encoded fault fields
error_is_at_most_a_tenth = refl

nanoseconds_are_below_a_second : decoded (encoded (doubtful 1 (pos 30) 25600000 1000000000)) ≡ Err faults.Nanoseconds
unfolding encoded fault fields
nanoseconds_are_below_a_second = refl

-- so are those of the transmit value
transmit_is_tested_too :
    decoded (encoded (record (response zero) { transmit = record { seconds = 0; nanoseconds = 1000000000 } }))
    ≡ Err faults.Nanoseconds
unfolding encoded fault fields
transmit_is_tested_too = refl

precision_comes_before_error : decoded (encoded (doubtful 3 (pos 31) 25600001 1000000000)) ≡ Err faults.Precision
unfolding encoded fault fields
precision_comes_before_error = refl

error_comes_before_nanoseconds : decoded (encoded (doubtful 2 (pos 30) 25600001 1000000000)) ≡ Err faults.Error
unfolding encoded fault fields
error_comes_before_nanoseconds = refl

request_has_no_such_fault : decoded (encoded (doubtful 0 (pos 31) 25600001 1000000000))
    ≡ Ok (doubtful 0 (pos 31) 25600001 1000000000)
unfolding encoded fault fields
request_has_no_such_fault = refl
