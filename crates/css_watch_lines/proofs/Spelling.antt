-- The words and numbers of lines are UTF-8.
use Rattle.std.proofs.Common.{◌≡◌, ℕ, List, [], ◌∷◌, true, suc, ◌^◌, ◌<◌, ℤ, pos, negsuc, refl, arith}
use Rattle.std.proofs.lemmas.Bool.{and_parts, ltb-true}
use Rattle.std.proofs.lemmas.Fmt.{IsAscii-decimal_wide}
use Rattle.std.proofs.lemmas.List.Elements.{All-cons, All-nil}
use Rattle.std.proofs.lemmas.Str.Ascii.{IsAscii-from_all}
use Rattle.std.proofs.lemmas.Str.{IsUtf8-append, IsUtf8-from_ascii}
use Rattle.std.specs.Prelude.{All, codes, decimal, nat_lt, take, unsigned_abs}
use Rattle.std.specs.Fmt.{signed_decimal}
use Rattle.std.specs.Str.{IsUtf8}
use Rattle.hex.proofs.HexLemmas.{IsAscii-encode_with}
use Rattle.hex.specs.Hex.{lower_digits}
use Rattle.json.proofs.Printed.Utf8.{IsUtf8-are_ascii, are_ascii}
use Rattle.css_model.specs.declared.Failure.{Failure}
use Rattle.css_model.specs.declared.Failure.TheVariants as failure
use Rattle.css_model.specs.declared.Kind.{Kind}
use Rattle.css_model.specs.declared.Kind.TheVariants as kind
use Rattle.css_model.specs.declared.WcFault.{WcFault}
use Rattle.css_model.specs.declared.WcFault.TheVariants as wc
use Rattle.css_tsmsg.specs.Names.{json_name}
use Rattle.css_tsmsg.specs.declared.fault.TsFault.{TsFault}
use Rattle.css_tsmsg.specs.declared.fault.TsFault.TheVariants as fault
use Rattle.css_tsmsg.specs.declared.name.TsName.{TsName}
use Rattle.css_tsmsg.specs.declared.name.TsName.TheVariants as name
use Rattle.css_client.specs.declared.landing.Landing.{Landing}
use Rattle.css_client.specs.declared.landing.Landing.TheVariants as landing
use Rattle.css_companion.specs.Printed.{cause_words, fault_words}
use Rattle.css_companion.specs.declared.report.Cause.{Cause}
use Rattle.css_companion.specs.declared.report.Cause.TheVariants as cause
use Rattle.css_watch_lines.specs.Ranges.{StatusFits}
use Rattle.css_watch_lines.specs.Words.{service_words, failure_words, undecodable_words, landing_words, first_digits}

-- the digits of a number
digits_utf8 : (n : ℕ) → n < 10 ^ 64 → IsUtf8 (decimal n)
digits_utf8 n small = IsUtf8-from_ascii (decimal n) (IsAscii-decimal_wide n small)

-- those of one that may be below zero
pub signed_utf8 : (z : ℤ) → unsigned_abs z < 2 ^ 128 → IsUtf8 (signed_decimal z)
signed_utf8 (pos n) small = digits_utf8 n (omega arith)
signed_utf8 (negsuc n) small =
    IsUtf8-append (codes "-") (decimal (suc n)) (IsUtf8-are_ascii (codes "-") refl) (digits_utf8 (suc n) (omega arith))

-- those of a reading
pub reading_utf8 : (n : ℕ) → n < 2 ^ 64 → IsUtf8 (decimal n)
reading_utf8 n small = digits_utf8 n (omega arith)

-- the name of a service
pub service_utf8 : (k : Kind) → IsUtf8 (service_words k)
service_utf8 kind.Wc = IsUtf8-are_ascii _ refl
service_utf8 kind.Cii = IsUtf8-are_ascii _ refl
service_utf8 kind.Ts = IsUtf8-are_ascii _ refl

-- why a dial failed
pub failure_utf8 : (f : Failure) → StatusFits f → IsUtf8 (failure_words f)
failure_utf8 failure.Refused h = IsUtf8-are_ascii _ refl
failure_utf8 failure.NoSuchHost h = IsUtf8-are_ascii _ refl
failure_utf8 failure.TimedOut h = IsUtf8-are_ascii _ refl
failure_utf8 (failure.HttpStatus status) h =
    IsUtf8-append (codes "HTTP status ") (decimal status) (IsUtf8-are_ascii _ refl) (digits_utf8 status (omega arith))
failure_utf8 failure.NoWebSocket h = IsUtf8-are_ascii _ refl
failure_utf8 failure.NoPermission h = IsUtf8-are_ascii _ refl
failure_utf8 failure.NoRoom h = IsUtf8-are_ascii _ refl
failure_utf8 failure.InUse h = IsUtf8-are_ascii _ refl
failure_utf8 failure.NotHere h = IsUtf8-are_ascii _ refl
failure_utf8 failure.Other h = IsUtf8-are_ascii _ refl

-- hex digits
small : (bs : List ℕ) → are_ascii bs ≡ true → All (λ (b : ℕ). b < 128) bs
small [] e = All-nil (λ (b : ℕ). b < 128)
small (b ∷ bs) e =
    let p = and_parts (nat_lt b 128) (are_ascii bs) e in
    All-cons (λ (b : ℕ). b < 128) b bs (ltb-true b 128 p.0) (small bs p.1)

-- the first bytes of a datagram
pub first_utf8 : (bytes : List ℕ) → IsUtf8 (first_digits bytes)
first_utf8 bytes =
    IsUtf8-from_ascii (first_digits bytes) (IsAscii-encode_with lower_digits (take 64 bytes)
    (IsAscii-from_all lower_digits (small lower_digits refl)))

-- why bytes are no datagram
undecodable_utf8 : (f : WcFault) → IsUtf8 (undecodable_words f)
undecodable_utf8 wc.Length = IsUtf8-are_ascii _ refl
undecodable_utf8 wc.Version = IsUtf8-are_ascii _ refl
undecodable_utf8 wc.MessageType = IsUtf8-are_ascii _ refl
undecodable_utf8 wc.Precision = IsUtf8-are_ascii _ refl
undecodable_utf8 wc.Error = IsUtf8-are_ascii _ refl
undecodable_utf8 wc.Nanoseconds = IsUtf8-are_ascii _ refl

-- what became of a datagram
pub landing_utf8 : (l : Landing) → IsUtf8 (landing_words l)
landing_utf8 landing.Accepted = IsUtf8-are_ascii _ refl
landing_utf8 (landing.Undecodable reason) = undecodable_utf8 reason
landing_utf8 landing.NotAnAnswer = IsUtf8-are_ascii _ refl
landing_utf8 landing.Unasked = IsUtf8-are_ascii _ refl
landing_utf8 (landing.Impossible width) = IsUtf8-are_ascii _ refl

-- the name of a member
name_utf8 : (n : TsName) → IsUtf8 (json_name n)
name_utf8 name.ContentIdStem = IsUtf8-are_ascii _ refl
name_utf8 name.TimelineSelector = IsUtf8-are_ascii _ refl
name_utf8 name.ContentTime = IsUtf8-are_ascii _ refl
name_utf8 name.TimelineSpeedMultiplier = IsUtf8-are_ascii _ refl
name_utf8 name.WallClockTime = IsUtf8-are_ascii _ refl
name_utf8 name.Earliest = IsUtf8-are_ascii _ refl
name_utf8 name.Latest = IsUtf8-are_ascii _ refl
name_utf8 name.Actual = IsUtf8-are_ascii _ refl

-- the fault of a text
pub fault_utf8 : (f : TsFault) → IsUtf8 (fault_words f)
fault_utf8 fault.NotJson = IsUtf8-are_ascii _ refl
fault_utf8 fault.NotObject = IsUtf8-are_ascii _ refl
fault_utf8 fault.Fractional = IsUtf8-are_ascii _ refl
fault_utf8 (fault.Field n) = IsUtf8-append (codes "Field ") (json_name n) (IsUtf8-are_ascii _ refl) (name_utf8 n)
fault_utf8 (fault.Range n) = IsUtf8-append (codes "Range ") (json_name n) (IsUtf8-are_ascii _ refl) (name_utf8 n)
fault_utf8 fault.Memory = IsUtf8-are_ascii _ refl

-- the cause that a report has no ticks
pub cause_utf8 : (c : Cause) → IsUtf8 (cause_words c)
cause_utf8 cause.NoAnswer = IsUtf8-are_ascii _ refl
cause_utf8 cause.NoTimestamp = IsUtf8-are_ascii _ refl
cause_utf8 cause.SessionClosed = IsUtf8-are_ascii _ refl
cause_utf8 (cause.Unreadable f) =
    IsUtf8-append (codes "Unreadable ") (fault_words f) (IsUtf8-are_ascii _ refl) (fault_utf8 f)
cause_utf8 cause.Unavailable = IsUtf8-are_ascii _ refl
cause_utf8 cause.NoRate = IsUtf8-are_ascii _ refl
