-- The words that stand in the lines of a watch.
use Rattle.std.specs.Prelude.{ℕ, List, ◌++◌, codes, decimal, take}
use Rattle.hex.specs.Hex.{encode_lower}
use Rattle.css_client.specs.declared.landing.Landing.{Landing}
use Rattle.css_client.specs.declared.landing.Landing.TheVariants as landing
use Rattle.css_model.specs.declared.Failure.{Failure}
use Rattle.css_model.specs.declared.Failure.TheVariants as failure
use Rattle.css_model.specs.declared.Kind.{Kind}
use Rattle.css_model.specs.declared.Kind.TheVariants as kind
use Rattle.css_model.specs.declared.WcFault.{WcFault}
use Rattle.css_model.specs.declared.WcFault.TheVariants as fault

-- the name of a service
abbrev pub service_words : Kind → List ℕ
service_words kind.Wc = codes "WC"
service_words kind.Cii = codes "CII"
service_words kind.Ts = codes "TS"

-- why a dial failed
abbrev pub failure_words : Failure → List ℕ
failure_words failure.Refused = codes "refused"
failure_words failure.NoSuchHost = codes "no such host"
failure_words failure.TimedOut = codes "no answer"
failure_words (failure.HttpStatus status) = codes "HTTP status " ++ decimal status
failure_words failure.NoWebSocket = codes "no WebSocket"
failure_words failure.NoPermission = codes "no permission"
failure_words failure.NoRoom = codes "no room"
failure_words failure.InUse = codes "other"
failure_words failure.NotHere = codes "other"
failure_words failure.Other = codes "other"

-- why bytes are no datagram
abbrev pub undecodable_words : WcFault → List ℕ
undecodable_words fault.Length = codes "Undecodable Length"
undecodable_words fault.Version = codes "Undecodable Version"
undecodable_words fault.MessageType = codes "Undecodable MessageType"
undecodable_words fault.Precision = codes "Undecodable Precision"
undecodable_words fault.Error = codes "Undecodable Error"
undecodable_words fault.Nanoseconds = codes "Undecodable Nanoseconds"

-- what became of a datagram; `Accepted` is no refusal, and no line tells it
abbrev pub landing_words : Landing → List ℕ
landing_words landing.Accepted = codes "Accepted"
landing_words (landing.Undecodable reason) = undecodable_words reason
landing_words landing.NotAnAnswer = codes "NotAnAnswer"
landing_words landing.Unasked = codes "Unasked"
landing_words (landing.Impossible width) = codes "Impossible"

-- the first 64 bytes of a datagram, as hex digits
abbrev pub first_digits : List ℕ → List ℕ
first_digits bytes = encode_lower (take 64 bytes)
