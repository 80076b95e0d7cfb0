-- The relay's address is UTF-8 where its host is.
use Rattle.std.proofs.Common.{ℕ, ◌<◌, ◌^◌, ◌++◌, List, refl, arith}
use Rattle.std.specs.Prelude.{codes, pos}
use Rattle.std.specs.Str.{IsUtf8}
use Rattle.std.specs.Fmt.{signed_decimal}
use Rattle.std.proofs.lemmas.Str.{IsUtf8-append, IsUtf8-from_ascii}
use Rattle.std.proofs.lemmas.Fmt.{IsAscii-signed}
use Rattle.css_relay.specs.Relays.{wc_url_of}

number : (n : ℕ) → n < 2 ^ 63 → IsUtf8 (signed_decimal (pos n))
number n small = IsUtf8-from_ascii (signed_decimal (pos n)) (IsAscii-signed (pos n) small)

colon : IsUtf8 (codes ":")
unfolding lib.Utf8.encode
colon = (codes ":", (refl, refl))

scheme : IsUtf8 (codes "udp://")
unfolding lib.Utf8.encode
scheme = (codes "udp://", (refl, refl))

pub wc_url_utf8 : (host : List ℕ) (port : ℕ) → port < 2 ^ 16 → IsUtf8 host → IsUtf8 (wc_url_of host port)
wc_url_utf8 host port small utf8 =
    IsUtf8-append ((codes "udp://" ++ host) ++ codes ":") (signed_decimal (pos port))
    (IsUtf8-append (codes "udp://" ++ host) (codes ":") (IsUtf8-append (codes "udp://") host scheme utf8) colon)
    (number port (omega arith))
