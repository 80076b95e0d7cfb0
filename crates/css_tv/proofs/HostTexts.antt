-- The addresses are UTF-8 where the host is.
use Rattle.std.proofs.Common.{ℕ, ◌<◌, ◌≤◌, ◌+◌, ◌^◌, ◌++◌, List, refl, arith}
use Rattle.std.specs.Prelude.{codes, pos}
use Rattle.std.specs.Str.{IsUtf8}
use Rattle.std.specs.Fmt.{signed_decimal}
use Rattle.std.proofs.lemmas.Str.{IsUtf8-append, IsUtf8-from_ascii}
use Rattle.std.proofs.lemmas.Fmt.{IsAscii-signed}
use Rattle.css_tv.specs.States.{wc_url, ts_url}

number : (n : ℕ) → n < 2 ^ 63 → IsUtf8 (signed_decimal (pos n))
number n small = IsUtf8-from_ascii (signed_decimal (pos n)) (IsAscii-signed (pos n) small)

colon : IsUtf8 (codes ":")
unfolding lib.Utf8.encode
colon = (codes ":", (refl, refl))

clock_scheme : IsUtf8 (codes "udp://")
unfolding lib.Utf8.encode
clock_scheme = (codes "udp://", (refl, refl))

session_scheme : IsUtf8 (codes "ws://")
unfolding lib.Utf8.encode
session_scheme = (codes "ws://", (refl, refl))

path : IsUtf8 (codes "/ts")
unfolding lib.Utf8.encode
path = (codes "/ts", (refl, refl))

pub wc_utf8 : (host : List ℕ) (port : ℕ) → port ≤ 65534 → IsUtf8 host → IsUtf8 (wc_url host port)
wc_utf8 host port small utf8 =
    IsUtf8-append ((codes "udp://" ++ host) ++ codes ":") (signed_decimal (pos port))
    (IsUtf8-append (codes "udp://" ++ host) (codes ":") (IsUtf8-append (codes "udp://") host clock_scheme utf8) colon)
    (number port (omega arith))

pub ts_utf8 : (host : List ℕ) (port : ℕ) → port ≤ 65534 → IsUtf8 host → IsUtf8 (ts_url host port)
ts_utf8 host port small utf8 =
    IsUtf8-append (((codes "ws://" ++ host) ++ codes ":") ++ signed_decimal (pos (port + 1))) (codes "/ts")
    (IsUtf8-append ((codes "ws://" ++ host) ++ codes ":") (signed_decimal (pos (port + 1)))
    (IsUtf8-append (codes "ws://" ++ host) (codes ":") (IsUtf8-append (codes "ws://") host session_scheme utf8) colon)
    (number (port + 1) (omega arith))) path
