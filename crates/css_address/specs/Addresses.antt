-- The address that the text of a URL gives.
use Rattle.std.specs.Prelude.{ℕ, List, [], ◌++◌, length, codes, bytes_eq, Bool, ◌&&◌, nat_le}
use Rattle.std.specs.Prelude.{Option, Some, None, option_map, Result, Ok, Err, if◌then◌else◌}
use Rattle.std.specs.Option.{option_or}
use Rattle.std.specs.Str.{is_utf8}
use Rattle.url.specs.Host.{host_text}
use Rattle.url.specs.Parts.{Parts, nonempty_host}
use Rattle.url.specs.Parser.{Parsed, parse_url}
use Rattle.css_model.specs.History.{Address}
use Rattle.css_model.specs.declared.Kind.{Kind}
use Rattle.css_model.specs.declared.Kind.TheVariants as kind
use Rattle.css_address.specs.declared.reading.TheConstants.{LONGEST_ADDRESS}
use Rattle.css_address.specs.declared.fault.AddressFault.{AddressFault}
use Rattle.css_address.specs.declared.fault.AddressFault.TheVariants.{Bad}

-- the scheme of an address
abbrev pub scheme_of : Kind → List ℕ
scheme_of kind.Wc = codes "udp"
scheme_of kind.Cii = codes "ws"
scheme_of kind.Ts = codes "ws"

-- the port of an address that names none: that of WebSockets, and none for the wall clock
abbrev pub default_port_of : Kind → Option ℕ
default_port_of kind.Wc = None
default_port_of kind.Cii = Some 80
default_port_of kind.Ts = Some 80

-- the query, behind its question mark
abbrev pub query_text : Option (List ℕ) → List ℕ
query_text None = []
query_text (Some query) = codes "?" ++ query

-- an address has a host and a port
abbrev pub address_at : Option (List ℕ) → Option ℕ → List ℕ → Result Address AddressFault
address_at (Some host) (Some port) path = Ok (record { host = host; port = port; path = path })
address_at (Some host) None path = Err Bad
address_at None port path = Err Bad

-- the address of a URL
abbrev pub address_in : Kind → Parts → Result Address AddressFault
address_in kind url =
    if bytes_eq url.scheme (scheme_of kind)
    then address_at (option_map host_text (nonempty_host url)) (option_or url.port (default_port_of kind))
    (url.path ++ query_text url.query)
    else Err Bad

-- the address of what the URL Standard reads
abbrev pub address_read : Kind → Parsed Parts → Result Address AddressFault
address_read kind (Ok url) = address_in kind url
address_read kind (Err error) = Err Bad

-- a text that isn't too long, of UTF-8
abbrev pub is_readable : List ℕ → Bool
is_readable text = nat_le (length text) LONGEST_ADDRESS && is_utf8 text

-- the address that a text gives
unfoldable pub address_of : Kind → List ℕ → Result Address AddressFault
address_of kind text = if is_readable text then address_read kind (parse_url None text) else Err Bad
