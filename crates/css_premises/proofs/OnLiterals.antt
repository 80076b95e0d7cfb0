-- What proofs unfold to compute on literals: on datagrams and spans, on texts of CSS-CII, and on the addresses in URLs.
use Rattle.std.specs.Prelude.{⊤}
use Rattle.std.specs.Char.{encode_utf8}
use Rattle.std.specs.Str.{is_utf8, chars}
use Rattle.percent_encoding.specs.AsciiSet.{should_percent_encode}
use Rattle.percent_encoding.specs.Percent.{percent_encode}
use Rattle.url.specs.Head.{head_parts}
use Rattle.url.specs.Host.{parse_opaque_host}
use Rattle.url.specs.Input.{trim_c0_control_and_space, strip_tabs_and_new_lines, split_once, rsplit_once}
use Rattle.url.specs.Parser.{host_len, parse_port, parse_authority, leading_slashes, after_double_slash}
use Rattle.url.specs.Parser.{parse_non_special, parse_body, parse_parts, split_scheme, parse_url}
use Rattle.url.specs.Path.{parse_segments, parse_path_start}
use Rattle.url.specs.Scheme.{default_port, scheme_type, scheme_len}
use Rattle.serde_json.proofs.OnLiterals.{serde_json_on_literals}
use Rattle.css_text.specs.Numerals.{rewritten}
use Rattle.css_text.specs.Readings.{reading, object_of}
use Rattle.css_text.specs.WholeTexts.{whole_from}
use Rattle.css_address.specs.Addresses.{address_of}
use Rattle.css_cii.specs.Messages.{change_in, message_of}
use Rattle.css_cii.specs.States.{applied, difference, empty}
use Rattle.css_sessions.specs.Kept.{difference_text}
use Rattle.css_model.specs.WallClock.{lower, upper, lo, hi, scaled_width}
use Rattle.css_model.specs.Wire.{encoded, fault, fields}
use Rattle.css_relay.specs.Precisions.{exponent_for}

-- datagrams, spans and what a relay makes of them
unfoldable pub wall_clock_on_literals : ⊤
unfolding encoded fault fields scaled_width lower upper lo hi exponent_for
wall_clock_on_literals = tt

-- texts of CSS-CII
unfoldable pub objects_on_literals : ⊤
unfolding whole_from rewritten reading object_of is_utf8 chars encode_utf8 serde_json_on_literals
objects_on_literals = tt

unfoldable pub states_on_literals : ⊤
unfolding empty applied difference difference_text change_in message_of objects_on_literals
states_on_literals = tt

-- addresses in URLs
unfoldable pub pieces_on_literals : ⊤
unfolding trim_c0_control_and_space strip_tabs_and_new_lines split_once rsplit_once scheme_type scheme_len default_port
pieces_on_literals = tt

unfoldable pub hosts_on_literals : ⊤
unfolding percent_encode should_percent_encode head_parts parse_opaque_host host_len parse_port parse_authority
hosts_on_literals = tt

unfoldable pub paths_on_literals : ⊤
unfolding leading_slashes after_double_slash parse_non_special parse_segments parse_path_start parse_body parse_parts
paths_on_literals = tt

unfoldable pub addresses_on_literals : ⊤
unfolding address_of split_scheme parse_url pieces_on_literals hosts_on_literals paths_on_literals
addresses_on_literals = tt
