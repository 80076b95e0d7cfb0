-- Whole texts, worked out by hand: the definitions compute to these.
use Rattle.std.proofs.Common.{◌≡◌, Ok, Err, refl, codes}
use Rattle.json.specs.Word.{after_number}
use Rattle.serde_json.specs.Data.{number, unsigned, member, no_members}
use Rattle.serde_json.proofs.OnLiterals.{serde_json_on_literals}
use Rattle.std.specs.Str.{is_utf8, chars}
use Rattle.std.specs.Char.{encode_utf8}
use Rattle.css_text.specs.Numerals.{rewritten, is_odd}
use Rattle.css_text.specs.WholeTexts.{whole_text, odd_count, whole_from, odd_from}
use Rattle.css_text.specs.Readings.{reading, object_of}
use Rattle.css_text.specs.declared.faults.TextFault.TheVariants.{NotJson, NotObject}

-- numerals in strings and escapes stay, and `true` has none
whole : whole_text (codes "{\"a 1.0\":1.0,\"b\":-0,\"c\":1e3,\"d\":true,\"e\\\"2.0\":[2.5]}") ≡ codes
    "{\"a 1.0\":1,\"b\":0,\"c\":null,\"d\":true,\"e\\\"2.0\":[null]}"
unfolding whole_from rewritten after_number
whole = refl

-- two of them became `null`
odd : odd_count (codes "{\"a 1.0\":1.0,\"b\":-0,\"c\":1e3,\"d\":true,\"e\\\"2.0\":[2.5]}") ≡ 2
unfolding odd_from is_odd after_number
odd = refl

-- of a repeated name the last value stays
repeated : object_of (codes "{\"a\":1,\"a\":2.0}") ≡ Ok (member (codes "a") (number (unsigned 2)) no_members)
unfolding whole_from rewritten reading object_of is_utf8 chars encode_utf8 serde_json_on_literals
repeated = refl

-- the front of a text is no JSON
cut : object_of (codes "{\"a\":\"1") ≡ Err NotJson
unfolding whole_from rewritten reading object_of is_utf8 chars encode_utf8 serde_json_on_literals
cut = refl

-- a numeral alone is another value
other : object_of (codes "1.50") ≡ Err NotObject
unfolding whole_from rewritten reading object_of is_utf8 chars encode_utf8 serde_json_on_literals
other = refl
