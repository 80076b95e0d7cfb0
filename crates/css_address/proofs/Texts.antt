-- Which texts give no address, and what is read of the others.
use Rattle.std.proofs.Common.{◌≡◌, ℕ, ◌<◌, ◌≤◌, ◌⊎◌, inl, inr, List, length, None, Err, refl, ap}
use Rattle.std.proofs.lemmas.Bool.{le-leb, lt-leb, false_from_ne_true}
use Rattle.std.proofs.Math.Bool.{and-false}
use Rattle.std.specs.Str.{IsUtf8, is_utf8}
use Rattle.std.proofs.lemmas.Str.{is_utf8-from_IsUtf8, IsUtf8-from_is_utf8}
use Rattle.url.specs.declared.error.ParseError.{ParseError}
use Rattle.url.specs.declared.error.ParseError.TheVariants.{Overflow, OutOfMemory}
use Rattle.url.specs.Parts.{Parts}
use Rattle.url.specs.Parser.{Parsed, parse_url, IsOutOfRoom}
use Rattle.css_model.specs.declared.Kind.{Kind}
use Rattle.css_address.specs.declared.reading.TheConstants.{LONGEST_ADDRESS}
use Rattle.css_address.specs.declared.fault.AddressFault.TheVariants.{Bad, Memory}
use Rattle.css_address.specs.Addresses.{address_of, address_read}
use Rattle.css_address.specs.Faults.{parse_fault}

-- a text that is too long
pub too_long : (kind : Kind) (text : List ℕ) → LONGEST_ADDRESS < length text → address_of kind text ≡ Err Bad
unfolding address_of
too_long kind text long = rw (lt-leb (length text) LONGEST_ADDRESS long) refl

-- bytes that aren't UTF-8
pub not_utf8 : (kind : Kind) (text : List ℕ) → ¬ IsUtf8 text → address_of kind text ≡ Err Bad
unfolding address_of
not_utf8 kind text other =
    rw (false_from_ne_true (is_utf8 text) (λ e. other (IsUtf8-from_is_utf8 text e)), and-false) refl

-- any other text, which a call was handed as `given`
pub read : (kind : Kind) (text given : List ℕ) → length text ≤ LONGEST_ADDRESS → (given ≡ text) × IsUtf8 text
    → address_of kind text ≡ address_read kind (parse_url None given)
unfolding address_of
read kind text given short utf8 =
    rw (le-leb (length text) LONGEST_ADDRESS short, is_utf8-from_IsUtf8 text utf8.1, utf8.0) refl

-- a text that is no URL, or for whose URL there was no room
pub refused : (kind : Kind) (expected : Parsed Parts) (error : ParseError)
    → (expected ≡ Err error) ⊎ IsOutOfRoom error
    → (address_read kind expected ≡ Err (parse_fault error)) ⊎ (parse_fault error ≡ Memory)
refused kind expected OutOfMemory h = inr refl
refused kind expected Overflow h = inr refl
refused kind expected error h =
    inl (elim h [
      | inl is ↦ ap (λ read. address_read kind read) is
      | inr room ↦ elim room [ inl none ↦ cc none | inr great ↦ cc great ]
    ])
