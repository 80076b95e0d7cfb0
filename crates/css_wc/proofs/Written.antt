-- The bytes of a message, written field by field over zeros.
use Rattle.std.proofs.Common.{◌≡◌, ℕ, List, [], ◌∷◌, ◌++◌, take, drop, refl}
use Rattle.std.specs.Prelude.{replicate}
use Rattle.std.specs.Int.{w8, cast_unsigned}
use Rattle.byteorder.specs.Endian.{big_bytes}
use Rattle.css_model.specs.declared.Message.{Message}
use Rattle.css_model.specs.Wire.{encoded, stamp_bytes}

-- each list has eight more bytes of the message than the one before
pub encoded-by_parts : (message : Message) (precision : ℕ) (head originate receive transmit : List ℕ)
    → precision ≡ cast_unsigned w8 message.precision
    → head ≡ (0 ∷ message.message_type ∷ precision ∷ 0 ∷ []) ++ big_bytes 4 message.error ++ replicate 24 0
    → originate ≡ take 8 head ++ stamp_bytes message.originate ++ drop 16 head
    → receive ≡ take 16 originate ++ stamp_bytes message.receive ++ drop 24 originate
    → transmit ≡ take 24 receive ++ stamp_bytes message.transmit ++ drop 32 receive
    → transmit ≡ encoded message
unfolding encoded
encoded-by_parts message precision head originate receive transmit e0 e1 e2 e3 e4 = rw (e4, e3, e2, e1, e0) refl
