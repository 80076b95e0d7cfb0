-- The bytes are those of the message, whose fields are in the ranges of their types.
use Rattle.std.proofs.Common.{rules, ◌∙◌, ap, arith}
use Rattle.std.specs.Int.{w8, cast_unsigned}
use Rattle.std.proofs.lemmas.Int.{to_z-of_z}
use Rattle.css_model.specs.Wire.{decoded}
use Rattle.css_wc.proofs.Written.{encoded-by_parts}
use Rattle.css_wc.proofs.Codec.{IsMessage, decoded-encoded}
use Rattle.css_wc.proofs.encoding.bytes_of.Goals as goal

ranges : (c : goal.After-bytes-8-1) → IsMessage c.args.message
ranges c = record {
  message_type = c.requires.message_type;
  precision = search rules;
  error = omega arith;
  originate = record { seconds = omega arith; nanoseconds = omega arith };
  receive = record { seconds = omega arith; nanoseconds = omega arith };
  transmit = record { seconds = omega arith; nanoseconds = omega arith };
}

pub returns-clause-bytes : goal.returns-clause-bytes
returns-clause-bytes c =
    let precision =
    c.cast_unsigned.ensures ∙ ap (cast_unsigned w8) (to_z-of_z w8 c.args.message.precision (ranges c).precision) in
    encoded-by_parts c.args.message _ _ _ _ _ precision c.write_number.ensures c.write_stamp.ensures
    c.write_stamp-2.ensures c.write_stamp-3.ensures

pub returns-clause-read_back : goal.returns-clause-read_back
returns-clause-read_back c =
    ap decoded (returns-clause-bytes c) ∙ decoded-encoded c.args.message (ranges c) c.requires.fields
