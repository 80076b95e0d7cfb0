use Rattle.std.proofs.Common.{rules, ◌≡◌, ◌+◌, ◌-◌, refl, arith}
use Rattle.std.proofs.lemmas.Slice.{put_mid-paste}
use Rattle.std.proofs.lemmas.List.{places}
use Rattle.byteorder.specs.Endian.{big_bytes}
use Rattle.css_wc.proofs.encoding.write_number.Goals as goal

pub returns : goal.returns
returns c =
    let e : c.write_u32.new.buf ≡ big_bytes 4 c.args.number = search (rules, places) in
    put_mid-paste c.args.start (c.args.start + 4 - c.args.start) c.args.bytes.now c.write_u32.new.buf
    (big_bytes 4 c.args.number) 4 e (omega arith) refl
