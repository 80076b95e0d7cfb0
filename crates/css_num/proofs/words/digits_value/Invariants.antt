use Rattle.std.proofs.Common.{◌≡◌, ◌^◌, ◌<◌, drop}
use Rattle.css_num.specs.Words as words
use Rattle.css_num.proofs.words.digits_value.Given as goal

-- what is left of the bytes, after the number so far, gives what all of them give
abbrev pub invariant-loop-byte : goal.invariant-loop-byte
invariant-loop-byte l = record {
  rest : words.below_limit (2 ^ 64) (words.digits_after l.number (drop l.byte-index l.bytes)) ≡ words.below_limit
      (2 ^ 64) (words.digits_after 0 l.bytes);
  fits : l.number < 2 ^ 64;
}
