use Rattle.std.proofs.Common.{◌≡◌, ◌≤◌, ◌<◌, ◌-◌, ◌^◌, Some, take}
use Rattle.css_num.specs.Words.{digits_after}
use Rattle.css_schedule.proofs.words.leading_digits.Given as goal

abbrev pub invariant-digits : goal.invariant-digits
invariant-digits l = record {
  value : digits_after 0 (take l.count l.bytes) ≡ Some l.number;
  small : l.number < 10 ^ l.count;
  within : l.count ≤ l.most;
}

abbrev pub decreases-digits : goal.decreases-digits
decreases-digits l = l.most - l.count
