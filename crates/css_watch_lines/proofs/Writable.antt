-- Which values can stand in a line.
use Rattle.std.proofs.Common.{ℕ, ◌^◌, ◌<◌, ◌≤◌, ℤ, pos, negsuc, List, nat_cmp, Ordering}
use Rattle.std.proofs.Common.{Less, Equal, Greater, arith}
use Rattle.std.specs.Prelude.{unsigned_abs}
use Rattle.std.specs.Ordering.{match_ordering}
use Rattle.std.specs.Cmp.Lexicographic.{slice_cmp}
use Rattle.serde_json.specs.Data.{Data, string, object, depth, Members, no_members, member, put}
use Rattle.serde_json.specs.Find.{of_integer}
use Rattle.css_num.specs.Rates.{TickRate, IsTickRate}
use Rattle.css_num.specs.Spans.{Interval}
use Rattle.css_num.specs.declared.control.Control.{Control}
use Rattle.css_num.specs.declared.control.Control.TheVariants.{Available, Unavailable}
use Rattle.css_text.specs.CompactTexts.{IsPlain, IsPlainNumber}
use Rattle.css_cii.specs.States.{full_change}
use Rattle.css_cii.specs.Texts.{rate_data, change_members, EachIn, RatesAreInRange}
use Rattle.css_cii.specs.declared.state.State.{State}
use Rattle.css_cii.proofs.RoundTrips.{plain_change, low_change}
use Rattle.css_tsmsg.specs.Controls.{IsInRange}
use Rattle.css_tsmsg.proofs.RoundTrips.{control_plain}
use Rattle.css_model.specs.WallClock.{IsAnswer}
use Rattle.css_watch_lines.specs.Lines.{between_data, whole, signed, span_data, ticks_data, told_control}
use Rattle.css_watch_lines.specs.declared.known.Between.{Between}
use Rattle.css_watch_lines.specs.declared.known.Ticks.{Ticks}
use Rattle.css_watch_lines.specs.Writable.{IsWritable, AreWritable}

-- ---- members
-- none
pub none_writable : AreWritable no_members
none_writable = record { plain = tt; shallow = omega arith }

-- one member before others
before : (k : List ℕ) (d : Data) (ms : Members) → IsWritable d → AreWritable ms → AreWritable (member k d ms)
before k d ms value rest = record {
  plain = (value.plain, rest.plain);
  shallow = omega (arith, value.shallow, rest.shallow);
}

-- the first of the members
first : (k : List ℕ) (d : Data) (ms : Members) → AreWritable (member k d ms) → IsWritable d
first k d ms all = record { plain = all.plain.0; shallow = omega (arith, all.shallow) }

-- the rest of them
rest : (k : List ℕ) (d : Data) (ms : Members) → AreWritable (member k d ms) → AreWritable ms
rest k d ms all = record { plain = all.plain.1; shallow = omega (arith, all.shallow) }

-- a member in front of another, in its place, or behind it
placed : (o : Ordering) (k l : List ℕ) (d e : Data) (ms more : Members) → IsWritable d → AreWritable (member l e ms)
    → AreWritable more
    → AreWritable (match_ordering o (member k d (member l e ms)) (member l d ms) (member l e more))
placed Less k l d e ms more value all later = before k d (member l e ms) value all
placed Equal k l d e ms more value all later = before l d ms value (rest l e ms all)
placed Greater k l d e ms more value all later = before l e more (first l e ms all) later

-- one member more, at its place
pub put_writable : (k : List ℕ) (d : Data) (ms : Members) → IsWritable d → AreWritable ms → AreWritable (put k d ms)
put_writable k d no_members value all = before k d no_members value none_writable
put_writable k d (member l e ms) value all =
    placed (slice_cmp nat_cmp k l) k l d e ms (put k d ms) value all
    (put_writable k d ms value (rest l e ms all))

-- ---- values
-- a text
pub words_writable : (words : List ℕ) → IsWritable (string words)
words_writable words = record { plain = tt; shallow = omega arith }

-- a number
pub whole_writable : (n : ℕ) → n < 10 ^ 18 → IsWritable (whole n)
whole_writable n few = record { plain = few; shallow = omega arith }

-- a number that may be below zero is plain
signed_plain : (z : ℤ) → unsigned_abs z < 2 ^ 32 → IsPlainNumber (of_integer z)
signed_plain (pos n) small = omega arith
signed_plain (negsuc n) small = omega arith

-- so it can stand in a line
pub signed_writable : (z : ℤ) → unsigned_abs z < 2 ^ 32 → IsWritable (signed z)
signed_writable z small = record { plain = signed_plain z small; shallow = omega arith }

-- a span
pub span_writable : (span : Interval) → IsWritable (span_data span)
span_writable span = record { plain = (tt, (tt, tt)); shallow = omega arith }

-- the ticks of a report
pub ticks_writable : (ticks : Ticks) → IsWritable (ticks_data ticks)
ticks_writable ticks = record { plain = (tt, (tt, tt)); shallow = omega arith }

-- two answers nest two levels deep
pub between_writable : (between : Between) → IsAnswer between.above → IsAnswer between.below
    → IsWritable (between_data between)
between_writable between above below = record {
  plain = (
    (omega (arith, above.error), (tt, (tt, (tt, (tt, (tt, tt)))))),
    ((omega (arith, below.error), (tt, (tt, (tt, (tt, (tt, tt)))))), tt),
  );
  shallow = omega arith;
}

-- a tick rate
pub rate_writable : (rate : TickRate) → IsTickRate rate → IsWritable (rate_data rate)
rate_writable rate h = record {
  plain = (omega (arith, h.second_small), (omega (arith, h.tick_small), tt));
  shallow = omega arith;
}

-- a state, all of which is said
state_plain : (state : State) → EachIn RatesAreInRange state.timelines
    → IsPlain (object (change_members (full_change state)))
unfolding full_change
state_plain state h = plain_change (full_change state) h

-- nests four levels deep
pub state_writable : (state : State) → EachIn RatesAreInRange state.timelines
    → IsWritable (object (change_members (full_change state)))
state_writable state h = record { plain = state_plain state h; shallow = omega (arith, low_change (full_change state)) }

-- a control timestamp nests one level deep
pub control_writable : (c : Control) → IsInRange c → IsWritable (told_control c)
control_writable (Available content wall speed) h = record {
  plain = control_plain (Available content wall speed) h;
  shallow = omega arith;
}
control_writable Unavailable h = record { plain = (tt, (tt, (tt, tt))); shallow = omega arith }
