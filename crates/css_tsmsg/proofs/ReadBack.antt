-- A control timestamp, a setup and a presentation are read back from their texts, as laws over values alone.
use Rattle.std.proofs.Common.{◌≡◌, ℕ, ◌<◌, ◌^◌, Option, Some, None, Ok, refl, sym, ap, ◌∙◌, arith}
use Rattle.std.specs.Prelude.{ℤ, pos, negsuc, decimal, codes}
use Rattle.std.specs.Fmt.{signed_decimal}
use Rattle.std.specs.Str.{IsUtf8}
use Rattle.std.proofs.lemmas.Int.{ints}
use Rattle.std.proofs.lemmas.Str.{IsUtf8-from_ascii, IsUtf8-append}
use Rattle.std.proofs.lemmas.Fmt.{IsAscii-decimal}
use Rattle.json.proofs.Printed.Utf8.{IsUtf8-are_ascii}
use Rattle.serde_json.specs.Data.{number}
use Rattle.serde_json.specs.Find.{of_integer}
use Rattle.css_num.specs.declared.control.Control.{Control}
use Rattle.css_num.specs.declared.control.Control.TheVariants.{Available, Unavailable}
use Rattle.css_text.specs.Ordered.{HasUtf8, IsOrdered}
use Rattle.css_text.specs.Readings.{object_of}
use Rattle.css_text.proofs.CompactTexts.{odd_written}
use Rattle.css_text.proofs.Laws.{object_compact}
use Rattle.css_tsmsg.specs.Controls.{IsInRange, control_data, control_text, control_of}
use Rattle.css_tsmsg.specs.Setups.{IsUtf8Setup, setup_data, setup_text, setup_of}
use Rattle.css_tsmsg.specs.Presentations.{IsEarliest, IsLatest, IsFinite, IsActual, IsPresentation, AreTimes}
use Rattle.css_tsmsg.specs.Presentations.{bound_data, data_of, presentation_data, presentation_text, presentation_of}
use Rattle.css_tsmsg.specs.Times.{IsContent}
use Rattle.css_tsmsg.specs.declared.bound.Bound.{Bound}
use Rattle.css_tsmsg.specs.declared.bound.Bound.TheVariants.{At, MinusInfinity, PlusInfinity}
use Rattle.css_tsmsg.specs.declared.bound.Presentation.{Presentation}
use Rattle.css_tsmsg.specs.declared.setup.Setup.{Setup}
use Rattle.css_tsmsg.proofs.RoundTrips.{control_plain, control_shallow, control_back, control_text-is}
use Rattle.css_tsmsg.proofs.RoundTrips.{setup_plain, setup_shallow, setup_back, setup_text-is}
use Rattle.css_tsmsg.proofs.Windows.{presentation_plain, presentation_shallow, presentation_back, presentation_text-is}

-- the words of a wall time are ASCII
wall_utf8 : (n : ℕ) → n < 2 ^ 64 → IsUtf8 (decimal n)
wall_utf8 n h = IsUtf8-from_ascii (decimal n) (IsAscii-decimal n h)

-- so are those of a content time, with its `-` where it has one
content_utf8 : (z : ℤ) → IsContent z → IsUtf8 (signed_decimal z)
content_utf8 (pos n) h = wall_utf8 n (omega (arith, ints, h.high))
content_utf8 (negsuc n) h =
    let digits : IsUtf8 (decimal _) = wall_utf8 _ (omega (arith, ints, h.low)) in
    IsUtf8-append (codes "-") (decimal _) (IsUtf8-are_ascii (codes "-") refl) digits

-- a speed's number is unsigned exactly where it isn't below zero
speed_ordered : (z : ℤ) → IsOrdered (number (of_integer z))
speed_ordered (pos n) = tt
speed_ordered (negsuc n) = tt

-- all texts in the object of a control timestamp are UTF-8
pub control_utf8 : (c : Control) → IsInRange c → HasUtf8 (control_data c)
control_utf8 (Available content wall speed) h =
    let shown : IsUtf8 (decimal wall) = wall_utf8 wall (omega (arith, h.wall_time)) in (
      IsUtf8-are_ascii _ refl,
      content_utf8 content h.content_time,
      (IsUtf8-are_ascii _ refl, tt, (IsUtf8-are_ascii _ refl, shown, tt)),
    )
control_utf8 Unavailable h = (
  IsUtf8-are_ascii _ refl,
  tt,
  (IsUtf8-are_ascii _ refl, tt, (IsUtf8-are_ascii _ refl, IsUtf8-are_ascii _ refl, tt)),
)

-- and its names are in alphabetical order
pub control_ordered : (c : Control) → IsOrdered (control_data c)
control_ordered (Available content wall speed) =
    (tt, tt, ((refl, tt), speed_ordered speed, ((refl, (refl, tt)), tt, tt)))
control_ordered Unavailable = (tt, tt, ((refl, tt), tt, ((refl, (refl, tt)), tt, tt)))

-- so its text is read as that control timestamp
pub control_reads : (c : Control) → IsInRange c → control_of (control_text c) ≡ Ok c
control_reads c h =
    let is = control_text-is c in
    let plain = control_plain c h in
    let members = object_compact (control_data c) plain (control_shallow c) (control_utf8 c h) (control_ordered c) in
    control_back c (control_text c) h (ap object_of (sym is) ∙ members)
    (odd_written (control_data c) (control_text c) plain (sym is))

-- all texts in the object of a setup are UTF-8
setup_utf8 : (s : Setup) → IsUtf8Setup s → HasUtf8 (setup_data s)
setup_utf8 s h = (IsUtf8-are_ascii _ refl, h.stem, (IsUtf8-are_ascii _ refl, h.selector, tt))

-- and its names are in alphabetical order
setup_ordered : (s : Setup) → IsOrdered (setup_data s)
setup_ordered s = (tt, tt, ((refl, tt), tt, tt))

-- so its text is read as that setup
pub setup_reads : (s : Setup) → IsUtf8Setup s → setup_of (setup_text s) ≡ Ok s
setup_reads s h =
    let is = setup_text-is s in
    let members = object_compact (setup_data s) (setup_plain s) (setup_shallow s) (setup_utf8 s h) (setup_ordered s) in
    setup_back s (setup_text s) (ap object_of (sym is) ∙ members)

-- all texts in the object of a bound at a finite wall time are UTF-8
finite_utf8 : (content : ℤ) (wall : ℕ) → AreTimes content wall → HasUtf8 (bound_data (At content wall))
finite_utf8 content wall h = (
  IsUtf8-are_ascii _ refl,
  content_utf8 content h.content_time,
  (IsUtf8-are_ascii _ refl, wall_utf8 wall (omega (arith, h.wall_time)), tt),
)

-- so are they where the wall time is before all others
minus_utf8 : (content : ℤ) → IsContent content → HasUtf8 (bound_data (MinusInfinity content))
minus_utf8 content h =
    (IsUtf8-are_ascii _ refl, content_utf8 content h, (IsUtf8-are_ascii _ refl, IsUtf8-are_ascii _ refl, tt))

-- and where it is after all others
plus_utf8 : (content : ℤ) → IsContent content → HasUtf8 (bound_data (PlusInfinity content))
plus_utf8 content h =
    (IsUtf8-are_ascii _ refl, content_utf8 content h, (IsUtf8-are_ascii _ refl, IsUtf8-are_ascii _ refl, tt))

-- all texts of an earliest bound are UTF-8
earliest_utf8 : (b : Bound) → IsEarliest b → HasUtf8 (bound_data b)
earliest_utf8 (At content wall) h = finite_utf8 content wall h
earliest_utf8 (MinusInfinity content) h = minus_utf8 content h
earliest_utf8 (PlusInfinity content) h = absurd h

-- of a latest one
latest_utf8 : (b : Bound) → IsLatest b → HasUtf8 (bound_data b)
latest_utf8 (At content wall) h = finite_utf8 content wall h
latest_utf8 (MinusInfinity content) h = absurd h
latest_utf8 (PlusInfinity content) h = plus_utf8 content h

-- and of an actual one
actual_utf8 : (b : Bound) → IsFinite b → HasUtf8 (bound_data b)
actual_utf8 (At content wall) h = finite_utf8 content wall h
actual_utf8 (MinusInfinity content) h = absurd h
actual_utf8 (PlusInfinity content) h = absurd h

-- so are all texts in the object of two or three bounds
window_utf8 : (earliest latest : Bound) (actual : Option Bound) → IsEarliest earliest → IsLatest latest
    → IsActual actual
    → HasUtf8 (data_of earliest latest actual)
window_utf8 earliest latest None e l a =
    (IsUtf8-are_ascii _ refl, earliest_utf8 earliest e, (IsUtf8-are_ascii _ refl, latest_utf8 latest l, tt))
window_utf8 earliest latest (Some actual) e l a = (
  IsUtf8-are_ascii _ refl,
  actual_utf8 actual a,
  (IsUtf8-are_ascii _ refl, earliest_utf8 earliest e, (IsUtf8-are_ascii _ refl, latest_utf8 latest l, tt)),
)

-- and its names are in alphabetical order
window_ordered : (earliest latest : Bound) (actual : Option Bound) → IsOrdered (data_of earliest latest actual)
window_ordered earliest latest None =
    (tt, (tt, tt, ((refl, tt), tt, tt)), ((refl, tt), (tt, tt, ((refl, tt), tt, tt)), tt))
window_ordered earliest latest (Some actual) = (
  tt,
  (tt, tt, ((refl, tt), tt, tt)),
  ((refl, tt), (tt, tt, ((refl, tt), tt, tt)), ((refl, (refl, tt)), (tt, tt, ((refl, tt), tt, tt)), tt)),
)

-- so the text of a presentation is read as that presentation
pub presentation_reads : (p : Presentation) → IsPresentation p → presentation_of (presentation_text p) ≡ Ok p
presentation_reads p h =
    let is = presentation_text-is p in
    let utf8 = window_utf8 p.earliest p.latest p.actual h.earliest h.latest h.actual in
    let ordered = window_ordered p.earliest p.latest p.actual in
    let members = object_compact (presentation_data p) (presentation_plain p) (presentation_shallow p) utf8 ordered in
    presentation_back p (presentation_text p) h (ap object_of (sym is) ∙ members)
