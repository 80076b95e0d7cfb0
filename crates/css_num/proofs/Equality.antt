-- Equality of timelines and of control timestamps tells apart all that differ.
use Rattle.std.proofs.Common.{◌≡◌, List, Decides, arith, refl, rules}
use Rattle.std.specs.Cmp.{signed_Decides, unsigned_Decides}
use Rattle.std.specs.Cmp.Rules.{comparing}
use Rattle.std.proofs.lemmas.Slice.Eq.{slice_eq-Decides}
use Rattle.css_num.specs.declared.control.Control.{Control}
use Rattle.css_num.specs.declared.control.Control.TheVariants.{Available, Unavailable}
use Rattle.css_num.specs.declared.timeline.Timeline.{Timeline}
use Rattle.css_num.specs.Controls.{control_eq}
use Rattle.css_num.specs.Timelines.{timeline_eq, timelines_eq}

-- equal timelines are one, and one timeline equals itself
pub timeline_eq-Decides : (a b : Timeline) → Decides (timeline_eq a b) (a ≡ b)
timeline_eq-Decides a b = search (comparing, rules)

-- the same of lists of timelines
pub timelines_eq-Decides : (a b : List Timeline) → Decides (timelines_eq a b) (a ≡ b)
timelines_eq-Decides a b = slice_eq-Decides timeline_eq-Decides a b (timelines_eq a b) refl

-- the two for `grind` and `search`, at a call of `==`
pub ruleset timeline_equality = (timeline_eq-Decides, timelines_eq-Decides)

-- equal control timestamps are one, and one equals itself
pub control_eq-Decides : (a b : Control) → Decides (control_eq a b) (a ≡ b)
control_eq-Decides (Available c w s) (Available d v t) = search (comparing, rules, signed_Decides, unsigned_Decides)
control_eq-Decides (Available c w s) Unavailable = grind arith
control_eq-Decides Unavailable (Available d v t) = grind arith
control_eq-Decides Unavailable Unavailable = grind arith
