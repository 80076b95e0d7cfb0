-- Answers of a wall clock: the premises of an agreement can be met, and those of a contradiction.
use Rattle.std.specs.Prelude.{ℕ, pos, List, [], ◌∷◌, All}
use Rattle.css_num.specs.Spans.{Interval, Covers}
use Rattle.css_model.specs.WallClock.{Answer, Local}
use Rattle.css_model.specs.World.{World, Errors, IsWorldFor, Reads}
use Rattle.css_agree.specs.Agreements.{IsShared, IsTruthful, Contradict, DeclareInRange, CantBothBeTrue}
use Rattle.css_premises.specs.Drifting.{drifting, errors, own}

-- Answers that companion 1 of a world has had when it reads its clock at a moment, and the span that they share there.
pub record Shared : Type 0 where
  pub errors : Errors
  pub world : World
  pub own : Local
  pub added : List Answer
  pub moment : ℕ
  pub reading : ℕ
  pub span : Interval

-- All premises of an agreement are met, and so the span contains the wall clock.
pub record AreTruthful (e : Shared) : Type 0 where
  pub declared : DeclareInRange e.added
  pub is_shared : IsShared e.own e.reading e.added e.span
  pub is_world : IsWorldFor e.errors e.world 1 e.own
  pub reads : Reads e.world 1 e.moment e.own.precision e.reading 0
  pub truthful : All (IsTruthful e.errors e.world 1 e.own 0 e.moment) e.added
  pub contains : Covers e.span (pos (e.world e.moment).wall)

-- asked at moment 0 and received at once, but the answer came late
abbrev pub late_answer : Answer
late_answer =
    record { t1 = 1000000; t2 = 5000000000; t3 = 5000500125; t4 = 2999000; precision = 954; error = 64000 }

-- asked at moment 5 and received late, but the answer came at once
abbrev pub late_request : Answer
late_request =
    record { t1 = 3498750; t2 = 5004001000; t3 = 5004001000; t4 = 4998000; precision = 954; error = 64000 }

-- The first answer gives the upper end of what both share at moment 10, the second one the lower end.
abbrev pub opposite_delays : Shared
opposite_delays = record {
  errors = errors;
  world = drifting;
  own = own;
  added = late_request ∷ late_answer ∷ [];
  moment = 10;
  reading = 5998000;
  span = record { lo = pos 5004997295; hi = pos 5005004708 };
}

-- ---- a contradiction
-- Answers at a reading, two of which share no span.
pub record Apart : Type 0 where
  pub own : Local
  pub reading : ℕ
  pub added : List Answer
  pub low : Answer
  pub high : Answer

-- The premises of a contradiction are met, and so no world makes the two truthful together.
pub record IsContradiction (e : Apart) : Type 0 where
  pub declared : DeclareInRange e.added
  pub contradict : Contradict e.own e.reading e.added e.low e.high
  pub one_is_false : CantBothBeTrue e.own e.reading e.low e.high

-- the second answer of a television that set its wall clock a second forward between the two
abbrev pub answer_anew : Answer
answer_anew = record late_request { t2 = 6004001000; t3 = 6004001000 }

abbrev pub set_anew : Apart
set_anew = record {
  own = own;
  reading = 5998000;
  added = answer_anew ∷ late_answer ∷ [];
  low = answer_anew;
  high = late_answer;
}
