-- Visits, one after another, and why each of them ends: what a watch and a relay are made of.
use Rattle.std.specs.Prelude.{◌≡◌, ℕ, List, [], ◌∷◌, ◌++◌, Option, Some, None, codes, decimal}
use Rattle.css_model.specs.History.{History}
use Rattle.css_cii.specs.FaultWords as cii
use Rattle.css_cii.specs.Names.{json_name}
use Rattle.css_drive.specs.declared.driven.Driven.{Driven}
use Rattle.css_drive.specs.declared.driven.Driven.TheVariants as driven
use Rattle.css_drive.specs.declared.parting.Parting.{Parting}
use Rattle.css_drive.specs.declared.parting.Parting.TheVariants as parting
use Rattle.css_drive.specs.declared.session.Session.TheVariants as session

-- ---- why a visit ends
-- in words, where it was cut short and another one follows
abbrev pub parting_words : Option Parting → Option (List ℕ)
parting_words (Some (parting.Closed session.Cii)) = Some (codes "closed CII")
parting_words (Some (parting.Closed session.Ts)) = Some (codes "closed TS")
parting_words (Some parting.Disagree) = Some (codes "disagree")
parting_words _ = None

-- In words, where another one follows. A run that was cut short ended as one whose observer ends it, or as one that is
-- done.
abbrev pub why : Driven → Option Parting → Option (List ℕ)
why (driven.BadCii text reason) parting =
    Some (codes "CII text " ++ decimal text ++ codes ": " ++ cii.fault_words reason)
why (driven.Moved property old new) parting = Some (codes "moved " ++ json_name property)
why (driven.BadUrl property) parting = Some (codes "bad " ++ json_name property)
why driven.WriteFault parting = parting_words parting
why driven.Done parting = parting_words parting
why _ parting = None

-- ---- visits
-- the calls of a visit's run and the hang-ups after it, each with the newest first, and how the run ended
pub record Visit : Type 0 where
  pub history : History
  pub hung : History
  pub ended : Driven

-- What visits are to whoever makes them, by what goes over to each from those before it.
pub record Visiting (Begun : Type 0) : Type 1 where
  -- what goes over to the first
  pub first : Begun
  -- each call of its run was due, and the run ended where it may
  pub is_visit : Begun → Visit → Type 0
  -- why it was cut short, if it was
  pub parting : Begun → Visit → Option Parting
  -- the hang-ups of the sessions that were open at its end
  pub hang_ups : Begun → Visit → History
  -- what goes over to the next
  pub next : Begun → Visit → Begun

-- another visit follows, and the open sessions were hung up
pub record IsFollowed {Begun : Type 0} (v : Visiting Begun) (begun : Begun) (visit : Visit) : Type 0 where
  pub visited : v.is_visit begun visit
  pub words : List ℕ
  pub has_cause : why visit.ended (v.parting begun visit) ≡ Some words
  pub hangs : visit.hung ≡ v.hang_ups begun visit

-- what goes over from these visits, the newest of which stands first
abbrev pub begun_after : {Begun : Type 0} → Visiting Begun → List Visit → Begun
begun_after v [] = v.first
begun_after v (visit ∷ older) = v.next (begun_after v older) visit

-- each of the visits is followed by another one
abbrev pub AreFollowed : {Begun : Type 0} → Visiting Begun → List Visit → Type 0
AreFollowed v [] = Unit {0}
AreFollowed v (visit ∷ older) = IsFollowed v (begun_after v older) visit × AreFollowed v older

-- those of all visits
abbrev pub entries_of : List Visit → History
entries_of [] = []
entries_of (visit ∷ older) = visit.hung ++ visit.history ++ entries_of older

abbrev pub last_entries : Option Visit → History
last_entries None = []
last_entries (Some visit) = visit.hung ++ visit.history

-- the greatest number of visits, so that they end over a clock that stands still too
abbrev pub most_visits : ℕ
most_visits = 1099511627776
