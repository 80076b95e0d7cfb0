-- How visits come to a watch.
use Rattle.std.proofs.Common.{◌≡◌, ◌≤◌, ℕ, ◌+◌, suc, arith, ap, sym, ◌∙◌, subst, refl, List, [], ◌∷◌, ◌++◌}
use Rattle.std.proofs.Common.{append-nil, add-one, Some, None, Bool, true, false, cond}
use Rattle.std.proofs.KnownBytes.{Appends-nil, Appends-trans}
use Rattle.std.specs.Io.KnownBytes.{Appends}
use Rattle.css_drive.proofs.CompanionEnds.{risen_from}
use Rattle.css_drive.proofs.CompanionSteps.{told_more}
use Rattle.css_drive.specs.Ends as drive
use Rattle.css_drive.specs.declared.driven.Driven.{Driven}
use Rattle.css_drive.specs.declared.driven.Driven.TheVariants as driven
use Rattle.css_watch.specs.Following.{CountsDials, Ends, EndsBy, Follows, IsUnreachableBy, SoFar, Stage}
use Rattle.css_watch.specs.Progress.{nothing_begun}
use Rattle.css_drive.specs.Visits.{IsFollowed, entries_of, most_visits}
use Rattle.css_watch.specs.Visits.{CountsDialFaults, CountsNetFault, CountsWriteFault, HoldsAll, IsLast, Watches}
use Rattle.css_watch.specs.Visits.{by_reports, told_in, visit_text, visits_of, written}
use Rattle.css_watch.specs.declared.ending.Watched.{Watched}
use Rattle.css_watch.specs.declared.ending.Watched.TheVariants as watched
use Rattle.css_watch.specs.declared.visit.Visited.{Visited}
use Rattle.css_watch.specs.declared.visit.Visited.TheVariants as visited
use Rattle.css_watch.specs.declared.plan.Plan.{Plan}
use Rattle.css_watch.specs.declared.progress.Begun.{Begun}
use Rattle.css_watch.proofs.Following.{holds_on, holds_reports, net_from, no_entries, writes_from}

-- none was made
pub so_far_first : (plan : Plan) (begun : Begun) (start : Stage) → begun ≡ nothing_begun
    → SoFar plan begun start start 0
so_far_first plan begun start e = record {
  visits = [];
  followed = tt;
  begun_so = e;
  told = no_entries start.told start.told refl;
  wrote = Appends-nil start.holds;
  faults = refl;
  writes = refl;
  counted = refl;
}

-- one more was made
pub so_far_next : (plan : Plan) (begun next : Begun) (start mid now : Stage) (count : ℕ)
    → SoFar plan begun start mid count → Follows plan begun mid now next → SoFar plan next start now (count + 1)
so_far_next plan begun next start mid now count s f =
    let P : Begun → Type 0 = λ x. IsFollowed (visits_of plan) x f.visit in
    let T : List ℕ → Type 0 = λ x. Appends start.holds now.holds x in
    record {
      visits = f.visit ∷ s.visits;
      followed = (subst P s.begun_so f.is_followed, s.followed);
      begun_so = f.next_so ∙ ap (λ x. (told_in plan x f.visit).progress.begun) s.begun_so;
      told = told_more start.told mid.told now.told (f.visit.hung ++ f.visit.history)
          (entries_of s.visits) s.told f.told;
      wrote = subst T (ap (λ x. written plan s.visits ++ visit_text plan x f.visit) s.begun_so)
          (Appends-trans start.holds mid.holds now.holds _ _ s.wrote f.wrote);
      faults = f.faults ∙ s.faults;
      writes = f.writes ∙ s.writes;
      counted = ap suc s.counted ∙ sym (add-one count);
    }

-- the last one was made
pub so_far_ends : (plan : Plan) (begun : Begun) (start mid now : Stage) (count : ℕ) (result : Watched)
    → SoFar plan begun start mid count → Ends plan begun mid now result
    → Watches plan start.told now.told start.holds now.holds result
so_far_ends plan begun start mid now count result s e =
    let P : Begun → Type 0 = λ x. IsLast plan x e.visit result in
    let T : List ℕ → Type 0 = λ x. HoldsAll start.holds now.holds x result in
    record {
      visits = s.visits;
      followed = s.followed;
      last = Some e.visit;
      is_end = subst P s.begun_so e.is_last;
      told = told_more start.told mid.told now.told (e.visit.hung ++ e.visit.history)
          (entries_of s.visits) s.told e.told;
      wrote = subst T (ap (λ x. written plan s.visits ++ visit_text plan x e.visit) s.begun_so)
          (holds_on start.holds mid.holds now.holds _ _ result s.wrote e.wrote);
    }

pub so_far_faults : (plan : Plan) (begun : Begun) (start mid now : Stage) (count : ℕ) (result : Watched)
    → SoFar plan begun start mid count → Ends plan begun mid now result
    → CountsNetFault start.faults now.faults result
so_far_faults plan begun start mid now count result s e = net_from _ _ _ result s.faults e.faults

pub so_far_writes : (plan : Plan) (begun : Begun) (start mid now : Stage) (count : ℕ) (result : Watched)
    → SoFar plan begun start mid count → Ends plan begun mid now result
    → CountsWriteFault start.writes now.writes result
so_far_writes plan begun start mid now count result s e = writes_from _ _ _ result s.writes e.writes

-- as many as there may be were made
pub so_far_most : (plan : Plan) (begun : Begun) (start now : Stage) (count : ℕ) (result : Watched)
    → SoFar plan begun start now count → count ≡ most_visits → result ≡ by_reports begun
    → Watches plan start.told now.told start.holds now.holds result
so_far_most plan begun start now count result s most is =
    let P : Watched → Type 0 = λ x. HoldsAll start.holds now.holds (written plan s.visits ++ []) x in
    let T : List ℕ → Type 0 = λ x. HoldsAll start.holds now.holds x (by_reports begun) in
    record {
      visits = s.visits;
      followed = s.followed;
      last = None;
      is_end = (s.counted ∙ most, is ∙ ap by_reports s.begun_so);
      told = s.told;
      wrote = subst P (sym is) (subst T (sym (append-nil (written plan s.visits)))
          (holds_reports start.holds now.holds _ begun s.wrote));
    }

-- ---- failed dials
-- after others
pub dials_on : (was before now : ℕ) (result : Watched) → was ≤ before → CountsDialFaults before now result
    → CountsDialFaults was now result
dials_on was before now (watched.Unreachable turns) le c = risen_from was before now le c
dials_on was before now watched.Done le c = omega (arith, le, c)
dials_on was before now (watched.NoInterval reports) le c = omega (arith, le, c)
dials_on was before now watched.WriteFault le c = omega (arith, le, c)
dials_on was before now (watched.NetFault failure) le c = omega (arith, le, c)
dials_on was before now watched.Memory le c = omega (arith, le, c)

dials_later : (before now : ℕ) (ended : Driven) → drive.CountsDialFaults before now ended → before ≤ now
dials_later before now (driven.Unreachable turns) c = c.kept
dials_later before now driven.WriteFault c = c
dials_later before now driven.Memory c = c
dials_later before now (driven.NetFault failure) c = c
dials_later before now driven.Done c = c
dials_later before now (driven.BadLine line cause) c = c
dials_later before now (driven.BadCii text reason) c = c
dials_later before now (driven.Moved property old new) c = c
dials_later before now (driven.Spent turns) c = c
dials_later before now (driven.BadUrl property) c = c

dials_over : (before now : ℕ) (ended : Driven) (result : Watched) → drive.CountsDialFaults before now ended
    → IsUnreachableBy ended result → CountsDialFaults before now result
dials_over before now ended (watched.Unreachable turns) c e =
    let P : Driven → Type 0 = λ x. drive.CountsDialFaults before now x in subst P e c
dials_over before now ended watched.Done c e = dials_later before now ended c
dials_over before now ended (watched.NoInterval reports) c e = dials_later before now ended c
dials_over before now ended watched.WriteFault c e = dials_later before now ended c
dials_over before now ended (watched.NetFault failure) c e = dials_later before now ended c
dials_over before now ended watched.Memory c e = dials_later before now ended c

-- those of a visit
pub visit_dials : (before mid now : ℕ) (ended : Driven) (result : Visited) → drive.CountsDialFaults before mid ended
    → now ≡ mid → EndsBy ended result → CountsDials before now result
visit_dials before mid now ended (visited.Next next) c e by =
    let P : ℕ → Type 0 = λ x. before ≤ x in subst P (sym e) (dials_later before mid ended c)
visit_dials before mid now ended (visited.Over result) c e by =
    let P : ℕ → Type 0 = λ x. CountsDialFaults before x result in
    subst P (sym e) (dials_over before mid ended result c by)

-- how a watch ends by its reports isn't unreachable
pub reports_dials : (before now : ℕ) (begun : Begun) (result : Watched) → result ≡ by_reports begun → before ≤ now
    → CountsDialFaults before now result
reports_dials before now begun result e le =
    let P : Watched → Type 0 = λ x. CountsDialFaults before now x in subst P (sym e) (by begun.found)
  where
    by : (b : Bool) → CountsDialFaults before now (cond b watched.Done (watched.NoInterval begun.reports))
    by true = le
    by false = le
