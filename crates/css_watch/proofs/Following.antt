-- How single visits come to a watch.
use Rattle.std.proofs.Common.{◌≡◌, ℕ, ap, sym, ◌∙◌, subst, refl, inl, inr, List, [], ◌∷◌, ◌++◌, append-nil}
use Rattle.std.proofs.Common.{append_assoc}
use Rattle.std.proofs.Common.{Option, Some, None, Bool, true, false, cond, Result, Ok, Err}
use Rattle.std.proofs.KnownBytes.{Appends-trans}
use Rattle.std.specs.Prelude.{◌≢◌, ◌⊎◌, MatchResult}
use Rattle.std.specs.Io.KnownBytes.{Appends}
use Rattle.css_model.specs.History.{History, HungUp}
use Rattle.css_outside.specs.Bytes.{AppendsPrefix}
use Rattle.css_outside.specs.Faults.{CountsCall, CountsOutFault}
use Rattle.css_outside.specs.declared.fault.OutFault.{OutFault}
use Rattle.css_outside.specs.declared.fault.OutFault.TheVariants as fault
use Rattle.css_drive.specs.Proper.{Empty}
use Rattle.css_outside.specs.Outsides.{Counts, CountsPlain, Tells, with_entries}
use Rattle.css_drive.specs.CompanionStanding.{hung}
use Rattle.css_drive.proofs.CompanionSteps.{told_more}
use Rattle.css_drive.specs.Ends as drive
use Rattle.css_drive.specs.Notes.{noted}
use Rattle.css_drive.specs.declared.driven.Driven.{Driven}
use Rattle.css_drive.specs.declared.driven.Driven.TheVariants as driven
use Rattle.css_watch_lines.specs.Lines.{line_text}
use Rattle.css_watch.specs.Following.{BreaksOff, CountsWrites, GoesOn, IsRun, IsWhole, Leaves, Makes}
use Rattle.css_watch.specs.Following.{IsQuiet, LeavesAll, Parts, Saw, Stage}
use Rattle.css_watch.specs.Progress.{fresh, with_visit}
use Rattle.css_watch.specs.Telling.{Told, told_of, text_of}
use Rattle.css_drive.specs.Visits.{Visit, why}
use Rattle.css_watch.specs.Visits.{CountsNetFault, CountsWriteFault, Hangs, HoldsAll, IsFault, IsVisit, end_of}
use Rattle.css_watch.specs.Visits.{AreCut, EndsAtCause, end_line, end_text, Fails, IsFaultAfter, IsOlderPart}
use Rattle.css_watch.specs.Visits.{IsShorterPart, hang_ups_after}
use Rattle.css_watch.specs.Visits.{by_reports, fault_of, unwritten, hang_ups, last_end, told_in, visit_text}
use Rattle.css_watch.specs.declared.ending.Watched.{Watched}
use Rattle.css_watch.specs.declared.ending.Watched.TheVariants as watched
use Rattle.css_drive.specs.declared.parting.Parting.{Parting}
use Rattle.css_watch.specs.declared.plan.Plan.{Plan}
use Rattle.css_watch.specs.declared.progress.Begun.{Begun}
use Rattle.css_watch.specs.declared.progress.Progress.{Progress}
use Rattle.css_watch.specs.declared.visit.Visited.{Visited}
use Rattle.css_watch.specs.declared.visit.Visited.TheVariants as visited
use Rattle.css_watch.proofs.Telling.{no_prefix, prefix_more, prefix_on, whole_prefix}

-- ---- what an observer saw
-- it saw at least a part
pub saw_prefix : (told : Told) (parting : Option Parting) (ended : Driven) (progress : Progress)
    (held holds : Option (List ℕ)) → Saw told parting ended progress held holds
    → AppendsPrefix held holds (text_of told.lines)
saw_prefix told (Some why) ended progress held holds s = whole_prefix held holds _ s.1.wrote
saw_prefix told None driven.WriteFault progress held holds s = s
saw_prefix told None driven.Memory progress held holds s = s
saw_prefix told None (driven.NetFault failure) progress held holds s = whole_prefix held holds _ s.wrote
saw_prefix told None driven.Done progress held holds s = whole_prefix held holds _ s.wrote
saw_prefix told None (driven.BadLine line cause) progress held holds s = whole_prefix held holds _ s.wrote
saw_prefix told None (driven.BadCii text reason) progress held holds s = whole_prefix held holds _ s.wrote
saw_prefix told None (driven.Moved property old new) progress held holds s = whole_prefix held holds _ s.wrote
saw_prefix told None (driven.Spent turns) progress held holds s = whole_prefix held holds _ s.wrote
saw_prefix told None (driven.Unreachable turns) progress held holds s = whole_prefix held holds _ s.wrote
saw_prefix told None (driven.BadUrl property) progress held holds s = whole_prefix held holds _ s.wrote

-- it saw all where another visit follows
pub saw_followed : (told : Told) (parting : Option Parting) (ended : Driven) (progress : Progress)
    (held holds : Option (List ℕ)) (words : List ℕ) → Saw told parting ended progress held holds
    → why ended parting ≡ Some words → IsWhole told parting progress held holds
saw_followed told (Some cause) ended progress held holds words s e = s.1
saw_followed told None driven.WriteFault progress held holds words s e = absurd (cc)
saw_followed told None driven.Memory progress held holds words s e = absurd (cc)
saw_followed told None (driven.NetFault failure) progress held holds words s e = s
saw_followed told None driven.Done progress held holds words s e = s
saw_followed told None (driven.BadLine line cause) progress held holds words s e = s
saw_followed told None (driven.BadCii text reason) progress held holds words s e = s
saw_followed told None (driven.Moved property old new) progress held holds words s e = s
saw_followed told None (driven.Spent turns) progress held holds words s e = s
saw_followed told None (driven.Unreachable turns) progress held holds words s e = s
saw_followed told None (driven.BadUrl property) progress held holds words s e = s

-- no call failed then, and no write
quiet_net : (told : Told) (parting : Option Parting) (ended : Driven) (progress : Progress)
    (held holds : Option (List ℕ)) (words : List ℕ) (before now : ℕ) → Saw told parting ended progress held holds
    → why ended parting ≡ Some words → drive.CountsNetFault before now ended → now ≡ before
quiet_net told parting driven.WriteFault progress held holds words before now s e c = c
quiet_net told parting driven.Memory progress held holds words before now s e c = c
quiet_net told parting (driven.NetFault failure) progress held holds words before now s e c = absurd (cc)
quiet_net told parting driven.Done progress held holds words before now s e c = c
quiet_net told parting (driven.BadLine line cause) progress held holds words before now s e c = c
quiet_net told parting (driven.BadCii text reason) progress held holds words before now s e c = c
quiet_net told parting (driven.Moved property old new) progress held holds words before now s e c = c
quiet_net told parting (driven.Spent turns) progress held holds words before now s e c = c
quiet_net told parting (driven.Unreachable turns) progress held holds words before now s e c = c
quiet_net told parting (driven.BadUrl property) progress held holds words before now s e c = c

quiet_writes : (parting : Option Parting) (ended : Driven) (words : List ℕ) (before now : ℕ)
    → why ended parting ≡ Some words → CountsWrites parting ended before now → now ≡ before
quiet_writes (Some cause) driven.WriteFault words before now e c = c
quiet_writes (Some cause) driven.Memory words before now e c = c
quiet_writes (Some cause) (driven.NetFault failure) words before now e c = c
quiet_writes (Some cause) driven.Done words before now e c = c
quiet_writes (Some cause) (driven.BadLine line x) words before now e c = c
quiet_writes (Some cause) (driven.BadCii text reason) words before now e c = c
quiet_writes (Some cause) (driven.Moved property old new) words before now e c = c
quiet_writes (Some cause) (driven.Spent turns) words before now e c = c
quiet_writes (Some cause) (driven.Unreachable turns) words before now e c = c
quiet_writes (Some cause) (driven.BadUrl property) words before now e c = c
quiet_writes None driven.WriteFault words before now e c = absurd (cc)
quiet_writes None driven.Memory words before now e c = c
quiet_writes None (driven.NetFault failure) words before now e c = c
quiet_writes None driven.Done words before now e c = c
quiet_writes None (driven.BadLine line x) words before now e c = c
quiet_writes None (driven.BadCii text reason) words before now e c = c
quiet_writes None (driven.Moved property old new) words before now e c = c
quiet_writes None (driven.Spent turns) words before now e c = c
quiet_writes None (driven.Unreachable turns) words before now e c = c
quiet_writes None (driven.BadUrl property) words before now e c = c

-- ---- what follows
-- a visit whose open sessions were hung up so
abbrev pub visit_of : History → History → Driven → Visit
visit_of history hung ended = record { history = history; hung = hung; ended = ended }

visit_as : (plan : Plan) (begun : Begun) (history hung : History) (ended : Driven)
    → IsVisit plan begun (visit_of history [] ended) → IsVisit plan begun (visit_of history hung ended)
visit_as plan begun history hung ended v = record {
  proper = v.proper;
  ends = v.ends;
  promised = v.promised;
  at_cause = v.at_cause;
}

-- none of the hang-ups was made
pub none_hung : (wanted : History) → IsOlderPart [] wanted
none_hung wanted = record { newer = wanted; rest = append-nil wanted }

-- not all of the hang-ups were made
older_part : (entries wanted : History) → IsShorterPart entries wanted → IsOlderPart entries wanted
older_part entries wanted h = record { newer = h.newest ∷ h.newer; rest = h.rest }

shorter_part-more : (entries wanted more : History) → IsShorterPart entries wanted
    → IsShorterPart entries (more ++ wanted)
shorter_part-more entries wanted [] h = h
shorter_part-more entries wanted (next ∷ more) h = record {
  newest = next;
  newer = more ++ h.newest ∷ h.newer;
  rest = ap (λ x. next ∷ x)
      (append_assoc more (h.newest ∷ h.newer) entries ∙ ap (λ x. more ++ x) h.rest);
}

-- a fault ends the watch, after what an observer saw
fails : (told : Told) (visit : Visit) (parting : Option Parting) (progress : Progress) (result : Watched)
    → told.parting ≡ parting → progress ≡ told.progress → IsFaultAfter visit.ended parting result
    → AreCut result visit.hung (hang_ups_after visit.ended parting progress) → Fails told visit result
fails told visit parting progress result p q fault hangs =
    let F : Option Parting → Type 0 = λ x. IsFaultAfter visit.ended x result in
    let H : Option Parting → Type 0 = λ x. AreCut result visit.hung (hang_ups_after visit.ended x progress) in
    let G : Progress → Type 0 = λ x. AreCut result visit.hung (hang_ups_after visit.ended told.parting x) in
    record { fault = subst F (sym p) fault; hangs = subst G q (subst H (sym p) hangs) }

-- where another visit is to follow any fault may come, and all open sessions are to be hung up
due_after : (ended : Driven) (parting : Option Parting) (progress : Progress) (result : Watched) (words : List ℕ)
    → why ended parting ≡ Some words → IsFault result → EndsAtCause parting ended
    → IsFaultAfter ended parting result × (hang_ups progress ≡ hang_ups_after ended parting progress)
due_after driven.WriteFault (Some cause) progress result words e f c = (f, refl)
due_after driven.WriteFault None progress result words e f c = absurd (cc)
due_after (driven.BadCii text reason) parting progress result words e f c = (f, refl)
due_after (driven.Moved property old new) parting progress result words e f c = (f, refl)
due_after (driven.BadUrl property) parting progress result words e f c = (f, refl)
due_after driven.Memory parting progress result words e f c = absurd (cc)
due_after (driven.NetFault failure) parting progress result words e f c = absurd (cc)
due_after driven.Done None progress result words e f c = absurd (cc)
due_after driven.Done (Some cause) progress result words e f c = absurd c
due_after (driven.BadLine line cause) parting progress result words e f c = absurd (cc)
due_after (driven.Spent turns) parting progress result words e f c = absurd (cc)
due_after (driven.Unreachable turns) parting progress result words e f c = absurd (cc)

-- so it is of a visit of which the observer told all
fails_before : (told : Told) (visit : Visit) (parting : Option Parting) (progress : Progress)
    (held holds : Option (List ℕ)) (words : List ℕ) (result : Watched) → IsWhole told parting progress held holds
    → why visit.ended parting ≡ Some words → IsFault result → EndsAtCause told.parting visit.ended
    → AreCut result visit.hung (hang_ups progress) → Fails told visit result
fails_before told visit parting progress held holds words result whole e fault at_cause hangs =
    let P : History → Type 0 = λ x. AreCut result visit.hung x in
    let C : Option Parting → Type 0 = λ x. EndsAtCause x visit.ended in
    let due = due_after visit.ended parting progress result words e fault (subst C whole.parting_so at_cause) in
    fails told visit parting progress result whole.parting_so whole.progress_so due.0 (subst P due.1 hangs)

-- the run itself failed to write
unwritten_fails : (told : Told) (history : History)
    → Fails told (record { history = history; hung = []; ended = driven.WriteFault }) watched.WriteFault
unwritten_fails told history = record { fault = by told.parting; hangs = refl }
  where
    by : (o : Option Parting) → IsFaultAfter driven.WriteFault o watched.WriteFault
    by None = refl
    by (Some cause) = tt

-- the text of a visit that another one follows
text_so : (told : Told) (parting : Option Parting) (ended : Driven) (progress : Progress) (words : List ℕ)
    → progress ≡ told.progress → told.parting ≡ parting → why ended parting ≡ Some words
    → line_text (end_line progress words)
    ≡ end_text told.progress (why ended told.parting)
text_so told parting ended progress words p t e =
    ap (λ x. end_text x (Some words)) p ∙ ap (end_text told.progress) (sym (ap (why ended) t ∙ e))

pub holds_on : (a b c : Option (List ℕ)) (bytes more : List ℕ) (result : Watched) → Appends a b bytes
    → HoldsAll b c more result → HoldsAll a c (bytes ++ more) result
holds_on a b c bytes more watched.WriteFault p q = prefix_on a b c bytes more p q
holds_on a b c bytes more watched.Memory p q = prefix_on a b c bytes more p q
holds_on a b c bytes more watched.Done p q = Appends-trans a b c bytes more p q
holds_on a b c bytes more (watched.NetFault failure) p q = Appends-trans a b c bytes more p q
holds_on a b c bytes more (watched.Unreachable turns) p q = Appends-trans a b c bytes more p q
holds_on a b c bytes more (watched.NoInterval reports) p q = Appends-trans a b c bytes more p q

pub net_from : (was before now : ℕ) (result : Watched) → before ≡ was → CountsNetFault before now result
    → CountsNetFault was now result
net_from was before now result e c = let P : ℕ → Type 0 = λ x. CountsNetFault x now result in subst P e c

pub writes_from : (was before now : ℕ) (result : Watched) → before ≡ was → CountsWriteFault before now result
    → CountsWriteFault was now result
writes_from was before now result e c = let P : ℕ → Type 0 = λ x. CountsWriteFault x now result in subst P e c

pub parts_make : (plan : Plan) (begun : Begun) (start mid now : Stage) (history : History) (ended : Driven)
    (parting : Option Parting) (progress : Progress) (words : List ℕ) (result : Visited)
    → IsRun plan begun start mid history ended parting progress → why ended parting ≡ Some words
    → Parts progress words mid now result → Makes plan begun start now result
parts_make plan begun start mid now history ended parting progress words (visited.Next next) r e p =
    let told = told_of plan (fresh (with_visit begun)) (noted plan.run history) in
    let whole = saw_followed told parting ended progress start.holds mid.holds words r.saw e in
    let P : List ℕ → Type 0 = λ x. Appends start.holds now.holds (text_of told.lines ++ x) in
    record {
      visit = visit_of history (hang_ups progress) ended;
      is_followed = record {
        visited = visit_as plan begun history (hang_ups progress) ended r.visited;
        words = words;
        has_cause = ap (why ended) whole.parting_so ∙ e;
        hangs = ap hang_ups whole.progress_so;
      };
      next_so = p.next_so ∙ ap {A = Progress} (λ x. x.begun) whole.progress_so;
      told = told_more start.told mid.told now.told (hang_ups progress) history r.told p.told;
      wrote = subst P (text_so told parting ended progress words whole.progress_so whole.parting_so e)
          (Appends-trans start.holds mid.holds now.holds _ _ whole.wrote p.wrote);
      faults = p.faults ∙ quiet_net told parting ended progress start.holds mid.holds words _ _ r.saw e r.faults;
      writes = p.writes ∙ quiet_writes parting ended words _ _ e r.writes;
    }
parts_make plan begun start mid now history ended parting progress words (visited.Over result) r e p =
    let told = told_of plan (fresh (with_visit begun)) (noted plan.run history) in
    let whole = saw_followed told parting ended progress start.holds mid.holds words r.saw e in
    let P : List ℕ → Type 0 = λ x. HoldsAll start.holds now.holds (text_of told.lines ++ x) result in
    record {
      visit = visit_of history p.entries ended;
      is_last = record {
        visited = visit_as plan begun history p.entries ended r.visited;
        ends = inl (fails_before told (visit_of history p.entries ended) parting progress start.holds mid.holds words
            result whole e p.fault r.visited.at_cause p.hangs);
      };
      told = told_more start.told mid.told now.told p.entries history r.told p.told;
      wrote = subst P (text_so told parting ended progress words whole.progress_so whole.parting_so e)
          (holds_on start.holds mid.holds now.holds _ _ result whole.wrote p.wrote);
      faults = net_from _ _ _ result (quiet_net told parting ended progress start.holds mid.holds words _ _ r.saw e
          r.faults) p.faults;
      writes = writes_from _ _ _ result (quiet_writes parting ended words _ _ e r.writes) p.writes;
    }

-- ---- the last visit
-- memory ran out where the visit's end was to be told
pub lacks_memory : (plan : Plan) (begun : Begun) (start mid : Stage) (history : History) (ended : Driven)
    (parting : Option Parting) (progress : Progress) (words : List ℕ)
    → IsRun plan begun start mid history ended parting progress → why ended parting ≡ Some words
    → mid.faults ≡ start.faults → mid.writes ≡ start.writes → Makes plan begun start mid (visited.Over watched.Memory)
lacks_memory plan begun start mid history ended parting progress words r e f w = record {
  visit = visit_of history [] ended;
  is_last = record {
    visited = r.visited;
    ends = inl (fails_before (told_in plan begun (visit_of history [] ended)) (visit_of history [] ended) parting
        progress start.holds mid.holds words watched.Memory
        (saw_followed _ parting ended progress start.holds mid.holds words r.saw e) e tt r.visited.at_cause
        (none_hung _));
  };
  told = r.told;
  wrote = prefix_more start.holds mid.holds _ _ (saw_prefix _ parting ended progress start.holds mid.holds r.saw);
  faults = f;
  writes = w;
}

-- how a watch ends after its last turn is no fault
pub holds_reports : (held holds : Option (List ℕ)) (bytes : List ℕ) (begun : Begun) → Appends held holds bytes
    → HoldsAll held holds bytes (by_reports begun)
holds_reports held holds bytes begun p = by begun.found
  where
    by : (b : Bool) → HoldsAll held holds bytes (cond b watched.Done (watched.NoInterval begun.reports))
    by true = p
    by false = p

holds_last : (held holds : Option (List ℕ)) (bytes : List ℕ) (ended : Driven) (begun : Begun)
    → Appends held holds bytes → HoldsAll held holds bytes (last_end ended begun)
holds_last held holds bytes (driven.Unreachable turns) begun p = by begun.reached
  where
    by : (b : Bool) → HoldsAll held holds bytes (cond b (by_reports begun) (watched.Unreachable turns))
    by true = holds_reports held holds bytes begun p
    by false = p
holds_last held holds bytes driven.WriteFault begun p = holds_reports held holds bytes begun p
holds_last held holds bytes driven.Memory begun p = holds_reports held holds bytes begun p
holds_last held holds bytes (driven.NetFault failure) begun p = holds_reports held holds bytes begun p
holds_last held holds bytes driven.Done begun p = holds_reports held holds bytes begun p
holds_last held holds bytes (driven.BadLine line cause) begun p = holds_reports held holds bytes begun p
holds_last held holds bytes (driven.BadCii text reason) begun p = holds_reports held holds bytes begun p
holds_last held holds bytes (driven.Moved property old new) begun p = holds_reports held holds bytes begun p
holds_last held holds bytes (driven.Spent turns) begun p = holds_reports held holds bytes begun p
holds_last held holds bytes (driven.BadUrl property) begun p = holds_reports held holds bytes begun p

-- what the sink holds where nothing is said of the visit's end
unsaid : (plan : Plan) (begun : Begun) (history hung : History) (ended : Driven)
    → why ended (told_in plan begun (visit_of history hung ended)).parting ≡ None
    → visit_text plan begun (visit_of history hung ended) ≡ text_of (told_in plan begun (visit_of history
    hung ended)).lines
unsaid plan begun history hung ended e =
    let told = told_in plan begun (visit_of history hung ended) in
    ap (λ x. text_of told.lines ++ end_text told.progress x) e ∙ append-nil (text_of told.lines)

-- a count that only a fault of the outside raises
counts_as : (before now : ℕ) (ended : Driven) (begun : Begun) → now ≡ before
    → CountsNetFault before now (last_end ended begun) × CountsWriteFault before now (last_end ended begun)
counts_as before now ended begun e = by ended
  where
    reports : (b : Bool) → CountsNetFault before now (cond b watched.Done (watched.NoInterval begun.reports))
        × CountsWriteFault before now (cond b watched.Done (watched.NoInterval begun.reports))
    reports true = (e, e)
    reports false = (e, e)

    reached : (b : Bool) (turns : ℕ)
        → CountsNetFault before now (cond b (by_reports begun) (watched.Unreachable turns))
        × CountsWriteFault before now (cond b (by_reports begun) (watched.Unreachable turns))
    reached true turns = reports begun.found
    reached false turns = (e, e)

    by : (ended : Driven) → CountsNetFault before now (last_end ended begun)
        × CountsWriteFault before now (last_end ended begun)
    by (driven.Unreachable turns) = reached begun.reached turns
    by driven.WriteFault = reports begun.found
    by driven.Memory = reports begun.found
    by (driven.NetFault failure) = reports begun.found
    by driven.Done = reports begun.found
    by (driven.BadLine line cause) = reports begun.found
    by (driven.BadCii text reason) = reports begun.found
    by (driven.Moved property old new) = reports begun.found
    by (driven.Spent turns) = reports begun.found
    by (driven.BadUrl property) = reports begun.found

-- the last turn was made, and all lines are written
ends_whole : (plan : Plan) (begun : Begun) (start mid now : Stage) (history entries : History) (ended : Driven)
    (parting : Option Parting) (progress : Progress) (result : Watched)
    → IsVisit plan begun (visit_of history [] ended)
    → mid.told ≡ with_entries history start.told → now.told ≡ with_entries entries mid.told
    → IsWhole (told_of plan (fresh (with_visit begun)) (noted plan.run history)) parting progress start.holds now.holds
    → now.faults ≡ start.faults → now.writes ≡ start.writes
    → why ended parting ≡ None → result ≡ last_end ended progress.begun
    → end_of ended parting progress.begun ≡ last_end ended progress.begun
    → entries ≡ hang_ups_after ended parting progress
    → Makes plan begun start now (visited.Over result)
ends_whole plan begun start mid now history entries ended parting progress result v told more whole f w e is last due =
    let told-so = told_of plan (fresh (with_visit begun)) (noted plan.run history) in
    let P : Watched → Type 0 = λ x. HoldsAll start.holds now.holds (visit_text plan begun (visit_of history entries
    ended)) x in
    let Q : List ℕ → Type 0 = λ x. HoldsAll start.holds now.holds x (last_end ended progress.begun) in
    let N : Watched → Type 0 = λ x. CountsNetFault start.faults now.faults x in
    let W : Watched → Type 0 = λ x. CountsWriteFault start.writes now.writes x in
    let none : why ended told-so.parting ≡ None = ap (why ended) whole.parting_so ∙ e in
    record {
      visit = visit_of history entries ended;
      is_last = record {
        visited = visit_as plan begun history entries ended v;
        ends = inr (record {
          no_cause = none;
          ends = is ∙ sym last ∙ ap (λ x. end_of ended parting x.begun) whole.progress_so
              ∙ ap (λ x. end_of ended x told-so.progress.begun) (sym whole.parting_so);
          hangs = due ∙ ap (hang_ups_after ended parting) whole.progress_so
              ∙ ap (λ x. hang_ups_after ended x told-so.progress) (sym whole.parting_so);
        });
      };
      told = told_more start.told mid.told now.told entries history told more;
      wrote = subst P (sym is) (subst Q (sym (unsaid plan begun history entries ended none))
          (holds_last start.holds now.holds _ ended progress.begun whole.wrote));
      faults = subst N (sym is) (counts_as _ _ ended progress.begun f).0;
      writes = subst W (sym is) (counts_as _ _ ended progress.begun w).1;
    }

-- a device failed, or memory ran out
ends_fault : (plan : Plan) (begun : Begun) (start mid now : Stage) (history entries : History) (ended : Driven)
    (result : Watched) → IsVisit plan begun (visit_of history [] ended)
    → mid.told ≡ with_entries history start.told → now.told ≡ with_entries entries mid.told
    → Fails (told_in plan begun (visit_of history entries ended)) (visit_of history entries ended) result
    → HoldsAll start.holds now.holds (visit_text plan begun (visit_of history entries ended)) result
    → CountsNetFault start.faults now.faults result → CountsWriteFault start.writes now.writes result
    → Makes plan begun start now (visited.Over result)
ends_fault plan begun start mid now history entries ended result v told more fails-so wrote f w = record {
  visit = visit_of history entries ended;
  is_last = record { visited = visit_as plan begun history entries ended v; ends = inl fails-so };
  told = told_more start.told mid.told now.told entries history told more;
  wrote = wrote;
  faults = f;
  writes = w;
}

pub no_entries : (before now : Option History) → now ≡ before → now ≡ with_entries [] before
no_entries None now e = e
no_entries (Some history) now e = e

-- the run ended by itself
ended_make : (plan : Plan) (begun : Begun) (start mid now : Stage) (history : History) (ended : Driven)
    (progress : Progress) → IsVisit plan begun (visit_of history [] ended)
    → mid.told ≡ with_entries history start.told → now.told ≡ mid.told
    → Saw (told_of plan (fresh (with_visit begun)) (noted plan.run history)) None ended progress start.holds now.holds
    → drive.CountsNetFault start.faults now.faults ended → CountsWrites None ended start.writes now.writes
    → why ended None ≡ None → Makes plan begun start now (visited.Over (end_of ended None progress.begun))
ended_make plan begun start mid now history driven.WriteFault progress v told same s f w e =
    ends_fault plan begun start mid now history [] driven.WriteFault watched.WriteFault v told
    (no_entries mid.told now.told same) (unwritten_fails _ history) (prefix_more start.holds now.holds _ _ s) f w
ended_make plan begun start mid now history driven.Memory progress v told same s f w e =
    ends_fault plan begun start mid now history [] driven.Memory watched.Memory v told
    (no_entries mid.told now.told same) (record { fault = refl; hangs = none_hung _ })
    (prefix_more start.holds now.holds _ _ s) f w
ended_make plan begun start mid now history (driven.NetFault failure) progress v told same s f w e =
    let P : List ℕ → Type 0 = λ x. Appends start.holds now.holds x in
    ends_fault plan begun start mid now history [] (driven.NetFault failure) (watched.NetFault failure) v told
    (no_entries mid.told now.told same) (record { fault = refl; hangs = inl (refl, refl) })
    (subst P (sym (unsaid plan begun history [] (driven.NetFault failure) refl)) s.wrote) f w
ended_make plan begun start mid now history driven.Done progress v told same s f w e =
    ends_whole plan begun start mid now history [] driven.Done None progress _ v told
    (no_entries mid.told now.told same) s f w refl refl refl refl
ended_make plan begun start mid now history (driven.BadLine line cause) progress v told same s f w e =
    ends_whole plan begun start mid now history [] (driven.BadLine line cause) None progress _ v told
    (no_entries mid.told now.told same) s f w refl refl refl refl
ended_make plan begun start mid now history (driven.Spent turns) progress v told same s f w e =
    ends_whole plan begun start mid now history [] (driven.Spent turns) None progress _ v told
    (no_entries mid.told now.told same) s f w refl refl refl refl
ended_make plan begun start mid now history (driven.Unreachable turns) progress v told same s f w e =
    ends_whole plan begun start mid now history [] (driven.Unreachable turns) None progress _ v told
    (no_entries mid.told now.told same) s f w refl refl refl refl
ended_make plan begun start mid now history (driven.BadCii text reason) progress v told same s f w e = absurd (cc)
ended_make plan begun start mid now history (driven.Moved property old new) progress v told same s f w e = absurd (cc)
ended_make plan begun start mid now history (driven.BadUrl property) progress v told same s f w e = absurd (cc)

-- the observer ended the last visit
parted_fault : (plan : Plan) (begun : Begun) (start mid now : Stage) (history entries : History) (why-so : Parting)
    (progress : Progress) (result : Watched) → IsVisit plan begun (visit_of history [] driven.WriteFault)
    → mid.told ≡ with_entries history start.told → now.told ≡ with_entries entries mid.told
    → IsWhole (told_of plan (fresh (with_visit begun)) (noted plan.run history)) (Some why-so) progress start.holds
    now.holds
    → why driven.WriteFault (Some why-so) ≡ None → IsFault result → IsQuiet result
    → AreCut result entries (hang_ups progress) → CountsNetFault start.faults now.faults result
    → now.writes ≡ start.writes → Makes plan begun start now (visited.Over result)
parted_fault plan begun start mid now history entries why-so progress (watched.NetFault failure) v told more whole e
    fault quiet h f w =
    let told-so = told_of plan (fresh (with_visit begun)) (noted plan.run history) in
    let P : List ℕ → Type 0 = λ x. Appends start.holds now.holds x in
    ends_fault plan begun start mid now history entries driven.WriteFault (watched.NetFault failure) v told more
    (fails told-so (visit_of history entries driven.WriteFault) (Some why-so) progress (watched.NetFault failure)
    whole.parting_so whole.progress_so tt h)
    (subst P (sym (unsaid plan begun history entries driven.WriteFault (ap (why driven.WriteFault) whole.parting_so
    ∙ e))) whole.wrote) f w
parted_fault plan begun start mid now history entries why-so progress watched.Memory v told more whole e fault quiet h
    f w =
    let told-so = told_of plan (fresh (with_visit begun)) (noted plan.run history) in
    ends_fault plan begun start mid now history entries driven.WriteFault watched.Memory v told more
    (fails told-so (visit_of history entries driven.WriteFault) (Some why-so) progress watched.Memory whole.parting_so
    whole.progress_so tt h)
    (prefix_more start.holds now.holds _ _ (whole_prefix start.holds now.holds _ whole.wrote)) f w
parted_fault plan begun start mid now history entries why-so progress watched.WriteFault v told more whole e fault
    quiet h f w = absurd quiet
parted_fault plan begun start mid now history entries why-so progress watched.Done v told more whole e fault quiet h f
    w = absurd fault
parted_fault plan begun start mid now history entries why-so progress (watched.Unreachable turns) v told more whole e
    fault quiet h f w = absurd fault
parted_fault plan begun start mid now history entries why-so progress (watched.NoInterval reports) v told more whole e
    fault quiet h f w = absurd fault

parted_make : (plan : Plan) (begun : Begun) (start mid now : Stage) (history : History) (why-so : Parting)
    (progress : Progress) (result : Watched) → IsVisit plan begun (visit_of history [] driven.WriteFault)
    → mid.told ≡ with_entries history start.told
    → IsWhole (told_of plan (fresh (with_visit begun)) (noted plan.run history)) (Some why-so) progress start.holds
    now.holds
    → mid.faults ≡ start.faults → now.writes ≡ start.writes → why driven.WriteFault (Some why-so) ≡ None
    → LeavesAll progress (end_of driven.WriteFault (Some why-so) progress.begun) mid.told now.told mid.faults now.faults
    result → Makes plan begun start now (visited.Over result)
parted_make plan begun start mid now history why-so progress result v told whole f w e leaves = by leaves.ends
  where
    by : (IsFault result × CountsNetFault mid.faults now.faults result × IsQuiet result
        × AreCut result leaves.entries (hang_ups progress))
        ⊎ ((result ≡ end_of driven.WriteFault (Some why-so) progress.begun) × (now.faults ≡ mid.faults)
        × (leaves.entries ≡ hang_ups progress)) → Makes plan begun start now (visited.Over result)
    by (inl x) =
        parted_fault plan begun start mid now history leaves.entries why-so progress result v told leaves.told whole e
        x.0 x.2 x.3 (net_from _ _ _ result f x.1) w
    by (inr x) =
        ends_whole plan begun start mid now history leaves.entries driven.WriteFault (Some why-so) progress result v
        told leaves.told whole (x.1 ∙ f) w e x.0 refl x.2

pub leaves_make : (plan : Plan) (begun : Begun) (start mid now : Stage) (history : History) (ended : Driven)
    (parting : Option Parting) (progress : Progress) (end result : Watched)
    → IsRun plan begun start mid history ended parting progress → why ended parting ≡ None
    → end ≡ end_of ended parting progress.begun
    → Leaves parting progress end mid.told now.told mid.faults now.faults result → now.holds ≡ mid.holds
    → now.writes ≡ mid.writes → Makes plan begun start now (visited.Over result)
leaves_make plan begun start mid now history ended None progress end result r e is leaves holds writes =
    let P : Watched → Type 0 = λ x. Makes plan begun start now (visited.Over x) in
    let S : Option (List ℕ) → Type 0 = λ x. Saw (told_of plan (fresh (with_visit begun)) (noted plan.run history)) None
    ended progress start.holds x in
    let N : ℕ → Type 0 = λ x. drive.CountsNetFault start.faults x ended in
    let W : ℕ → Type 0 = λ x. CountsWrites None ended start.writes x in
    subst P (sym (leaves.0 ∙ is)) (ended_make plan begun start mid now history ended progress r.visited r.told leaves.1
    (subst S (sym holds) r.saw) (subst N (sym leaves.2) r.faults) (subst W (sym writes) r.writes) e)
leaves_make plan begun start mid now history ended (Some why-so) progress end result r e is leaves holds writes =
    let so = r.saw.0 in
    let V : Driven → Type 0 = λ x. IsVisit plan begun (visit_of history [] x) in
    let N : Driven → Type 0 = λ x. drive.CountsNetFault start.faults mid.faults x in
    let W : Driven → Type 0 = λ x. CountsWrites (Some why-so) x start.writes mid.writes in
    let E : Driven → Type 0 = λ x. why x (Some why-so) ≡ None in
    let H : Option (List ℕ) → Type 0 = λ x. IsWhole (told_of plan (fresh (with_visit begun)) (noted plan.run history))
    (Some why-so) progress start.holds x in
    let L : Watched → Type 0 = λ x. LeavesAll progress x mid.told now.told mid.faults now.faults result in
    parted_make plan begun start mid now history why-so progress result (subst V so r.visited) r.told
    (subst H (sym holds) r.saw.1) (subst N so r.faults) (writes ∙ subst W so r.writes) (subst E so e)
    (subst L (is ∙ ap (λ x. end_of x (Some why-so) progress.begun) so) leaves)

-- ---- hang-ups
-- that of one session
pub one_hung : (before now : Option History) (was is : Counts) (session : Option ℕ) (peer : ℕ)
    (result : Result (Unit {0}) OutFault) → session ≡ Some peer
    → Tells before now result (λ _. HungUp peer ∷ []) → CountsPlain was is result
    → Hangs before now was.faults is.faults (hung session) result
one_hung before now was is session peer result e told counted =
    let P : Option ℕ → Type 0 = λ x. Hangs before now was.faults is.faults (hung x) result in
    subst P (sym e) (by result told counted.faults)
  where
    by : (result : Result (Unit {0}) OutFault) → Tells before now result (λ _. HungUp peer ∷ [])
        → CountsCall was.faults is.faults result → Hangs before now was.faults is.faults (HungUp peer ∷ []) result
    by (Ok done) t c = record { entries = HungUp peer ∷ []; told = t; all = refl; faults = c }
    by (Err cause) t c = record {
      entries = [];
      told = no_entries before now t;
      all = record { newest = HungUp peer; newer = []; rest = refl };
      faults = c;
    }

-- the first one failed
pub hangs_first : (before now : Option History) (was is : ℕ) (first second : History) (cause : OutFault)
    → Hangs before now was is first (Err cause) → Hangs before now was is (second ++ first) (Err cause)
hangs_first before now was is first second cause h = record {
  entries = h.entries;
  told = h.told;
  all = shorter_part-more h.entries first second h.all;
  faults = h.faults;
}

-- one after another
pub hangs_on : (a b c : Option History) (f m n : ℕ) (first second : History) (result : Result (Unit {0}) OutFault)
    → {done : Unit {0}} → Hangs a b f m first (Ok done) → Hangs b c m n second result
    → Hangs a c f n (second ++ first) result
hangs_on a b c f m n first second result p q = record {
  entries = q.entries ++ p.entries;
  told = told_more a b c q.entries p.entries p.told q.told;
  all = all result q.all;
  faults = counts result p.faults q.faults;
}
  where
    all : (result : Result (Unit {0}) OutFault)
        → MatchResult result (λ _. q.entries ≡ second) (λ _. IsShorterPart q.entries second)
        → MatchResult result (λ _. q.entries ++ p.entries ≡ second ++ first)
        (λ _. IsShorterPart (q.entries ++ p.entries) (second ++ first))
    all (Ok done) e = ap (λ x. x ++ p.entries) e ∙ ap (λ x. second ++ x) p.all
    all (Err cause) e = record {
      newest = e.newest;
      newer = e.newer;
      rest = ap (λ x. e.newest ∷ x) (sym (append_assoc e.newer q.entries p.entries))
          ∙ ap (λ x. x ++ p.entries) e.rest ∙ ap (λ x. second ++ x) p.all;
    }

    counts : (result : Result (Unit {0}) OutFault) → m ≡ f → CountsCall m n result → CountsCall f n result
    counts result e c = let P : ℕ → Type 0 = λ x. CountsCall x n result in subst P e c

-- ---- how the visit's end was told
-- it was told in part
pub unwritten_breaks : (progress : Progress) (words : List ℕ) (start now : Stage) (cause : OutFault) {bytes : List ℕ}
    (result : Watched) → result ≡ unwritten cause
    → bytes ≡ line_text (end_line progress words)
    → AppendsPrefix start.holds now.holds bytes × CountsOutFault start.writes now.writes cause → now.told ≡ start.told
    → now.faults ≡ start.faults → BreaksOff progress words start now result
unwritten_breaks progress words start now cause {bytes} result is e w told same =
    let P : Watched → Type 0 = λ x. BreaksOff progress words start now x in
    let Q : List ℕ → Type 0 = λ x. AppendsPrefix start.holds now.holds x in
    subst P (sym is) (by cause (subst Q e w.0) w.1)
  where
    by : (cause : OutFault)
        → AppendsPrefix start.holds now.holds (line_text (end_line progress words))
        → CountsOutFault start.writes now.writes cause → BreaksOff progress words start now (unwritten cause)
    by (fault.Failed failure) wrote counted = record {
      fault = tt;
      entries = [];
      told = no_entries start.told now.told told;
      hangs = refl;
      faults = same;
      wrote = wrote;
      writes = counted;
    }
    by fault.Memory wrote counted = record {
      fault = tt;
      entries = [];
      told = no_entries start.told now.told told;
      hangs = none_hung _;
      faults = same;
      wrote = wrote;
      writes = counted;
    }

-- it was told, and all sessions were hung up
pub goes_on : (progress : Progress) (words : List ℕ) (start now : Stage) {bytes : List ℕ} {done : Unit {0}}
    → bytes ≡ line_text (end_line progress words)
    → Appends start.holds now.holds bytes × (now.writes ≡ start.writes)
    → Hangs start.told now.told start.faults now.faults (hang_ups progress) (Ok done)
    → GoesOn progress words start now progress.begun
goes_on progress words start now e w h =
    let Q : List ℕ → Type 0 = λ x. Appends start.holds now.holds x in
    record {
      next_so = refl;
      told = h.told ∙ ap (λ x. with_entries x start.told) h.all;
      faults = h.faults;
      wrote = subst Q e w.0;
      writes = w.1;
    }

-- it was told, and a hang-up failed
pub unhung_breaks : (progress : Progress) (words : List ℕ) (start now : Stage) (cause : OutFault) {bytes : List ℕ}
    (result : Watched) → result ≡ fault_of cause
    → bytes ≡ line_text (end_line progress words)
    → Appends start.holds now.holds bytes × (now.writes ≡ start.writes)
    → Hangs start.told now.told start.faults now.faults (hang_ups progress) (Err cause)
    → BreaksOff progress words start now result
unhung_breaks progress words start now cause {bytes} result is e w h =
    let P : Watched → Type 0 = λ x. BreaksOff progress words start now x in
    let Q : List ℕ → Type 0 = λ x. Appends start.holds now.holds x in
    subst P (sym is) (by cause (subst Q e w.0) h.faults)
  where
    by : (cause : OutFault)
        → Appends start.holds now.holds (line_text (end_line progress words))
        → CountsOutFault start.faults now.faults cause → BreaksOff progress words start now (fault_of cause)
    by (fault.Failed failure) wrote counted = record {
      fault = tt;
      entries = h.entries;
      told = h.told;
      hangs = inr h.all;
      faults = counted;
      wrote = wrote;
      writes = w.1;
    }
    by fault.Memory wrote counted = record {
      fault = tt;
      entries = h.entries;
      told = h.told;
      hangs = older_part h.entries (hang_ups progress) h.all;
      faults = counted;
      wrote = whole_prefix start.holds now.holds _ wrote;
      writes = w.1;
    }

-- a hang-up failed where the watch was to end
pub leaves_fault : (progress : Progress) (end : Watched) (before now : Option History) (was is : ℕ) (cause : OutFault)
    (result : Watched) → result ≡ fault_of cause → Hangs before now was is (hang_ups progress) (Err cause)
    → LeavesAll progress end before now was is result
leaves_fault progress end before now was is cause result so h =
    let P : Watched → Type 0 = λ x. LeavesAll progress end before now was is x in
    subst P (sym so) (record { entries = h.entries; told = h.told; ends = inl (by cause h.faults) })
  where
    by : (cause : OutFault) → CountsOutFault was is cause
        → IsFault (fault_of cause) × CountsNetFault was is (fault_of cause) × IsQuiet (fault_of cause)
        × AreCut (fault_of cause) h.entries (hang_ups progress)
    by (fault.Failed failure) counted = (tt, counted, tt, inr h.all)
    by fault.Memory counted = (tt, counted, tt, older_part h.entries (hang_ups progress) h.all)

-- nothing was begun, for want of memory
pub unbegun : (plan : Plan) (begun : Begun) (start : Stage) → Makes plan begun start start (visited.Over watched.Memory)
unbegun plan begun start = record {
  visit = visit_of [] [] driven.Memory;
  is_last = record {
    visited = record { proper = Empty; ends = tt; promised = tt; at_cause = tt };
    ends = inl (record { fault = refl; hangs = none_hung _ });
  };
  told = no_entries start.told start.told refl;
  wrote = no_prefix start.holds _;
  faults = refl;
  writes = refl;
}

-- want of memory at the words of a visit's end
pub lacks_words : (plan : Plan) (begun : Begun) (start mid : Stage) (history : History) (ended : Driven)
    (parting : Option Parting) (progress : Progress) → IsRun plan begun start mid history ended parting progress
    → why ended parting ≢ None → Makes plan begun start mid (visited.Over watched.Memory)
lacks_words plan begun start mid history ended parting progress r some = by (why ended parting) refl
  where
    by : (o : Option (List ℕ)) → why ended parting ≡ o → Makes plan begun start mid (visited.Over watched.Memory)
    by None e = absurd (some e)
    by (Some words) e =
        lacks_memory plan begun start mid history ended parting progress words r e
        (quiet_net _ parting ended progress start.holds mid.holds words _ _ r.saw e r.faults)
        (quiet_writes parting ended words _ _ e r.writes)
