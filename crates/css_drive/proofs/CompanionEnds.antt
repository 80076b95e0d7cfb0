-- How a turn begins, how a run ends, and what it has written then.
use Rattle.std.proofs.Common.{◌≡◌, ℕ, ◌+◌, ◌<◌, ◌≤◌, arith, ap, sym, ◌∙◌, subst, refl, Bool, true, false, cond, List}
use Rattle.std.proofs.Common.{[], ◌∷◌, length, Option, Some, None, eq-eqb, inl, inr, Result, Ok, Err, ◌++◌}
use Rattle.std.proofs.Common.{append_assoc, append-nil, map, flat_map}
use Rattle.std.proofs.lemmas.Bool.{lt-ltb, or_right, not-false}
use Rattle.std.proofs.lemmas.Bool.Decides.{nat_tests}
use Rattle.std.proofs.lemmas.Grind.{common_steps}
use Rattle.std.specs.Prelude.{is_some, ◌||◌, ◌⊎◌, OnOk, ◌<◌}
use Rattle.css_model.specs.declared.Kind.TheVariants as kind
use Rattle.css_model.specs.declared.Why.TheVariants as why
use Rattle.css_model.specs.Explains.{IsLawful}
use Rattle.css_model.specs.History.{Clock, Dialled, HungUp, History}
use Rattle.css_outside.specs.Limits.{IsLimit}
use Rattle.css_outside.specs.declared.limit.Limit.{Limit}
use Rattle.css_outside.specs.declared.fault.OutFault.{OutFault}
use Rattle.css_companion.specs.declared.report.Report.{Report}
use Rattle.css_companion.proofs.Headline as headline
use Rattle.css_drive.specs.CompanionDue.{due, hang_up, from_hang_ups, from_turn, from_cii, from_end, final}
use Rattle.css_drive.specs.CompanionReports.{due_reports, report_at, is_due, IsPromisedAt, KeepsPromises, written}
use Rattle.css_drive.specs.CompanionStanding.{Shown, facts_of, Stands, Hangs, Stops, Adds, ending_of, is_another}
use Rattle.css_drive.specs.CompanionStanding.{is_calling, open_of, without, Knows, Made, IsEarly, IsSo, IsEndOf}
use Rattle.css_drive.specs.CompanionStanding.{final_end, Names, begun_at}
use Rattle.css_drive.specs.CompanionTurns.{turn_at, first_turn, turns, first_of, counted, is_late, goes_on, dialled}
use Rattle.css_drive.specs.CompanionTurns.{any_dialled}
use Rattle.css_drive.specs.Ends.{MayEnd, CountsNetFault, CountsDialFaults, CountsWriteFault}
use Rattle.css_drive.specs.Notes.{Note, Happened, Reported, Turn, noted, standpoint, Event, with_event, with_report}
use Rattle.css_drive.specs.Notes.{event_of, slept_notes, turn_notes, slept_from, Standpoint}
use Rattle.css_drive.specs.Proper.{Now, HangUp, Ends, Due, Empty}
use Rattle.css_drive.specs.declared.companion_live.Live.{Live}
use Rattle.css_drive.specs.declared.config.DriveConfig.{DriveConfig}
use Rattle.css_drive.specs.declared.driven.Driven.{Driven}
use Rattle.css_drive.specs.declared.driven.Driven.TheVariants as driven
use Rattle.css_drive.specs.declared.session.Session.{Session}
use Rattle.css_drive.specs.declared.session.Session.TheVariants as session
use Rattle.css_drive.proofs.CompanionSteps.{IsOwn, stands_adds, stops_here, ends_by}
use Rattle.css_outside.specs.Faults.{HasRisen}
use Rattle.css_outside.specs.Outsides.{with_entries}
use Rattle.css_outside.specs.declared.fault.OutFault.TheVariants as fault
use Rattle.css_companion.specs.Meanings.{report_after}
use Rattle.css_companion.specs.Standing.{Companion, own_of}
use Rattle.css_drive.specs.declared.companion_live.Run.{Run}
use Rattle.std.proofs.KnownBytes.{Appends-nil, Appends-trans}
use Rattle.std.specs.Io.KnownBytes.{Appends}
use Rattle.css_outside.specs.declared.calls.Clocked.{Clocked}
use Rattle.css_companion.specs.Printed.{line_of}
use Rattle.css_drive.specs.CompanionReports as reports
use Rattle.css_drive.specs.CompanionRun.{Ran, after_all, said_of}
use Rattle.css_drive.specs.Telling.{Audience, Writes, CountsOver, reports_in, AreNumbered, HasTold, HasToldTo, Tells}
use Rattle.css_drive.specs.Telling.{TellsAll}
use Rattle.css_follow.specs.Listening.{hearing, words_of}

-- ---- a turn
-- what a turn's reading makes of the facts, and its notes, where a report is due and where none is
module _ (config : DriveConfig) (history : History) (live : Live) (reading : ℕ)
    (f : facts_of config history ≡ live) (due : Bool)
    (e : is_due config.report_every reading live.first live.reported ≡ due) where
  abbrev told : Bool → ℕ → Report → List Note → List Note
  told now number report notes =
      let turn = Happened (standpoint config history) (Turn reading) ∷ notes in
      cond now (Reported (standpoint config history) number report ∷ turn) turn

  pub begun_facts : {begun : Live} → begun ≡ begun_at reading live
      → facts_of config (Clock why.Turn reading ∷ history)
      ≡ cond due (record begun { reported = begun.reported + 1 }) begun
  begun_facts same = grind (arith, f, e, same)

  pub begun_notes : (notes : List Note) → noted config history ≡ notes → (report : Report)
      → report ≡ report_at config history reading
      → noted config (Clock why.Turn reading ∷ history) ≡ told due (live.reported + 1) report notes
  begun_notes notes m report so = grind (arith, f, e, m, so)

-- ---- the headline
pub keeps_promises : (config : DriveConfig) (history : History) → IsLawful history → KeepsPromises config history
keeps_promises config [] lawful = tt
keeps_promises config (entry ∷ older) lawful =
    let below : IsLawful older = record { rises = lawful.rises.1; asks = lawful.asks.1 } in
    (promise (turn_at entry) below, keeps_promises config older below)
  where
    promise : (o : Option ℕ) → IsLawful older → IsPromisedAt config o older
    promise None l = tt
    promise (Some r) l = headline.headline config.companion.local config.companion.selector older r l

-- whether any dial succeeded
any_is : (h : History) → any_dialled h ≡ (is_some (dialled kind.Cii h) || (is_some (dialled kind.Wc h) || is_some
    (dialled kind.Ts h)))
any_is [] = refl
any_is (Dialled kind.Cii p ∷ h) = refl
any_is (Dialled kind.Wc p ∷ h) = sym (or_right _ true refl)
any_is (Dialled kind.Ts p ∷ h) = sym (or_right _ _ (or_right _ true refl))
any_is (_ ∷ h) = any_is h

-- one entry more
none_counted : (reading first : Option ℕ) (made : ℕ) → (first ≡ None → made ≡ 0) → first_of reading first ≡ None
    → counted reading made ≡ 0
none_counted reading first made none e = grind (arith, none, e)

-- before the first turn none was made
none_made : (h : History) → first_turn h ≡ None → turns h ≡ 0
none_made [] e = refl
none_made (entry ∷ older) e = none_counted (turn_at entry) (first_turn older) (turns older) (none_made older) e

-- ---- limits
-- where another turn follows, fewer were made than 2^40
pub below_most : (l : Limit) (first turn : Option ℕ) (made : ℕ) → IsLimit l → goes_on l first turn made ≡ true
    → made < 1099511627776
below_most l first turn made r e = grind (arith, nat_tests, r, e)

-- a run has at least one turn
first_goes_on : (l : Limit) (turn : Option ℕ) → IsLimit l → goes_on l None turn 0 ≡ false → ⊥
first_goes_on l turn r e = grind (arith, nat_tests, r, e)

-- the first turn is never the last by its time
pub never_late : (l : Limit) (first turn : Option ℕ) → IsLimit l → first ≡ turn → is_late l first turn ≡ true → ⊥
never_late l first turn r e late = grind (arith, nat_tests, r, e, late)

-- ---- whether the run goes on
-- calls follow the report of the first turn, if it isn't the last
pub first_calls : (config : DriveConfig) (live : Live) → live.reported < config.reports → live.first ≡ live.turn
    → is_calling config live ≡ false → ⊥
first_calls config live few first last =
    never_late config.limit live.first live.turn config.limit_range first
    (not-false _ (rw (lt-ltb live.reported config.reports few) at last))

module _ {config : DriveConfig} {before now : Shown} {saw : List Note → Type 0} {live : Live} {history : History}
    (s : Stands config before now saw live history) where
  -- what follows the report of a turn
  pub in_turn : due config history ≡ from_turn config history → (calls : Bool)
      → is_calling config live ≡ calls
      → due config history ≡ cond calls (from_cii config history) (from_end config history)
  in_turn d calls e = let f = s.facts in grind (arith, d, e, f)

  -- another turn, or the end
  pub at_end : due config history ≡ from_end config history → (again : Bool)
      → is_another config live ≡ again
      → due config history ≡ cond again (Now why.Turn) (from_hang_ups (final config history) history)
  at_end d again e = let f = s.facts in grind (arith, d, e, f)

  pub is_over : due config history ≡ from_end config history → is_another config live ≡ false
      → IsLawful history → {end : Driven} → end ≡ ending_of config.reports live
      → Hangs config before now saw live end
  is_over d last lawful {end} so =
      let facts = s.facts in
      let any = any_is history in
      let f : final config history ≡ end = grind (arith, facts, any, so) in
      record {
        history = history;
        stands = s;
        lawful = lawful;
        first = at_end d false last ∙ ap (λ x. from_hang_ups x history) f;
        final_so = f;
      }

  -- where no turn follows though reports are to be made, one was begun
  pub has_begun : is_another config live ≡ false → live.reported < config.reports → live.first ≡ None → ⊥
  has_begun last few none =
      let made : live.made ≡ 0 = sym (ap {A = Live} (λ x. x.made) s.facts)
      ∙ none_made history (ap {A = Live} (λ x. x.first) s.facts ∙ none) in
      first_goes_on config.limit live.turn config.limit_range
      (rw (lt-ltb live.reported config.reports few, none, made) at last)

-- ---- hanging up
-- a session that ends is over
pub shut : (which : Session) (was is : Live) {p : ℕ} → is ≡ without p was
    → open_of which was ≡ Some p → open_of which is ≡ None
shut session.Cii was is {p} over e = ap {A = Live} (λ x. x.cii_open) over ∙ rw (e, eq-eqb p p refl)
shut session.Ts was is {p} over e = ap {A = Live} (λ x. x.ts_open) over ∙ rw (e, eq-eqb p p refl)

-- where the sessions are hung up the run may end so
pub final_ends : (config : DriveConfig) (history : History)
    → MayEnd (Ends (final config history)) (final config history) × IsOwn (final config history)
final_ends config history = grind arith

module _ {config : DriveConfig} {before now : Shown} {saw : List Note → Type 0} {live : Live} {end : Driven}
    (x : Hangs config before now saw live end) where
  pub hung : {p : ℕ} → due config x.history ≡ HangUp p → {next : Shown} → Adds now next (HungUp p ∷ [])
      → {later : Live} → later ≡ without p live → Hangs config before next saw later end
  hung {p} d adds {later} is = record {
    history = HungUp p ∷ x.history;
    stands =
        stands_adds x.stands (HangUp p) d (HungUp p ∷ []) refl x.stands.peers adds x.stands.saw_so (ap (without p)
        x.stands.facts ∙ sym is);
    lawful = record { rises = (tt, x.lawful.rises); asks = (tt, x.lawful.asks) };
    first = ap (λ y. from_hang_ups y (HungUp p ∷ x.history)) x.final_so;
    final_so = x.final_so;
  }

  -- what is left to do
  pub left : due config x.history ≡ hang_up live.cii_open (hang_up live.ts_open (Ends end))
  left = x.first ∙ ap {A = Live} (λ y. hang_up y.cii_open (hang_up y.ts_open (Ends end))) x.stands.facts

  pub cii_shut : live.cii_open ≡ None → due config x.history ≡ hang_up live.ts_open (Ends end)
  cii_shut none = left ∙ ap (λ o. hang_up o (hang_up live.ts_open (Ends end))) none

  -- the run ends where none is left
  pub hung_up : live.cii_open ≡ None → live.ts_open ≡ None → {over : Option OutFault}
      → Stops config before now saw over end
  hung_up no_cii no_ts =
      let P : Driven → Type 0 = λ y. MayEnd (Ends y) y × IsOwn y in
      let may = subst P x.final_so (final_ends config x.history) in
      stops_here x.stands x.lawful _ end may.1 (ends_by _ _ end (cii_shut no_cii ∙ ap (λ o. hang_up o (Ends end)) no_ts)
      may.0)

-- ---- reports
-- what the companion reports is what is due
pub reports_so : (config : DriveConfig) (companion : Companion) (history : History) (reading : ℕ) (report : Report)
    → Knows config.companion companion history
    → report ≡ report_after (own_of companion) companion.setup.selector history reading
    → report ≡ report_at config history reading
reports_so config companion history reading report k e =
    e ∙ ap (λ x. report_after x companion.setup.selector history reading) k.local
    ∙ ap (λ x. report_after config.companion.local x.selector history reading) k.setup

-- ---- counts of failed dials
pub early_dials : (before now : ℕ) (ended : Driven) → IsEarly ended → before ≤ now
    → CountsDialFaults before now ended
early_dials before now ended f e = grind (arith, f, e)

pub final_dials : (over : Option OutFault) (before now : ℕ) (ended : Driven) → CountsDialFaults before now ended
    → before ≤ now → CountsDialFaults before now (final_end over ended)
final_dials over before now ended c le = grind (arith, c, le)

-- a run whose reports or turns are made
ending_dials : (before now reports : ℕ) (live : Live) → before ≤ now
    → (live.reported < reports → live.cii ≡ None → HasRisen before now)
    → CountsDialFaults before now (ending_of reports live)
ending_dials before now reports live le tried = grind (arith, nat_tests, le, tried)

-- a run that ended where no dial of CSS-CII succeeded
pub hung_dials : (before now reports : ℕ) (live : Live) (end ended : Driven) → before ≤ now
    → (live.reported < reports → live.cii ≡ None → HasRisen before now) → end ≡ ending_of reports live
    → (ended ≡ end) ⊎ IsEarly ended → CountsDialFaults before now ended
hung_dials before now reports live end ended le tried so (inl e) =
    subst (CountsDialFaults before now) (sym (e ∙ so)) (ending_dials before now reports live le tried)
hung_dials before now reports live end ended le tried so (inr f) = early_dials before now ended f le

-- a count that rose in a time rose in a longer one
pub risen_within : (was before mid now : ℕ) → was ≤ before → mid ≤ now → HasRisen before mid → HasRisen was now
risen_within was before mid now early late r = record {
  kept = omega (arith, early, r.kept, late);
  risen = λ lt. grind (arith, common_steps, early, r.kept, late, r.risen, lt);
}

-- one that rose since a later one
pub risen_from : (was before now : ℕ) → was ≤ before → HasRisen before now → HasRisen was now
risen_from was before now le r = risen_within was before now now le (omega arith) r

-- or until an earlier one
pub risen_to : (was before now : ℕ) → before ≤ now → HasRisen was before → HasRisen was now
risen_to was before now le r = risen_within was was before now (omega arith) le r

-- ---- what calls answer
pub on_ok : {T E P : Type 0} (r : Result T E) → P → OnOk r P
on_ok (Ok v) p = p
on_ok (Err e) p = tt

-- a run's parts stay the same places
pub names_on : {O W : Type 0} {old mid new : Run O W} → Names old mid → Names mid new → Names old new
names_on n m = record {
  outside = m.outside ∙ n.outside;
  observer = m.observer ∙ n.observer;
  companion = m.companion ∙ n.companion;
  live = m.live ∙ n.live;
}

-- ---- the end
-- where a run may end so, and what is counted then
abbrev EndsSo : Due → ℕ → ℕ → Option OutFault → Driven → Type 0
EndsSo due before now over ended = MayEnd due ended × IsEndOf over ended × CountsNetFault before now ended

-- the observer has the last word
ends_so : (due : Due) (before now : ℕ) (over : Option OutFault) (ended : Driven) → MayEnd due ended → IsSo over ended
    → CountsNetFault before now ended → EndsSo due before now over (final_end over ended)
ends_so due before now over ended ends so counted = grind (arith, ends, so, counted)

-- the run stopped
module _ (config : DriveConfig) (before now : Shown) (saw : List Note → Type 0) (over : Option OutFault)
    (ended result : Driven) (e : result ≡ final_end over ended) (s : Stops config before now saw over ended) where
  final_so : EndsSo (due config s.history) before.counts.faults now.counts.faults over result
  final_so = subst (EndsSo (due config s.history) before.counts.faults now.counts.faults over) (sym e)
      (ends_so (due config s.history) before.counts.faults now.counts.faults over ended s.ends s.so s.counted)

  pub made_of : Made config before.told now.told saw over result
  made_of = record {
    history = s.history;
    told = s.told;
    proper = s.proper;
    ends = final_so.0;
    promised = keeps_promises config s.history s.lawful;
    saw_so = s.saw_so;
    so = final_so.1;
  }

  pub counted_of : CountsNetFault before.counts.faults now.counts.faults result
  counted_of = final_so.2

-- ---- the beginning
pub no_entries : (told : Option History) → told ≡ with_entries [] told
no_entries None = refl
no_entries (Some h) = refl

pub stands_first : (config : DriveConfig) (before : Shown) (saw : List Note → Type 0) (live : Live)
    → facts_of config [] ≡ live → saw [] → Stands config before before saw live []
stands_first config before saw live facts begun = record {
  told = no_entries before.told;
  faults = refl;
  proper = Empty;
  facts = facts;
  peers = λ wanted peer none. absurd (cc);
  saw_so = begun;
}

-- ---- all reports
-- the newest report is written, or a part of it
told_newest : (over : Option OutFault) (started old new : Audience) (report : Report) (reports : List Report)
    → HasTold started old reports → Writes over old new (length reports + 1) report
    → TellsAll over started new (report ∷ reports)
told_newest None started old new report reports t w =
    let words = w.heard.said ∙ ap (flat_map (words_of report)) t.heard in
    let P : List ℕ → Type 0 = λ x. Appends old.holds new.holds (line_of (length reports + 1) report None ++ x) in
    record {
      grew = Appends-trans _ _ _ (written reports (said_of reports started.heard)) _ t.grew (subst P words w.grew);
      heard = w.heard.heard ∙ ap (map (hearing report)) t.heard;
    }
told_newest (Some cause) started old new report reports t w =
    let earlier = written reports (said_of reports started.heard) in
    let part = w.grew in
    record {
      said = w.words ∷ said_of reports started.heard;
      bytes = earlier ++ part.front;
      grew = Appends-trans _ _ _ earlier part.front t.grew part.grew;
      wrote = record {
        within = (
          part.of.0,
          ap (λ x. earlier ++ x) part.of.1 ∙ sym (append_assoc earlier part.front part.of.0),
        );
        earlier = (part.front, refl);
      };
      listened = record {
        between = old.heard;
        earlier = record { heard = t.heard; words = refl };
        newest = w.heard;
      };
    }

-- an observer that was not over was told of a turn, and of its report
pub tells_reported : (was_over over : Option OutFault) (started old new : Audience) (was before now number : ℕ)
    (report : Report) (from : Standpoint) (clocked : Clocked) (notes : List Note) → was_over ≡ None
    → Tells was_over started old was before notes → Writes over old new number report → CountsOver over before now
    → Tells over started new was now (Reported from number report ∷ (turn_notes from clocked ++ notes))
tells_reported was_over over started old new was before now number report from clocked notes on told w counted =
    let t = subst (λ x. Tells x started old was before notes) on told in
    by clocked.slept (
      λ numbered. told_newest over started old new report (reports_in notes) (t.0 numbered.1)
          (subst (λ n. Writes over old new n report) numbered.0 w),
      subst (λ x. CountsOver over x now) t.1 counted,
    )
  where
    by : (slept : Bool) → Tells over started new was now (Reported from number report ∷ notes)
        → Tells over started new was now
        (Reported from number report ∷ Happened (slept_from from slept) (Turn clocked.reading) ∷ (slept_notes from slept
        ++ notes))
    by true t = t
    by false t = t

-- nothing is told yet
pub tells_nothing : (over : Option OutFault) (now : Audience) (is : ℕ) → over ≡ None → Tells over now now is is []
tells_nothing over now is on =
    subst (λ x. Tells x now now is is []) (sym on)
    (λ numbered. record { grew = Appends-nil now.holds; heard = refl }, refl)

-- ---- the reports of a run
-- the reports among these notes are these, and have their numbers
abbrev Are : List Report → List Note → Type 0
Are reports notes = (reports_in notes ≡ reports) × AreNumbered notes

-- one entry more
note_so : (config : DriveConfig) (older : History) (from : Standpoint) (o : Option Event) (reading : Option ℕ)
    (notes : List Note) → Are (due_reports config older) notes
    → Are (reports.with_report config reading older (first_turn older) (due_reports config older))
    (with_report config reading older (with_event from o notes))
note_so config older from o reading notes are = grind (arith, are)

noted_so : (config : DriveConfig) (history : History) → Are (due_reports config history) (noted config history)
noted_so config [] = (refl, tt)
noted_so config (entry ∷ older) =
    note_so config older (standpoint config older) (event_of entry older) (turn_at entry) (noted config older)
    (noted_so config older)

-- ---- what the run comes to
-- what is whole is a part too
in_part : (started now : Audience) (reports : List Report) → HasTold started now reports
    → HasToldTo driven.Memory started now reports
in_part started now [] t = record {
  said = [];
  bytes = [];
  grew = t.grew;
  wrote = record { within = ([], refl); earlier = ([], refl) };
  listened = record { between = started.heard; earlier = record { heard = refl; words = refl }; newest = t.heard };
}
in_part started now (r ∷ rs) t = record {
  said = said_of (r ∷ rs) started.heard;
  bytes = written (r ∷ rs) (said_of (r ∷ rs) started.heard);
  grew = t.grew;
  wrote = record { within = ([], sym (append-nil _)); earlier = (_, refl) };
  listened = record {
    between = after_all rs started.heard;
    earlier = record { heard = refl; words = refl };
    newest = inl (record { heard = t.heard; said = refl });
  };
}

told_to : (over : Option OutFault) (started now : Audience) (reports : List Report) (ended : Driven)
    → IsEndOf over ended → TellsAll over started now reports → HasToldTo ended started now reports
told_to None started now reports driven.WriteFault so t = absurd (so refl)
told_to None started now reports driven.Memory so t = in_part started now reports t
told_to None started now reports _ so t = record {
  said = said_of reports started.heard;
  bytes = written reports (said_of reports started.heard);
  grew = t.grew;
  wrote = refl;
  listened = record { heard = t.heard; words = refl };
}
told_to (Some (fault.Failed failure)) started now reports ended so t =
    subst (λ x. HasToldTo x started now reports) (sym so) t
told_to (Some fault.Memory) started now reports ended so t =
    subst (λ x. HasToldTo x started now reports) (sym so)
    (record { said = t.said; bytes = t.bytes; grew = t.grew; wrote = t.wrote; listened = t.listened })

pub ran_by : (config : DriveConfig) (before now : Option History) (started audience : Audience) (was is : ℕ)
    (saw : List Note → Type 0) (over : Option OutFault) (ended : Driven) → (m : Made config before now saw over ended)
    → Tells over started audience was is (noted config m.history)
    → Ran config before now started.holds audience.holds started.heard audience.heard ended
ran_by config before now started audience was is saw over ended m t =
    let are = noted_so config m.history in
    let c = subst (HasToldTo ended started audience) are.0 (told_to over started audience _ ended m.so (t.0 are.1)) in
    record {
      history = m.history;
      told = m.told;
      proper = m.proper;
      ends = m.ends;
      promised = m.promised;
      said = c.said;
      bytes = c.bytes;
      grew = c.grew;
      wrote = c.wrote;
      listened = c.listened;
    }

pub writes_by : (over : Option OutFault) (before now : ℕ) (ended : Driven) → IsEndOf over ended
    → CountsOver over before now → CountsWriteFault before now ended
writes_by None before now driven.WriteFault so c = absurd (so refl)
writes_by None before now _ so c = c
writes_by (Some (fault.Failed failure)) before now ended so c = subst (CountsWriteFault before now) (sym so) c
writes_by (Some fault.Memory) before now ended so c = subst (CountsWriteFault before now) (sym so) c
