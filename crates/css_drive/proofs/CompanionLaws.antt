-- The laws of companions' runs.
use Rattle.std.proofs.Common.{◌≡◌, ℕ, ◌≤◌, arith, suc, ap, sym, ◌∙◌, subst, refl, Bool, true, false, map, List, [], ◌∷◌}
use Rattle.std.proofs.Common.{◌++◌, length, drop, Option, Some, None, Result, take, cond}
use Rattle.std.proofs.lemmas.Bool.{cond_both, ltb-false}
use Rattle.std.proofs.lemmas.Bool.Decides.{nat_tests}
use Rattle.std.specs.Prelude.{if◌then◌else◌, ◌&&◌, not}
use Rattle.css_model.specs.declared.Kind.{Kind}
use Rattle.css_model.specs.declared.Kind.TheVariants as kind
use Rattle.css_model.specs.declared.Why.TheVariants as why
use Rattle.css_model.specs.History.{Entry, History, LandedAnswer, request_in, answer_in, requests, landed_answers}
use Rattle.css_model.specs.History.{possible_answers, Address}
use Rattle.css_companion.specs.declared.fault.CompanionFault.{CompanionFault}
use Rattle.css_companion.specs.declared.report.Report.{Report}
use Rattle.css_follow.specs.Following.{Seen, told, told_unless, ends_by}
use Rattle.css_drive.specs.CompanionDue as dues
use Rattle.css_drive.specs.CompanionDue.{dial_to, sending, take_text, from_ts, from_ask, dial_first, from_wc, from_end}
use Rattle.css_drive.specs.CompanionDue.{Point, due, due_at, is_short, refusal, unless_refused, point_of, IsProperRun}
use Rattle.css_drive.specs.CompanionDue.{from_cii, from_ts_text}
use Rattle.css_address.specs.declared.fault.AddressFault.{AddressFault}
use Rattle.css_cii.specs.declared.name.CiiName.{CiiName}
use Rattle.css_cii.specs.declared.name.CiiName.TheVariants.{WcUrl, TsUrl}
use Rattle.css_drive.specs.CompanionTurns.{is_late, first_turn, this_turn, dialled, opened}
use Rattle.css_companion.specs.Meanings.{kind_of, is_ts, counted, merged_with, texts_of, state_of, control_by}
use Rattle.css_companion.specs.Meanings.{is_closed}
use Rattle.css_drive.specs.CompanionLaws.{ReportsAreAsAsked, FollowersHear, HasHeard, EachHasHeard, Happening, Sleep}
use Rattle.css_drive.specs.CompanionLaws.{Asks, Lands, TellsCii, TellsTs, BeginsTs, EndsTs, happenings}
use Rattle.css_drive.specs.CompanionLaws.{SameEventsAreReportedAlike}
use Rattle.css_drive.specs.CompanionReports.{due_reports}
use Rattle.css_drive.specs.CompanionRun.{after_all}
use Rattle.css_follow.specs.Listening.{Listener, hearing, words_of}
use Rattle.css_drive.specs.Proper.{Due, Now, TakeDatagram, Ends, MayAdd, Empty, More}
use Rattle.css_drive.specs.declared.config.DriveConfig.{DriveConfig}
use Rattle.css_drive.specs.declared.driven.Driven.TheVariants as driven
use Rattle.std.specs.List.{list_any}
use Rattle.std.specs.Option.{option_and_then, option_map, option_to_list}
use Rattle.css_num.specs.declared.control.Control.{Control}
use Rattle.css_model.specs.declared.Stamp.{Stamp}
use Rattle.css_model.specs.declared.Message.{Message}
use Rattle.css_model.specs.Wire.{is_same_stamp}
use Rattle.css_span.specs.WallSpans.{wall_span}
use Rattle.css_cii.specs.States.{empty}
use Rattle.css_cii.specs.declared.state.State.{State}
use Rattle.css_tsmsg.specs.Controls.{control_of}
use Rattle.css_tsmsg.specs.declared.fault.TsFault.{TsFault}
use Rattle.css_companion.specs.Printed.{line_of}
use Rattle.css_companion.specs.Reports.{timing_of, report_by, assigned_by}
use Rattle.css_companion.specs.TimelineRates.{rate_of}

-- ---- followers
-- one more report
hears_more : (report : Report) (reports : List Report) (before between : Seen) (said : List ℕ) (ends : Bool)
    → HasHeard reports before between → HasHeard (report ∷ reports) before (told report said ends between)
hears_more report reports before between said ends h = by between.done refl
  where
    by : (b : Bool) → between.done ≡ b
        → HasHeard (report ∷ reports) before (told_unless b report said ends between)
    by true e = record {
      missed = suc h.missed;
      heard = h.heard;
      texts = h.texts;
      spoken = h.spoken;
      one_each = h.one_each;
      all = λ f. absurd (let c : true ≡ false = sym e ∙ f in cc);
    }
    by false e = record {
      missed = 0;
      heard = ap (λ x. report ∷ x) (h.heard ∙ ap (λ n. drop n reports ++ before.heard) (h.all e));
      texts = said ∷ h.texts;
      spoken = ap (λ x. said ∷ x) h.spoken;
      one_each = ap suc (h.one_each ∙ ap (λ n. length (drop n reports)) (h.all e));
      all = λ f. refl;
    }

each_more : (report : Report) (reports : List Report) (before between : List Listener)
    → EachHasHeard reports before between → EachHasHeard (report ∷ reports) before (map (hearing report) between)
each_more report reports [] [] e = tt
each_more report reports (b ∷ bs) (m ∷ ms) e = (
  hears_more report reports b.seen m.seen (words_of report m) (ends_by m.plan m.seen report) e.0,
  each_more report reports bs ms e.1,
)
each_more report reports _ _ e = absurd e

each_none : (before : List Listener) → EachHasHeard [] before before
each_none [] = tt
each_none (b ∷ bs) = (
  record {
    missed = 0;
    heard = refl;
    texts = [];
    spoken = refl;
    one_each = refl;
    all = λ f. refl;
  },
  each_none bs,
)

each_hears : (reports : List Report) (before : List Listener) → EachHasHeard reports before (after_all reports before)
each_hears [] before = each_none before
each_hears (r ∷ rs) before = each_more r rs before (after_all rs before) (each_hears rs before)

pub followers_hear : FollowersHear
followers_hear reports said before now f = subst (EachHasHeard reports before) (sym f.heard) (each_hears reports before)

-- ---- reports
-- where another turn is due reports are still to be made, and where the run ends with all made none is
abbrev Verdict : Bool → Due → Type 0
Verdict short (Now why.Turn) = short ≡ true
Verdict short (Ends driven.Done) = short ≡ false
Verdict short _ = Unit {0}

-- what comes before something for which that holds
module _ (short : Bool) (rest : Due) (fair : Verdict short rest) where
  first_fair : (known : Option ℕ) (to : Address) → Verdict short (dial_first known to rest)
  first_fair known to = grind (arith, fair)

  dial_fair : (known : Option ℕ) (k : Kind) (property : CiiName) (told : Option (Result Address AddressFault))
      → Verdict short (dial_to known k property told rest)
  dial_fair known k property told = grind (arith, fair)

  setup_fair : (peer : ℕ) (text : Option (List ℕ)) → Verdict short (sending peer text rest)
  setup_fair peer text = grind (arith, fair)

  -- what follows the dials
  take_fair : (asks takes : Bool) (cii ts : Option ℕ)
      → Verdict short (cond asks (Now why.Ask) (cond takes TakeDatagram (take_text cii (take_text ts rest))))
  take_fair asks takes cii ts = grind (arith, fair)

module _ (config : DriveConfig) (h : History) where
  end_fair : Verdict (is_short config h) (from_end config h)
  end_fair = grind arith

  ask_fair : Verdict (is_short config h) (from_ask config h)
  ask_fair = take_fair _ (from_end config h) end_fair _ _ _ _

  ts_fair : Verdict (is_short config h) (from_ts config h)
  ts_fair = dial_fair _ (from_ask config h) ask_fair _ kind.Ts TsUrl _

  wc_fair : Verdict (is_short config h) (from_wc config h)
  wc_fair = dial_fair _ (from_ts config h) ts_fair _ kind.Wc WcUrl _

  point_fair : (p : Point) → Verdict (is_short config h) (due_at config p h)
  point_fair dues.Start = end_fair
  point_fair dues.Begun =
      cond_both (is_short config h && not (is_late config.limit (first_turn h) (this_turn h))) (from_cii config h)
      (from_end config h) (Verdict (is_short config h))
      (λ _. first_fair _ (from_wc config h) wc_fair (dialled kind.Cii h) config.cii) (λ _. end_fair)
  point_fair (dues.Called kind.Cii) = wc_fair
  point_fair (dues.Called kind.Wc) = ts_fair
  point_fair (dues.Called kind.Ts) = ask_fair
  point_fair (dues.SetUp peer) = setup_fair _ (from_ask config h) ask_fair peer _
  point_fair dues.Requested = take_fair _ (from_end config h) end_fair false _ _ _
  point_fair dues.Received = take_fair _ (from_end config h) end_fair false false _ _
  point_fair (dues.HeardFrom peer) =
      cond_both (is_ts (kind_of peer h)) (from_end config h) (from_ts_text config h) (Verdict (is_short config h))
      (λ _. end_fair) (λ _. take_fair _ (from_end config h) end_fair false false None (opened kind.Ts h))
  point_fair _ = grind arith

settled : (config : DriveConfig) (h : History) → Verdict (is_short config h) (due config h)
settled config h = by (refusal h)
  where
    by : (r : Option CompanionFault) → Verdict (is_short config h) (unless_refused r (due_at config (point_of h) h))
    by None = point_fair config h (point_of h)
    by (Some f) = grind arith

abbrev Within : DriveConfig → History → Type 0
Within config h = length (due_reports config h) ≤ config.reports

-- one report more at most, and that in a turn
call_within : (config : DriveConfig) (older : History) → Within config older → (d : Due)
    → Verdict (is_short config older) d → (call : History) → MayAdd d call → Within config (call ++ older)
call_within config older within d fair call may = grind (arith, nat_tests, within, fair, may)

never_more : (config : DriveConfig) (history : History) → 1 ≤ config.reports → IsProperRun config history
    → Within config history
never_more config [] some Empty = omega (arith, some)
never_more config history some (More {older} call may p) =
    call_within config older (never_more config older some p) (due config older) (settled config older) call may

pub reports_as_asked : ReportsAreAsAsked
reports_as_asked config history some p =
    let within : Within config history = never_more config history some p in
    record {
      within = within;
      done = λ e. omega (
        arith,
        within,
        ltb-false (length (due_reports config history)) config.reports (subst (Verdict (is_short config history)) e
            (settled config history)),
      );
    }

-- ---- what is told alone
-- what reports are made of
record Known : Type 0 where
  asks : List Stamp
  landed : List LandedAnswer
  texts : ℕ
  state : State
  control : Option (Result Control TsFault)
  ended : Bool

abbrev known_of : History → Known
known_of h = record {
  asks = requests h;
  landed = landed_answers h;
  texts = texts_of h;
  state = state_of h;
  control = control_by h;
  ended = is_closed h;
}

-- the same, as a happening has it
abbrev after_it : Happening → Known → Known
after_it Sleep x = record x { asks = []; landed = [] }
after_it (Asks bytes) x =
    record x { asks = option_to_list (option_map (λ (m : Message). m.originate) (request_in bytes)) ++ x.asks }
after_it (Lands bytes reading) x = record x {
  landed = option_to_list (option_map (λ m. record { message = m; reading = reading }) (option_and_then
      (λ (m : Message). if list_any (λ stamp. is_same_stamp stamp m.originate) (take 64 x.asks) then Some m
      else None) (answer_in bytes))) ++ x.landed;
}
after_it (TellsCii bytes) x =
    record x { texts = counted (Some bytes) x.texts; state = merged_with (Some bytes) x.texts x.state }
after_it (TellsTs bytes) x = record x { control = Some (control_of bytes) }
after_it BeginsTs x = record x { control = None; ended = false }
after_it EndsTs x = record x { ended = true }

abbrev known_in : List Happening → Known
known_in [] = record { asks = []; landed = []; texts = 0; state = empty; control = None; ended = false }
known_in (happening ∷ earlier) = after_it happening (known_in earlier)

known_more : (entry : Entry) (older : History) → known_of older ≡ known_in (happenings older)
    → known_of (entry ∷ older) ≡ known_in (happenings (entry ∷ older))
known_more entry older e = grind (arith, e)

known_same : (h : History) → known_of h ≡ known_in (happenings h)
known_same [] = refl
known_same (entry ∷ older) = known_more entry older (known_same older)

-- ---- the report
pub same_events : SameEventsAreReportedAlike
same_events config live replayed reading e =
    let own = config.companion.local in
    let timing = λ (x : Known). timing_of x.control x.ended (rate_of config.companion.selector x.state.timelines) in
    let same : known_of live ≡ known_of replayed = known_same live ∙ ap known_in e ∙ sym (known_same replayed) in
    let report = ap (λ (x : Known).
    report_by (wall_span own reading (possible_answers own x.landed)) (timing x)) same in
    record {
      report = report;
      line = λ number position. ap (λ report. line_of number report position) report;
      position = λ wall. ap (λ (x : Known). assigned_by (timing x) wall) same;
      state = ap (λ (x : Known). x.state) same;
    }
