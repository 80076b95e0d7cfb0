-- The line of a report is carried on as its answer's span is.
use Rattle.std.proofs.Common.{◌≡◌, ◌∙◌, ◌≤◌, ap, arith, sym, subst, refl, ℕ, inl, inr, List, [], ◌∷◌, All}
use Rattle.std.proofs.Common.{Option, Some, None, Result, Ok, Err}
use Rattle.std.proofs.lemmas.List.Elements.{All-contains_itself, All-head, All-tail}
use Rattle.std.specs.Prelude.{◌≤ℤ◌, Contains}
use Rattle.std.proofs.lemmas.Int.{ints}
use Rattle.std.specs.Option.{option_map}
use Rattle.css_agree.proofs.Told.{agrees_so}
use Rattle.css_agree.proofs.Truth.{agreement_is_true, between_ends}
use Rattle.css_agree.specs.Agreements.{AgreesAt, IsTruthful, IsTrueOf, LiesIn}
use Rattle.css_agree.specs.Told.{agreed_of}
use Rattle.css_agree.specs.declared.agreed.Agreed.{Agreed}
use Rattle.css_agree.specs.declared.agreed.Agreed.TheVariants.{Nothing, Within, Disagree}
use Rattle.css_carry.proofs.Carried.{carried_reports_are_true, carried_spans_have_ticks}
use Rattle.css_carry.specs.CarriedReports.{TellsOf}
use Rattle.css_companion.specs.Meanings.{timing_after}
use Rattle.css_companion.specs.declared.knowledge.Timing.{Timing}
use Rattle.css_companion.specs.declared.report.Cause.{Cause}
use Rattle.css_companion.specs.declared.report.Report.{Report}
use Rattle.css_companion.specs.declared.report.Report.TheVariants as report
use Rattle.css_drive.specs.CompanionReports.{report_at}
use Rattle.css_model.proofs.Lately.{IsIn, least_by-in}
use Rattle.css_model.specs.History.{History, accepted_answers, wall_answer}
use Rattle.css_model.specs.Numbers.{max_error}
use Rattle.css_model.specs.WallClock.{Answer, IsLocal, Local, scaled_width}
use Rattle.css_num.specs.Spans.{Interval}
use Rattle.css_span.specs.Frontiers.{Answers}
use Rattle.css_span.specs.WallSpans.{span_of}
use Rattle.css_watch.specs.Progress.{counted}
use Rattle.css_watch.specs.Telling.{agreed_in, due_line, said_of, with_ticks}
use Rattle.css_watch.specs.declared.plan.Plan.{Plan}
use Rattle.css_watch.specs.declared.progress.Progress.{Progress}
use Rattle.css_watch_laws.proofs.Contradictions.{accepted_declare}
use Rattle.css_watch_laws.proofs.Ticks.{same_known}
use Rattle.css_watch_laws.specs.Promises.{AgreedIsTrue, CarriedAgreedIsTrue, CarriedLinesAreTrue}
use Rattle.css_watch_lines.specs.Lines.{Known}
use Rattle.css_watch_lines.specs.declared.known.Known.{Known as Ticking}
use Rattle.css_watch_lines.specs.declared.known.Ticks.{Ticks}

-- what holds of all holds of one that is among them
in_all : {A : Type 0} (P : A → Type 0) (xs : List A) (x : A) → All P xs → IsIn x xs → P x
in_all P [] x h i = absurd i
in_all P (y ∷ ys) x h (inl e) = subst P (sym e) (All-head P y ys h)
in_all P (y ∷ ys) x h (inr i) = in_all P ys x (All-tail P y ys h) i

-- the answer of which a line with ticks tells, where `found` is the narrowest one
record Tells (own : Local) (reading : ℕ) (said : Agreed) (found : Option Answer) (told : Ticking) : Type 0 where
  answer : Answer
  narrowest : found ≡ Some answer
  tells : TellsOf own reading answer told
  agreed : told.agreed ≡ agreed_in said told.wall

told_answer : (own : Local) (n number reading : ℕ) (ticks : Ticks) (said : Agreed) (found : Option Answer)
    (timing : Result Timing Cause) (told : Ticking)
    → with_ticks n reading ticks said (option_map (span_of own reading) found) found timing
    ≡ Known number reading told → Tells own reading said found told
told_answer own n number reading ticks said None timing told e = absurd (cc)
told_answer own n number reading ticks said (Some answer) (Err cause) told e = absurd (cc)
told_answer own n number reading ticks said (Some answer) (Ok timing) told e =
    let same = same_known n reading number reading _ told e in
    record {
      answer = answer;
      narrowest = refl;
      tells = record { wall = sym (ap (λ x. x.wall) same); error = sym (ap (λ x. x.error) same) };
      agreed = sym (ap (λ x. x.agreed) same) ∙ ap (λ x. agreed_in said x.wall) same;
    }

line_answer : (plan : Plan) (n number reading : ℕ) (history : History) (progress : Progress) (said : Agreed)
    (told : Ticking) (report : Report) → said_of plan n reading report history progress said
    ≡ Known number reading told
    → Tells plan.run.companion.local reading said (wall_answer plan.run.companion.local history reading) told
line_answer plan n number reading history progress said told (report.None cause) e = absurd (cc)
line_answer plan n number reading history progress said told (report.Ticks lo hi) e =
    told_answer plan.run.companion.local n number reading (record { lo = lo; hi = hi }) said
    (wall_answer plan.run.companion.local history reading) (timing_after plan.run.companion.selector history) told e

-- what holds of all accepted answers holds of the narrowest
of_narrowest : (own : Local) (history : History) (reading : ℕ) (P : Answer → Type 0) (answer : Answer)
    → wall_answer own history reading ≡ Some answer → All P (accepted_answers own history) → P answer
of_narrowest own history reading P answer narrowest all =
    in_all P (accepted_answers own history) answer all
    (least_by-in (λ answer. scaled_width own answer reading) (accepted_answers own history) answer narrowest)

pub carried_lines_are_true : CarriedLinesAreTrue
carried_lines_are_true plan number reading later history newer progress said told e errors world who sleeps i for
    reads truthful =
    let own = plan.run.companion.local in
    let found =
    line_answer plan number number reading history progress said told (report_at plan.run history reading) e in
    let declared : found.answer.error ≤ max_error =
    of_narrowest own history reading (λ answer. answer.error ≤ max_error) found.answer found.narrowest
    (accepted_declare own history) in
    let is_truthful : IsTruthful errors world who own sleeps i found.answer = rw found.narrowest at truthful in
    carried_reports_are_true own plan.run.companion.selector newer found.answer told reading later declared found.tells
    errors world who sleeps i for reads is_truthful

-- ---- what all answers allow
due_answer : (plan : Plan) (number reading : ℕ) (history : History) (progress : Progress) (told : Ticking)
    → due_line plan reading history progress (accepted_answers plan.run.companion.local history)
    ≡ Known number reading told
    → Tells plan.run.companion.local reading
    (agreed_of plan.run.companion.local reading (accepted_answers plan.run.companion.local history))
    (wall_answer plan.run.companion.local history reading) told
due_answer plan number reading history progress told e =
    line_answer plan (counted progress.begun.reports) number reading history progress
    (agreed_of plan.run.companion.local reading (accepted_answers plan.run.companion.local history)) told
    (report_at plan.run history reading) e

-- a span that the answers share, or else that of the narrowest
record IsAllowed (own : Local) (reading : ℕ) (answers : Answers) (wall span : Interval) : Type 0 where
  truth : IsTrueOf own reading answers span
  low : wall.lo ≤ℤ span.lo
  high : span.hi ≤ℤ wall.hi

allowed : (own : Local) (history : History) (reading : ℕ) (answer : Answer) → IsLocal own
    → wall_answer own history reading ≡ Some answer
    → IsAllowed own reading (accepted_answers own history) (span_of own reading answer)
    (agreed_in (agreed_of own reading (accepted_answers own history)) (span_of own reading answer))
allowed own history reading answer local narrowest =
    by (agreed_of own reading answers) (agrees_so own reading answers local)
  where
    answers : Answers
    answers = accepted_answers own history

    whole : IsAllowed own reading answers (span_of own reading answer) (span_of own reading answer)
    whole =
        let among =
        of_narrowest own history reading (Contains answers) answer narrowest (All-contains_itself answers) in
        record {
          truth = between_ends own reading answers (span_of own reading answer) answer answer
              (accepted_declare own history) among among refl refl;
          low = omega (arith, ints);
          high = omega (arith, ints);
        }

    by : (said : Agreed) → AgreesAt own reading answers said
        → IsAllowed own reading answers (span_of own reading answer) (agreed_in said (span_of own reading answer))
    by Nothing h = whole
    by (Disagree low high) h = whole
    by (Within span) h =
        let lies = of_narrowest own history reading (LiesIn own reading span) answer narrowest h.lies_in_each in
        record {
          truth = agreement_is_true own reading answers span (accepted_declare own history) h;
          low = lies.low;
          high = lies.high;
        }

pub agreed_is_true : AgreedIsTrue
agreed_is_true plan number reading history progress told local e =
    let own = plan.run.companion.local in
    let answers = accepted_answers own history in
    let found = due_answer plan number reading history progress told e in
    let is : told.agreed ≡ agreed_in (agreed_of own reading answers) (span_of own reading found.answer) =
    found.agreed ∙ ap (agreed_in (agreed_of own reading answers)) found.tells.wall in
    let P : Interval → Type 0 = λ x. IsAllowed own reading answers (span_of own reading found.answer) x in
    let so : P told.agreed =
    subst P (sym is) (allowed own history reading found.answer local found.narrowest) in (
      so.truth,
      omega (arith, ints, so.low, ap (λ (i : Interval). i.lo) found.tells.wall),
      omega (arith, ints, so.high, ap (λ (i : Interval). i.hi) found.tells.wall),
    )

pub carried_agreed_is_true : CarriedAgreedIsTrue
carried_agreed_is_true plan number reading later history newer progress told e errors world who sleeps i j for order
    from to truthful =
    let own = plan.run.companion.local in
    let found = due_answer plan number reading history progress told e in
    let narrowest = of_narrowest own history reading (IsTruthful errors world who own sleeps i) found.answer
    found.narrowest truthful in
    let most = of_narrowest own history reading (λ answer. answer.error ≤ max_error) found.answer found.narrowest
    (accepted_declare own history) in
    let same = found.tells.error in
    carried_spans_have_ticks own plan.run.companion.selector newer told.error told.agreed reading later errors world who
    sleeps i j for (omega (arith, same, narrowest.declared)) (omega (arith, same, most)) order from to
    ((agreed_is_true plan number reading history progress told for.ranges e).0 errors world who sleeps i for from
    truthful)
