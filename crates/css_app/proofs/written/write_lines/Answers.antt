-- What is written of generated lines, one after another, is a front part of the schedule.
use Rattle.std.proofs.Common.{◌≡◌, ◌∙◌, ℕ, suc, zero, ◌+◌, ◌-◌, ◌<◌, ◌≤◌, List, [], ◌∷◌, ◌++◌, ap, refl, sym, arith}
use Rattle.std.specs.Prelude.{Option}
use Rattle.std.specs.Io.KnownBytes.{Appends}
use Rattle.std.proofs.lemmas.List.{append_assoc}
use Rattle.css_lines.proofs.Meant.{prefix_refl, prefix_trans}
use Rattle.css_outside.proofs.Known.{appends_more, on_err_from}
use Rattle.css_outside.specs.Bytes.{IsPrefix, AppendsPrefix}
use Rattle.css_gen.specs.Generated.{Generator, text_in}
use Rattle.css_survey.specs.Generated.{schedule_text}
use Rattle.css_survey.proofs.Giving.{gave}
use Rattle.css_app.proofs.written.write_lines.Goals as goal

module _ (seed companions : ℕ) where
  abbrev text : ℕ → List ℕ
  text lines = schedule_text seed companions lines

  abbrev line : ℕ → List ℕ
  line number = text_in seed companions number ++ 10 ∷ []

  -- a schedule begins with its first lines
  text-front : (given more : ℕ) → IsPrefix (text given) (text (given + more))
  text-front given zero =
      let same : given + 0 ≡ given = omega arith in
      rw same (prefix_refl (text given))
  text-front given (suc more) =
      let same : given + suc more ≡ suc (given + more) = omega arith in
      rw same
      (prefix_trans (text given) (text (given + more)) (text (suc (given + more))) (text-front given more)
      (line (suc (given + more)), refl))

  text-begins : (given lines : ℕ) → given ≤ lines → IsPrefix (text given) (text lines)
  text-begins given lines fewer =
      let same : given + (lines - given) ≡ lines = omega (arith, fewer) in
      rw same at (text-front given (lines - given))

  -- one line more was written
  one_more : (given : ℕ) (start held holds : Option (List ℕ)) → Appends start held (text given)
      → Appends held holds (line (given + 1)) → Appends start holds (text (given + 1))
  one_more given start held holds grew wrote =
      let more : given + 1 ≡ suc given = omega arith in
      rw more (appends_more start held holds (text given) (line (suc given)) grew (rw more at wrote))

  -- no line more was written
  stops_before : (given lines : ℕ) (start holds : Option (List ℕ)) → given ≤ lines → Appends start holds (text given)
      → AppendsPrefix start holds (text lines)
  stops_before given lines start holds fewer grew =
      record { front = text given; of = text-begins given lines fewer; grew = grew }

  -- a part of the next line was written
  stops_within : (given lines : ℕ) (start held holds : Option (List ℕ)) → given < lines
      → Appends start held (text given) → AppendsPrefix held holds (line (given + 1))
      → AppendsPrefix start holds (text lines)
  stops_within given lines start held holds fewer grew part =
      let more : given + 1 ≡ suc given = omega arith in
      let rest = rw more at part.of.1 in
      record {
        front = text given ++ part.front;
        of = prefix_trans (text given ++ part.front) (text (suc given)) (text lines)
            (part.of.0, ap (λ l. text given ++ l) rest ∙ sym (append_assoc (text given) part.front part.of.0))
            (text-begins (suc given) lines (omega (arith, fewer)));
        grew = appends_more start held holds (text given) part.front grew part.grew;
      }

-- ---- the goals
pub returns-in_err-text-clause-err : goal.returns-in_err-text-clause-err
returns-in_err-text-clause-err g c = on_err_from _
    (stops_before _ _ c.lines.generator.given _ _ _ c.lines.invariant.within c.lines.invariant.grew)

pub returns-in_err-push-clause-err : goal.returns-in_err-push-clause-err
returns-in_err-push-clause-err g c = on_err_from _
    (stops_before _ _ c.lines.generator.given _ _ _ c.lines.invariant.within c.lines.invariant.grew)

-- a line that was given and got its line feed is the generated one
line_is : {seed seed' companions companions' : ℕ} {text : List ℕ} (bytes : List ℕ) (given : ℕ)
    → bytes ≡ text ++ 10 ∷ [] → text ≡ text_in seed companions (given + 1) → seed ≡ seed' → companions ≡ companions'
    → bytes ≡ text_in seed' companions' (given + 1) ++ 10 ∷ []
line_is bytes given fed is same alike = cc

pub returns-in_err-write_all-clause-err : goal.returns-in_err-write_all-clause-err
returns-in_err-write_all-clause-err g c =
    let given = c.lines.generator.given in
    let step = gave c.lines.generator c.next_line.new.self c.in-Some.text
    (sym c.in-Some.is ∙ c.in_ok-text.ensures.text) c.in_ok-text.ensures.given in
    let line = line_is c.bytes.result.now given (c.bytes.ensures ∙ c.in_ok-push.ensures.ok) step.text
    c.lines.invariant.seed c.lines.invariant.companions in
    let more : given < c.args.lines = omega (arith, step.more, c.lines.invariant.lines) in
    on_err_from _
    (stops_within _ _ given _ _ _ _ more c.lines.invariant.grew (rw line at c.in_err-write_all.ensures.err))

pub lines-preserved : goal.lines-preserved
lines-preserved g c =
    let given = c.lines.generator.given in
    let was = c.lines.invariant in
    let step = gave c.lines.generator c.next_line.new.self c.in-Some.text
    (sym c.in-Some.is ∙ c.in_ok-text.ensures.text) c.in_ok-text.ensures.given in
    let line = line_is c.bytes.result.now given (c.bytes.ensures ∙ c.in_ok-push.ensures.ok) step.text was.seed
    was.companions in
    let next : c.next_line.new.self.given ≡ given + 1 = ap (λ (x : Generator). x.given) step.gone in
    record {
      companions = ap (λ (x : Generator). x.companions) step.gone ∙ was.companions;
      seed = ap (λ (x : Generator). x.seed) step.gone ∙ was.seed;
      lines = ap (λ (x : Generator). x.lines) step.gone ∙ was.lines;
      within = omega (arith, next, step.more, was.lines);
      grew = rw next (one_more _ _ given _ _ _ was.grew (rw line at c.in_ok-write_all.ensures.ok));
      counted = c.in_ok-write_all.ensures.counted ∙ was.counted;
    }
