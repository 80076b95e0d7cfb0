-- The verdict is that of what is kept, and after it the drift keeps the line too.
use Rattle.std.proofs.Common.{◌≡◌, ℕ, ◌<◌, ◌∙◌, arith, ap, sym, subst}
use Rattle.std.specs.Prelude.{Ok, List}
use Rattle.std.specs.Option.{ForSome}
use Rattle.std.specs.Result.{result_and}
use Rattle.css_moments.specs.declared.kept.Extremes.{Extremes}
use Rattle.css_moments.specs.Drifts.{Shown, Told, verdict}
use Rattle.css_moments.specs.Steps.{test_time, test_drift, extremes_at}
use Rattle.css_moments.specs.Standing.{Drift, StandsFor}
use Rattle.std.proofs.lemmas.Grind.{common_steps}
use Rattle.css_moments.proofs.Keeping.{verdict-kept, stands-added}
use Rattle.css_moments.proofs.drift.Drift.add.Goals as goal

-- the verdict by the numbers of the line that the code computed
verdict-tested : (drift : Drift) (told : List Told) (line time value error : ℕ) (now : Extremes) → StandsFor drift told
    → error ≡ drift.error → now ≡ extremes_at error line time value
    → verdict drift.error told (record { line = line; time = time; value = value }) ≡ result_and
    (test_time drift.last time) (test_drift drift.lately now)
verdict-tested drift told line time value error now stands same e =
    verdict-kept drift told (record { line = line; time = time; value = value }) stands
    ∙ ap (λ (x : Extremes). result_and (test_time drift.last time) (test_drift drift.lately x))
    (sym (e ∙ ap (λ n. extremes_at n line time value) same))

pub returns-in_err-test_drift-clause-verdict : goal.returns-in_err-test_drift-clause-verdict
returns-in_err-test_drift-clause-verdict c = λ told stands.
    let v =
    verdict-tested c.args.self.now told c.args.line c.args.time c.args.value c.self.inside.error c.at-now.result
    stands (ap (λ (d : Drift). d.error) c.self.view_is) c.at-now.ensures.value in
    grind (arith, common_steps)

pub returns-clause-verdict : goal.returns-clause-verdict
returns-clause-verdict c = λ told stands.
    let v =
    verdict-tested c.args.self.now told c.args.line c.args.time c.args.value c.self.inside.error c.at-now.result
    stands (ap (λ (d : Drift). d.error) c.self.view_is) c.at-now.ensures.value in
    grind (arith, common_steps)

pub returns-clause-stands : goal.returns-clause-stands
returns-clause-stands c = λ told stands.
    let inside : Drift =
    record { error = c.self.inside.error; last = c.self.inside.last; lately = c.self.inside.lately } in
    let now : Shown = record { line = c.args.line; time = c.args.time; value = c.args.value } in
    let accepted : verdict inside.error told now ≡ Ok tt =
    ap (λ (d : Drift). verdict d.error told now) c.self.view_is ∙ sym (returns-clause-verdict c told stands) in
    rw (c.after.ensures, c.at-now.ensures.value)
    (stands-added inside told now (subst (λ (d : Drift). StandsFor d told) (sym c.self.view_is) stands)
    (subst (λ (d : Drift). ForSome d.last (λ l. l.line < c.args.line)) (sym c.self.view_is) c.requires.next) accepted)
