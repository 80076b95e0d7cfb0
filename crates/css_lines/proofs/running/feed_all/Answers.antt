use Rattle.std.proofs.Common.{arith, ◌∷◌, [], ◌++◌, length, ◌∙◌, ap, sym, append_assoc}
use Rattle.std.proofs.lemmas.List.{length-append}
use Rattle.std.proofs.lemmas.Result.{err_from_is_err_and}
use Rattle.css_lines.proofs.Steps.{stopped_more, stopped_feed, joined, joined_feed, last_stretch, progress_fed}
use Rattle.css_lines.proofs.running.feed_all.Goals as goal

pub returns-in_err-take_stretch-clause-progress : goal.returns-in_err-take_stretch-clause-progress
returns-in_err-take_stretch-clause-progress g c start read p =
    let exit = err_from_is_err_and c.from_residual.result c.from_residual.ensures.1 in
    let before = c.lines.invariant.progress in
    let line = c.in-Some.line.now in
    let stopped = c.in_err-take_stretch.ensures.progress _ start (read ++ before.0) (before.2 start read p) in
    rw (exit.1, exit.2)
    (stopped_more _ start read before.0 _ (10 ∷ c.in-Some.after.now) _ _ _
    (joined read before.0 line (10 ∷ c.in-Some.after.now) _ _ before.1 c.in-Some.ensures.whole) stopped)

pub returns-in_err-take_feed-clause-progress : goal.returns-in_err-take_feed-clause-progress
returns-in_err-take_feed-clause-progress g c start read p =
    let exit = err_from_is_err_and c.from_residual-in_err-take_feed.result c.from_residual-in_err-take_feed.ensures.1 in
    let before = c.lines.invariant.progress in
    let line = c.in-Some.line.now in
    let stretch = c.in_ok-take_stretch.ensures.progress _ start (read ++ before.0) (before.2 start read p) in
    let stopped = c.in_err-take_feed.ensures.progress start ((read ++ before.0) ++ line) stretch in
    rw (exit.1, exit.2)
    (stopped_feed _ start read before.0 line c.in-Some.after.now _ _ 10 _ _ before.1 c.in-Some.ensures.whole stopped)

pub lines-preserved : goal.lines-preserved
lines-preserved g c =
    let before = c.lines.invariant.progress in
    let line = c.in-Some.line.now in
    let after = c.in-Some.after.now in
    let rest = c.in-Some.ensures.whole in
    record {
      progress = (
        before.0 ++ (line ++ 10 ∷ []),
        sym (joined_feed [] before.0 line after _ _ 10 before.1 rest)
            ∙ ap (λ l. l ++ after) (append_assoc before.0 line (10 ∷ [])),
        λ start read p.
            let stretch = c.in_ok-take_stretch.ensures.progress _ start (read ++ before.0) (before.2 start read p) in
            progress_fed _ _ start read before.0 line 10 _ _ _
            (c.in_ok-take_feed.ensures.progress start ((read ++ before.0) ++ line) stretch),
      );
      placed = c.in_ok-take_feed.ensures.placed;
      count = omega (
        arith,
        c.lines.invariant.count,
        c.in_ok-take_stretch.ensures.count,
        c.in_ok-take_feed.ensures.count,
        ap length rest,
        length-append line (10 ∷ after),
      );
      counted = c.in_ok-take_feed.ensures.counted ∙ c.lines.invariant.counted;
    }

pub returns-clause-progress : goal.returns-clause-progress
returns-clause-progress g c start read p =
    let before = c.lines.invariant.progress in
    last_stretch _ _ start read before.0 _ _ _ _ _ _ before.1
    (c.take_stretch-2.ensures.progress _ start (read ++ before.0) (before.2 start read p))
