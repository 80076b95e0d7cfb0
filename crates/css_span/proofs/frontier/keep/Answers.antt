-- Of each declared error one answer is kept: the new one joins, takes the place of a wider one, or isn't kept.
use Rattle.std.proofs.Common.{◌≡◌, ◌<◌, ◌∙◌, ap, sym, subst, arith, ◌∷◌, ◌++◌, length, refl}
use Rattle.std.specs.Prelude.{reverse, ⊤, ◌≤ℤ◌, ◌<ℤ◌}
use Rattle.std.specs.List.{remove}
use Rattle.std.proofs.lemmas.Int.{ints}
use Rattle.std.proofs.lemmas.Option.{MatchOption-at_some, slice_get_read}
use Rattle.css_model.specs.WallClock.{Answer, IsAnswer, scaled_width}
use Rattle.css_span.specs.Frontiers.{Answers, IsPossible, KeepsFrontier}
use Rattle.css_span.proofs.NewestLast.{newer_than, older_than, reverse-about, reverse-push, reverse-push_remove}
use Rattle.css_span.proofs.Declared.{declares_none}
use Rattle.css_span.proofs.Standing.{keeps-joined, keeps-ignored, keeps-replaced}
use Rattle.css_span.proofs.frontier.keep.Goals as goal

pub returns-in_ok-push-in-None-clause-ok : goal.returns-in_ok-push-in-None-clause-ok
returns-in_ok-push-in-None-clause-ok c =
    let own = c.args.local.now in
    let kept = c.args.kept.now.items in
    let b = c.args.answer in
    let possible : IsPossible own c.args.reading b =
    record { ranges = subst IsAnswer c.answer.view_is c.answer.invariant; wide = c.requires.possible } in
    let none = rw (c.deref.ensures.value, ap (λ (a : Answer). a.error) c.answer.view_is) at c.in-None.ensures.none in
    let grown = ap reverse c.in_ok-push-in-None.ensures.items ∙ reverse-push kept b in
    subst (λ (ys : Answers). KeepsFrontier own c.args.reading b (reverse kept) ys) (sym grown)
    (keeps-joined own c.args.reading b (reverse kept) possible (declares_none kept b.error none))

pub returns-in_ok-push-in-Some-clause-ok : goal.returns-in_ok-push-in-Some-clause-ok
returns-in_ok-push-in-Some-clause-ok c =
    let own = c.args.local.now in
    let kept = c.args.kept.now.items in
    let a = c.index.result.now in
    let b = c.args.answer in
    let i = c.in-Some.place in
    let possible : IsPossible own c.args.reading b =
    record { ranges = subst IsAnswer c.answer.view_is c.answer.invariant; wide = c.requires.possible } in
    let within : i < length kept = omega (arith, c.in-Some.ensures.found.0, ap length c.deref.ensures.value) in
    let found = rw c.deref.ensures.value at c.in-Some.ensures.found.1 in
    let same =
    MatchOption-at_some ⊤ (λ (x : Answer). x.error ≡ c.answer.inside.error) a
    (slice_get_read kept (length kept) i a refl within c.index.ensures) found ∙ ap (λ (x : Answer). x.error)
    c.answer.view_is in
    let less : scaled_width own b c.args.reading <ℤ scaled_width own a c.args.reading = omega (arith, ints) in
    let old = reverse-about kept i a within c.index.ensures in
    let new : reverse c.remove.new.self.items ≡ b ∷ newer_than i kept ++ older_than i kept =
    ap reverse (c.remove.ensures.items ∙ ap (λ (ys : Answers). remove ys i) c.in_ok-push-in-Some.ensures.items) ∙
    reverse-push_remove kept i b within in
    rw (old, new) (keeps-replaced own c.args.reading a b (newer_than i kept) (older_than i kept) possible same less)

pub returns-else-width-scaled_width-clause-ok : goal.returns-else-width-scaled_width-clause-ok
returns-else-width-scaled_width-clause-ok c =
    let own = c.args.local.now in
    let kept = c.args.kept.now.items in
    let a = c.index.result.now in
    let b = c.args.answer in
    let i = c.in-Some.place in
    let possible : IsPossible own c.args.reading b =
    record { ranges = subst IsAnswer c.answer.view_is c.answer.invariant; wide = c.requires.possible } in
    let within : i < length kept = omega (arith, c.in-Some.ensures.found.0, ap length c.deref.ensures.value) in
    let found = rw c.deref.ensures.value at c.in-Some.ensures.found.1 in
    let same =
    MatchOption-at_some ⊤ (λ (x : Answer). x.error ≡ c.answer.inside.error) a
    (slice_get_read kept (length kept) i a refl within c.index.ensures) found ∙ ap (λ (x : Answer). x.error)
    c.answer.view_is in
    let wide : scaled_width own a c.args.reading ≤ℤ scaled_width own b c.args.reading = omega (arith, ints) in
    rw (reverse-about kept i a within c.index.ensures)
    (keeps-ignored own c.args.reading a b (newer_than i kept) (older_than i kept) possible same wide)
