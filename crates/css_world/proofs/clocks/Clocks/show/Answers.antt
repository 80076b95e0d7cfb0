-- The line is shown to the wall clock, and to the clock of its companion.
use Rattle.std.proofs.Common.{◌<◌, ◌-◌, ◌∷◌, length-set, refl, ap, sym, subst, ◌∙◌, Err}
use Rattle.css_meaning.specs.Clocks.{told_by, told_with}
use Rattle.css_world.proofs.Names.{ForSome, err_from_is_err_and, Numbered, tv_seen, own_seen, seen_of_tv, seen_of}
use Rattle.css_world.proofs.Delivered.{ok_then}
use Rattle.css_world.proofs.Watching.{shown_watch, shown_clocks, shown_tv, clock_told, wall_refused, own_shown}
use Rattle.css_world.proofs.Watching.{none_shown}
use Rattle.css_world.proofs.clocks.Clocks.show.Goals as goal

pub show-requires-2-clause-next : goal.show-requires-2-clause-next
show-requires-2-clause-next c =
    subst (λ last. ForSome last (λ shown. shown.line < c.args.number)) (sym c.wake_at.ensures.drift.0)
    (c.requires.next.own c.args.line.now.who c.own-clock.result.now c.own-clock.ensures.value)

pub returns-in_err-show-clause-verdict : goal.returns-in_err-show-clause-verdict
returns-in_err-show-clause-verdict c = λ header lines stand.
    let now : Numbered = record { number = c.args.number; line = c.args.line.now } in
    let exit = err_from_is_err_and c.from_residual.result c.from_residual.ensures.1 in
    exit.1 ∙ ap Err exit.2
    ∙ wall_refused header lines now c.in_err-show.field-0.0
    (clock_told (tv_seen now) _ _ stand.tv refl
    (c.in_err-show.ensures.verdict (told_by (seen_of_tv lines)) stand.tv.drift))

pub returns-then-line-eq0-clause-verdict : goal.returns-then-line-eq0-clause-verdict
returns-then-line-eq0-clause-verdict c = λ header lines stand.
    let now : Numbered = record { number = c.args.number; line = c.args.line.now } in
    none_shown header lines now c.if-line-eq0.true
    (clock_told (tv_seen now) _ _ stand.tv refl
    (c.in_ok-show.ensures.verdict (told_by (seen_of_tv lines)) stand.tv.drift))

pub returns-then-line-eq0-clause-stands : goal.returns-then-line-eq0-clause-stands
returns-then-line-eq0-clause-stands c = λ header lines stand.
    let now : Numbered = record { number = c.args.number; line = c.args.line.now } in
    let rest = c.show.ensures.rest in
    shown_tv header c.args.self.now lines now c.show.new.self stand c.if-line-eq0.true
    (shown_watch (seen_of_tv (now ∷ lines)) stand.tv rest.0 rest.1 rest.2 rest.3
    (c.in_ok-show.ensures.stands (told_by (seen_of_tv lines)) stand.tv.drift))

pub returns-clause-verdict : goal.returns-clause-verdict
returns-clause-verdict c = λ header lines stand.
    let now : Numbered = record { number = c.args.number; line = c.args.line.now } in
    let who = c.args.line.now.who in
    let own = stand.own who c.own-clock.result.now c.own-clock.ensures.value in
    own_shown header lines now c.show-2.result c.if-line-eq0.false
    (clock_told (tv_seen now) _ _ stand.tv refl
    (c.in_ok-show.ensures.verdict (told_by (seen_of_tv lines)) stand.tv.drift))
    (clock_told (own_seen now) _ _ own c.wake_at.ensures.drift.1
    (c.show-2.ensures.verdict (told_with (own_seen now).woke (told_by (seen_of who lines)))
    (c.wake_at.ensures.stands (told_by (seen_of who lines)) own.drift)))

pub returns-clause-stands : goal.returns-clause-stands
returns-clause-stands c = λ header lines stand.
    let now : Numbered = record { number = c.args.number; line = c.args.line.now } in
    let who = c.args.line.now.who in
    let found = c.own-clock.ensures.value in
    let own = stand.own who c.own-clock.result.now found in
    let rest = c.show.ensures.rest in
    let woken = c.wake_at.ensures.rest in
    let then = c.show-2.ensures.rest in
    ok_then c.show-2.result
    (c.show-2.ensures.stands (told_with (own_seen now).woke (told_by (seen_of who lines)))
    (c.wake_at.ensures.stands (told_by (seen_of who lines)) own.drift))
    (λ drift.
    shown_clocks header c.args.self.now _ lines now c.own-clock.result.now c.show-2.new.self stand found
    (shown_watch (seen_of_tv (now ∷ lines)) stand.tv rest.0 rest.1 rest.2 rest.3
    (c.in_ok-show.ensures.stands (told_by (seen_of_tv lines)) stand.tv.drift)) refl
    (shown_watch (own_seen now ∷ seen_of who lines) own (then.0 ∙ c.wake_at.ensures.drift.1) (then.1 ∙ woken.0)
    (then.2 ∙ woken.1) (then.3 ∙ woken.2) drift))

pub returns-clause-count : goal.returns-clause-count
returns-clause-count c = length-set c.args.self.now.own.items (c.args.line.now.who - 1) c.show-2.new.self
