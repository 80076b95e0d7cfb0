-- The answer joins those that were accepted before it, and is compared with them.
use Rattle.std.proofs.Common.{◌∙◌, refl, sym, ap, inr, Bool, cond}
use Rattle.std.specs.Prelude.{◌||◌}
use Rattle.css_client.specs.Landings.{landing_of}
use Rattle.css_companion.specs.Standing.{own_of}
use Rattle.css_companion_c.specs.Codes.{DISAGREE, landing_code}
use Rattle.css_companion_c.proofs.Noticing.{told_by, notices_by, or_true, or_false}
use Rattle.css_companion_c.proofs.exchange.accept.Goals as goal

pub returns-then-contradicts-clause-code : goal.returns-then-contradicts-clause-code
returns-then-contradicts-clause-code c h tells =
    let own = own_of c.args.follower.now.companion in
    let told = told_by c.args.follower.now h c.args.reading c.args.bytes.now c.args.answer c.try_add.new.self
    c.contradicts.result tells c.in-Ok.ensures.ok c.contradicts.ensures.value in
    let Code = λ (b : Bool). cond b DISAGREE (landing_code (landing_of own h c.args.reading c.args.bytes.now)) in
    (λ no. absurd (no refl), λ _. inr (sym (ap Code (told ∙ c.if-contradicts.true))))

pub returns-then-contradicts-clause-notices : goal.returns-then-contradicts-clause-notices
returns-then-contradicts-clause-notices c on h peer tells =
    let old = c.args.follower.now in
    let told = told_by old h c.args.reading c.args.bytes.now c.args.answer c.try_add.new.self
    c.contradicts.result tells c.in-Ok.ensures.ok c.contradicts.ensures.value in
    notices_by old _ h peer c.args.reading c.args.bytes.now c.args.answer c.contradicts.result tells c.in-Ok.ensures.ok
    told c.in-Ok-land.ensures.own
    (or_true old.disagrees ∙ ap (λ (b : Bool). old.disagrees || b) (sym c.if-contradicts.true)) refl
    c.is_answered-answered.ensures refl

pub returns-clause-code : goal.returns-clause-code
returns-clause-code c h tells =
    let own = own_of c.args.follower.now.companion in
    let told = told_by c.args.follower.now h c.args.reading c.args.bytes.now c.args.answer c.try_add.new.self
    c.contradicts.result tells c.in-Ok.ensures.ok c.contradicts.ensures.value in
    let Code = λ (b : Bool). cond b DISAGREE (landing_code (landing_of own h c.args.reading c.args.bytes.now)) in (
      λ no. absurd (no refl),
      λ _. inr (c.landing_code.ensures ∙ ap landing_code (c.in-Ok-land.ensures.landing _ h tells.stands)
          ∙ sym (ap Code (told ∙ c.if-contradicts.false))),
    )

pub returns-clause-notices : goal.returns-clause-notices
returns-clause-notices c on h peer tells =
    let old = c.args.follower.now in
    let told = told_by old h c.args.reading c.args.bytes.now c.args.answer c.try_add.new.self
    c.contradicts.result tells c.in-Ok.ensures.ok c.contradicts.ensures.value in
    notices_by old _ h peer c.args.reading c.args.bytes.now c.args.answer c.contradicts.result tells c.in-Ok.ensures.ok
    told c.in-Ok-land.ensures.own
    (or_false old.disagrees ∙ ap (λ (b : Bool). old.disagrees || b) (sym c.if-contradicts.false)) refl
    c.is_answered-answered.ensures refl

pub returns-then-contradicts-clause-stands : goal.returns-then-contradicts-clause-stands
returns-then-contradicts-clause-stands c = λ _ history peer known. c.in-Ok-land.ensures.stands _ history peer known

pub returns-clause-stands : goal.returns-clause-stands
returns-clause-stands c = λ _ history peer known. c.in-Ok-land.ensures.stands _ history peer known
