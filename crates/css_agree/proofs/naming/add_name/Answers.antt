use Rattle.std.proofs.Common.{◌≡◌, ap, arith}
use Rattle.std.specs.Prelude.{pos}
use Rattle.std.proofs.lemmas.Int.{ints}
use Rattle.css_model.specs.WallClock.{Answer, scaled_width}
use Rattle.css_agree.proofs.Disagreements.{not_less}
use Rattle.css_agree.proofs.Pairs.{keeps-added, on_ok}
use Rattle.css_agree.proofs.naming.add_name.Goals as goal

pub returns : goal.returns
returns c =
    let own = c.args.local.now in
    let answer = c.args.answer in
    let width : c.scaled_width.result ≡ scaled_width own answer answer.t4 =
    rw (ap (λ (a : Answer). a.t4) c.answer.view_is) at c.scaled_width.ensures in
    let possible = not_less (scaled_width own answer answer.t4) (pos 0) (omega (arith, ints, width)) in
    on_ok _ _ c.keep_named-2.result
    (λ highs named. keeps-added own c.args.number _ _ answer named c.args.names.now _ possible
    c.in_ok-keep_named.ensures.ok highs)
    c.keep_named-2.ensures.ok
