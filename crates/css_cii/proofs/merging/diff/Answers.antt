-- The difference says exactly what differs, leads to the new state, and is UTF-8 where that is.
use Rattle.std.proofs.Common.{Bool, Decides, ◌≡◌, ◌∙◌, ap, sym, subst}
use Rattle.std.proofs.lemmas.Result.{IfOk-weaker}
use Rattle.css_cii.specs.States.{applied, is_empty, TellsDifference}
use Rattle.css_cii.specs.Texts.{IsUtf8Change}
use Rattle.css_cii.proofs.Sessions.{difference-exact, applied-difference}
use Rattle.css_cii.proofs.Same.{is_empty-Decides}
use Rattle.css_cii.proofs.Utf8.{difference-utf8}
use Rattle.css_cii.proofs.merging.diff.Goals as goal

pub returns-clause-exact : goal.returns-clause-exact
returns-clause-exact c =
    IfOk-weaker c.difference.result _ _ (λ change is. subst (TellsDifference c.args.old.now c.args.new.now) (sym is)
    (difference-exact c.args.old.now c.args.new.now)) c.difference.ensures

pub returns-clause-applied : goal.returns-clause-applied
returns-clause-applied c = IfOk-weaker c.difference.result _ _ (λ change is. ap (applied c.args.old.now) is
    ∙ applied-difference c.args.old.now c.args.new.now) c.difference.ensures

pub returns-clause-utf8 : goal.returns-clause-utf8
returns-clause-utf8 c = IfOk-weaker c.difference.result _ _
    (λ change is h. subst IsUtf8Change (sym is) (difference-utf8 c.args.old.now c.args.new.now h)) c.difference.ensures

pub returns-clause-empty : goal.returns-clause-empty
returns-clause-empty c = IfOk-weaker c.difference.result _ _
    (λ change is.
    let P : Bool → Type 0 = λ same. Decides same (c.args.old.now ≡ c.args.new.now) in
    subst P (sym (ap is_empty is)) (is_empty-Decides c.args.old.now c.args.new.now))
    c.difference.ensures
