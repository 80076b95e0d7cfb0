-- What a state has and what is said are UTF-8.
use Rattle.std.proofs.Common.{sym, subst}
use Rattle.css_cii.specs.Texts.{IsUtf8State}
use Rattle.css_cii.proofs.Utf8.{applied-utf8}
use Rattle.css_cii.proofs.merging.apply_to.Goals as goal

pub returns-clause-utf8 : goal.returns-clause-utf8
returns-clause-utf8 c =
    λ h k. subst IsUtf8State (sym c.set.ensures) (applied-utf8 c.args.state.now c.args.change h k)
