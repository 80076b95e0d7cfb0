-- All that is said is UTF-8.
use Rattle.std.proofs.Common.{sym, subst}
use Rattle.css_cii.specs.Texts.{IsUtf8Change}
use Rattle.css_cii.proofs.Utf8.{full-utf8}
use Rattle.css_cii.proofs.merging.full.Goals as goal

pub returns-clause-utf8 : goal.returns-clause-utf8
returns-clause-utf8 c =
    λ h. subst IsUtf8Change (sym c.in_ok-all_said.ensures) (full-utf8 c.args.state.now h)
