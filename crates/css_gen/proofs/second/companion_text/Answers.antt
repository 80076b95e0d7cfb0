use Rattle.std.proofs.Common.{ap, ◌∙◌, ◌++◌, List, ℕ, codes, decimal}
use Rattle.css_gen.proofs.SecondTexts.{companion_text-is}
use Rattle.css_gen.proofs.second.companion_text.Goals as goal

pub returns : goal.returns
returns c =
    c.in_ok-push.ensures.ok
    ∙ ap (λ (text : List ℕ). text ++ codes " 12800 1000 urn:dvb:css:timeline:pts dvb://")
    (c.in_ok-push_count.ensures
    ∙ ap (λ (text : List ℕ). text ++ decimal c.args.who) c.in_ok-text.ensures)
    ∙ companion_text-is c.args.who
