use Rattle.std.proofs.Common.{ap, ◌∙◌, ◌++◌, List, ℕ, decimal}
use Rattle.css_gen.proofs.SecondTexts.{header_text-is}
use Rattle.css_gen.proofs.second.header_text.Goals as goal

pub returns : goal.returns
returns c =
    c.in_ok-push_count.ensures
    ∙ ap (λ (text : List ℕ). text ++ decimal c.args.companions) c.in_ok-text.ensures
    ∙ header_text-is c.args.companions
