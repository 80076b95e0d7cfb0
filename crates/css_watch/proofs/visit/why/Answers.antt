use Rattle.std.proofs.Common.{◌≡◌, ◌∙◌, ◌++◌, ap, sym, append_assoc, Some, string_bytes, codes, decimal}
use Rattle.css_cii.specs.FaultWords as cii
use Rattle.css_drive.specs.Visits as visits
use Rattle.css_watch.proofs.visit.why.Goals as goal

pub returns-in_ok-format-in-BadCii-clause-words : goal.returns-in_ok-format-in-BadCii-clause-words
returns-in_ok-format-in-BadCii-clause-words c =
    let said : string_bytes c.in_ok-format-in-BadCii.field-0
    ≡ codes "CII text " ++ (decimal c.in-BadCii.text ++ (codes ": " ++ cii.fault_words c.in-BadCii.fault)) =
    c.in_ok-format-in-BadCii.ensures.ok
    in
    ap Some (said ∙ ap (λ x. codes "CII text " ++ x) (sym (append_assoc (decimal c.in-BadCii.text) (codes ": ")
    (cii.fault_words c.in-BadCii.fault))))
    ∙ ap (λ x. visits.why x c.args.parting.now) (sym c.in-BadCii.is)
