use Rattle.std.proofs.Common.{◌∙◌, sym}
use Rattle.css_tsmsg.proofs.Values.{no_minus_few}
use Rattle.css_tsmsg.proofs.digits.content_value.Goals as goal

pub negative-requires : goal.negative-requires
negative-requires c = c.digits_value.ensures.below 18 (rw c.without_minus.ensures c.requires.few)

pub signed-requires : goal.signed-requires
signed-requires c =
    c.digits_value-else-has_minus.ensures.below 18
    (no_minus_few c.args.content.now 18 (sym c.has_minus.ensures ∙ c.if-has_minus.false) c.requires.few)
