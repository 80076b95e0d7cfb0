-- The content time is in range, so the wall time decides.
use Rattle.std.proofs.Common.{◌≡◌, ◌≤◌, ◌∙◌, length, ap, sym, to_z, of_z, w64, rules}
use Rattle.std.proofs.lemmas.Int.{to_z-of_z}
use Rattle.css_tsmsg.specs.Presentations.{wall_in_range}
use Rattle.css_tsmsg.specs.Times.{without_minus, content_value}
use Rattle.css_tsmsg.proofs.Windows.{bound_by}
use Rattle.css_tsmsg.proofs.presentation.bound_of.Goals as goal

pub returns-clause-value : goal.returns-clause-value
returns-clause-value c =
    let form = c.args.form.now in
    let few : length (without_minus c.args.form.now.content) ≤ 18 =
    rw (sym (c.without_minus.ensures ∙ ap without_minus c.bytes-content.ensures)) c.if-without_minus-gt18.false in
    let same : to_z w64 (of_z w64 c.content_value.result) ≡ c.content_value.result =
    to_z-of_z w64 c.content_value.result (search rules) in
    c.wall_in_range.ensures.value ∙ ap (λ content. wall_in_range c.args.end content form.wall) same ∙ ap (λ content.
    wall_in_range c.args.end content form.wall)
    (c.content_value.ensures.value ∙ ap content_value c.bytes-content.ensures) ∙ sym (bound_by c.args.end form few)
