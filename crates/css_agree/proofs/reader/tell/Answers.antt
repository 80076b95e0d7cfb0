use Rattle.std.proofs.Common.{◌≡◌, subst, ◌++◌}
use Rattle.css_model.specs.WallClock.{Local}
use Rattle.css_agree.specs.Printed.{agreed_text}
use Rattle.css_agree.proofs.Reading.{tells}
use Rattle.css_agree.proofs.reader.tell.Goals as goal

pub returns-in-Ok : goal.returns-in-Ok
returns-in-Ok c = λ added stands.
    tells c.args.agree.now.local c.args.number c.args.reading added c.at-agreed.result c.args.out.now.items
    c.print_agreed.new.out.items (c.at-agreed.ensures.agrees added stands)
    (subst (λ (own : Local). c.print_agreed.new.out.items
    ≡ c.args.out.now.items ++ agreed_text own c.args.number c.args.reading c.at-agreed.result) c.local.ensures.value
    c.in-Ok.ensures.ok)
