use Rattle.std.proofs.Common.{refl}
use Rattle.css_watch.proofs.Telling as telling
use Rattle.css_watch.proofs.watching.accept.Goals as goal

pub returns-in-Ok-add : goal.returns-in-Ok-add
returns-in-Ok-add c answers s possible =
    telling.accepts_of _ c.args.reading c.args.judged.now answers c.in-Ok.answer c.args.agree.now c.add.new.self _ refl
    c.in-Ok.is c.in-Ok-add.ensures.ok s c.apart.ensures.value c.apart.ensures.some
