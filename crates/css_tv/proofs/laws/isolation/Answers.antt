use Rattle.std.proofs.Common.{sym, ap, ◌∙◌}
use Rattle.css_sessions.specs.Told.{life_of, texts_of_lived}
use Rattle.css_sessions.proofs.Telling.{life_of-own}
use Rattle.css_tv.specs.Standing.{calls_of}
use Rattle.css_tv.proofs.laws.isolation.Goals as goal

pub returns : goal.returns
returns c = λ a b peer h k same.
    ap texts_of_lived
    (sym (life_of-own peer (calls_of a h).sessions) ∙ ap (life_of peer) same ∙ life_of-own peer
    (calls_of b k).sessions)
