use Rattle.std.proofs.Common.{[], ◌∷◌, subst}
use Rattle.css_player.specs.Player.{Player}
use Rattle.css_sessions.specs.Told.{StandsFor as SessionsStandFor}
use Rattle.css_tv.specs.Outcomes.{published}
use Rattle.css_tv.proofs.tv.Tv.new.Goals as goal

pub returns-clause-stands : goal.returns-clause-stands
returns-clause-stands c = record {
  player = c.new-player.ensures.stands;
  sessions =
      subst (λ (p : Player). SessionsStandFor c.publish.new.sessions (published c.in_ok-addresses.addresses p ∷ []))
      c.new-player.ensures.state (c.in_ok-publish.ensures.stands [] c.new-sessions.ensures);
}
