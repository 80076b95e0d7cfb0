-- What a message of a session comes to.
use Rattle.std.specs.Prelude.{◌≡◌}
use Rattle.tungstenite.specs.declared.message.Message.{Message}
use Rattle.tungstenite.specs.declared.message.Message.TheVariants as message
use Rattle.css_net.specs.declared.session.Came.{Came}
use Rattle.css_net.specs.declared.session.Came.TheVariants as came
use Rattle.css_net.specs.declared.session.End.TheVariants as end

-- a text is told as it came, and only a close ends the session
abbrev pub ComesTo : Message → Came → Type 0
ComesTo (message.Text bytes) given = given ≡ came.Text bytes
ComesTo (message.Binary bytes) given = ⊥
ComesTo (message.Ping bytes) given = given ≡ came.Other
ComesTo (message.Pong bytes) given = given ≡ came.Other
ComesTo (message.Close frame) given = given ≡ came.End end.ByPeer
