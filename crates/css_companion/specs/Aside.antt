-- What a companion need not be told.
use Rattle.std.specs.Prelude.{◌≡◌, ◌∷◌, ◌||◌, None, false}
use Rattle.css_model.specs.History.{Entry, History}
use Rattle.css_client.specs.Standing as clients
use Rattle.css_companion.specs.Meanings.{cii_text, ts_text, opens_ts, closes_ts}
use Rattle.css_companion.specs.Standing.{Companion, StandsFor}

-- an entry that tells the client nothing, is no text of a session, and neither opens nor closes one of CSS-TS
pub record IsAside (entry : Entry) (older : History) : Type 0 where
  pub client : clients.IsAside entry older
  pub no_cii : cii_text entry older ≡ None
  pub no_ts : ts_text entry older ≡ None
  pub no_edge : (opens_ts entry || closes_ts entry older) ≡ false

-- A companion stands for a history with such an entry too.
abbrev pub StandsAside : Type 0
StandsAside = (companion : Companion) (history : History) (entry : Entry)
    → StandsFor companion history → IsAside entry history → StandsFor companion (entry ∷ history)
