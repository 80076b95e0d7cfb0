-- What a relay keeps, which histories it stands for, and the state that it tells.
use Rattle.std.specs.Prelude.{ℕ, pos, List, ◌++◌, codes}
use Rattle.std.specs.Fmt.{signed_decimal}
use Rattle.std.specs.Option.{option_map}
use Rattle.css_agree.specs.Keeping.{Kept}
use Rattle.css_cii.specs.declared.state.State.{State}
use Rattle.css_companion.specs.Meanings.{state_under}
use Rattle.css_companion.specs.Standing.{Companion, StandsUnder}
use Rattle.css_companion.specs.declared.binding.Binding.TheVariants.{WallClock}
use Rattle.css_model.specs.History.{History}

-- the companion that it is, where it serves the wall clock, and what its answers say together
pub record Relay : Type 0 where
  pub companion : Companion
  pub wc_url : List ℕ
  pub agree : Kept

-- ---- the relay's companion opens no CSS-TS, so the wall clock's address alone binds it
abbrev pub StandsFor : Companion → History → Type 0
StandsFor companion history = StandsUnder WallClock companion history

-- the state that the television told: a text that moves `tsUrl` is taken like any other
abbrev pub state_of : History → State
state_of history = state_under WallClock history

-- ---- what it tells
-- `udp://HOST:PORT`
abbrev pub wc_url_of : List ℕ → ℕ → List ℕ
wc_url_of host port = ((codes "udp://" ++ host) ++ codes ":") ++ signed_decimal (pos port)

-- the television's state, with the relay's address in the place of the television's wall clock, where it told one
abbrev pub relayed_state : List ℕ → State → State
relayed_state wc_url state = record state { wc_url = option_map (λ _. wc_url) state.wc_url }
