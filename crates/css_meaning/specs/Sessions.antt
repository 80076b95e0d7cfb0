-- The sessions of companions with the television of a schedule, and their texts: what one end wrote, and what has come
-- to the other. In each list the newest stands first.
use Rattle.std.specs.Prelude.{ℕ, suc, ◌*◌, ◌-◌, ◌==◌, ◌&&◌, ◌||◌, not, Bool, false, if◌then◌else◌}
use Rattle.std.specs.Prelude.{List, [], ◌∷◌, length, take, Option, Some, None, is_some, unwrap_or, slice_get, codes}
use Rattle.std.specs.Option.{option_map}
use Rattle.std.specs.List.{filter_map}
use Rattle.css_model.specs.History.{Entry, Dialled, Heard, Wrote, Closed, History}
use Rattle.css_tsmsg.specs.declared.setup.Setup.{Setup}
use Rattle.css_num.specs.declared.protocol.Kind.{Kind}
use Rattle.css_num.specs.declared.protocol.Kind.TheVariants as kind
use Rattle.css_tv.specs.States.{addresses_of}
use Rattle.css_tv.specs.Standing.{texts_after}
use Rattle.css_tv.specs.declared.event.TvEvent.{TvEvent}
use Rattle.css_tv.specs.declared.event.TvEvent.TheVariants as event
use Rattle.css_tv.specs.declared.state.Addresses.{Addresses}
use Rattle.css_companion.specs.Meanings.{kind_of}
use Rattle.css_schedule.specs.declared.header.Header.{Header}
use Rattle.css_meaning.specs.Numbering.{numbered}

-- ---- what is known beforehand
-- the peer of a companion's session: companions are numbered from 1, and so are peers
abbrev pub peer_of : ℕ → Kind → ℕ
peer_of who kind.Cii = who * 2 - 1
peer_of who kind.Ts = who * 2

-- where the television of a schedule is reached
abbrev pub addresses : Addresses
addresses = addresses_of (codes "127.0.0.1") 6677

-- what companion `who` asks of the television
abbrev pub setup_of : ℕ → Header → Setup
setup_of who header = unwrap_or
    (option_map (λ companion. record {
      stem = companion.stem;
      selector = companion.selector;
    }) (slice_get header.companions (who - 1)))
    (record { stem = []; selector = [] })

-- ---- open sessions
-- whether a companion's session is open after an entry, if it was before
abbrev pub open_after : ℕ → Entry → Bool → Bool
open_after peer (Dialled kind other) before = other == peer || before
open_after peer (Closed other) before = not (other == peer) && before
open_after peer _ before = before

-- whether a companion's session is open
abbrev pub is_open : ℕ → History → Bool
is_open peer [] = false
is_open peer (entry ∷ older) = open_after peer entry (is_open peer older)

-- whether it is open or was open before
abbrev pub was_opened : ℕ → History → Bool
was_opened peer history = is_some (kind_of peer history)

-- ---- texts
-- the text of a peer that a companion heard
abbrev pub heard_by : ℕ → Entry → Option (List ℕ)
heard_by peer (Heard other bytes) = if other == peer then Some bytes else None
heard_by peer _ = None

-- the texts that a companion heard of a peer
abbrev pub heard_from : ℕ → History → List (List ℕ)
heard_from peer history = filter_map (heard_by peer) history

-- the text that a companion wrote to a peer
abbrev pub written_by : ℕ → Entry → Option (List ℕ)
written_by peer (Wrote other bytes) = if other == peer then Some bytes else None
written_by peer _ = None

-- the texts that a companion wrote to a peer
abbrev pub written_to : ℕ → History → List (List ℕ)
written_to peer history = filter_map (written_by peer) history

-- the text of a peer that came to the television
abbrev pub received_by : ℕ → TvEvent → Option (List ℕ)
received_by peer (event.Heard other bytes) = if other == peer then Some bytes else None
received_by peer _ = None

-- the texts of a peer that came to the television
abbrev pub received_from : ℕ → List TvEvent → List (List ℕ)
received_from peer events = filter_map (received_by peer) events

-- the texts that the television told a peer
abbrev pub told_to : ℕ → List TvEvent → List (List ℕ)
told_to peer events = texts_after addresses peer events

-- ---- texts in flight
-- Of what was sent, what hasn't come: texts come in the order in which they were sent.
abbrev pub in_flight : (sent received : List (List ℕ)) → List (List ℕ)
in_flight sent received = take (length sent - length received) sent

-- and the one that comes next
abbrev pub next_of : (sent received : List (List ℕ)) → Option (List ℕ)
next_of sent received = numbered (suc (length received)) sent

-- the television's next text for companion `who`
abbrev pub next_down : ℕ → Kind → List TvEvent → History → Option (List ℕ)
next_down who kind events own = next_of (told_to (peer_of who kind) events) (heard_from (peer_of who kind) own)

-- the next text of companion `who` for the television; it writes to its TS session alone
abbrev pub next_up : ℕ → List TvEvent → History → Option (List ℕ)
next_up who events own = next_of (written_to (peer_of who kind.Ts) own) (received_from (peer_of who kind.Ts) events)
