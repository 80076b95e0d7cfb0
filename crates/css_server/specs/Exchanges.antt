-- What a server's tickets have to do with one another.
use Rattle.std.specs.Prelude.{ℕ, ◌≡◌, ◌<◌, List, [], ◌∷◌, All, Bool, ◌&&◌, Option, Some, None, IsTrue, slice_get}
use Rattle.css_model.specs.History.{is_promise_of}
use Rattle.css_server.specs.Tickets.{Server, Ticket, is_greater, greatest_with, response_to, follow_up_to}

-- the greatest reading of tickets
abbrev pub greatest_reading : List Ticket → Option ℕ
greatest_reading [] = None
greatest_reading (ticket ∷ older) = Some (greatest_with ticket.reading (greatest_reading older))

-- a follow-up was promised exactly where the server does so and no earlier ticket has as great a reading
abbrev pub ArePromised : Bool → List Ticket → Type 0
ArePromised follow [] = Unit {0}
ArePromised follow (ticket ∷ older) =
    (ticket.follow_up ≡ (follow && is_greater ticket.reading (greatest_reading older))) × ArePromised follow older

-- The server gave out these tickets: it knows their greatest reading, and promised as it does.
pub record StandsFor (server : Server) (tickets : List Ticket) : Type 0 where
  pub greatest : server.greatest ≡ greatest_reading tickets
  pub promised : ArePromised server.follow tickets

-- ---- what is proved of them
-- Each promise has a receive value that is greater than that of each earlier ticket.
abbrev pub PromisesRise : List Ticket → Type 0
PromisesRise [] = Unit {0}
PromisesRise (ticket ∷ older) =
    (IsTrue ticket.follow_up → All (λ earlier. earlier.reading < ticket.reading) older) × PromisesRise older

-- Whatever a server was sent, its promises rise. So no two of them have the same receive value.
abbrev pub NoPromiseIsRepeated : Type 0
NoPromiseIsRepeated = (server : Server) (tickets : List Ticket) → StandsFor server tickets → PromisesRise tickets

-- A companion takes a response of one ticket for the promise of a follow-up of another only where the two tickets are
-- one, by their places in the list.
abbrev pub PairsAreExchanges : Type 0
PairsAreExchanges = (server : Server) (tickets : List Ticket) (i j : ℕ) (a b : Ticket) (answered told landed : ℕ)
    → StandsFor server tickets → slice_get tickets i ≡ Some a → slice_get tickets j ≡ Some b
    → IsTrue b.follow_up
    → IsTrue
    (is_promise_of (record { message = response_to server a answered; reading = landed })
    (follow_up_to server b told))
    → i ≡ j
