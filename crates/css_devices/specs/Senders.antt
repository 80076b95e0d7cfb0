-- Which address the number of a sender means.
use Rattle.std.specs.Prelude.{◌≡◌, ◌≢◌, ◌%◌, ◌<◌, ℕ, List, Option, None, Some, get_or}
use Rattle.std.specs.declared.net.socket_addr.SocketAddr.{SocketAddr}
use Rattle.css_devices.specs.declared.sender.Sender.{Sender}

-- those that are remembered, each at its place, and the next number
pub record Remembered : Type 0 where
  pub list : List (Option Sender)
  pub next : ℕ

-- The number means this address. So it means no other.
pub record Means (senders : Remembered) (peer : ℕ) (address : SocketAddr) : Type 0 where
  pub given : peer < senders.next
  pub kept : get_or senders.list (peer % 64) None ≡ Some (record { peer = peer; address = address })

-- An address has this number from now on.
pub record IsNumbered (old new : Remembered) (address : SocketAddr) (peer : ℕ) : Type 0 where
  pub means : Means new peer address
  -- what any other number means it meant before
  pub others : (other : ℕ) → (known : SocketAddr) → other ≢ peer → Means new other known → Means old other known
  -- this one meant no other address, until all numbers were given and begin again
  pub once : (known : SocketAddr) → old.next < 4294967295 → Means old peer known → known ≡ address
