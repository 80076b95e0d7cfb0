-- What the history of a companion's run says of its turns: their readings, the dials, the sessions and the requests.
use Rattle.std.specs.Prelude.{ℕ, ◌+◌, nat_le, nat_lt, [], ◌∷◌, Bool, true, false, not, ◌&&◌, ◌==◌, if◌then◌else◌}
use Rattle.std.specs.Prelude.{Option, Some, None, unwrap_or}
use Rattle.css_model.specs.declared.Why.TheVariants as why
use Rattle.css_model.specs.declared.Kind.{Kind}
use Rattle.css_model.specs.declared.Kind.TheVariants as kind
use Rattle.css_model.specs.History.{Entry, Slept, Clock, Dialled, Sent, Closed, Gone, HungUp, History}
use Rattle.css_outside.specs.Limits.{most_turns, is_over}
use Rattle.css_outside.specs.declared.limit.Limit.{Limit}

-- ---- the readings of turns
-- the reading of a turn that begins with an entry
abbrev pub turn_at : Entry → Option ℕ
turn_at (Clock why.Turn reading) = Some reading
turn_at _ = None

-- the first reading stays the first
abbrev pub first_of : Option ℕ → Option ℕ → Option ℕ
first_of None first = first
first_of (Some reading) first = Some (unwrap_or first reading)

-- the reading of the first turn
abbrev pub first_turn : History → Option ℕ
first_turn [] = None
first_turn (entry ∷ older) = first_of (turn_at entry) (first_turn older)

-- something newer, else what was
abbrev pub newest : Option ℕ → Option ℕ → Option ℕ
newest None was = was
newest (Some value) was = Some value

-- the reading of the turn that was begun last
abbrev pub this_turn : History → Option ℕ
this_turn [] = None
this_turn (entry ∷ older) = newest (turn_at entry) (this_turn older)

-- one more, where there is something
abbrev pub counted : Option ℕ → ℕ → ℕ
counted None count = count
counted (Some reading) count = count + 1

-- how many turns were begun
abbrev pub turns : History → ℕ
turns [] = 0
turns (entry ∷ older) = counted (turn_at entry) (turns older)

-- ---- how long a run goes on
-- whether a turn is the last by its time, where the first one had the reading `first`
abbrev pub is_late : Limit → Option ℕ → Option ℕ → Bool
is_late limit None turn = false
is_late limit (Some first) turn = is_over limit first (unwrap_or turn 0)

-- whether another turn follows this one, where so many were begun
abbrev pub goes_on : Limit → Option ℕ → Option ℕ → ℕ → Bool
goes_on limit first turn made = nat_lt made (most_turns limit) && not (is_late limit first turn)

-- ---- dials and sessions
abbrev pub is_kind : Kind → Kind → Bool
is_kind kind.Wc kind.Wc = true
is_kind kind.Cii kind.Cii = true
is_kind kind.Ts kind.Ts = true
is_kind _ _ = false

-- the peer of a dial of this kind that succeeded with an entry
abbrev pub dialled_by : Kind → Entry → Option ℕ
dialled_by wanted (Dialled kind peer) = if is_kind wanted kind then Some peer else None
dialled_by wanted _ = None

-- the peer of the last dial of this kind that succeeded
abbrev pub dialled : Kind → History → Option ℕ
dialled wanted [] = None
dialled wanted (entry ∷ older) = newest (dialled_by wanted entry) (dialled wanted older)

-- the peer of a session that ends with an entry
abbrev pub ended_by : Entry → Option ℕ
ended_by (Closed peer) = Some peer
ended_by (Gone peer) = Some peer
ended_by (HungUp peer) = Some peer
ended_by _ = None

abbrev pub is_peer : Option ℕ → ℕ → Bool
is_peer None peer = false
is_peer (Some other) peer = other == peer

abbrev pub unless : Bool → Option ℕ → Option ℕ
unless true peer = None
unless false peer = peer

-- the session that is open after an entry, by the dial and by the end that the entry tells
abbrev pub open_after : Option ℕ → Option ℕ → Option ℕ → Option ℕ
open_after (Some peer) ended was = Some peer
open_after None None was = was
open_after None (Some peer) was = unless (is_peer was peer) was

-- the peer of the session of this kind that is open
abbrev pub opened : Kind → History → Option ℕ
opened wanted [] = None
opened wanted (entry ∷ older) = open_after (dialled_by wanted entry) (ended_by entry) (opened wanted older)

-- whether a dial succeeded
abbrev pub any_dialled : History → Bool
any_dialled [] = false
any_dialled (Dialled kind peer ∷ older) = true
any_dialled (_ ∷ older) = any_dialled older

-- ---- requests
-- the turn of the last request after an entry that stands in `turn`
abbrev pub after_asking : Entry → Option ℕ → Option ℕ → Option ℕ
after_asking Slept turn was = None
after_asking (Sent peer bytes) turn was = turn
after_asking _ turn was = was

-- the reading of the turn in which the last request was sent, if one was sent since the last sleep
abbrev pub asked_turn : History → Option ℕ
asked_turn [] = None
asked_turn (entry ∷ older) = after_asking entry (this_turn older) (asked_turn older)

-- whether a request is due in a turn, where one is due every so often
abbrev pub is_asking : ℕ → Option ℕ → Option ℕ → Bool
is_asking every turn None = true
is_asking every turn (Some asked) = nat_le (asked + every) (unwrap_or turn 0)
