-- What the lines of a record tell. In each list of lines the newest stands first. The header, which is line 1, is in
-- none of them.
use Rattle.std.specs.Prelude.{ℕ, Bool, true, false, List, [], ◌∷◌, Option, Some, None}
use Rattle.std.specs.Option.{option_map, option_or}
use Rattle.css_model.specs.declared.Kind.TheVariants as kind
use Rattle.css_model.specs.declared.Why.TheVariants as why
use Rattle.css_model.specs.Wire.{encoded, request_at}
use Rattle.css_model.specs.History.{Clock, Slept, Dialled, Sent, Took, Heard, Closed, History}
use Rattle.css_companion.specs.Contents.{next_number}
use Rattle.css_audit.specs.declared.place.LastReading.{LastReading}
use Rattle.css_audit.specs.declared.input.RecordLine.{RecordLine}
use Rattle.css_audit.specs.declared.input.RecordLine.TheVariants as lines

-- ---- the history that they tell
-- the peers of the two sessions and of the wall clock
abbrev pub cii_peer : ℕ
cii_peer = 1

abbrev pub ts_peer : ℕ
ts_peer = 2

abbrev pub wall_peer : ℕ
wall_peer = 3

-- both sessions are open from the start: a record doesn't tell when they were dialled
abbrev pub sessions : History
sessions = Dialled kind.Ts ts_peer ∷ Dialled kind.Cii cii_peer ∷ []

-- the history with the entries of a line
abbrev pub with_entries : RecordLine → History → History
with_entries lines.Slept older = Slept ∷ older
with_entries (lines.Turn reading) older = Clock why.Turn reading ∷ older
with_entries (lines.Ask reading) older =
    Sent wall_peer (encoded (request_at reading)) ∷ Clock why.Ask reading ∷ older
with_entries (lines.Land reading bytes) older = Clock why.Land reading ∷ Took wall_peer bytes ∷ older
with_entries (lines.Cii bytes) older = Heard cii_peer bytes ∷ older
with_entries (lines.Ts bytes) older = Heard ts_peer bytes ∷ older
with_entries lines.ClosedCii older = Closed cii_peer ∷ older
with_entries lines.ClosedTs older = Closed ts_peer ∷ older
with_entries (lines.Report words) older = older

-- the history of lines
abbrev pub history_in : List RecordLine → History
history_in [] = sessions
history_in (now ∷ older) = with_entries now (history_in older)

-- ---- where they stand
-- The number of the newest line. Numbers go up to the greatest count.
abbrev pub number_of : List RecordLine → ℕ
number_of [] = 1
number_of (now ∷ older) = next_number (number_of older)

-- the reading of a line
abbrev pub reading_of : RecordLine → Option ℕ
reading_of (lines.Turn reading) = Some reading
reading_of (lines.Ask reading) = Some reading
reading_of (lines.Land reading bytes) = Some reading
reading_of _ = None

-- the last reading, and the number of its line
abbrev pub last_in : List RecordLine → Option LastReading
last_in [] = None
last_in (now ∷ older) =
    option_or (option_map (λ reading. record { line = next_number (number_of older); reading = reading })
    (reading_of now)) (last_in older)

-- whether a sleep stands after the last reading, where there was one before
abbrev pub slept_with : RecordLine → Bool → Bool
slept_with lines.Slept before = true
slept_with (lines.Turn reading) before = false
slept_with (lines.Ask reading) before = false
slept_with (lines.Land reading bytes) before = false
slept_with _ before = before

-- whether a sleep stands after the last reading
abbrev pub slept_in : List RecordLine → Bool
slept_in [] = false
slept_in (now ∷ older) = slept_with now (slept_in older)

-- the reading of a turn
abbrev pub turn_of : RecordLine → Option ℕ
turn_of (lines.Turn reading) = Some reading
turn_of _ = None

-- the reading of the newest line, where that is a turn
abbrev pub turn_in : List RecordLine → Option ℕ
turn_in [] = None
turn_in (now ∷ older) = turn_of now

-- how many reports there are with a line, where there were so many before
abbrev pub reports_with : RecordLine → ℕ → ℕ
reports_with (lines.Report words) before = next_number before
reports_with _ before = before

-- how many reports there are
abbrev pub reports_in : List RecordLine → ℕ
reports_in [] = 0
reports_in (now ∷ older) = reports_with now (reports_in older)
