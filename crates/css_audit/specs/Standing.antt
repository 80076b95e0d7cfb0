-- Which lines of a record an audit stands for.
use Rattle.std.specs.Prelude.{ℕ, ◌≡◌, ◌≤◌, ◌<◌, ⊤, Bool, true, false, List, ◌∷◌, Option, Some, None, IfSome}
use Rattle.std.specs.Prelude.{Result, Ok, Err}
use Rattle.css_model.specs.declared.TheConstants.{LIMIT}
use Rattle.css_companion.specs.Contents.{next_number, told}
use Rattle.css_companion.specs.Standing as companions
use Rattle.css_companion.specs.declared.config.CompanionConfig.{CompanionConfig}
use Rattle.css_companion.specs.declared.event.CompanionEvent.{CompanionEvent}
use Rattle.css_companion.specs.declared.event.CompanionEvent.TheVariants as event
use Rattle.css_schedule.specs.declared.fault.LineFault.{LineFault}
use Rattle.css_audit.specs.Entries.{history_in, number_of, last_in, slept_in, turn_in, reports_in}
use Rattle.css_audit.specs.Faults.{read_fault}
use Rattle.css_audit.specs.Verdicts.{Verdict, least_after, order_of, cii_verdict, AreRight}
use Rattle.css_audit.specs.declared.place.LastReading.{LastReading}
use Rattle.css_audit.specs.declared.place.Place.{Place}
use Rattle.css_audit.specs.declared.fault.AuditFault.{AuditFault}
use Rattle.css_audit.specs.declared.input.RecordLine.{RecordLine}
use Rattle.css_audit.specs.declared.input.RecordLine.TheVariants as lines

-- What an audit keeps: the companion that was told what the lines tell, and where the audit stands in the record.
pub record Audit : Type 0 where
  pub companion : companions.Companion
  pub place : Place

-- what is kept in these parts
abbrev pub known : companions.Companion → Place → Audit
known companion place = record { companion = companion; place = place }

-- the configuration of the header
abbrev pub config_of : companions.Companion → CompanionConfig
config_of companion = record {
  selector = companion.setup.selector;
  stem = companion.setup.stem;
  local = companions.own_of companion;
}

-- what an audit is begun with, where this was read
abbrev pub opened : Result CompanionConfig LineFault → Result CompanionConfig AuditFault
opened (Ok config) = Ok config
opened (Err unread) = Err (read_fault unread)

-- The place after lines: how many lines and reports there were, the last reading, whether the companion slept since,
-- and the reading of the last line, where that was a turn.
abbrev pub place_in : List RecordLine → Place
place_in lines = record {
  lines = number_of lines;
  reports = reports_in lines;
  last = last_in lines;
  slept = slept_in lines;
  turn = turn_in lines;
}

-- A companion stands for the history that the lines tell, a place is theirs, and each of their reports is right. The
-- newest line stands first.
pub record Keeps (companion : companions.Companion) (place : Place) (taken : List RecordLine) : Type 0 where
  pub told : companions.StandsFor companion (history_in taken)
  pub stands : place ≡ place_in taken
  pub right : AreRight (companions.own_of companion) companion.setup.selector taken

-- The audit stands for lines.
abbrev pub StandsFor : Audit → List RecordLine → Type 0
StandsFor audit lines = Keeps audit.companion audit.place lines

-- ---- what is always true
-- the least reading that may come next
abbrev pub least_of : Option LastReading → Bool → ℕ
least_of None slept = 0
least_of (Some last) slept = least_after last.reading slept

-- the companion may be handed this reading
pub record MayBeHanded (companion : companions.Companion) (reading : ℕ) : Type 0 where
  pub range : reading < LIMIT
  pub floor : companion.client.floor ≤ reading

-- The companion may be handed each reading that is in order, and that of the turn. After a sleep another one changes
-- nothing.
pub record IsSound (companion : companions.Companion) (place : Place) : Type 0 where
  pub floor : companion.client.floor ≤ least_of place.last place.slept
  pub asleep : place.slept ≡ true → IfSome place.last (λ _.
      companion.client.after_sleep ≤ companion.client.floor)
  pub turn : IfSome place.turn (MayBeHanded companion)

-- ---- for private clauses
-- the place after a line without a reading
abbrev pub counted : Place → Place
counted place = record place { lines = next_number place.lines; turn = None }

-- after a sleep
abbrev pub slept : Place → Place
slept place = record (counted place) { slept = true }

-- after a report
abbrev pub reported : Place → Place
reported place = record (counted place) { reports = next_number place.reports }

-- after a line with a reading, which may be that of a turn
abbrev pub passed : Place → ℕ → Option ℕ → Place
passed place reading turn = record place {
  lines = next_number place.lines;
  last = Some (record { line = next_number place.lines; reading = reading });
  slept = false;
  turn = turn;
}

-- the place after a line with a reading, or why it is out of order
abbrev pub passed_by : Verdict → Place → ℕ → Option ℕ → Result Place AuditFault
passed_by (Ok done) place reading turn = Ok (passed place reading turn)
passed_by (Err wrong) place reading turn = Err wrong

abbrev pub pass_of : Place → ℕ → Option ℕ → Result Place AuditFault
pass_of place reading turn = passed_by (order_of place.last place.slept reading) place reading turn

-- an event that a record has a line for
abbrev pub IsRecorded : CompanionEvent → Type 0
IsRecorded event.TsOpened = ⊥
IsRecorded (event.Present earliest latest) = ⊥
IsRecorded _ = ⊤

-- its line
abbrev pub line_of_event : CompanionEvent → RecordLine
line_of_event (event.CiiText bytes) = lines.Cii bytes
line_of_event (event.TsText bytes) = lines.Ts bytes
line_of_event event.TsClosed = lines.ClosedTs
line_of_event _ = lines.ClosedCii

-- whether its line is right
abbrev pub event_verdict : companions.Companion → CompanionEvent → Verdict
event_verdict companion (event.CiiText bytes) =
    cii_verdict (told (next_number companion.texts) companion.state bytes)
event_verdict companion _ = Ok tt

-- the companion stands for one line more
abbrev pub Tells : companions.Companion → companions.Companion → Place → RecordLine → Type 0
Tells old new place line = (older : List RecordLine) → Keeps old place older
    → companions.StandsFor new (history_in (line ∷ older))
