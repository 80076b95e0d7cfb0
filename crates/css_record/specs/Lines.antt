-- What a record tells of a companion's history: its lines, of which the newest stands first.
use Rattle.std.specs.Prelude.{ℕ, List, [], ◌∷◌, ◌++◌, decimal, Option, Some, None}
use Rattle.std.specs.List.{flat_map}
use Rattle.std.specs.Option.{option_to_list}
use Rattle.css_model.specs.History.{History}
use Rattle.css_companion.specs.Printed.{report_words}
use Rattle.css_audit.specs.Printed.{line_text, record_text}
use Rattle.css_audit.specs.declared.input.RecordLine.{RecordLine}
use Rattle.css_audit.specs.declared.input.RecordLine.TheVariants as lines
use Rattle.css_drive.specs.Notes.{Event, Slept, Turn, Dialled, Asked, Landed, Heard, Closed}
use Rattle.css_drive.specs.Notes.{Note, Happened, Reported, noted}
use Rattle.css_drive.specs.declared.config.DriveConfig.{DriveConfig}
use Rattle.css_drive.specs.declared.session.Session.TheVariants as session

-- the line of an event; a dial has none, since no report depends on it
abbrev pub event_line : Event → Option RecordLine
event_line Slept = Some lines.Slept
event_line (Turn reading) = Some (lines.Turn reading)
event_line (Dialled kind tried) = None
event_line (Asked reading) = Some (lines.Ask reading)
event_line (Landed reading bytes) = Some (lines.Land reading bytes)
event_line (Heard session.Cii text) = Some (lines.Cii text)
event_line (Heard session.Ts text) = Some (lines.Ts text)
event_line (Closed session.Cii) = Some lines.ClosedCii
event_line (Closed session.Ts) = Some lines.ClosedTs

-- the line of a note; a report has its number, from 1
abbrev pub note_line : Note → Option RecordLine
note_line (Happened from event) = event_line event
note_line (Reported from number report) = Some (lines.Report (decimal number ++ report_words report None))

-- the lines of notes
abbrev pub lines_of : List Note → List RecordLine
lines_of notes = flat_map (λ note. option_to_list (note_line note)) notes

-- The record of a history: the header, and the line of each event, and after that of a turn the line of its report.
abbrev pub record_of : DriveConfig → History → List ℕ
record_of config history = record_text config.companion (lines_of (noted config history))

-- lines as a text, each with its line feed
abbrev pub text_in : List RecordLine → List ℕ
text_in [] = []
text_in (line ∷ older) = text_in older ++ (line_text line ++ 10 ∷ [])

abbrev pub text_of : List Note → List ℕ
text_of notes = text_in (lines_of notes)
