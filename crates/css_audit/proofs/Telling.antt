-- What a line tells the companion of an audit.
use Rattle.std.proofs.Common.{◌≡◌, inl, refl, List, [], ◌∷◌}
use Rattle.std.specs.Prelude.{Some}
use Rattle.css_model.specs.declared.Kind.TheVariants as kind
use Rattle.css_model.specs.History.{Entry, Heard, Closed}
use Rattle.css_companion.specs.Meanings.{kind_of}
use Rattle.css_companion.specs.Standing as companions
use Rattle.css_companion.specs.Steps.{IsEntryOf}
use Rattle.css_companion.specs.declared.event.CompanionEvent.{CompanionEvent}
use Rattle.css_companion.specs.declared.event.CompanionEvent.TheVariants as event
use Rattle.css_audit.specs.Entries.{history_in, cii_peer, ts_peer}
use Rattle.css_audit.specs.Standing.{IsRecorded, line_of_event}
use Rattle.css_audit.specs.declared.input.RecordLine.{RecordLine}
use Rattle.css_audit.specs.declared.input.RecordLine.TheVariants as lines

-- both sessions of a record are open
are-open : (older : List RecordLine)
    → (kind_of cii_peer (history_in older) ≡ Some kind.Cii) × (kind_of ts_peer (history_in older) ≡ Some kind.Ts)
are-open [] = (refl, refl)
are-open (lines.Slept ∷ older) = are-open older
are-open (lines.Turn reading ∷ older) = are-open older
are-open (lines.Ask reading ∷ older) = are-open older
are-open (lines.Land reading bytes ∷ older) = are-open older
are-open (lines.Cii bytes ∷ older) = are-open older
are-open (lines.Ts bytes ∷ older) = are-open older
are-open (lines.ClosedCii ∷ older) = are-open older
are-open (lines.ClosedTs ∷ older) = are-open older
are-open (lines.Report words ∷ older) = are-open older

-- the companion stands for the line of an event, if it stands for the entry of the event
pub tells : (new : companions.Companion) (older : List RecordLine) (told : CompanionEvent) → IsRecorded told
    → ((entry : Entry) → IsEntryOf told entry (history_in older)
    → companions.StandsFor new (entry ∷ history_in older))
    → companions.StandsFor new (history_in (line_of_event told ∷ older))
tells new older (event.CiiText bytes) is go = go (Heard cii_peer bytes) (cii_peer, refl, (are-open older).0)
tells new older event.CiiClosed is go = go (Closed cii_peer) (cii_peer, inl refl, (are-open older).0)
tells new older event.TsOpened is go = absurd is
tells new older (event.TsText bytes) is go = go (Heard ts_peer bytes) (ts_peer, refl, (are-open older).1)
tells new older event.TsClosed is go = go (Closed ts_peer) (ts_peer, inl refl, (are-open older).1)
tells new older (event.Present earliest latest) is go = absurd is
