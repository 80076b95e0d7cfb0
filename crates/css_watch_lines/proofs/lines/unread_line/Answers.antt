-- Each call puts one member in.
use Rattle.std.proofs.Common.{◌≡◌, sym, subst, ap}
use Rattle.std.specs.Str.{IsUtf8}
use Rattle.serde_json.specs.Data.{string}
use Rattle.css_watch_lines.specs.Lines.{Line, Unread, line_members}
use Rattle.css_watch_lines.specs.Writable.{told_in}
use Rattle.css_watch_lines.proofs.Spelling.{fault_utf8}
use Rattle.css_watch_lines.proofs.Steps.{as_line, as_read, then, then_by}
use Rattle.css_watch_lines.proofs.lines.unread_line.Goals as goal
use Rattle.css_watch_lines.proofs.lines.unread_line.Goals.{After-drop-fault-inside-2}

-- what the line tells
abbrev told : After-drop-fault-inside-2 → Line
told c = Unread c.args.fault c.args.text.now

-- its members
members : (c : After-drop-fault-inside-2) → told_in c.in_ok-with_words.field-0 ≡ line_members (told c)
members c =
    then _ _ c.in_ok-with_words.ensures.value
    (then_by _ c.in_ok-with_text.ensures.value (ap string c.in_ok-fault.ensures)
    c.in_ok-of_event.ensures.value)

pub returns-clause-text : goal.returns-clause-text
returns-clause-text c = as_line c.line.result _ (told c) (members c) c.line.ensures.text

pub returns-clause-read_back : goal.returns-clause-read_back
returns-clause-read_back c = as_read c.line.result _ (told c) (members c) c.line.ensures.read_back

pub with_text-requires-clause-value : goal.with_text-requires-clause-value
with_text-requires-clause-value c = subst IsUtf8 (sym c.in_ok-fault.ensures) (fault_utf8 c.args.fault)
