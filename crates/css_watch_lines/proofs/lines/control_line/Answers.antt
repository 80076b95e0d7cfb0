-- Each call puts one member in.
use Rattle.std.proofs.Common.{◌≡◌}
use Rattle.css_watch_lines.specs.Lines.{Line, ControlTold, line_members}
use Rattle.css_watch_lines.specs.Writable.{told_in}
use Rattle.css_watch_lines.proofs.Steps.{as_line, as_read, then_by}
use Rattle.css_watch_lines.proofs.lines.control_line.Goals as goal
use Rattle.css_watch_lines.proofs.lines.control_line.Goals.{After-line}

-- what the line tells
abbrev told : After-line → Line
told c = ControlTold c.args.control.now

-- its members
members : (c : After-line) → told_in c.in_ok-with_value.field-0 ≡ line_members (told c)
members c =
    then_by _ c.in_ok-with_value.ensures.value (c.in_ok-control.ensures)
    c.in_ok-of_event.ensures.value

pub returns-clause-text : goal.returns-clause-text
returns-clause-text c = as_line c.line.result _ (told c) (members c) c.line.ensures.text

pub returns-clause-read_back : goal.returns-clause-read_back
returns-clause-read_back c = as_read c.line.result _ (told c) (members c) c.line.ensures.read_back
