-- Each call puts one member in.
use Rattle.std.proofs.Common.{◌≡◌, sym, subst}
use Rattle.css_watch_lines.specs.Lines.{Line, StateTold, line_members}
use Rattle.css_watch_lines.specs.Writable.{IsWritable, told_in}
use Rattle.css_watch_lines.proofs.Writable.{state_writable}
use Rattle.css_watch_lines.proofs.Steps.{as_line, as_read, then_by}
use Rattle.css_watch_lines.proofs.lines.state_line.Goals as goal
use Rattle.css_watch_lines.proofs.lines.state_line.Goals.{After-line}

-- what the line tells
abbrev told : After-line → Line
told c = StateTold c.args.state.now

-- its members
members : (c : After-line) → told_in c.in_ok-with_value.field-0 ≡ line_members (told c)
members c =
    then_by _ c.in_ok-with_value.ensures.value (c.in_ok-state.ensures.value)
    c.in_ok-of_event.ensures.value

pub returns-clause-text : goal.returns-clause-text
returns-clause-text c = as_line c.line.result _ (told c) (members c) c.line.ensures.text

pub returns-clause-read_back : goal.returns-clause-read_back
returns-clause-read_back c = as_read c.line.result _ (told c) (members c) c.line.ensures.read_back

pub with_value-requires-clause-value : goal.with_value-requires-clause-value
with_value-requires-clause-value c =
    subst IsWritable (sym c.in_ok-state.ensures.value) (state_writable c.args.state.now c.in_ok-state.ensures.in_range)
