-- Each call puts one member in.
use Rattle.std.proofs.Common.{◌≡◌}
use Rattle.css_watch_lines.specs.Lines.{Line, EndedBetween, line_members}
use Rattle.css_watch_lines.specs.Writable.{told_in}
use Rattle.css_watch_lines.proofs.Steps.{as_line, as_read, then}
use Rattle.css_watch_lines.proofs.lines.apart_end_line.Goals as goal
use Rattle.css_watch_lines.proofs.lines.apart_end_line.Goals.{After-line}

-- what the line tells
abbrev told : After-line → Line
told c = EndedBetween c.args.number c.args.why.now c.args.between.now

-- its members
members : (c : After-line) → told_in c.in_ok-with_words.field-0 ≡ line_members (told c)
members c =
    then _ _ c.in_ok-with_words.ensures.value
    (then _ _ c.in_ok-with_number.ensures.value
    (then _ _ c.in_ok-with_between.ensures.value c.in_ok-of_event.ensures.value))

pub returns-clause-text : goal.returns-clause-text
returns-clause-text c = as_line c.line.result _ (told c) (members c) c.line.ensures.text

pub returns-clause-read_back : goal.returns-clause-read_back
returns-clause-read_back c = as_read c.line.result _ (told c) (members c) c.line.ensures.read_back
