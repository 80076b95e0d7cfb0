-- Each call puts one member in.
use Rattle.std.proofs.Common.{◌≡◌, ap, w32, rules}
use Rattle.std.proofs.lemmas.Int.{to_z-of_z}
use Rattle.css_watch_lines.specs.Lines.{Line, Known, line_members, signed}
use Rattle.css_watch_lines.specs.Writable.{told_in}
use Rattle.css_watch_lines.proofs.Steps.{as_line, as_read, then, then_by}
use Rattle.css_watch_lines.proofs.lines.known_line.Goals as goal
use Rattle.css_watch_lines.proofs.lines.known_line.Goals.{After-line}

-- what the line tells
abbrev told : After-line → Line
told c = Known c.args.number c.args.reading c.args.known.now

-- its members
members : (c : After-line) → told_in c.in_ok-with_span-2.field-0 ≡ line_members (told c)
members c =
    then _ _ c.in_ok-with_span-2.ensures.value
    (then _ _ c.in_ok-with_ticks.ensures.value
    (then_by _ c.in_ok-with_speed.ensures.value (ap signed (to_z-of_z w32 c.args.known.now.speed (search rules)))
    (then _ _ c.in_ok-with_rate.ensures.value
    (then _ _ c.in_ok-with_small.ensures.value
    (then _ _ c.in_ok-with_span.ensures.value c.in_ok-report_members.ensures.value)))))

pub returns-clause-text : goal.returns-clause-text
returns-clause-text c = as_line c.line.result _ (told c) (members c) c.line.ensures.text

pub returns-clause-read_back : goal.returns-clause-read_back
returns-clause-read_back c = as_read c.line.result _ (told c) (members c) c.line.ensures.read_back
