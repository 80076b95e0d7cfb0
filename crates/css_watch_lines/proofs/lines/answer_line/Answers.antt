-- Each call puts one member in.
use Rattle.std.proofs.Common.{◌≡◌, ap, rules}
use Rattle.std.specs.Int.{w128}
use Rattle.std.proofs.lemmas.Int.{to_z-of_z}
use Rattle.css_watch_lines.specs.Lines.{Line, Answered, line_members, digits, whole}
use Rattle.css_watch_lines.specs.Writable.{told_in}
use Rattle.css_watch_lines.proofs.Steps.{as_line, as_read, then, then_by}
use Rattle.css_watch_lines.proofs.lines.answer_line.Goals as goal
use Rattle.css_watch_lines.proofs.lines.answer_line.Goals.{After-line}

-- what the line tells
abbrev told : After-line → Line
told c = Answered c.args.answer.now c.args.kind c.args.landed c.args.width

-- its members
members : (c : After-line) → told_in c.in_ok-with_digits.field-0 ≡ line_members (told c)
members c =
    then_by _ c.in_ok-with_digits.ensures.value (ap digits (to_z-of_z w128 c.args.width (search rules)))
    (then_by _ c.in_ok-with_small.ensures.value (ap whole c.from.ensures)
    (then _ _ c.in_ok-with_time.ensures.value c.in_ok-answer_members.ensures.value))

pub returns-clause-text : goal.returns-clause-text
returns-clause-text c = as_line c.line.result _ (told c) (members c) c.line.ensures.text

pub returns-clause-read_back : goal.returns-clause-read_back
returns-clause-read_back c = as_read c.line.result _ (told c) (members c) c.line.ensures.read_back
