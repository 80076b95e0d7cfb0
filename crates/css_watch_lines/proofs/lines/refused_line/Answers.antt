-- Each call puts one member in.
use Rattle.std.proofs.Common.{◌≡◌, ap, ◌∙◌}
use Rattle.serde_json.specs.Data.{string}
use Rattle.css_watch_lines.specs.Lines.{Line, Refused, line_members}
use Rattle.css_watch_lines.specs.Writable.{told_in}
use Rattle.css_watch_lines.proofs.Steps.{as_line, as_read, then, then_by}
use Rattle.css_watch_lines.proofs.lines.refused_line.Goals as goal
use Rattle.css_watch_lines.proofs.lines.refused_line.Goals.{After-drop-digits-2}

-- what the line tells
abbrev told : After-drop-digits-2 → Line
told c = Refused c.args.landing.now c.args.bytes.now c.args.landed

-- its members
members : (c : After-drop-digits-2) → told_in c.in_ok-with_time.field-0 ≡ line_members (told c)
members c =
    then _ _ c.in_ok-with_time.ensures.value
    (then_by _ c.in_ok-with_words-2.ensures.value (ap string c.landing_words.ensures)
    (then_by _ c.in_ok-with_words.ensures.value (ap string (c.as_str.ensures.value ∙ c.in_ok-digits.ensures))
    c.in_ok-of_event.ensures.value))

pub returns-clause-text : goal.returns-clause-text
returns-clause-text c = as_line c.line.result _ (told c) (members c) c.line.ensures.text

pub returns-clause-read_back : goal.returns-clause-read_back
returns-clause-read_back c = as_read c.line.result _ (told c) (members c) c.line.ensures.read_back
