use Rattle.std.proofs.Common.{◌+◌, length, refl, rules}
use Rattle.css_meaning.specs.Verdicts.{line_meant}
use Rattle.css_replay.specs.Replayed.{reached}
use Rattle.css_replay.proofs.Texts.{answered, on_carried, whole, reached-push, well}
use Rattle.css_replay.proofs.reader.ReplayLines.line.Goals as goal

-- the header isn't whole
pub open-requires-clause-well : goal.open-requires-clause-well
open-requires-clause-well c =
    let before = c.requires.0 in
    (length before + 1, reached before, c.requires.1, well before)

pub returns-in-Ok-clause-stands : goal.returns-in-Ok-clause-stands
returns-in-Ok-clause-stands c = λ before stands is.
    let opens = c.in-Ok.ensures (reached before) stands (length before + 1) in
    rw (reached-push before c.args.text.now) opens.1

pub returns-in-Err-clause-answers : goal.returns-in-Err-clause-answers
returns-in-Err-clause-answers c = λ before stands is.
    let reads = c.in-Err.ensures (reached before) stands (length before + 1) in
    record { cases = (rw c.unread.ensures reads, refl) }

-- it is
pub read_line-requires : goal.read_line-requires
read_line-requires c = (whole c.requires.0 (rw c.in-Some.is at c.requires.1)).known

pub line-requires-clause-stands : goal.line-requires-clause-stands
line-requires-clause-stands c =
    let runs = rw c.in-Some.is at c.requires.1 in
    (runs.lines, runs.stands, rw c.requires.2 (whole c.requires.0 runs).next)

pub returns-in-Ok-read_line-clause-answers : goal.returns-in-Ok-read_line-clause-answers
returns-in-Ok-read_line-clause-answers c = λ before stands is.
    let runs = rw c.in-Some.is at stands in
    let left = rw is at (c.line.ensures.answers runs.lines runs.stands) in
    rw (c.told.ensures, runs.is, ← runs.count, c.in-Ok-read_line.ensures.value)
    (answered (line_meant c.in-Some.world.header runs.lines _) _ _ c.line.result left)

pub returns-in-Ok-read_line-clause-stands : goal.returns-in-Ok-read_line-clause-stands
returns-in-Ok-read_line-clause-stands c =
    rw c.told.ensures
    (on_carried c.line.result (λ done before stands number.
    let runs = rw c.in-Some.is at stands in
    let went = c.line.ensures.stands runs.lines runs.stands (rw number (whole before runs).next) in
    let stood = rw (done, number) at went in
    let header = c.line.ensures.header in
    let reads = c.in-Ok-read_line.ensures.value in
    rw (reached-push before c.args.text.now, runs.is, ← runs.count, reads) (search rules)))
