-- The grammar of a sheet's lines.
use Rattle.std.specs.Prelude.{ℕ, ◌==◌, if◌then◌else◌, List, Result, Ok, Err, bytes_eq, codes}
use Rattle.css_schedule.specs.declared.fault.LineFault.{LineFault}
use Rattle.css_schedule.specs.declared.fault.LineFault.TheVariants.{Form}
use Rattle.css_schedule.specs.Words.{◌>>=◌, word_at, number_at, integer_at, text_at, all_read, words_of}
use Rattle.css_follow.specs.declared.line.SheetLine.{SheetLine}
use Rattle.css_follow.specs.declared.line.SheetLine.TheVariants.{Announce, Measure}

-- a line, or that there is none of these bytes
abbrev pub Reading : Type 0
Reading = Result SheetLine LineFault

-- `TICK NAME` of `cue`, where TICK is signed and has at most 18 digits
unfoldable pub cue_of : List (List ℕ) → Reading
cue_of words = do
  tick ← integer_at 18 words
  name ← text_at tick.1
  end ← all_read name.1
  Ok (Announce (record { tick = tick.0; name = name.0 }))

-- `COUNT` of `meter`, which is 1 to 1,000,000
unfoldable pub meter_of : List (List ℕ) → Reading
meter_of words = do
  count ← number_at 1000001 words
  end ← all_read count.1
  if count.0 == 0 then Err Form else Ok (Measure count.0)

-- the line with this name and these words after it
unfoldable pub named : List ℕ → List (List ℕ) → Reading
named name words =
    if bytes_eq name (codes "cue") then cue_of words
    else if bytes_eq name (codes "meter") then meter_of words
    else Err Form

-- the line that bytes are, without the line feed, or that they are none
unfoldable pub line_of : List ℕ → Reading
line_of bytes = do
  name ← word_at (words_of bytes)
  named name.0 name.1
