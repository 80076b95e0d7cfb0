-- What is promised of the texts of generated lines: each is read as its line.
use Rattle.std.specs.Prelude.{ℕ, ◌+◌, ◌≤◌, ◌≡◌, [], Ok}
use Rattle.css_schedule.specs.declared.header.Header.{Header}
use Rattle.css_schedule.specs.declared.header.Start.TheVariants.{One, Two}
use Rattle.css_schedule.specs.Headers.{header_of, companion_of}
use Rattle.css_schedule.specs.Lines.{line_of, line_in}
use Rattle.css_gen.specs.Opening.{header, companion}
use Rattle.css_gen.specs.Generated.{line_numbered, text_numbered}
use Rattle.css_gen.specs.Second.{second_line, second_text}
use Rattle.css_gen.specs.Standing.{AreSome}

-- what is written of a line is read as that line
pub record AreRead (seed : ℕ) : Type 0 where
  pub first : header_of (text_numbered seed 1) ≡ Ok (One header)
  pub others : (number : ℕ) → 2 ≤ number → number ≤ 200000
      → line_of (text_numbered seed number) ≡ Ok (line_numbered seed number)

-- so it is of each seed
abbrev pub GeneratedLinesAreRead : Type 0
GeneratedLinesAreRead = (seed : ℕ) → AreRead seed

-- the header that line 1 of version 2 has; the companions follow it
abbrev pub bare_header : Header
bare_header = record header { companions = [] }

-- the same of the lines of several companions
pub record SecondAreRead (seed companions : ℕ) : Type 0 where
  pub first : header_of (second_text seed companions 1) ≡ Ok (Two bare_header companions)
  pub each : (who : ℕ) → 1 ≤ who → who ≤ companions
      → companion_of who (second_text seed companions (who + 1)) ≡ Ok companion
  pub others : (number : ℕ) → companions + 2 ≤ number → number ≤ 200000
      → line_in 2 companions (second_text seed companions number) ≡ Ok (second_line seed companions number)

-- so it is of each seed and up to 16 companions
abbrev pub SecondLinesAreRead : Type 0
SecondLinesAreRead = (seed companions : ℕ) → AreSome companions → SecondAreRead seed companions
