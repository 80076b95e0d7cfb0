-- What a yes of the audit says.
use Rattle.std.specs.Prelude.{ℕ, ◌≡◌, List, ◌∷◌, All, Option, Ok}
use Rattle.std.specs.Io.KnownBytes.{Consumes, IsAtEnd}
use Rattle.css_companion.specs.declared.config.CompanionConfig.{CompanionConfig}
use Rattle.css_lines.specs.Lines.{lines_of}
use Rattle.css_audit.specs.Auditing.{lines_in}
use Rattle.css_audit.specs.Inputs.{header_of}
use Rattle.css_audit.specs.Reading.{IsRead, Stands}
use Rattle.css_audit.specs.Verdicts.{AreRight}
use Rattle.css_audit.specs.declared.reader.Auditing.{Auditing}

-- The first line is a header and each other one a line of a record. Each report is the one that a companion with the
-- header's clock and selector is to print there, by the history that the lines before it tell.
pub record IsRightRecord (first : List ℕ) (texts : List (List ℕ)) : Type 0 where
  pub config : CompanionConfig
  pub header : header_of first ≡ Ok config
  pub read : All IsRead texts
  pub right : AreRight config.local config.selector (lines_in texts)

-- The lines for which a reader stands are a right record. A run that reads an input to its end says that its reader
-- stands for all lines of the input.
abbrev pub YesIsRight : Type 0
YesIsRight = (reader : Auditing) (first : List ℕ) (texts : List (List ℕ)) → Stands reader (first ∷ texts)
    → IsRightRecord first texts

-- the first line of these bytes is a header, and the others are a right record with it
pub record IsRightInput (bytes : List ℕ) : Type 0 where
  pub first : List ℕ
  pub texts : List (List ℕ)
  pub are_lines : lines_of bytes ≡ first ∷ texts
  pub is_right : IsRightRecord first texts

-- A run read the source to its end, and its bytes are a right record.
pub record SaysRight (left_old left_new : Option (List ℕ)) : Type 0 where
  pub read : List ℕ
  pub took : Consumes left_old left_new read
  pub at_end : IsAtEnd left_new
  pub right : IsRightInput read
