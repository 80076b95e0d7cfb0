-- What is kept of the answers of lines, so that two of them can be named.
use Rattle.std.specs.Prelude.{ℕ, ◌≡◌, ◌==◌, ◌⊎◌, if◌then◌else◌, List, [], ◌∷◌, Ok, All, Contains}
use Rattle.css_model.specs.WallClock.{Local}
use Rattle.css_agree.specs.declared.named.End.{End}
use Rattle.css_agree.specs.declared.named.End.TheVariants.{Low, High}
use Rattle.css_agree.specs.declared.named.Named.{Named}
use Rattle.css_agree.specs.declared.naming.Names.{Names as KeptNames}
use Rattle.css_agree.specs.declared.naming.Naming.{Naming}
use Rattle.css_agree.specs.Agreeing.{lines_in}
use Rattle.css_agree.specs.Inputs.{local_of}
use Rattle.css_agree.specs.Named.{Leads, chosen}
use Rattle.css_agree.specs.Naming.{named_in}
use Rattle.css_agree.specs.Reading.{Stands}

-- what is kept with one more: of those of its declared error the one with the better end
abbrev pub kept_with : End → Local → ℕ → Named → List Named → List Named
kept_with end own reading named [] = named ∷ []
kept_with end own reading named (kept ∷ others) =
    if kept.answer.error == named.answer.error
    then chosen end own reading kept named ∷ others
    else kept ∷ kept_with end own reading named others

-- at every reading it leads the other, as both declare one error
pub record AlwaysLeads (end : End) (own : Local) (other one : Named) : Type 0 where
  pub same : one.answer.error ≡ other.answer.error
  pub leads : (reading : ℕ) → Leads end own reading one other

-- so it is of one of the kept
abbrev pub IsLed : End → Local → List Named → Named → Type 0
IsLed end own [] named = ⊥
IsLed end own (kept ∷ others) named = AlwaysLeads end own named kept ⊎ IsLed end own others named

-- what is kept of the answers of lines, for one end
pub record Names (end : End) (own : Local) (kept added : List Named) : Type 0 where
  pub from : All (Contains added) kept
  pub led : All (IsLed end own kept) added

-- what is kept of answers with their lines' numbers, for both ends
pub record KeepsNames (own : Local) (names : KeptNames) (named : List Named) : Type 0 where
  pub lows : Names Low own names.lows.items named
  pub highs : Names High own names.highs.items named

-- the names that are kept stand for these texts, the first of which is the header
abbrev pub NamesStand : KeptNames → List (List ℕ) → Type 0
NamesStand names [] = (own : Local) → KeepsNames own names []
NamesStand names (first ∷ texts) =
    (own : Local) → local_of first ≡ Ok own → KeepsNames own names (named_in own (lines_in texts))

-- the reader stands for these texts
abbrev pub StandsNamed : Naming → List (List ℕ) → Type 0
StandsNamed reader before = Stands reader.agreeing before × NamesStand reader.names before
