-- A run that read a record to its end says that each report of it is right.
use Rattle.std.proofs.Common.{◌≡◌, ap, refl, List, [], ◌∷◌, ◌++◌}
use Rattle.std.specs.Prelude.{ℕ, Option}
use Rattle.css_lines.specs.Ending.{Finishes}
use Rattle.css_lines.specs.Lines.{lines_of, whole_lines, last_part, unless_empty}
use Rattle.css_lines.specs.Meaning.{Outcome, accepted, end_outcome, followed_by, outcome, outcome_from}
use Rattle.css_audit.specs.Auditing.{auditing}
use Rattle.css_audit.specs.Promise.{IsRightInput, IsRightRecord, SaysRight}
use Rattle.css_audit.specs.Reading.{Stands}
use Rattle.css_audit.specs.Standing.{config_of}
use Rattle.css_audit.specs.declared.fault.AuditFault.{AuditFault}
use Rattle.css_audit.specs.declared.reader.Auditing.{Auditing}

-- the lines for which a reader stands are a right record
pub right_record : (reader : Auditing) (first : List ℕ) (texts : List (List ℕ)) → Stands reader (first ∷ texts)
    → IsRightRecord first texts
right_record reader first texts stands = record {
  config = config_of stands.0.companion;
  header = stands.2;
  read = stands.3;
  right = stands.4.right;
}

-- an input without a line isn't accepted
none_accepted : (whole : List (List ℕ)) (last printed : List ℕ) → whole ++ unless_empty last ≡ []
    → followed_by (outcome_from auditing [] whole) (end_outcome auditing whole last) ≡ accepted printed → ⊥
none_accepted [] [] printed none all = absurd (let wrong = ap (λ (o : Outcome AuditFault). o.verdict) all in cc)
none_accepted [] (byte ∷ bytes) printed none all = absurd (cc)
none_accepted (line ∷ lines) last printed none all = absurd (cc)

refused_empty : (bytes printed : List ℕ) → lines_of bytes ≡ [] → outcome auditing bytes ≡ accepted printed → ⊥
unfolding outcome
refused_empty bytes printed none all = none_accepted (whole_lines bytes) (last_part bytes) printed none all

right_input : (bytes printed : List ℕ) (reader : Auditing) (lines : List (List ℕ)) → lines_of bytes ≡ lines
    → outcome auditing bytes ≡ accepted printed → Stands reader lines → IsRightInput bytes
right_input bytes printed reader [] are all stands = absurd (refused_empty bytes printed are all)
right_input bytes printed reader (first ∷ texts) are all stands = record {
  first = first;
  texts = texts;
  are_lines = are;
  is_right = right_record reader first texts stands;
}

-- a run that read all
pub says_right : (left_old left_new holds_old holds_new : Option (List ℕ)) (reader : Auditing)
    → Finishes auditing Stands left_old left_new holds_old holds_new reader → SaysRight left_old left_new
says_right left_old left_new holds_old holds_new reader f = record {
  read = f.read;
  took = f.took;
  at_end = f.at_end;
  right = right_input f.read f.printed reader (lines_of f.read) refl f.all f.stood;
}
