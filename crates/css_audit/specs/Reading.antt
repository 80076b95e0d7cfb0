-- How the reader of a record stands for the texts that it has taken.
use Rattle.std.specs.Prelude.{ℕ, ◌≡◌, List, [], ◌∷◌, All, Some, None, Result, Ok, MatchResult}
use Rattle.css_companion.specs.Standing.{own_of}
use Rattle.css_lines.specs.Answers.{MayFault}
use Rattle.css_lines.specs.declared.reader.LineFault.{LineFault}
use Rattle.css_audit.specs.Auditing.{header_meant, lines_in, silent}
use Rattle.css_audit.specs.Inputs.{header_of, line_of}
use Rattle.css_audit.specs.Standing.{Audit, config_of, StandsFor}
use Rattle.css_audit.specs.Verdicts.{Verdict, read_verdict}
use Rattle.css_audit.specs.declared.fault.AuditFault.{AuditFault}
use Rattle.css_audit.specs.declared.input.RecordLine.{RecordLine}
use Rattle.css_audit.specs.declared.reader.Auditing.{Auditing}

-- a text is a line of a record
abbrev pub IsRead : List ℕ → Type 0
IsRead text = (line : RecordLine) × (line_of text ≡ Ok line)

-- The reader stands for these texts: the first is the header, each other one is a line, and its audit stands for them.
abbrev pub Stands : Auditing → List (List ℕ) → Type 0
Stands reader [] = reader.audit ≡ None
Stands reader (first ∷ texts) = (audit : Audit) × (reader.audit ≡ Some audit)
    × (header_of first ≡ Ok (config_of audit.companion))
    × All IsRead texts × StandsFor audit (lines_in texts)

-- a header opens the audit of no lines, and anything else is refused
abbrev pub Opens : List ℕ → Result Audit (LineFault AuditFault) → Type 0
Opens text result = MatchResult result
    (λ audit. (header_of text ≡ Ok (config_of audit.companion)) × StandsFor audit [])
    (MayFault (header_meant (header_of text)))

-- whether a text is right after the lines of an audit
abbrev pub verdict_of : Audit → List RecordLine → List ℕ → Verdict
verdict_of audit older text =
    read_verdict (own_of audit.companion) audit.companion.setup.selector older (line_of text)

-- the text is right, or the fault is what is wrong with it
abbrev pub IsMeant : Audit → List RecordLine → List ℕ → Result (Unit {0}) (LineFault AuditFault) → Type 0
IsMeant audit older text result = MatchResult result
    (λ _. verdict_of audit older text ≡ Ok tt)
    (MayFault (silent (verdict_of audit older text)))
