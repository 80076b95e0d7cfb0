-- What is made of a record's lines.
use Rattle.std.specs.Prelude.{ℕ, ◌++◌, List, [], ◌∷◌, Result, Ok, Err, codes, decimal}
use Rattle.css_companion.specs.declared.config.CompanionConfig.{CompanionConfig}
use Rattle.css_lines.specs.Meaning.{Meaning}
use Rattle.css_lines.specs.declared.reader.LineFault as engine
use Rattle.css_lines.specs.declared.reader.LineFault.TheVariants as engines
use Rattle.css_schedule.specs.declared.fault.LineFault.{LineFault}
use Rattle.css_audit.specs.Entries.{reports_in}
use Rattle.css_audit.specs.Inputs.{header_of, line_of}
use Rattle.css_audit.specs.Verdicts.{Verdict, read_verdict, with_line}
use Rattle.css_audit.specs.declared.fault.AuditFault.{AuditFault}
use Rattle.css_audit.specs.declared.fault.AuditFault.TheVariants as fault
use Rattle.css_audit.specs.declared.input.RecordLine.{RecordLine}

-- lines, the newest first, with those of texts
abbrev pub lines_after : List RecordLine → List (List ℕ) → List RecordLine
lines_after older [] = older
lines_after older (text ∷ texts) = lines_after (with_line older (line_of text)) texts

-- the lines of the texts after the header; the newest stands first
abbrev pub lines_in : List (List ℕ) → List RecordLine
lines_in texts = lines_after [] texts

-- nothing is printed for a line
abbrev pub silent : Verdict → Result (List ℕ) AuditFault
silent (Ok done) = Ok []
silent (Err wrong) = Err wrong

-- a line is right where the header was read and it is right after the lines before it
abbrev pub meant_after : Result CompanionConfig LineFault → List RecordLine → Result RecordLine LineFault
    → Result (List ℕ) AuditFault
meant_after (Ok config) older line = silent (read_verdict config.local config.selector older line)
meant_after (Err unread) older line = Err fault.Form

-- nothing is printed for a header
abbrev pub header_meant : Result CompanionConfig LineFault → Result (List ℕ) AuditFault
header_meant (Ok config) = Ok []
header_meant (Err unread) = Err fault.Form

-- the first line is the header
abbrev pub text_meant : List (List ℕ) → List ℕ → Result (List ℕ) AuditFault
text_meant [] text = header_meant (header_of text)
text_meant (first ∷ texts) text = meant_after (header_of first) (lines_in texts) (line_of text)

-- `reports K`
abbrev pub count_line : ℕ → List ℕ
count_line reports = codes "reports " ++ decimal reports ++ codes "\n"

-- at the end the number of reports is printed; an input without a header is refused
abbrev pub finish_meant : List (List ℕ) → Result (List ℕ) AuditFault
finish_meant [] = Err fault.Form
finish_meant (first ∷ texts) = Ok (count_line (reports_in (lines_in texts)))

-- what is made of a record: each line has at most 16,777,216 bytes, and all have at most 268,435,456
abbrev pub auditing : Meaning AuditFault
auditing = record {
  longest_line = λ before. 16777216;
  longest_input = λ before. 268435456;
  line = text_meant;
  finish = finish_meant;
}

-- what the engine is told of a fault
abbrev pub engine_fault : AuditFault → engine.LineFault AuditFault
engine_fault fault.Memory = engines.Memory
engine_fault fault.Form = engines.Refused fault.Form
engine_fault (fault.Broken earlier excess) = engines.Refused (fault.Broken earlier excess)
engine_fault fault.Absent = engines.Refused fault.Absent
engine_fault (fault.BadCii number reason) = engines.Refused (fault.BadCii number reason)
engine_fault (fault.Moved property old new) = engines.Refused (fault.Moved property old new)
engine_fault (fault.WrongReport right) = engines.Refused (fault.WrongReport right)
