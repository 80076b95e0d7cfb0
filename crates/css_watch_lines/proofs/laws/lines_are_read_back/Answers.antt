use Rattle.css_watch_lines.proofs.ReadBack.{line_reads}
use Rattle.css_watch_lines.proofs.laws.lines_are_read_back.Goals as goal

pub returns : goal.returns
returns c = line_reads
