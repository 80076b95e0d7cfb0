use Rattle.css_lines.proofs.Cut.{no_feed, cut_at}
use Rattle.css_lines.proofs.running.split_line.Goals as goal

pub returns-in-None : goal.returns-in-None
returns-in-None c = no_feed c.args.bytes.now (rw (c.in-None.is) at c.memchr.ensures)

pub returns-in-Some : goal.returns-in-Some
returns-in-Some c = cut_at c.args.bytes.now c.in-Some.feed c.in-Some.ensures.0 c.in-Some.ensures.1
