use Rattle.std.proofs.Common.{sym, subst}
use Rattle.css_watch_lines.specs.Writable.{AreWritable}
use Rattle.css_watch_lines.proofs.Writable.{put_writable}
use Rattle.css_watch_lines.proofs.members.Members.with_value.Goals as goal

pub returns-clause-writable : goal.returns-clause-writable
returns-clause-writable c =
    subst AreWritable (sym c.in_ok-put.ensures.ok)
    (put_writable c.args.name.now _ _ c.requires.value c.requires.members)
