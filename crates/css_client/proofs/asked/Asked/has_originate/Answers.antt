-- No request has an originate value with a second of nanoseconds or more.
use Rattle.std.proofs.Common.{sym}
use Rattle.css_client.proofs.Rings.{found_nowhere}
use Rattle.css_client.proofs.asked.Asked.has_originate.Goals as goal

pub returns-then-originate-ge-SECOND-clause-value : goal.returns-then-originate-ge-SECOND-clause-value
returns-then-originate-ge-SECOND-clause-value c =
    sym (found_nowhere c.args.originate c.args.self.now c.if-originate-ge-SECOND.true)
