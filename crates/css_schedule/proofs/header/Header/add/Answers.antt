use Rattle.css_schedule.proofs.Adding.{added_companion}
use Rattle.css_schedule.proofs.header.Header.add.Goals as goal

pub returns-clause-range : goal.returns-clause-range
returns-clause-range c =
    added_companion c.push.result c.args.self.now c.args.companion c.push.new.self c.push.ensures.added
