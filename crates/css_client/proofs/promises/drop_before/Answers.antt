-- At the end all that are left were asked no earlier.
use Rattle.std.proofs.Common.{◌∙◌, sym}
use Rattle.css_client.proofs.Exchanges.{since-all}
use Rattle.css_client.proofs.promises.drop_before.Goals as goal

pub returns : goal.returns
returns c =
    sym (since-all c.args.oldest c.loop-landings.landings.entries
    (c.starts_before.ensures.none c.loop-landings-test.false)) ∙ c.loop-landings.invariant
