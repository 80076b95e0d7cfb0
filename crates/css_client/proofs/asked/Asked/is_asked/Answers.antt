-- The newest is among them.
use Rattle.std.proofs.Common.{◌∙◌, sym, ap, Some}
use Rattle.css_client.proofs.Rings.{newest_is_among}
use Rattle.css_client.proofs.asked.Asked.is_asked.Goals as goal

pub returns-in-Some : goal.returns-in-Some
returns-in-Some c =
    sym (newest_is_among c.args.request c.args.self.now
    (sym c.newest.ensures ∙ c.in-Some.is ∙ ap Some c.if-newest-request.true))
