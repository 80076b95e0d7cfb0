-- The ring has the requests in two parts.
use Rattle.css_client.proofs.Rings.{found_in_front, found_in_back}
use Rattle.css_client.proofs.asked.Asked.contains.Goals as goal

pub returns-then-contains : goal.returns-then-contains
returns-then-contains c =
    found_in_front c.args.request _ _ c.self.inside.ring.items c.args.self.now c.contains.result
    c.as_slices.ensures c.self.view_is
    c.contains.ensures.value c.if-contains.true

pub returns-else-contains : goal.returns-else-contains
returns-else-contains c =
    found_in_back c.args.request _ _ c.self.inside.ring.items c.args.self.now c.contains.result _
    c.as_slices.ensures c.self.view_is
    c.contains.ensures.value c.if-contains.false c.contains-else-contains.ensures.value
