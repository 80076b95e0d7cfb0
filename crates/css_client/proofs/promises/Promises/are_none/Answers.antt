use Rattle.std.proofs.Common.{◌∙◌, sym}
use Rattle.css_client.proofs.Exchanges.{none_seen}
use Rattle.css_client.proofs.promises.Promises.are_none.Goals as goal

pub returns : goal.returns
returns c = λ none. sym c.self.view_is ∙ none_seen c.self.inside.landings.entries (c.is_empty.ensures.0 none)
