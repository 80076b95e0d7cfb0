use Rattle.css_words.proofs.Refusals.{unknown_usage}
use Rattle.css_words.proofs.laws.unknown_options_are_usage.Goals as goal

pub returns : goal.returns
returns c = unknown_usage
