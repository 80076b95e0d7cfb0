use Rattle.css_watch_laws.proofs.Ticks as proved
use Rattle.css_watch_laws.proofs.laws.ticks_keep_the_headline.Goals as goal

pub returns : goal.returns
returns c = proved.ticks_kept
