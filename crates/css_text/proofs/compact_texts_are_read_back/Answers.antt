use Rattle.css_text.proofs.Laws.{object_compact}
use Rattle.css_text.proofs.compact_texts_are_read_back.Goals as goal

pub returns : goal.returns
returns c = object_compact
