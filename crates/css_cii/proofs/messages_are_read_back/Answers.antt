use Rattle.css_cii.proofs.Laws.{message_reads}
use Rattle.css_cii.proofs.messages_are_read_back.Goals as goal

pub returns : goal.returns
returns c = message_reads
