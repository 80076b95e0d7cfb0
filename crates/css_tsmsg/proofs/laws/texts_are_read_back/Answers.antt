use Rattle.css_tsmsg.proofs.ReadBack.{control_reads, setup_reads, presentation_reads}
use Rattle.css_tsmsg.proofs.laws.texts_are_read_back.Goals as goal

pub returns-clause-controls : goal.returns-clause-controls
returns-clause-controls c = control_reads

pub returns-clause-setups : goal.returns-clause-setups
returns-clause-setups c = setup_reads

pub returns-clause-presentations : goal.returns-clause-presentations
returns-clause-presentations c = presentation_reads
