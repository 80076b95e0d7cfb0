use Rattle.std.proofs.Common.{◌∙◌, ap}
use Rattle.std.proofs.lemmas.Result.{IfOk-weaker}
use Rattle.css_tsmsg.specs.Controls.{control_of}
use Rattle.css_tsmsg.proofs.ReadBack.{control_reads}
use Rattle.css_tsmsg.proofs.writing.write_control.Goals as goal

pub returns-clause-read_back : goal.returns-clause-read_back
returns-clause-read_back c = IfOk-weaker c.of.result _ _ (λ text is.
    ap control_of (is ∙ c.as_bytes.ensures.value ∙ c.in_ok-words.ensures)
    ∙ control_reads c.args.control.now c.requires) c.of.ensures
