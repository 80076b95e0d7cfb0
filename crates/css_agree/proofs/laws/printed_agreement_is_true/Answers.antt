use Rattle.css_agree.proofs.Promise.{agreed_at}
use Rattle.css_agree.proofs.laws.printed_agreement_is_true.Goals as goal

pub returns : goal.returns
returns c = agreed_at
