use Rattle.css_model.proofs.Examples as examples
use Rattle.css_model.proofs.laws.premises_can_be_met.Goals as goal

pub returns-clause-exact : goal.returns-clause-exact
returns-clause-exact c = examples.one_exchange_holds

pub returns-clause-drifting : goal.returns-clause-drifting
returns-clause-drifting c = examples.follow_up_after_sleep_holds
