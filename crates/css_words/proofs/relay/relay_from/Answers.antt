-- By its steps, with the numbers read together.
use Rattle.std.proofs.Common.{rules}
use Rattle.css_words.proofs.Relays.{grouped}
use Rattle.css_words.proofs.relay.relay_from.Goals as goal

pub returns-in_err-cii-clause-value : goal.returns-in_err-cii-clause-value
returns-in_err-cii-clause-value c words is = rw (grouped words _ is) (search rules)

pub returns-in_err-numbers-clause-value : goal.returns-in_err-numbers-clause-value
returns-in_err-numbers-clause-value c words is = rw (grouped words _ is) (search rules)

pub returns-in_err-check_host-clause-value : goal.returns-in_err-check_host-clause-value
returns-in_err-check_host-clause-value c words is = rw (grouped words _ is) (search rules)

pub returns-clause-value : goal.returns-clause-value
returns-clause-value c words is = rw (grouped words _ is) (search rules)
