use Rattle.css_sessions.proofs.ReadBack.{read_back}
use Rattle.css_sessions.proofs.Telling.{is_kept}
use Rattle.css_sessions.proofs.texts_are_read_back.Goals as goal

pub returns-clause-read : goal.returns-clause-read
returns-clause-read c = read_back

pub returns-clause-current : goal.returns-clause-current
returns-clause-current c = λ peer h lawful. (is_kept h lawful).current peer
