use Rattle.css_cii.specs.Texts.{IsUtf8State}
use Rattle.css_texts_tests.proofs.states.texts_change_what_they_say.Given as goal

-- each text leaves a state that can be written
abbrev pub invariant-loop-text : goal.invariant-loop-text
invariant-loop-text g l = IsUtf8State l.state
