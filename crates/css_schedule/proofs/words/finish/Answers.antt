use Rattle.std.proofs.Common.{inl}
use Rattle.css_schedule.proofs.Cut.{all_read-words_of}
use Rattle.css_schedule.proofs.words.finish.Goals as goal

pub returns-in-Some : goal.returns-in-Some
returns-in-Some c = inl (rw c.in-Some.is (all_read-words_of c.in-Some.field-0.now))
