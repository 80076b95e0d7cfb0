-- The answer is the television's, and is stored.
use Rattle.std.proofs.Common.{◌≡◌, refl, sym, ap, ◌∙◌, true, cond, not, List, ℕ}
use Rattle.std.specs.Prelude.{◌&&◌, Some, None, is_some, Result, Ok, Err}
use Rattle.css_tv.specs.Stages.{Television as Tv}
use Rattle.css_meaning.proofs.Tickets.{takes_count}
use Rattle.css_world.specs.Standing.{Kept, kept, open_ticket}
use Rattle.css_world.proofs.Names.{option_flatten, Give, WorldFault, Absent, tickets, is_given, numbered, stored}
use Rattle.css_world.proofs.Carrying.{at_line}
use Rattle.css_world.proofs.Answering.{given, answered_is, none_answered, not_open, answer_same}
use Rattle.css_world.proofs.Numbers.{stored_none, mapped_none}
use Rattle.css_world.proofs.Verbs.{refuses-absent, wants}
use Rattle.css_world.proofs.Owning.{are_on, are_played, same_lanes, refused_memory}
use Rattle.css_world.proofs.both.Ends.give.Goals as goal

pub returns-in_default-clause-carries : goal.returns-in_default-clause-carries
returns-in_default-clause-carries c = λ who header lines now own is ready may.
    let old : Kept = kept header c.args.self.now in
    refuses-absent _ _ lines now who (Give c.args.take c.args.reading)
    (let nobody : stored old.taken_for c.args.take ≡ None =
    ap (λ (items : List ℕ). stored items c.args.take) (sym c.deref.ensures.value) ∙ sym c.owner.ensures
    ∙ c.in_default.is in
    let missing : stored old.tv.takes.items c.args.take ≡ None =
    stored_none old.taken_for old.tv.takes.items c.args.take
    (ready.ends.taken_for.count ∙ takes_count header lines ∙ sym ready.ends.takes.count) nobody in
    ap (λ o. (is_some o && not (is_given c.args.take lines)) && true)
    (mapped_none (open_ticket lines c.args.take) (numbered c.args.take (tickets header lines))
    (sym (ready.ends.takes.each c.args.take) ∙ missing)))

pub returns-in_default-give-clause-carries : goal.returns-in_default-give-clause-carries
returns-in_default-give-clause-carries c = λ who header lines now own is ready may.
    let old : Kept = kept header c.args.self.now in
    refuses-absent _ _ lines now who (Give c.args.take c.args.reading)
    (let missing = none_answered old.tv.tv.server c.args.reading
    (option_flatten (stored old.tv.takes.items c.args.take)) c.give.result c.give.ensures.answered
    c.in_default-give.is in
    ap (λ b. b && true) (not_open lines c.args.take (numbered c.args.take (tickets header lines))
    (ap option_flatten (sym (ready.ends.takes.each c.args.take)) ∙ missing)))

pub returns-in_err-store_answer-clause-carries : goal.returns-in_err-store_answer-clause-carries
returns-in_err-store_answer-clause-carries c = λ who header lines now own is ready may.
    wants _ _ c.from_residual.result lines now who (Give c.args.take c.args.reading)
    c.from_residual.ensures.1

pub returns-clause-carries : goal.returns-clause-carries
returns-clause-carries c = λ who header lines now own is ready may.
    let old : Kept = kept header c.args.self.now in
    let was = answered_is old.tv.tv.server c.args.reading (option_flatten (stored old.tv.takes.items c.args.take))
    c.give.result c.in-Some-give.answered c.give.ensures.answered c.in-Some-give.is in
    let answer = answer_same old.tv.tv.server header was.0 c.args.reading c.in-Some-give.answered
    ready.are.declares.precision ready.are.declares.error was.2 in
    let whose : stored old.taken_for c.args.take ≡ Some c.in-Some.asker =
    ap (λ (items : List ℕ). stored items c.args.take) (sym c.deref.ensures.value) ∙ sym c.owner.ensures
    ∙ c.in-Some.is in
    let done = given old lines now.number now.line.t now.line.w who now.line.l c.args.take c.args.reading
    c.in-Some.asker was.0 c.in-Some-give.answered c.give.new.self c.store_answer.new.datagrams.items
    c.store_answer.new.owners.items ready.ends was.1 whose c.give.ensures.rest c.give.ensures.takes answer
    c.in_ok-store_answer.ensures.datagrams c.in_ok-store_answer.ensures.owners in
    let ok : Result (Unit {0}) WorldFault = Ok tt in
    record {
      answer = (ap (λ b. cond (b && true) ok (Err Absent)) done.0);
      are = are_played (are_on old lines now who (Give c.args.take c.args.reading) own is may ready.are) refl
          (ap (λ (tv : Tv). tv.server) c.give.ensures.rest, ap (λ (tv : Tv). tv.stage.addresses) c.give.ensures.rest)
          (same_lanes old.lanes);
      ends = at_line _ lines now who (Give c.args.take c.args.reading) own is done.1;
    }

pub returns-in_default-give-clause-refused : goal.returns-in_default-give-clause-refused
returns-in_default-give-clause-refused c = record { tv = c.give.ensures.rest; companions = refl }

pub returns-in_err-store_answer-clause-refused : goal.returns-in_err-store_answer-clause-refused
returns-in_err-store_answer-clause-refused c = refused_memory _ _ c.from_residual.result c.from_residual.ensures.1
