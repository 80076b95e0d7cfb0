-- The survey stands for one line more.
use Rattle.std.proofs.Common.{arith, ap, refl, sym}
use Rattle.css_survey.specs.declared.summary.Summary.{Summary}
use Rattle.css_survey.proofs.Names.{Numbered}
use Rattle.css_survey.proofs.Surveying.{few_counted, takes}
use Rattle.css_survey.proofs.surveyor.Surveyor.take.Goals as goal

pub carry_out-requires : goal.carry_out-requires
carry_out-requires c = (c.requires.0, c.requires.1.world, c.requires.3)

pub count-requires-clause-prints : goal.count-requires-clause-prints
count-requires-clause-prints c =
    let few = (few_counted c.args.self.now.world.header c.requires.0).prints in
    let is = ap (λ (s : Summary). s.prints) c.requires.1.summary in
    omega (arith, few, is, c.requires.2)

pub count-requires-clause-intervals : goal.count-requires-clause-intervals
count-requires-clause-intervals c =
    let few = (few_counted c.args.self.now.world.header c.requires.0).intervals in
    let is = ap (λ (s : Summary). s.intervals) c.requires.1.summary in
    omega (arith, few, is, c.requires.2)

pub returns-clause-stands : goal.returns-clause-stands
returns-clause-stands c = λ older stands next.
    let now : Numbered = record { number = c.args.number; line = c.args.line } in
    let stood = c.in_ok-carry_out.ensures.stands older stands.world next in
    takes c.args.self.now c.count.new.self c.carry_out.new.world older now stands c.count.ensures.world stood
    c.in_ok-carry_out.ensures.header (c.count.ensures.summary now older stood (sym c.asked_at-asked.ensures) refl)
