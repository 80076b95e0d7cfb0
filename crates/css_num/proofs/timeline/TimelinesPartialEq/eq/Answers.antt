use Rattle.std.proofs.Common.{rules}
use Rattle.std.proofs.lemmas.Slice.Eq.{slice_eq-Decides}
use Rattle.css_num.proofs.Equality.{timeline_eq-Decides}
use Rattle.css_num.proofs.timeline.TimelinesPartialEq.eq.Goals as goal

pub returns-clause-exact : goal.returns-clause-exact
returns-clause-exact c =
    let same =
    slice_eq-Decides timeline_eq-Decides c.self.inside.list.items c.other.inside.list.items c.eq.result
    c.eq.ensures in
    search (rules, same)
