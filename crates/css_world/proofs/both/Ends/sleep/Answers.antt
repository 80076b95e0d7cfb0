-- The companion stands for its history with the sleep.
use Rattle.std.proofs.Common.{refl, ap}
use Rattle.css_companion.specs.Standing as companions
use Rattle.css_world.specs.Standing.{Kept, kept}
use Rattle.css_world.proofs.Names.{Sleep, history_of}
use Rattle.css_world.proofs.Carrying.{at_line}
use Rattle.css_world.proofs.AtTelevision.{sleeps}
use Rattle.css_world.proofs.Owning.{slept_lane, are_on, are_set}
use Rattle.css_world.proofs.both.Ends.sleep.Goals as goal

pub returns-clause-carries : goal.returns-clause-carries
returns-clause-carries c = λ header lines now own is ready may.
    let old : Kept = kept header c.args.self.now in
    let who = c.args.who in
    let lane = c.lane-lane.result.now in
    let found = c.lane-lane.ensures.value in
    let on = are_on old lines now who Sleep own is may ready.are in
    record {
      answer = refl;
      are = are_set who on found refl refl refl
          (slept_lane who lines now own is (on.lanes who lane found) c.slept.ensures.own
          (ap (λ (x : companions.Companion). x.setup) c.slept.ensures.keeps) c.slept.ensures.floor
          (ap (λ (x : companions.Companion). x.client.after_sleep) c.slept.ensures.value));
      ends = at_line _ lines now who Sleep own is
          (sleeps old lines now.number now.line.t now.line.w who now.line.l lane c.slept.new.self ready.ends
          c.requires.first c.requires.within found
          (c.slept.ensures.stands _ (history_of who header lines) (ready.ends.lanes who lane found).companion));
    }
