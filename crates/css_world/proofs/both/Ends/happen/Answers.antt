-- Nothing happens but at the television.
use Rattle.std.proofs.Common.{refl, ◌∙◌}
use Rattle.css_world.specs.Standing.{Kept, kept}
use Rattle.css_world.proofs.Names.{events_of}
use Rattle.css_world.proofs.Carrying.{at_line}
use Rattle.css_world.proofs.Verbs.{carried-at-tv}
use Rattle.css_world.proofs.AtTelevision.{happens}
use Rattle.css_world.proofs.Owning.{few, are_on, are_played}
use Rattle.css_world.proofs.both.Ends.happen.Goals as goal

pub play-requires-clause-few : goal.play-requires-clause-few
play-requires-clause-few c = few c.requires.ready.2

pub play-requires-clause-addresses : goal.play-requires-clause-addresses
play-requires-clause-addresses c = c.requires.ready.2.are.addresses

pub returns-clause-carries : goal.returns-clause-carries
returns-clause-carries c = λ who verb at header lines now own is ready may.
    let old : Kept = kept header c.args.self.now in
    record {
      answer = carried-at-tv header lines who verb c.args.event at
          ∙ c.in_ok-play.ensures.answer (events_of header lines) ready.ends.stage;
      are = are_played (are_on old lines now who verb own is may ready.are) refl c.play.ensures.tv c.play.ensures.lanes;
      ends = at_line _ lines now who verb own is
          (happens old lines now.number now.line.t now.line.w who now.line.l verb c.args.event c.play.new.tv
          c.play.new.lanes.list.items at ready.ends c.in_ok-play.ensures.played c.play.ensures.tv.0
          c.play.ensures.lanes);
    }
