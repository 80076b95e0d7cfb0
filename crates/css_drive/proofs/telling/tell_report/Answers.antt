use Rattle.std.proofs.Common.{refl, [], inr}
use Rattle.std.proofs.KnownBytes.{Appends-nil}
use Rattle.css_drive.proofs.telling.tell_report.Goals as goal

pub returns-in_default-clause-written : goal.returns-in_default-clause-written
returns-in_default-clause-written g c = record {
  words = [];
  grew = record { front = []; of = (_, refl); grew = Appends-nil (g.K.Sink.holds c.args.sink.now) };
  heard = inr (0, record { heard = refl; said = refl }, refl);
}

pub returns-in_default-tell-clause-written : goal.returns-in_default-tell-clause-written
returns-in_default-tell-clause-written g c =
    let first = c.in_default-tell.ensures in
    record {
      words = first.said;
      grew = record { front = []; of = (_, refl); grew = Appends-nil (g.K.Sink.holds c.args.sink.now) };
      heard = inr (first.count, first.each, first.rest);
    }
