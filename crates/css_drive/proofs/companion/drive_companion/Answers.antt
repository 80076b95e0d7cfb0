use Rattle.std.proofs.Common.{refl, []}
use Rattle.css_drive.specs.Proper.{Empty}
use Rattle.std.proofs.KnownBytes.{Appends-nil}
use Rattle.css_drive.proofs.CompanionEnds as ends
use Rattle.css_drive.proofs.companion.drive_companion.Goals as goal

pub returns-in-Err-clause-ran : goal.returns-in-Err-clause-ran
returns-in-Err-clause-ran g c = record {
  history = [];
  told = ends.no_entries (g.O.Outside.told c.args.outside.now);
  proper = Empty;
  ends = tt;
  promised = tt;
  said = [];
  bytes = [];
  grew = Appends-nil (g.K.Sink.holds c.args.sink.now);
  wrote = record { within = ([], refl); earlier = ([], refl) };
  listened = record {
    between = g.F.Listens.heard c.args.followers.now;
    earlier = record { heard = refl; words = refl };
    newest = refl;
  };
}
