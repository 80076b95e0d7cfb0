use Rattle.css_drive.proofs.CompanionEnds as reports
use Rattle.css_drive.proofs.telling.TellingObserves.reported.Goals as goal

pub returns : goal.returns
returns g c from known started notes on s =
    let wrote = c.tell_report-self.ensures in
    let clocked = c.args._clocked.now in (
      s.0,
      s.1,
      reports.tells_reported _ _ _ _ _ _ _ _ _ _ from clocked notes on s.2 wrote.written wrote.counted,
    )
