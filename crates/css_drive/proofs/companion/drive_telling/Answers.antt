use Rattle.std.proofs.Common.{refl}
use Rattle.css_drive.proofs.CompanionEnds as reports
use Rattle.css_drive.proofs.companion.drive_telling.Goals as goal

pub drive-requires-clause-begun : goal.drive-requires-clause-begun
drive-requires-clause-begun g c = (refl, refl, reports.tells_nothing _ _ _ c.requires.on)

pub returns-clause-sink_name : goal.returns-clause-sink_name
returns-clause-sink_name g c = c.drive.ensures.made.saw_so.0

pub returns-clause-followers_name : goal.returns-clause-followers_name
returns-clause-followers_name g c = c.drive.ensures.made.saw_so.1

pub returns-clause-ran : goal.returns-clause-ran
returns-clause-ran g c =
    let made = c.drive.ensures.made in
    reports.ran_by c.args.config.now _ _ _ _ _ _ _ _ _ made made.saw_so.2

pub returns-clause-write_faults : goal.returns-clause-write_faults
returns-clause-write_faults g c =
    let made = c.drive.ensures.made in
    reports.writes_by _ _ _ _ made.so made.saw_so.2.1
