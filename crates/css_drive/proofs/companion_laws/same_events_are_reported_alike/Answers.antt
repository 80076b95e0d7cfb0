use Rattle.css_drive.proofs.CompanionLaws as laws
use Rattle.css_drive.proofs.companion_laws.same_events_are_reported_alike.Goals as goal

pub returns : goal.returns
returns c = laws.same_events
