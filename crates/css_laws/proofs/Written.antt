-- A replay of what a run of `migrate` wrote.
use Rattle.std.proofs.Common.{inl, inr, sym, ℕ, List, Option}
use Rattle.css_lines.specs.Meaning.{outcome}
use Rattle.css_status.specs.Ended.{Reads}
use Rattle.css_status.specs.declared.status.Status.TheVariants.{Done}
use Rattle.css_status.proofs.OverLines.{never_done}
use Rattle.css_app.specs.Ended.{line_refused}
use Rattle.css_laws.specs.Raised.{MigratedSchedulesAreReplayedAlike}
use Rattle.css_laws.specs.Writing.{GainsAlike, WrittenIsReplayedAlike}
use Rattle.css_laws.proofs.Names.{migrated}

-- what a migration gained that is done
gains : MigratedSchedulesAreReplayedAlike → (bytes : List ℕ) (left holds_old holds_new : Option (List ℕ))
    → Reads migrated line_refused bytes left holds_old holds_new Done → GainsAlike bytes holds_old holds_new
gains alike bytes left holds_old holds_new (inl all) =
    record { written = (outcome migrated bytes).printed; grew = all.grew; alike = alike bytes all.accepted }
gains alike bytes left holds_old holds_new (inr until) =
    absurd (never_done line_refused (λ line why. tt) until.stop (sym until.told))

-- the law, by that of migrated schedules
pub written_alike : MigratedSchedulesAreReplayedAlike → WrittenIsReplayedAlike
written_alike alike source sink bytes by_migrate e =
    gains alike bytes source.left_new sink.holds_old sink.holds_new (by_migrate.reads bytes e)
