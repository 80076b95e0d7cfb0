-- What the visits of a watch are to do.
use Rattle.std.specs.Prelude.{◌≡◌, None}
use Rattle.std.specs.Str.{IsUtf8}
use Rattle.css_outside.specs.declared.limit.Limit.TheVariants as limit
use Rattle.css_watch.specs.declared.config.WatchConfig.{WatchConfig}
use Rattle.css_watch.specs.declared.plan.Plan.{Plan}

-- The plan of each visit: the limit of time is the watch's. The run's own reports aren't written, and the last of them
-- would come later than any limit.
pub record IsPlanOf (config : WatchConfig) (plan : Plan) : Type 0 where
  pub companion : plan.run.companion ≡ config.companion
  pub cii : plan.run.cii ≡ config.cii
  pub limit : plan.run.limit ≡ limit.Seconds config.seconds
  pub asks : plan.run.ask_every ≡ config.ask_every
  pub presents : plan.run.present ≡ None
  pub reports : plan.report_every ≡ config.report_every
  pub run_reports : plan.run.reports ≡ 1000000
  pub run_reports_every : plan.run.report_every ≡ 1000000000000

-- both texts of the companion are UTF-8
pub record IsWritable (config : WatchConfig) : Type 0 where
  pub selector : IsUtf8 config.companion.selector
  pub stem : IsUtf8 config.companion.stem
