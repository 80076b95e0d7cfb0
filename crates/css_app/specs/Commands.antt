-- What each command of a command line does to its devices.
use Rattle.std.specs.Prelude.{◌≡◌, ◌⊎◌, ℕ, Bool, true, false, not, List, Option, Some, unwrap_or, Result, Ok, Err}
use Rattle.std.specs.Prelude.{String, map, string_bytes}
use Rattle.css_model.specs.History.{Address, History}
use Rattle.css_agree.specs.Agreeing.{agreeing}
use Rattle.css_agree.specs.Naming.{naming}
use Rattle.css_agree.specs.Promise as agree
use Rattle.css_audit.specs.Auditing.{auditing}
use Rattle.css_audit.specs.Promise.{SaysRight}
use Rattle.css_drive.specs.TvDue.{run_of}
use Rattle.css_drive.specs.declared.config.DriveConfig.{DriveConfig}
use Rattle.css_drive.specs.declared.driven.Driven.{Driven}
use Rattle.css_drive.specs.declared.tv_config.TvDrive.{TvDrive}
use Rattle.css_drive_relay.specs.Ran.{RelayRan}
use Rattle.css_drive_relay.specs.declared.config.RelayRun.{RelayRun}
use Rattle.css_follow.specs.Sheets.{sheet_in}
use Rattle.css_follow.specs.declared.sheet.Sheet.{Sheet}
use Rattle.css_migrate.specs.Migrated.{migrated}
use Rattle.css_schedule.specs.declared.line.ScriptLine.{ScriptLine}
use Rattle.css_record.specs.Runs.{Recorded}
use Rattle.css_survey.specs.Generated.{schedule_text}
use Rattle.css_survey.specs.Surveyed.{survey_text}
use Rattle.css_words.specs.Commands.{Asked, Replay, Agree, Audit, Migrate, Companion, Tv, Pair, Relay, Generate}
use Rattle.css_words.specs.Commands.{Survey, Watch, command_in}
use Rattle.css_words.specs.Companion.{CompanionAsked, OptionsAsked}
use Rattle.css_words.specs.Generator.{GeneratorAsked}
use Rattle.css_words.specs.Pair.{PairAsked}
use Rattle.css_words.specs.Relay.{RelayAsked}
use Rattle.css_words.specs.Tv.{TvAsked}
use Rattle.css_watch.specs.declared.config.WatchConfig.{WatchConfig}
use Rattle.css_words.specs.Watch.{WatchAsked}
use Rattle.css_words.specs.declared.fault.WordsFault.{WordsFault}
use Rattle.css_words.specs.declared.fault.WordsFault.TheVariants as words
use Rattle.css_status.specs.declared.status.Status.{Status}
use Rattle.css_status.specs.declared.status.Status.TheVariants as status
use Rattle.css_status.specs.Devices.{SourceUse, SinkUse}
use Rattle.css_status.specs.Ended.{HasNotFailed, IsDoneUnlessMemory, OverLines}
use Rattle.css_replay.specs.Ended.{ByReplay}
use Rattle.css_app.specs.declared.live_pair.Child.{Child}
use Rattle.css_app.specs.Ended.{Writes, agree_refused, audit_refused, line_refused, script_in}
use Rattle.css_app.specs.Live.{AreLeft, ArePairedAsDue, AreUntouched, EndsAtLastUnlessMemory, FollowersUse, HasNoScript}
use Rattle.css_app.specs.Live.{HasNoSheet, IsAsDue, MakesWatch, OutsideUse, PairsByScript, RunsBySheet}
use Rattle.css_app.specs.Live.{Serves, ServesAsDue, SpawnerUse, Uses, address_at, driven_status, unused}

-- what a command line asks for
abbrev pub asked_by : {A : Type 0} → List (String A) → Result Asked WordsFault
asked_by line = command_in (map string_bytes line)

-- ---- refused words
-- the words are those of no command, or memory ran out before that was known
abbrev pub IsUsageUnlessMemory : Status → Type 0
IsUsageUnlessMemory status.Usage = Unit {0}
IsUsageUnlessMemory status.Memory = Unit {0}
IsUsageUnlessMemory _ = ⊥

-- ---- which devices a command uses
-- A companion that records its run reads no sheet, and no one follows it.
abbrev pub uses_source : Result Asked WordsFault → Bool
uses_source (Ok Replay) = true
uses_source (Ok (Agree pairs)) = true
uses_source (Ok Audit) = true
uses_source (Ok Migrate) = true
uses_source (Ok (Companion asked)) = not asked.recorded
uses_source (Ok (Tv asked)) = true
uses_source (Ok (Pair asked)) = true
uses_source _ = false

abbrev pub uses_sink : Result Asked WordsFault → Bool
uses_sink (Ok (Tv asked)) = false
uses_sink (Ok (Relay asked)) = false
uses_sink (Ok _) = true
uses_sink (Err fault) = false

abbrev pub uses_outside : Result Asked WordsFault → Bool
uses_outside (Ok (Companion asked)) = true
uses_outside (Ok (Tv asked)) = true
uses_outside (Ok (Pair asked)) = true
uses_outside (Ok (Relay asked)) = true
uses_outside (Ok (Watch asked)) = true
uses_outside _ = false

abbrev pub uses_spawner : Result Asked WordsFault → Bool
uses_spawner (Ok (Pair asked)) = true
uses_spawner _ = false

abbrev pub uses_followers : Result Asked WordsFault → Bool
uses_followers (Ok (Companion asked)) = not asked.recorded
uses_followers (Ok (Pair asked)) = true
uses_followers _ = false

-- ---- what the options ask for
-- the run is what the options of a companion ask for, and it dials this address
pub record IsAskedRun (asked : OptionsAsked) (cii : Address) (run : DriveConfig) : Type 0 where
  pub selector : run.companion.selector ≡ asked.selector
  pub stem : run.companion.stem ≡ asked.stem
  pub local_error : run.companion.local.error ≡ asked.local_error
  pub local_precision : run.companion.local.precision ≡ asked.local_precision
  pub dials : run.cii ≡ cii
  pub reports : run.reports ≡ asked.reports
  pub limit : run.limit ≡ asked.limit
  pub report_every : run.report_every ≡ asked.report_every
  pub ask_every : run.ask_every ≡ asked.ask_every
  pub present : run.present ≡ asked.present

-- the television's run that the options ask for
abbrev pub asked_drive : TvAsked → TvDrive
asked_drive asked = record {
  tv = record {
    precision = asked.precision;
    error = asked.error;
    follow = asked.follow;
    host = asked.host;
    port = asked.port;
  };
  limit = asked.limit;
  relative = asked.relative;
}

-- the same as a child
abbrev pub asked_child : TvAsked → Child
asked_child asked = record {
  port = asked.port;
  precision = asked.precision;
  error = asked.error;
  follow = asked.follow;
  relative = asked.relative;
}

-- ---- `agree`, `audit` and `migrate`
-- Answers: what is printed of them is what they say together, and it is true in every world that makes them truthful.
pub record ByAgree (source : SourceUse) (sink : SinkUse) (result : Status) : Type 0 where
  pub lines : OverLines agreeing agree_refused source sink result
  pub promise : agree.Promised source.left_old source.left_new sink.holds_old sink.holds_new

-- The same with `--pairs`. Where the answers disagree, one line more names two of them, which aren't both true in any
-- world that keeps the oscillators' errors.
pub record ByPairs (source : SourceUse) (sink : SinkUse) (result : Status) : Type 0 where
  pub lines : OverLines naming agree_refused source sink result
  pub promise : agree.PromisedNamed source.left_old source.left_new sink.holds_old sink.holds_new

-- The record of a companion: where the audit says yes, each report in the record is the one that its companion was to
-- make there, by the lines before it. It is refused at the first line that has a cause, by the first cause of that
-- line.
pub record ByAudit (source : SourceUse) (sink : SinkUse) (result : Status) : Type 0 where
  pub lines : OverLines auditing audit_refused source sink result
  pub right : result ≡ status.Done → SaysRight source.left_old source.left_new

-- A schedule of version 1: what each line of it becomes in version 2 is written. It is refused at the first line that
-- is none of version 1.
abbrev pub ByMigrate : SourceUse → SinkUse → Status → Type 0
ByMigrate = OverLines migrated line_refused

-- ---- `companion`
-- nothing was made, or this became of one that is asked for
abbrev pub OfAsked : {Made : Type 0} → Type 0 → (Made → Type 0) → (Made → Type 0) → Type 0
OfAsked {Made = Made} none is_asked came = none ⊎ ((made : Made) × is_asked made × came made)

-- a run that the options ask for ended as its calls say, unless memory ran out
abbrev pub EndsAsAsked : OptionsAsked → Address → Option History → Option History → Status → Type 0
EndsAsAsked asked cii before now result =
    OfAsked (result ≡ status.Memory) (IsAskedRun asked cii) (λ run. IsAsDue run before now result)

-- Each report is that of what the outside gave before it, each interval contains the position that the last control
-- timestamp received assigns to the television's wall clock, in every world that explains what the outside gave, and
-- the sink gained the line of each report, and what the followers said of it by the plans that the sheet gives them.
pub record ByCompanion (asked : CompanionAsked) (source : SourceUse) (sink : SinkUse) (outside : OutsideUse)
    (followers : FollowersUse) (result : Status) : Type 0 where
  pub ran : OfAsked (AreUntouched sink outside followers × HasNoSheet source.left_old result)
      (IsAskedRun asked.options asked.cii) (λ run. RunsBySheet run source sink outside followers result)
  -- over devices that don't fail, dials aside, a run by a sheet ends as its calls say
  pub complete : (bytes : List ℕ) (sheet : Sheet) → source.left_old ≡ Some bytes → sheet_in bytes ≡ Ok sheet
      → HasNotFailed source.faults_old source.faults_new → HasNotFailed sink.faults_old sink.faults_new
      → HasNotFailed outside.faults_old outside.faults_new
      → EndsAsAsked asked.options asked.cii outside.told_old outside.told_new result

-- A run was made, the sink gained its record, and the status says how it ended.
pub record MakesRecord (config : DriveConfig) (told_old told_new : Option History)
    (holds_old holds_new : Option (List ℕ)) (result : Status) : Type 0 where
  pub ended : Driven
  pub recorded : Recorded config told_old told_new holds_old holds_new ended
  pub tells : result ≡ driven_status ended

-- nothing was asked of the outside, and nothing was written, for want of memory
abbrev pub MakesNone : SinkUse → OutsideUse → Status → Type 0
MakesNone sink outside result =
    (outside.told_new ≡ outside.told_old) × (sink.holds_new ≡ sink.holds_old) × (result ≡ status.Memory)

-- The same with a record: the sink gained what the outside gave, line by line, and the line of each report.
pub record ByRecord (asked : CompanionAsked) (sink : SinkUse) (outside : OutsideUse) (result : Status) : Type 0 where
  pub ran : OfAsked (MakesNone sink outside result) (IsAskedRun asked.options asked.cii)
      (λ run. MakesRecord run outside.told_old outside.told_new sink.holds_old sink.holds_new result)
  -- over devices that don't fail, dials aside, a run ends as its calls say
  pub complete : HasNotFailed sink.faults_old sink.faults_new → HasNotFailed outside.faults_old outside.faults_new
      → EndsAsAsked asked.options asked.cii outside.told_old outside.told_new result

-- ---- `tv`
-- Each call of the outside is the one that is due by the script and by what came.
pub record ByTv (asked : TvAsked) (source : SourceUse) (outside : OutsideUse) (result : Status) : Type 0 where
  pub ran : Serves (asked_drive asked) source outside result
  -- over devices that don't fail a run by a script ends as its calls say
  pub complete : (bytes : List ℕ) (script : List ScriptLine) → source.left_old ≡ Some bytes
      → script_in bytes ≡ Ok script
      → HasNotFailed source.faults_old source.faults_new → HasNotFailed outside.faults_old outside.faults_new
      → ServesAsDue (run_of (asked_drive asked) script) outside.told_old outside.told_new result

-- ---- `pair`
-- The same as of `companion`, with an empty sheet, beside a child that was started once with the bytes of the script,
-- and was waited for once.
pub record ByPair (asked : PairAsked) (source : SourceUse) (sink : SinkUse) (outside : OutsideUse)
    (spawner : SpawnerUse) (followers : FollowersUse) (result : Status) : Type 0 where
  pub ran : OfAsked (AreLeft sink outside spawner followers × HasNoScript source.left_old result)
      (IsAskedRun asked.companion (address_at asked.tv.port))
      (λ run. PairsByScript run (asked_child asked.tv) source sink outside spawner followers result)
  -- over devices that don't fail, dials aside, a run beside a child with a script ends as its calls say
  pub complete : (bytes : List ℕ) (script : List ScriptLine) → source.left_old ≡ Some bytes
      → script_in bytes ≡ Ok script
      → HasNotFailed source.faults_old source.faults_new → HasNotFailed sink.faults_old sink.faults_new
      → HasNotFailed outside.faults_old outside.faults_new → HasNotFailed spawner.faults_old spawner.faults_new
      → OfAsked (result ≡ status.Memory) (IsAskedRun asked.companion (address_at asked.tv.port))
      (λ run. ArePairedAsDue run outside.told_old outside.told_new result)

-- ---- `relay`
-- the run is what the options of a relay ask for
pub record IsAskedRelay (asked : RelayAsked) (run : RelayRun) : Type 0 where
  pub dials : run.cii ≡ asked.cii
  pub host : run.host ≡ asked.host
  pub port : run.port ≡ asked.port
  pub limit : run.limit ≡ asked.limit
  pub ask_every : run.ask_every ≡ asked.ask_every
  pub local_error : run.companion.local.error ≡ asked.local_error
  pub local_precision : run.companion.local.precision ≡ asked.local_precision

-- The calls of the outside are those of visits, one after another, each of which is due by what came in its visit. The
-- status says how the run ended.
pub record ByRelay (asked : RelayAsked) (outside : OutsideUse) (result : Status) : Type 0 where
  pub ran : OfAsked ((outside.told_new ≡ outside.told_old) × (result ≡ status.Memory)) (IsAskedRelay asked)
      (λ run. (ended : Driven) × RelayRan run outside.told_old outside.told_new ended × (result ≡ driven_status ended))
  -- over an outside that doesn't fail, dials aside, a relay ends at its last turn alone, or after 2^40 visits
  pub complete : HasNotFailed outside.faults_old outside.faults_new → EndsAtLastUnlessMemory result

-- ---- `watch`
-- the watch is what the options ask for
pub record IsAskedWatch (asked : WatchAsked) (config : WatchConfig) : Type 0 where
  pub selector : config.companion.selector ≡ asked.selector
  pub stem : config.companion.stem ≡ asked.stem
  pub local_error : config.companion.local.error ≡ asked.local_error
  pub local_precision : config.companion.local.precision ≡ asked.local_precision
  pub dials : config.cii ≡ asked.cii
  pub seconds : config.seconds ≡ asked.seconds
  pub report_every : config.report_every ≡ asked.report_every
  pub ask_every : config.ask_every ≡ asked.ask_every

-- The calls are those of visits, one after another, and the sink gained the lines of what happened in each of them.
pub record ByWatch (asked : WatchAsked) (sink : SinkUse) (outside : OutsideUse) (result : Status) : Type 0 where
  pub ran : OfAsked (MakesNone sink outside result) (IsAskedWatch asked)
      (λ config. MakesWatch config outside.told_old outside.told_new sink.holds_old sink.holds_new result)
  -- over devices that don't fail, dials aside, a watch ends at its last turn alone, or after 2^40 visits
  pub complete : HasNotFailed sink.faults_old sink.faults_new → HasNotFailed outside.faults_old outside.faults_new
      → EndsAtLastUnlessMemory result

-- ---- `generate` and `survey`
-- The sink gained this text, or a front part of it where a write failed or memory ran out.
pub record ByWriting (text : List ℕ) (sink : SinkUse) (result : Status) : Type 0 where
  pub writes : Writes text sink.holds_old sink.holds_new result
  -- over a sink that doesn't fail it is the whole text
  pub complete : HasNotFailed sink.faults_old sink.faults_new → IsDoneUnlessMemory result

-- The text is the schedule that is generated of the seed, of so many lines. Where no companions are told, it has one.
abbrev pub ByGenerate : GeneratorAsked → SinkUse → Status → Type 0
ByGenerate asked sink result =
    ByWriting (schedule_text asked.seed (unwrap_or asked.companions 1) asked.lines) sink result

-- the text is the line that counts the reports which a replay of this schedule prints
abbrev pub BySurvey : GeneratorAsked → SinkUse → Status → Type 0
BySurvey asked sink result =
    ByWriting (survey_text asked.seed (unwrap_or asked.companions 1) asked.lines) sink result

-- ---- all commands
-- what a command does to the devices that it uses, or words that are those of none
abbrev pub Does : Result Asked WordsFault → Uses → Status → Type 0
Does (Ok Replay) used result = ByReplay used.source used.sink result
Does (Ok (Agree false)) used result = ByAgree used.source used.sink result
Does (Ok (Agree true)) used result = ByPairs used.source used.sink result
Does (Ok Audit) used result = ByAudit used.source used.sink result
Does (Ok Migrate) used result = ByMigrate used.source used.sink result
Does (Ok (Companion asked)) used result =
    (asked.recorded ≡ false → ByCompanion asked used.source used.sink used.outside used.followers result)
    × (asked.recorded ≡ true → ByRecord asked used.sink used.outside result)
Does (Ok (Tv asked)) used result = ByTv asked used.source used.outside result
Does (Ok (Pair asked)) used result = ByPair asked used.source used.sink used.outside used.spawner used.followers result
Does (Ok (Relay asked)) used result = ByRelay asked used.outside result
Does (Ok (Watch asked)) used result = ByWatch asked used.sink used.outside result
Does (Ok (Generate asked)) used result = ByGenerate asked used.sink result
Does (Ok (Survey asked)) used result = BySurvey asked used.sink result
Does (Err words.Usage) used result = IsUsageUnlessMemory result
Does (Err words.Memory) used result = (used ≡ unused used) × (result ≡ status.Memory)
