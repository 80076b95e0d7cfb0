-- What there is to see of a live command's devices, before it and after it, and how each of these commands ends.
use Rattle.std.specs.Prelude.{◌≡◌, ◌⊎◌, ℕ, ◌+◌, ◌<◌, ℤ, pos, Bool, true, false, if◌then◌else◌, ⊤, codes}
use Rattle.std.specs.Prelude.{List, [], ◌∷◌, ◌++◌, length, Option, Some, None, Result, Ok, Err, MatchResult}
use Rattle.std.specs.Fmt.{signed_decimal}
use Rattle.std.specs.Ordering.{int_eq}
use Rattle.std.specs.Option.{option_map}
use Rattle.std.specs.Io.KnownBytes.{Consumes, IsAtEnd}
use Rattle.css_model.specs.History.{Address, History}
use Rattle.css_outside.specs.Outsides.{Counts, with_entries}
use Rattle.css_outside.specs.Spawners.{Spawned, Started, Finished, TellsSpawned}
use Rattle.css_outside.specs.declared.fault.OutFault.{OutFault}
use Rattle.css_outside.specs.declared.fault.OutFault.TheVariants as fault
use Rattle.css_outside.specs.declared.limit.Limit.{Limit}
use Rattle.css_outside.specs.declared.limit.Limit.TheVariants as limit
use Rattle.css_follow.specs.Following.{Plan, Seen}
use Rattle.css_follow.specs.Listening.{Listener, all_plans, all_seen}
use Rattle.css_follow.specs.Sheets.{sheet_in}
use Rattle.css_follow.specs.declared.sheet.Sheet.{Sheet}
use Rattle.css_schedule.specs.declared.fault.LineWhy.{LineWhy}
use Rattle.css_schedule.specs.declared.line.ScriptLine.{ScriptLine}
use Rattle.css_drive.specs.CompanionDue as companions
use Rattle.css_drive.specs.CompanionDue.{IsProperRun}
use Rattle.css_drive.specs.CompanionRun.{Ran}
use Rattle.css_drive.specs.Proper.{Due, IsProper, Ends}
use Rattle.css_drive.specs.TvDue as tv
use Rattle.css_drive.specs.TvDue.{TvRun, run_of}
use Rattle.css_drive.specs.TvRan.{TvRan}
use Rattle.css_drive.specs.declared.config.DriveConfig.{DriveConfig}
use Rattle.css_drive.specs.declared.driven.Driven.{Driven}
use Rattle.css_drive.specs.declared.driven.Driven.TheVariants as driven
use Rattle.css_drive.specs.declared.tv_config.TvDrive.{TvDrive}
use Rattle.css_watch.specs.Configs.{IsPlanOf}
use Rattle.css_watch.specs.Visits as visits
use Rattle.css_watch.specs.declared.config.WatchConfig.{WatchConfig}
use Rattle.css_watch.specs.declared.ending.Watched.{Watched}
use Rattle.css_watch.specs.declared.ending.Watched.TheVariants as watched
use Rattle.css_watch.specs.declared.plan.Plan as watch
use Rattle.css_status.specs.Devices.{SourceUse, SinkUse}
use Rattle.css_status.specs.Ended.{CountsCalls, CountsDials, CountsReads, CountsSpawns, CountsWrites}
use Rattle.css_status.specs.declared.status.Status.{Status}
use Rattle.css_status.specs.declared.status.Status.TheVariants as status
use Rattle.css_app.specs.Ended.{script_in}
use Rattle.css_app.specs.declared.live_pair.Child.{Child}

-- ---- devices
-- the calls of the outside, where it tells them, and how often a call other than a dial has failed
pub record OutsideUse : Type 0 where
  pub told_old : Option History
  pub told_new : Option History
  pub faults_old : ℕ
  pub faults_new : ℕ

-- those of an outside with this view and these counts, which was so and is so now
abbrev pub outside_use : {O : Type 0} → (O → Option History) → (O → Counts) → O → O → OutsideUse
outside_use told counts old new =
    record {
      told_old = told old;
      told_new = told new;
      faults_old = (counts old).faults;
      faults_new = (counts new).faults;
    }

-- what the spawner tells of its children, how many of them are running, and how often a call has failed
pub record SpawnerUse : Type 0 where
  pub told_old : Option (List Spawned)
  pub told_new : Option (List Spawned)
  pub running_old : ℕ
  pub running_new : ℕ
  pub faults_old : ℕ
  pub faults_new : ℕ

-- those of a spawner with this view and these counts
abbrev pub spawner_use : {P : Type 0} → (P → Option (List Spawned)) → (P → ℕ) → (P → ℕ) → P → P → SpawnerUse
spawner_use told running faults old new =
    record {
      told_old = told old;
      told_new = told new;
      running_old = running old;
      running_new = running new;
      faults_old = faults old;
      faults_new = faults new;
    }

-- the plans that a sheet gives the followers, and what there is to see of each of them
pub record FollowersUse : Type 0 where
  pub takes : Sheet → List Plan
  pub heard_old : List Seen
  pub heard_new : List Seen

-- those of followers that take sheets so and have heard this
abbrev pub followers_use : {F : Type 0} → (F → Sheet → List Plan) → (F → List Listener) → F → F → FollowersUse
followers_use takes heard old new =
    record { takes = takes old; heard_old = all_seen (heard old); heard_new = all_seen (heard new) }

-- nothing was written, nothing was asked of the outside, and nothing was heard
abbrev pub AreUntouched : SinkUse → OutsideUse → FollowersUse → Type 0
AreUntouched sink outside followers = (sink.holds_new ≡ sink.holds_old) × (outside.told_new ≡ outside.told_old)
    × (followers.heard_new ≡ followers.heard_old)

-- what there is to see of all devices
pub record Uses : Type 0 where
  pub source : SourceUse
  pub sink : SinkUse
  pub outside : OutsideUse
  pub spawner : SpawnerUse
  pub followers : FollowersUse

abbrev pub uses : SourceUse → SinkUse → OutsideUse → SpawnerUse → FollowersUse → Uses
uses source sink outside spawner followers =
    record { source = source; sink = sink; outside = outside; spawner = spawner; followers = followers }

-- none of them was used
abbrev pub unused : Uses → Uses
unused used =
    record used {
      source = record used.source { left_new = used.source.left_old; faults_new = used.source.faults_old };
      sink = record used.sink { holds_new = used.sink.holds_old; faults_new = used.sink.faults_old };
      outside = record used.outside { told_new = used.outside.told_old; faults_new = used.outside.faults_old };
      spawner = record used.spawner {
        told_new = used.spawner.told_old;
        running_new = used.spawner.running_old;
        faults_new = used.spawner.faults_old;
      };
      followers = record used.followers { heard_new = used.followers.heard_old };
    }

-- ---- statuses
-- the status of a run that ended so
abbrev pub driven_status : Driven → Status
driven_status driven.Done = status.Done
driven_status (driven.BadLine line why) = status.BadLine line why
driven_status driven.WriteFault = status.WriteFault
driven_status (driven.NetFault failure) = status.NetFault failure
driven_status (driven.BadCii text fault) = status.BadCii text fault
driven_status (driven.Moved property old new) = status.Moved property old new
driven_status (driven.Spent turns) = status.Spent turns
driven_status (driven.Unreachable turns) = status.Unreachable turns
driven_status (driven.BadUrl property) = status.BadUrl property
driven_status driven.Memory = status.Memory

-- A run was made to an end that was due: `proper` says which calls it may make, and `due` what follows them.
pub record IsMadeAsDue (proper : History → Type 0) (due : History → Due) (before now : Option History)
    (result : Status) : Type 0 where
  pub history : History
  pub told : now ≡ with_entries history before
  pub is_proper : proper history
  pub ended : Driven
  pub is_due : due history ≡ Ends ended
  pub tells : result ≡ driven_status ended

-- ---- counts of faults
-- How often calls of the devices had failed before and have failed now: of the source, of the sink, of the outside, and
-- of a spawner. A fault is told only where the device has failed. A failure of the spawner yields to the companion's
-- status, and of dials it is told where every one failed; no other failure of a device goes untold.
pub record TellsFaults (r r' w w' : ℕ) (c c' : Counts) (s s' : ℕ) (result : Status) : Type 0 where
  pub reads : CountsReads r r' result
  pub writes : CountsWrites w w' result
  pub calls : CountsCalls c.faults c'.faults result
  pub dials : CountsDials c.dial_faults c'.dial_faults result
  pub spawns : CountsSpawns s s' result

-- so it is of a run over lines, which uses neither the outside nor a spawner
abbrev pub TellsOverLines : ℕ → ℕ → ℕ → ℕ → Status → Type 0
TellsOverLines reads reads_new writes writes_new result = (calls : Counts) (spawns : ℕ)
    → TellsFaults reads reads_new writes writes_new calls calls spawns spawns result

-- the source's count, where its bytes were taken or a status says why not
abbrev pub CountsTaking : {T : Type 0} → ℕ → ℕ → Result T Status → Type 0
CountsTaking before now result = MatchResult result (λ _. now ≡ before) (CountsReads before now)

-- ---- what is read
-- the source gave these bytes, and has none left
pub record GivesAll (before now : Option (List ℕ)) (read : List ℕ) : Type 0 where
  pub took : Consumes before now read
  pub at_end : IsAtEnd now

-- its bytes read as this
pub record Gives {T E : Type 0} (reading : List ℕ → Result T E) (before now : Option (List ℕ)) (value : T)
    : Type 0 where
  pub read : List ℕ
  pub all : GivesAll before now read
  pub is : reading read ≡ Ok value

-- It gave nothing that reads so: a read failed, memory ran out, or a line is refused. The status tells which one, and
-- so does the reading.
abbrev pub GivesNone : {T Bad : Type 0} → (List ℕ → Result T Bad) → (Bad → Status) → Option (List ℕ) → Status → Type 0
GivesNone reading refused left status.ReadFault = ⊤
GivesNone reading refused left status.Memory = ⊤
GivesNone {Bad = Bad} reading refused left result = (bad : Bad) × (result ≡ refused bad)
    × ((bytes : List ℕ) → left ≡ Some bytes → reading bytes ≡ Err bad)

-- a cue sheet, of which a line is outside the grammar
abbrev pub HasNoSheet : Option (List ℕ) → Status → Type 0
HasNoSheet = GivesNone sheet_in status.BadSheet

-- the status of a script of which a line is too long, or outside the grammar
abbrev pub bad_line : ℕ × LineWhy → Status
bad_line bad = status.BadLine bad.0 bad.1

abbrev pub HasNoScript : Option (List ℕ) → Status → Type 0
HasNoScript = GivesNone script_in bad_line

-- ---- a companion's run
-- A run was made, which followers with these plans followed, and the status says how it ended.
pub record MakesRun (config : DriveConfig) (plans : List Plan) (sink : SinkUse) (outside : OutsideUse)
    (followers : FollowersUse) (result : Status) : Type 0 where
  pub began : List Listener
  pub followed : List Listener
  pub planned : all_plans began ≡ plans
  pub before : all_seen began ≡ followers.heard_old
  pub heard : all_seen followed ≡ followers.heard_new
  pub ended : Driven
  pub ran : Ran config outside.told_old outside.told_new sink.holds_old sink.holds_new began followed ended
  pub tells : result ≡ driven_status ended

-- The source was read to its end, its bytes are a cue sheet, and then a run was made, which the followers followed by
-- the plans that this sheet gives them.
pub record RunsBySheet (config : DriveConfig) (source : SourceUse) (sink : SinkUse) (outside : OutsideUse)
    (followers : FollowersUse) (result : Status) : Type 0 where
  pub sheet : Sheet
  pub gives : Gives sheet_in source.left_old source.left_new sheet
  pub makes : MakesRun config (followers.takes sheet) sink outside followers result

-- what `companion` comes to: where there is no sheet, nothing was asked of the outside, written or heard
abbrev pub Companions : DriveConfig → SourceUse → SinkUse → OutsideUse → FollowersUse → Status → Type 0
Companions config source sink outside followers result =
    AreUntouched sink outside followers × HasNoSheet source.left_old result
    ⊎ RunsBySheet config source sink outside followers result

-- the run was made to an end that was due
abbrev pub IsAsDue : DriveConfig → Option History → Option History → Status → Type 0
IsAsDue config = IsMadeAsDue (IsProperRun config) (companions.due config)

-- so it was, unless memory ran out
abbrev pub EndsAsDue : DriveConfig → Option History → Option History → Status → Type 0
EndsAsDue config before now result = (result ≡ status.Memory) ⊎ IsAsDue config before now result

-- ---- a television's run
-- the source was read to its end, its bytes are this script, and a run was made by it
pub record ServesByScript (drive : TvDrive) (source : SourceUse) (outside : OutsideUse) (result : Status)
    : Type 0 where
  pub script : List ScriptLine
  pub gives : Gives script_in source.left_old source.left_new script
  pub ended : Driven
  pub ran : TvRan (run_of drive script) outside.told_old outside.told_new ended
  pub tells : result ≡ driven_status ended

-- what `tv` comes to: where there is no script, nothing was asked of the outside
abbrev pub Serves : TvDrive → SourceUse → OutsideUse → Status → Type 0
Serves drive source outside result = (outside.told_new ≡ outside.told_old) × HasNoScript source.left_old result
    ⊎ ServesByScript drive source outside result

-- the run was made to an end that was due, unless memory ran out
abbrev pub ServesAsDue : TvRun → Option History → Option History → Status → Type 0
ServesAsDue run before now result =
    (result ≡ status.Memory) ⊎ IsMadeAsDue (IsProper (tv.due run)) (tv.due run) before now result

-- ---- a child
-- an option with a number
abbrev pub option_word : List ℕ → ℤ → List ℕ
option_word name value = name ++ signed_decimal value

-- how long a run goes on
abbrev pub limit_word : Limit → List ℕ
limit_word (limit.Turns turns) = option_word (codes "--turns=") (pos turns)
limit_word (limit.Seconds seconds) = option_word (codes "--seconds=") (pos seconds)

-- a flag, where it is set
abbrev pub flag_words : List ℕ → Bool → List (List ℕ)
flag_words name true = name ∷ []
flag_words name false = []

-- the words with which the television is started, whose run has this limit
abbrev pub child_words : Child → Limit → List (List ℕ)
child_words child limit =
    ((codes "tv" ∷ option_word (codes "--port=") (pos child.port) ∷ limit_word limit
    ∷ option_word (codes "--precision=") child.precision ∷ option_word (codes "--error=") (pos child.error) ∷ [])
    ++ flag_words (codes "--follow") child.follow) ++ flag_words (codes "--relative") child.relative

-- where its session of CSS-CII is dialled: `ws://127.0.0.1:P/cii`
abbrev pub address_at : ℕ → Address
address_at port = record { host = codes "127.0.0.1"; port = port; path = codes "/cii" }

-- the sheet without a line, which the followers of a run beside a child have
abbrev pub empty_sheet : Sheet
empty_sheet = record { cues = []; meter = None }

-- ---- the statuses of a pair
-- the status where the companion's run is done, and the child was waited for
abbrev pub child_status : Result ℤ OutFault → Status
child_status (Ok ended) = if int_eq ended (pos 0) then status.Done else status.ChildFault (Ok ended)
child_status (Err (fault.Failed failure)) = status.ChildFault (Err failure)
child_status (Err fault.Memory) = status.Memory

-- a companion's status other than `Done` comes before the child's
abbrev pub with_child : Status → Result ℤ OutFault → Status
with_child status.Done finished = child_status finished
with_child companion finished = companion

-- ---- the script's bytes
-- the source gave these bytes, up to its end or to more than a script has
pub record GivesUpTo (before now : Option (List ℕ)) (read : List ℕ) : Type 0 where
  pub took : Consumes before now read
  pub reached : IsAtEnd now ⊎ (67108864 < length read)

-- these bytes are a script
abbrev pub IsScript : List ℕ → Type 0
IsScript bytes = (script : List ScriptLine) × (script_in bytes ≡ Ok script)

-- the source was read to its end, and its bytes, which are these, are a script
pub record GivesScriptText (before now : Option (List ℕ)) (text : List ℕ) : Type 0 where
  pub all : GivesAll before now text
  pub is_script : IsScript text

-- ---- what became of both
abbrev pub IsNoStart : Status → Type 0
IsNoStart (status.ChildFault (Err failure)) = ⊤
IsNoStart status.Memory = ⊤
IsNoStart _ = ⊥

-- The child was started once with these words and this script, a run was made, which followers with these plans
-- followed, and then the child was waited for once.
pub record RunsBeside (config : DriveConfig) (plans : List Plan) (words : List (List ℕ)) (script : List ℕ)
    (sink : SinkUse) (outside : OutsideUse) (spawner : SpawnerUse) (followers : FollowersUse) (result : Status)
    : Type 0 where
  pub companion : Status
  pub makes : MakesRun config plans sink outside followers companion
  pub finished : Result ℤ OutFault
  pub told : TellsSpawned (option_map (λ told. Started words script ∷ told) spawner.told_old) spawner.told_new
      finished Finished
  pub running : MatchResult finished (λ _. spawner.running_new ≡ spawner.running_old)
      (λ _. spawner.running_new ≡ spawner.running_old + 1)
  pub tells : result ≡ with_child companion finished

-- nothing was done to the children or to the devices of the run
abbrev pub AreLeft : SinkUse → OutsideUse → SpawnerUse → FollowersUse → Type 0
AreLeft sink outside spawner followers = AreUntouched sink outside followers
    × (spawner.told_new ≡ spawner.told_old) × (spawner.running_new ≡ spawner.running_old)

-- The source was read to its end, and a child was started with its bytes, which are a script, or it could not be. The
-- followers have the plans that the empty sheet gives them.
pub record PairsByScript (config : DriveConfig) (child : Child) (source : SourceUse) (sink : SinkUse)
    (outside : OutsideUse) (spawner : SpawnerUse) (followers : FollowersUse) (result : Status) : Type 0 where
  pub text : List ℕ
  pub gives : GivesScriptText source.left_old source.left_new text
  pub beside : AreLeft sink outside spawner followers × IsNoStart result
      ⊎ RunsBeside config (followers.takes empty_sheet) (child_words child config.limit) text sink outside spawner
      followers result

-- what `pair` comes to: no child was started, since there is no script, or memory ran out
abbrev pub Pairs : DriveConfig → Child → SourceUse → SinkUse → OutsideUse → SpawnerUse → FollowersUse → Status → Type 0
Pairs config child source sink outside spawner followers result =
    AreLeft sink outside spawner followers × HasNoScript source.left_old result
    ⊎ PairsByScript config child source sink outside spawner followers result

-- the companion's run was made to an end that was due, and the child ended
pub record ArePairedAsDue (config : DriveConfig) (before now : Option History) (result : Status) : Type 0 where
  pub companion : Status
  pub due : IsAsDue config before now companion
  pub ended : ℤ
  pub tells : result ≡ with_child companion (Ok ended)

-- so it was, unless memory ran out
abbrev pub PairsAsDue : DriveConfig → Option History → Option History → Status → Type 0
PairsAsDue config before now result = (result ≡ status.Memory) ⊎ ArePairedAsDue config before now result

-- ---- a watch
-- the status of a watch that ended so
abbrev pub watched_status : Watched → Status
watched_status watched.Done = status.Done
watched_status (watched.Unreachable turns) = status.Unreachable turns
watched_status (watched.NoInterval reports) = status.NoInterval reports
watched_status watched.WriteFault = status.WriteFault
watched_status (watched.NetFault failure) = status.NetFault failure
watched_status watched.Memory = status.Memory

-- A watch was made: its calls are those of its visits, the sink gained the lines of what happened in them, and the
-- status says how it ended.
pub record MakesWatch (config : WatchConfig) (told_old told_new : Option History)
    (holds_old holds_new : Option (List ℕ)) (result : Status) : Type 0 where
  pub plan : watch.Plan
  pub planned : IsPlanOf config plan
  pub ended : Watched
  pub watched : visits.Watches plan told_old told_new holds_old holds_new ended
  pub tells : result ≡ watched_status ended

-- the last turn was made, or the last visit that a watch may make, unless memory ran out
abbrev pub EndsAtLastUnlessMemory : Status → Type 0
EndsAtLastUnlessMemory status.Done = ⊤
EndsAtLastUnlessMemory (status.Unreachable turns) = ⊤
EndsAtLastUnlessMemory (status.NoInterval reports) = ⊤
EndsAtLastUnlessMemory status.Memory = ⊤
EndsAtLastUnlessMemory _ = ⊥
