-- The ranges of what a schedule says. What is read is in them, and what is in them can be printed and is read back.
use Rattle.std.specs.Prelude.{◌<◌, ◌≤◌, ◌≡◌, ◌^◌, ◌==◌, ◌&&◌, ◌||◌, not, ℕ, ℤ, pos, negsuc, ◌≤ℤ◌, unsigned_abs, length}
use Rattle.std.specs.Prelude.{List, [], All, Bool, true, false, None, ⊤, bytes_eq, codes}
use Rattle.std.specs.Str.{IsUtf8}
use Rattle.css_model.specs.Numbers.{max_error}
use Rattle.css_model.specs.WallClock.{IsLocal}
use Rattle.css_model.specs.declared.TheConstants.{LIMIT}
use Rattle.css_num.specs.Rates.{TickRate, IsTickRate}
use Rattle.css_player.specs.declared.command.Command.{Command}
use Rattle.css_player.specs.declared.command.Command.TheVariants.{Change, Speed, Seek}
use Rattle.css_tsmsg.specs.Presentations.{IsPresentation}
use Rattle.css_tsmsg.specs.declared.bound.Bound.{Bound}
use Rattle.css_tsmsg.specs.declared.bound.Presentation.{Presentation}
use Rattle.css_schedule.specs.Words.{is_word}
use Rattle.css_schedule.specs.Headers.{max_companions}
use Rattle.css_schedule.specs.Owners.{is_sleep, is_own}
use Rattle.css_schedule.specs.declared.header.CompanionLine.{CompanionLine}
use Rattle.css_schedule.specs.declared.header.Header.{Header}
use Rattle.css_schedule.specs.declared.header.Start.{Start}
use Rattle.css_schedule.specs.declared.header.Start.TheVariants.{One, Two}
use Rattle.css_schedule.specs.declared.line.Verb.{Verb}
use Rattle.css_schedule.specs.declared.line.Verb.TheVariants as verbs
use Rattle.css_schedule.specs.declared.line.Line.{Line}
use Rattle.css_schedule.specs.declared.line.ScriptLine.{ScriptLine}

-- ---- headers
-- what a companion wants is UTF-8, as its setup has to be
pub record IsCompanion (companion : CompanionLine) : Type 0 where
  pub selector : IsUtf8 companion.selector
  pub stem : IsUtf8 companion.stem

-- what a television declares is in range, and what each companion wants is UTF-8
pub record IsHeader (header : Header) : Type 0 where
  pub tv_error : header.tv_error ≤ max_error
  pub tv_precision : header.tv_precision ≤ℤ pos 30
  pub companions : All IsCompanion header.companions

-- a stem is empty, or a word other than `-`, which stands for the empty one
abbrev pub is_stem : List ℕ → Bool
is_stem stem = (length stem == 0) || (is_word stem && not (bytes_eq stem (codes "-")))

-- a companion's numbers are in range, its selector is a word, and its stem is a stem
pub record IsPrintableCompanion (companion : CompanionLine) : Type 0 where
  pub local : IsLocal companion.local
  pub selector : is_word companion.selector ≡ true
  pub stem : is_stem companion.stem ≡ true

-- a header's numbers are in range, and each companion can be printed
pub record IsPrintable (header : Header) : Type 0 where
  pub tv_error : header.tv_error ≤ max_error
  pub least : negsuc 127 ≤ℤ header.tv_precision
  pub greatest : header.tv_precision ≤ℤ pos 30
  pub companions : All IsPrintableCompanion header.companions

-- the number of a companion, or how many there are
pub record IsCount (number : ℕ) : Type 0 where
  pub low : 1 ≤ number
  pub high : number ≤ max_companions

-- what a companion wants can be told to a television, and its line can be printed
abbrev pub IsGoodCompanion : CompanionLine → Type 0
IsGoodCompanion companion = IsCompanion companion × IsPrintableCompanion companion

-- a header is in range and can be printed
abbrev pub IsGoodHeader : Header → Type 0
IsGoodHeader header = IsHeader header × IsPrintable header

-- version 1 has one companion; in version 2 they follow the header
abbrev pub IsStart : Start → Type 0
IsStart (One header) = IsHeader header × (length header.companions ≡ 1) × IsPrintable header
IsStart (Two header companions) = IsGoodHeader header × (header.companions ≡ []) × IsCount companions

-- there are two versions
abbrev pub IsVersion : ℕ → Type 0
IsVersion version = (1 ≤ version) × (version ≤ 2)

-- how many companions a version may have, by whether it is version 1
abbrev pub FitsFirst : Bool → ℕ → Type 0
FitsFirst true companions = companions ≡ 1
FitsFirst false companions = IsCount companions

-- ---- the parts of a verb
-- the number of a request, a take, a datagram or a programme
pub record IsOrdinal (number : ℕ) : Type 0 where
  pub low : 1 ≤ number
  pub high : number < 4294967296

-- a number of something and a reading
pub record IsNumbered (i r : ℕ) : Type 0 where
  pub number : IsOrdinal i
  pub reading : r < LIMIT

-- a text is a word, so it is UTF-8
pub record IsText (text : List ℕ) : Type 0 where
  pub word : is_word text ≡ true
  pub utf8 : IsUtf8 text

-- a timeline's programme, selector, rate and base
pub record IsTimeline (n : ℕ) (s : List ℕ) (r : TickRate) (b : ℤ) : Type 0 where
  pub programme : IsOrdinal n
  pub selector : IsText s
  pub rate : IsTickRate r
  pub base : unsigned_abs b < 10 ^ 18

-- a speed has at most 3 digits and a media position at most 18, whatever the player takes of them
abbrev pub IsCommand : Command → Type 0
IsCommand (Change programme) = IsOrdinal programme
IsCommand (Speed speed) = unsigned_abs speed < 1000
IsCommand (Seek media) = unsigned_abs media < 10 ^ 18

-- a viewer's command and its reading
pub record IsViewer (r : ℕ) (c : Command) : Type 0 where
  pub reading : r < LIMIT
  pub command : IsCommand c

-- the presentation of two bounds
abbrev pub window : Bound → Bound → Presentation
window earliest latest = record { earliest = earliest; latest = latest; actual = None }

-- ---- verbs and lines
-- each part of a verb is in range
abbrev pub IsVerb : Verb → Type 0
IsVerb (verbs.Ask reading) = reading < LIMIT
IsVerb (verbs.Take request reading) = IsNumbered request reading
IsVerb (verbs.Give take reading) = IsNumbered take reading
IsVerb (verbs.Land datagram reading) = IsNumbered datagram reading
IsVerb (verbs.Wall reading) = reading < LIMIT
IsVerb (verbs.Print reading) = reading < LIMIT
IsVerb (verbs.Programme content_id) = IsText content_id
IsVerb (verbs.Timeline programme selector rate base) = IsTimeline programme selector rate base
IsVerb (verbs.Viewer reading command) = IsViewer reading command
IsVerb (verbs.Opening kind) = ⊤
IsVerb (verbs.Bring kind) = ⊤
IsVerb verbs.Up = ⊤
IsVerb (verbs.Present earliest latest) = IsPresentation (window earliest latest)
IsVerb (verbs.Close kind) = ⊤
IsVerb verbs.Sleep = ⊤

-- so is each clock
pub record IsLine (line : Line) : Type 0 where
  pub t : line.t < LIMIT
  pub w : line.w < LIMIT
  pub l : line.l < LIMIT
  pub verb : IsVerb line.verb

-- a line of version 1, which has one companion and no sleep
pub record IsFirst (line : Line) : Type 0 where
  pub who : line.who ≡ 1
  pub awake : is_sleep line.verb ≡ false

-- A line of version 2 with so many companions. What no companion takes part in may be the television's alone, and then
-- gives no companion's clock.
pub record IsSecond (companions : ℕ) (line : Line) : Type 0 where
  pub who : line.who ≤ companions
  pub own : is_own line.verb ≡ true → 1 ≤ line.who
  pub none : line.who ≡ 0 → line.l ≡ 0

-- one of the two, by whether it is version 1
abbrev pub IsOf : Bool → ℕ → Line → Type 0
IsOf true companions line = IsFirst line
IsOf false companions line = IsSecond companions line

-- the verb is the television's own, and a viewer's command has no reading yet
abbrev pub IsScripted : Verb → Type 0
IsScripted (verbs.Programme content_id) = ⊤
IsScripted (verbs.Timeline programme selector rate base) = ⊤
IsScripted (verbs.Viewer reading command) = reading ≡ 0
IsScripted _ = ⊥

-- a line of a script
pub record IsScriptLine (script : ScriptLine) : Type 0 where
  pub due : script.due < LIMIT
  pub verb : IsVerb script.verb
  pub scripted : IsScripted script.verb
