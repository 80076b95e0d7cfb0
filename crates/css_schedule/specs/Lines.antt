-- The lines of a schedule after its header, and those of a script, as words.
use Rattle.std.specs.Prelude.{ℕ, ℤ, ◌+◌, ◌^◌, ◌==◌, if◌then◌else◌, Bool, true, false, List, Option, Some, None}
use Rattle.std.specs.Prelude.{Result, Ok, Err, codes, bytes_eq}
use Rattle.css_model.specs.declared.TheConstants.{LIMIT}
use Rattle.css_num.specs.Rates.{rate_of}
use Rattle.css_player.specs.declared.command.Command.{Command}
use Rattle.css_player.specs.declared.command.Command.TheVariants.{Change, Speed, Seek}
use Rattle.css_num.specs.declared.protocol.Kind.{Kind}
use Rattle.css_num.specs.declared.protocol.Kind.TheVariants.{Cii, Ts}
use Rattle.css_tsmsg.specs.declared.bound.Bound.{Bound}
use Rattle.css_tsmsg.specs.declared.bound.Bound.TheVariants as bounds
use Rattle.css_schedule.specs.declared.fault.LineFault.{LineFault}
use Rattle.css_schedule.specs.declared.fault.LineFault.TheVariants.{Form}
use Rattle.css_schedule.specs.declared.line.Verb.{Verb}
use Rattle.css_schedule.specs.declared.line.Verb.TheVariants as verbs
use Rattle.css_schedule.specs.declared.line.Line.{Line}
use Rattle.css_schedule.specs.declared.line.ScriptLine.{ScriptLine}
use Rattle.css_schedule.specs.Words.{At, ◌>>=◌, or_form, word_at, number_at, ordinal_at, integer_at, text_at}
use Rattle.css_schedule.specs.Words.{after_word, all_read, words_of}
use Rattle.css_schedule.specs.Owners.{is_named}

-- ---- what several verbs have
-- a time in nanoseconds: below 2^32 seconds
abbrev pub time_at : At ℕ
time_at words = number_at LIMIT words

-- a tick or a media position: at most 18 digits
abbrev pub position_at : At ℤ
position_at words = integer_at 18 words

-- the kind of a session, by the word for it
abbrev pub kind_of : List ℕ → Result Kind LineFault
kind_of word =
    if bytes_eq word (codes "cii") then Ok Cii
    else if bytes_eq word (codes "ts") then Ok Ts
    else Err Form

-- the kind of a session
unfoldable pub kind_at : At Kind
kind_at words = do
  word ← word_at words
  kind ← kind_of word.0
  Ok (kind, word.1)

-- a wall time below 2^63 ns
unfoldable pub finite_at : At (Option ℕ)
finite_at words = do
  wall ← number_at (2 ^ 63) words
  Ok (Some wall.0, wall.1)

-- a wall time, and None where the word is the infinite one
unfoldable pub wall_time_at : List ℕ → At (Option ℕ)
wall_time_at infinite words = do
  word ← word_at words
  if bytes_eq word.0 infinite then Ok (None, word.1) else finite_at words

-- the earliest bound with these times
abbrev pub earliest_of : ℤ → Option ℕ → Bound
earliest_of content None = bounds.MinusInfinity content
earliest_of content (Some wall) = bounds.At content wall

-- the latest bound with these times
abbrev pub latest_of : ℤ → Option ℕ → Bound
latest_of content None = bounds.PlusInfinity content
latest_of content (Some wall) = bounds.At content wall

-- `EC EW`: the earliest bound of a presentation
unfoldable pub earliest_at : At Bound
earliest_at words = do
  content ← position_at words
  wall ← wall_time_at (codes "minusinfinity") content.1
  Ok (earliest_of content.0 wall.0, wall.1)

-- `LC LW`: its latest bound
unfoldable pub latest_at : At Bound
latest_at words = do
  content ← position_at words
  wall ← wall_time_at (codes "plusinfinity") content.1
  Ok (latest_of content.0 wall.0, wall.1)

-- ---- a viewer's command
-- `N` of `change`
unfoldable pub change_at : At Command
change_at words = do
  programme ← ordinal_at words
  Ok (Change programme.0, programme.1)

-- `S` of `speed`: at most 3 digits
unfoldable pub speed_at : At Command
speed_at words = do
  speed ← integer_at 3 words
  Ok (Speed speed.0, speed.1)

-- `M` of `seek`
unfoldable pub seek_at : At Command
seek_at words = do
  media ← position_at words
  Ok (Seek media.0, media.1)

-- the command of the verb with this name
unfoldable pub command_at : List ℕ → At Command
command_at name words =
    if bytes_eq name (codes "change") then change_at words
    else if bytes_eq name (codes "speed") then speed_at words
    else if bytes_eq name (codes "seek") then seek_at words
    else Err Form

-- ---- the operands of each verb
-- `ask R`
unfoldable pub ask_at : At Verb
ask_at words = do
  reading ← time_at words
  Ok (verbs.Ask reading.0, reading.1)

-- `take I R`
unfoldable pub take_at : At Verb
take_at words = do
  request ← ordinal_at words
  reading ← time_at request.1
  Ok (verbs.Take request.0 reading.0, reading.1)

-- `give J R`
unfoldable pub give_at : At Verb
give_at words = do
  take ← ordinal_at words
  reading ← time_at take.1
  Ok (verbs.Give take.0 reading.0, reading.1)

-- `land I R`
unfoldable pub land_at : At Verb
land_at words = do
  datagram ← ordinal_at words
  reading ← time_at datagram.1
  Ok (verbs.Land datagram.0 reading.0, reading.1)

-- `wall R`
unfoldable pub wall_at : At Verb
wall_at words = do
  reading ← time_at words
  Ok (verbs.Wall reading.0, reading.1)

-- `print R`
unfoldable pub print_at : At Verb
print_at words = do
  reading ← time_at words
  Ok (verbs.Print reading.0, reading.1)

-- `programme ID`
unfoldable pub programme_at : At Verb
programme_at words = do
  content_id ← text_at words
  Ok (verbs.Programme content_id.0, content_id.1)

-- `timeline N SELECTOR UPT UPS BASE`: each part of the rate is 1 to 10^9
unfoldable pub timeline_at : At Verb
timeline_at words = do
  programme ← ordinal_at words
  selector ← text_at programme.1
  units_per_tick ← ordinal_at selector.1
  units_per_second ← ordinal_at units_per_tick.1
  base ← position_at units_per_second.1
  rate ← or_form (rate_of units_per_tick.0 units_per_second.0)
  Ok (verbs.Timeline programme.0 selector.0 rate base.0, base.1)

-- `change R N`, `speed R S` and `seek R M`, by their name
unfoldable pub viewer_at : List ℕ → At Verb
viewer_at name words = do
  reading ← time_at words
  command ← command_at name reading.1
  Ok (verbs.Viewer reading.0 command.0, command.1)

-- `open KIND`
unfoldable pub opening_at : At Verb
opening_at words = do
  kind ← kind_at words
  Ok (verbs.Opening kind.0, kind.1)

-- `text KIND`
unfoldable pub bring_at : At Verb
bring_at words = do
  kind ← kind_at words
  Ok (verbs.Bring kind.0, kind.1)

-- `up ts`
unfoldable pub up_at : At Verb
up_at words = do
  rest ← after_word (codes "ts") words
  Ok (verbs.Up, rest)

-- `present EC EW LC LW`
unfoldable pub present_at : At Verb
present_at words = do
  earliest ← earliest_at words
  latest ← latest_at earliest.1
  Ok (verbs.Present earliest.0 latest.0, latest.1)

-- `close KIND`
unfoldable pub close_at : At Verb
close_at words = do
  kind ← kind_at words
  Ok (verbs.Close kind.0, kind.1)

-- ---- lines
-- the operands of the verb with this name, where it is one of a session or a viewer's
unfoldable pub session_at : List ℕ → At Verb
session_at name words =
    if bytes_eq name (codes "open") then opening_at words
    else if bytes_eq name (codes "text") then bring_at words
    else if bytes_eq name (codes "up") then up_at words
    else if bytes_eq name (codes "present") then present_at words
    else if bytes_eq name (codes "close") then close_at words
    else viewer_at name words

-- the operands of the verb with this name, where it isn't one of the wall clock
unfoldable pub timelines_at : List ℕ → At Verb
timelines_at name words =
    if bytes_eq name (codes "print") then print_at words
    else if bytes_eq name (codes "programme") then programme_at words
    else if bytes_eq name (codes "timeline") then timeline_at words
    else session_at name words

-- the operands of the verb with this name
unfoldable pub operands_at : List ℕ → At Verb
operands_at name words =
    if bytes_eq name (codes "ask") then ask_at words
    else if bytes_eq name (codes "take") then take_at words
    else if bytes_eq name (codes "give") then give_at words
    else if bytes_eq name (codes "land") then land_at words
    else if bytes_eq name (codes "wall") then wall_at words
    else timelines_at name words

-- a verb and its operands
unfoldable pub verb_at : At Verb
verb_at words = do
  name ← word_at words
  operands_at name.0 name.1

-- `T W L VERB ..`: true time, the television's wall clock, the companion's clock, and what happens
unfoldable pub line_of_words : List (List ℕ) → Result Line LineFault
line_of_words words = do
  t ← time_at words
  w ← time_at t.1
  l ← time_at w.1
  verb ← verb_at l.1
  end ← all_read verb.1
  Ok (record { t = t.0; w = w.0; who = 1; l = l.0; verb = verb.0 })

-- the line that bytes are in version 1, or that they are none
abbrev pub line_of : List ℕ → Result Line LineFault
line_of bytes = line_of_words (words_of bytes)

-- ---- lines of version 2
-- the operands of the verb with this name; `sleep` has none
abbrev pub second_operands_at : List ℕ → At Verb
second_operands_at name words =
    if bytes_eq name (codes "sleep") then Ok (verbs.Sleep, words) else operands_at name words

-- a verb and its operands
unfoldable pub second_verb_at : At Verb
second_verb_at words = do
  name ← word_at words
  second_operands_at name.0 name.1

-- `T W K L VERB ..`: with the number of the companion, at most that of the last one
unfoldable pub second_of_words : ℕ → List (List ℕ) → Result Line LineFault
second_of_words companions words = do
  t ← time_at words
  w ← time_at t.1
  who ← number_at (companions + 1) w.1
  l ← time_at who.1
  verb ← second_verb_at l.1
  end ← all_read verb.1
  if is_named who.0 l.0 verb.0 then Ok (record { t = t.0; w = w.0; who = who.0; l = l.0; verb = verb.0 }) else Err Form

-- ---- both versions, as one function reads them
-- the operands of the verb with this name, in version 1 or 2
abbrev pub named_at : Bool → List ℕ → At Verb
named_at true name words = operands_at name words
named_at false name words = second_operands_at name words

-- a verb and its operands
unfoldable pub verb_in : Bool → At Verb
verb_in first words = do
  name ← word_at words
  named_at first name.0 name.1

-- the number of the companion: in version 1 there is only one
abbrev pub who_at : Bool → ℕ → At ℕ
who_at true companions words = Ok (1, words)
who_at false companions words = number_at (companions + 1) words

-- the value, where it fits and no word is left
abbrev pub ended : {A : Type 0} → A → Bool → List (List ℕ) → Result A LineFault
ended value fits words = do
  end ← all_read words
  if fits then Ok value else Err Form

-- the line that words are
unfoldable pub line_by : Bool → ℕ → List (List ℕ) → Result Line LineFault
line_by first companions words = do
  t ← time_at words
  w ← time_at t.1
  who ← who_at first companions w.1
  l ← time_at who.1
  verb ← verb_in first l.1
  ended (record { t = t.0; w = w.0; who = who.0; l = l.0; verb = verb.0 }) (is_named who.0 l.0 verb.0) verb.1

-- the line that bytes are in a version, with so many companions
abbrev pub line_in : ℕ → ℕ → List ℕ → Result Line LineFault
line_in version companions bytes =
    if version == 1 then line_of bytes else second_of_words companions (words_of bytes)

-- ---- lines of a script
-- a viewer's command without a reading, in whose place 0 stands
unfoldable pub due_command_at : List ℕ → At Verb
due_command_at name words = do
  command ← command_at name words
  Ok (verbs.Viewer 0 command.0, command.1)

-- the operands of the verb with this name in a script
unfoldable pub script_operands_at : List ℕ → At Verb
script_operands_at name words =
    if bytes_eq name (codes "programme") then programme_at words
    else if bytes_eq name (codes "timeline") then timeline_at words
    else due_command_at name words

-- a verb of a script and its operands
unfoldable pub script_verb_at : At Verb
script_verb_at words = do
  name ← word_at words
  script_operands_at name.0 name.1

-- `W VERB ..`: when the line is due, by the television's wall clock, and what happens then
unfoldable pub script_of_words : List (List ℕ) → Result ScriptLine LineFault
script_of_words words = do
  due ← time_at words
  verb ← script_verb_at due.1
  end ← all_read verb.1
  Ok (record { due = due.0; verb = verb.0 })

-- the line of a script that bytes are, or that they are none
abbrev pub script_of : List ℕ → Result ScriptLine LineFault
script_of bytes = script_of_words (words_of bytes)
