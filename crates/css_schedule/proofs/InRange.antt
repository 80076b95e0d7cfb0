-- The lines that are read are in their ranges.
use Rattle.std.proofs.Common.{◌≡◌, ℕ, ◌+◌, ◌^◌, ◌<◌, ◌≤◌, arith, ap, refl, sym, subst, ◌∙◌, Bool, true, false, List}
use Rattle.std.specs.Prelude.{if◌then◌else◌, ◌==◌, ◌||◌, ◌&&◌, not, ℤ, pos, negsuc, nat_le, unsigned_abs}
use Rattle.std.specs.Prelude.{Option, Some, None, IfSome, Result, Ok, Err, IfOk, bytes_eq, codes, ⊤}
use Rattle.std.proofs.lemmas.Bool.{leb-true, eqb-true, eqb-false, eq-eqb}
use Rattle.std.proofs.lemmas.Int.{ints}
use Rattle.css_num.specs.Gives.{GivesBy}
use Rattle.css_num.specs.Rates.{IsTickRate, is_rate_part, rate_of}
use Rattle.css_model.specs.declared.TheConstants.{LIMIT}
use Rattle.css_tsmsg.specs.Presentations.{IsEarliest, IsLatest}
use Rattle.css_tsmsg.specs.Times.{IsContent}
use Rattle.css_schedule.proofs.Awake.{IsAwake, verb-awake}
use Rattle.css_schedule.proofs.Graphic.{both}
use Rattle.css_schedule.proofs.Steps.{Front, First, Gets, pass, after, after_some, either, where_true, ok-range}
use Rattle.css_schedule.proofs.Steps.{answer-range, number-range, ordinal-range, integer-range, text-range}
use Rattle.css_schedule.specs.declared.fault.LineFault.{LineFault}
use Rattle.css_schedule.specs.declared.fault.LineFault.TheVariants.{Memory}
use Rattle.css_schedule.specs.declared.line.Line.{Line}
use Rattle.css_schedule.specs.declared.line.ScriptLine.{ScriptLine}
use Rattle.css_schedule.specs.declared.line.Verb.{Verb}
use Rattle.css_schedule.specs.Words.{words_of, word_at, after_word, all_read}
use Rattle.css_schedule.specs.Lines as lines
use Rattle.css_schedule.specs.Lines.{time_at, position_at, kind_at, finite_at, wall_time_at, earliest_of, latest_of}
use Rattle.css_schedule.specs.Lines.{earliest_at, latest_at, change_at, speed_at, seek_at, command_at}
use Rattle.css_schedule.specs.Lines.{ask_at, take_at, give_at, land_at, wall_at, print_at, programme_at, timeline_at}
use Rattle.css_schedule.specs.Lines.{viewer_at, opening_at, bring_at, up_at, present_at, close_at, session_at}
use Rattle.css_schedule.specs.Lines.{timelines_at, operands_at, verb_at, line_of_words, line_of}
use Rattle.css_schedule.specs.Lines.{second_verb_at}
use Rattle.css_schedule.specs.Lines.{due_command_at, script_operands_at, script_verb_at, script_of_words, script_of}
use Rattle.css_schedule.specs.Owners.{is_own, is_named}
use Rattle.css_schedule.specs.Ranges.{IsOrdinal, IsText, IsCommand}
use Rattle.css_schedule.specs.Ranges.{IsVerb, IsLine, IsFirst, IsSecond, IsOf, IsScripted, IsScriptLine}

-- ---- what several verbs have
-- a time
abbrev IsTime : ℕ → Type 0
IsTime time = time < LIMIT

time-range : (words : List (List ℕ)) → Gets IsTime (time_at words)
time-range words = number-range LIMIT words

-- a tick or a media position
abbrev IsPosition : ℤ → Type 0
IsPosition number = unsigned_abs number < 10 ^ 18

position-range : (words : List (List ℕ)) → Gets IsPosition (position_at words)
position-range words = integer-range 18 (omega arith) words

-- a part of a rate that passes its test
part-range : (part : ℕ) → is_rate_part part ≡ true → (1 ≤ part) × (part ≤ 1000000000)
part-range part h =
    let tests = both (nat_le 1 part) (nat_le part 1000000000) h in
    (leb-true 1 part tests.0, leb-true part 1000000000 tests.1)

-- a rate that is made of two parts
rate-range : (a b : ℕ) → IfSome (rate_of a b) IsTickRate
rate-range a b = by (is_rate_part a && is_rate_part b) refl
  where
    by : (test : Bool) → (is_rate_part a && is_rate_part b) ≡ test
        → IfSome (if test then Some (record { units_per_tick = a; units_per_second = b }) else None) IsTickRate
    by true p =
        let tests = both (is_rate_part a) (is_rate_part b) p in
        let tick = part-range a tests.0 in
        let second = part-range b tests.1 in
        record { tick_positive = tick.0; tick_small = tick.1; second_positive = second.0; second_small = second.1 }
    by false p = tt

-- ---- the bounds of a presentation
-- a wall time is below 2^63 where it is a number
abbrev IsWallTime : Option ℕ → Type 0
IsWallTime None = ⊤
IsWallTime (Some wall) = wall < 2 ^ 63

finite-range : (words : List (List ℕ)) → Gets IsWallTime (finite_at words)
unfolding finite_at
finite-range words =
    after (λ n. n < 2 ^ 63) (First IsWallTime) _ _ (number-range (2 ^ 63) words) (λ wall rest small. small)

wall_time-range : (infinite : List ℕ) (words : List (List ℕ)) → Gets IsWallTime (wall_time_at infinite words)
unfolding wall_time_at
wall_time-range infinite words =
    pass (First IsWallTime) (word_at words) _ (λ word. by (bytes_eq word.0 infinite) word.1)
  where
    by : (b : Bool) (rest : List (List ℕ)) → Gets IsWallTime (if b then Ok (None, rest) else finite_at words)
    by true rest = tt
    by false rest = finite-range words

-- a content time has at most 18 digits
content-range : (content : ℤ) → IsPosition content → IsContent content
content-range (pos n) h = record { low = omega (arith, ints); high = omega (arith, ints, h) }
content-range (negsuc n) h = record { low = omega (arith, ints, h); high = omega (arith, ints) }

earliest_of-range : (content : ℤ) (wall : Option ℕ) → IsPosition content → IsWallTime wall
    → IsEarliest (earliest_of content wall)
earliest_of-range content None c w = content-range content c
earliest_of-range content (Some wall) c w = record { content_time = content-range content c; wall_time = w }

latest_of-range : (content : ℤ) (wall : Option ℕ) → IsPosition content → IsWallTime wall
    → IsLatest (latest_of content wall)
latest_of-range content None c w = content-range content c
latest_of-range content (Some wall) c w = record { content_time = content-range content c; wall_time = w }

earliest-range : (words : List (List ℕ)) → Gets IsEarliest (earliest_at words)
unfolding earliest_at
earliest-range words =
    after IsPosition (First IsEarliest) _ _ (position-range words) (λ content rest c.
    after IsWallTime (First IsEarliest) _ _ (wall_time-range (codes "minusinfinity") rest) (λ wall end w.
    earliest_of-range content wall c w))

latest-range : (words : List (List ℕ)) → Gets IsLatest (latest_at words)
unfolding latest_at
latest-range words =
    after IsPosition (First IsLatest) _ _ (position-range words) (λ content rest c.
    after IsWallTime (First IsLatest) _ _ (wall_time-range (codes "plusinfinity") rest) (λ wall end w.
    latest_of-range content wall c w))

-- ---- viewers' commands
change-range : (words : List (List ℕ)) → Gets IsCommand (change_at words)
unfolding change_at
change-range words = after IsOrdinal (First IsCommand) _ _ (ordinal-range words) (λ programme rest h. h)

speed-range : (words : List (List ℕ)) → Gets IsCommand (speed_at words)
unfolding speed_at
speed-range words =
    after (λ s. unsigned_abs s < 10 ^ 3) (First IsCommand) _ _ (integer-range 3 (omega arith) words) (λ speed rest h. h)

seek-range : (words : List (List ℕ)) → Gets IsCommand (seek_at words)
unfolding seek_at
seek-range words = after IsPosition (First IsCommand) _ _ (position-range words) (λ media rest h. h)

command-range : (name words : _) → Gets IsCommand (command_at name words)
unfolding command_at
command-range name words =
    either (First IsCommand) (bytes_eq name (codes "change")) _ _ (change-range words)
    (either (First IsCommand) (bytes_eq name (codes "speed")) _ _ (speed-range words)
    (either (First IsCommand) (bytes_eq name (codes "seek")) _ _ (seek-range words) tt))

-- ---- verbs
-- a verb that a script may have
record IsDue (verb : Verb) : Type 0 where
  range : IsVerb verb
  scripted : IsScripted verb

ask-range : (words : List (List ℕ)) → Gets IsVerb (ask_at words)
unfolding ask_at
ask-range words = after IsTime (First IsVerb) _ _ (time-range words) (λ reading rest r. r)

take-range : (words : List (List ℕ)) → Gets IsVerb (take_at words)
unfolding take_at
take-range words =
    after IsOrdinal (First IsVerb) _ _ (ordinal-range words) (λ number rest n.
    after IsTime (First IsVerb) _ _ (time-range rest) (λ reading end r. record { number = n; reading = r }))

give-range : (words : List (List ℕ)) → Gets IsVerb (give_at words)
unfolding give_at
give-range words =
    after IsOrdinal (First IsVerb) _ _ (ordinal-range words) (λ number rest n.
    after IsTime (First IsVerb) _ _ (time-range rest) (λ reading end r. record { number = n; reading = r }))

land-range : (words : List (List ℕ)) → Gets IsVerb (land_at words)
unfolding land_at
land-range words =
    after IsOrdinal (First IsVerb) _ _ (ordinal-range words) (λ number rest n.
    after IsTime (First IsVerb) _ _ (time-range rest) (λ reading end r. record { number = n; reading = r }))

wall-range : (words : List (List ℕ)) → Gets IsVerb (wall_at words)
unfolding wall_at
wall-range words = after IsTime (First IsVerb) _ _ (time-range words) (λ reading rest r. r)

print-range : (words : List (List ℕ)) → Gets IsVerb (print_at words)
unfolding print_at
print-range words = after IsTime (First IsVerb) _ _ (time-range words) (λ reading rest r. r)

programme-range : (words : List (List ℕ)) → Gets IsDue (programme_at words)
unfolding programme_at
programme-range words =
    after IsText (First IsDue) _ _ (text-range words) (λ id rest h. record { range = h; scripted = tt })

timeline-range : (words : List (List ℕ)) → Gets IsDue (timeline_at words)
unfolding timeline_at
timeline-range words =
    after IsOrdinal (First IsDue) _ _ (ordinal-range words) (λ programme after_programme n.
    after IsText (First IsDue) _ _ (text-range after_programme) (λ selector after_selector s.
    after IsOrdinal (First IsDue) _ _ (ordinal-range after_selector) (λ tick after_tick t.
    after IsOrdinal (First IsDue) _ _ (ordinal-range after_tick) (λ second after_second u.
    after IsPosition (First IsDue) _ _ (position-range after_second) (λ base end b.
    after_some IsTickRate (First IsDue) _ _ (rate-range tick second) (λ rate r.
    record { range = record { programme = n; selector = s; rate = r; base = b }; scripted = tt }))))))

-- what a script may have, a schedule may have
due-range : (read : Result (Front Verb) LineFault) → Gets IsDue read → Gets IsVerb read
due-range (Ok front) h = h.range
due-range (Err fault) h = tt

viewer-range : (name words : _) → Gets IsVerb (viewer_at name words)
unfolding viewer_at
viewer-range name words =
    after IsTime (First IsVerb) _ _ (time-range words) (λ reading rest r.
    after IsCommand (First IsVerb) _ _ (command-range name rest) (λ command end c. record { reading = r; command = c }))

opening-range : (words : List (List ℕ)) → Gets IsVerb (opening_at words)
unfolding opening_at
opening-range words = pass (First IsVerb) (kind_at words) _ (λ kind. tt)

bring-range : (words : List (List ℕ)) → Gets IsVerb (bring_at words)
unfolding bring_at
bring-range words = pass (First IsVerb) (kind_at words) _ (λ kind. tt)

up-range : (words : List (List ℕ)) → Gets IsVerb (up_at words)
unfolding up_at
up-range words = pass (First IsVerb) (after_word (codes "ts") words) _ (λ rest. tt)

present-range : (words : List (List ℕ)) → Gets IsVerb (present_at words)
unfolding present_at
present-range words =
    after IsEarliest (First IsVerb) _ _ (earliest-range words) (λ earliest rest e.
    after IsLatest (First IsVerb) _ _ (latest-range rest) (λ latest end l.
    record { earliest = e; latest = l; actual = tt }))

close-range : (words : List (List ℕ)) → Gets IsVerb (close_at words)
unfolding close_at
close-range words = pass (First IsVerb) (kind_at words) _ (λ kind. tt)

session-range : (name words : _) → Gets IsVerb (session_at name words)
unfolding session_at
session-range name words =
    either (First IsVerb) (bytes_eq name (codes "open")) _ _ (opening-range words)
    (either (First IsVerb) (bytes_eq name (codes "text")) _ _ (bring-range words)
    (either (First IsVerb) (bytes_eq name (codes "up")) _ _ (up-range words)
    (either (First IsVerb) (bytes_eq name (codes "present")) _ _ (present-range words)
    (either (First IsVerb) (bytes_eq name (codes "close")) _ _ (close-range words) (viewer-range name words)))))

timelines-range : (name words : _) → Gets IsVerb (timelines_at name words)
unfolding timelines_at
timelines-range name words =
    either (First IsVerb) (bytes_eq name (codes "print")) _ _ (print-range words)
    (either (First IsVerb) (bytes_eq name (codes "programme")) _ _ (due-range _ (programme-range words))
    (either (First IsVerb) (bytes_eq name (codes "timeline")) _ _ (due-range _ (timeline-range words))
    (session-range name words)))

operands-range : (name words : _) → Gets IsVerb (operands_at name words)
unfolding operands_at
operands-range name words =
    either (First IsVerb) (bytes_eq name (codes "ask")) _ _ (ask-range words)
    (either (First IsVerb) (bytes_eq name (codes "take")) _ _ (take-range words)
    (either (First IsVerb) (bytes_eq name (codes "give")) _ _ (give-range words)
    (either (First IsVerb) (bytes_eq name (codes "land")) _ _ (land-range words)
    (either (First IsVerb) (bytes_eq name (codes "wall")) _ _ (wall-range words) (timelines-range name words)))))

verb-range : (words : List (List ℕ)) → Gets IsVerb (verb_at words)
unfolding verb_at
verb-range words = pass (First IsVerb) (word_at words) _ (λ name. operands-range name.0 name.1)

second_verb-range : (words : List (List ℕ)) → Gets IsVerb (second_verb_at words)
unfolding second_verb_at
second_verb-range words =
    pass (First IsVerb) (word_at words) _ (λ name.
    either (First IsVerb) (bytes_eq name.0 (codes "sleep")) _ _ tt (operands-range name.0 name.1))

-- ---- lines
-- a line of version 1 in its ranges
pub record IsFirstLine (line : Line) : Type 0 where
  pub range : IsLine line
  pub of : IsFirst line

-- two facts of what is read
two : {A : Type 0} (One Other : A → Type 0) (read : Result (Front A) LineFault) → Gets One read → Gets Other read
    → Gets (λ value. One value × Other value) read
two One Other (Ok front) h k = (h, k)
two One Other (Err fault) h k = tt

words-range : (words : List (List ℕ)) → IfOk (line_of_words words) IsFirstLine
unfolding line_of_words
words-range words =
    after IsTime IsFirstLine _ _ (time-range words) (λ t after_t ht.
    after IsTime IsFirstLine _ _ (time-range after_t) (λ w after_w hw.
    after IsTime IsFirstLine _ _ (time-range after_w) (λ l after_l hl.
    after (λ verb. IsVerb verb × IsAwake verb) IsFirstLine _ _
    (two IsVerb IsAwake (verb_at after_l) (verb-range after_l) (verb-awake after_l)) (λ verb end hv.
    pass IsFirstLine (all_read end) _ (λ done. record {
      range = record { t = ht; w = hw; l = hl; verb = hv.0 };
      of = record { who = refl; awake = hv.1 };
    })))))

-- every line of version 1 that is read is in range
pub lines_are_in_range : (bytes : List ℕ) (line : Line) → line_of bytes ≡ Ok line → IsFirstLine line
lines_are_in_range bytes line e = ok-range IsFirstLine (line_of bytes) line (words-range (words_of bytes)) e

-- a line of version 2 in its ranges
record IsSecondLine (companions : ℕ) (line : Line) : Type 0 where
  range : IsLine line
  of : IsSecond companions line

-- what passes the test of whose a line is
named_own : (who l : ℕ) (verb : Verb) → is_named who l verb ≡ true → is_own verb ≡ true → 1 ≤ who
named_own who l verb named own = by (who == 0) refl named
  where
    positive : (n : ℕ) → (n ≡ 0 → ⊥) → 1 ≤ n
    positive n apart = omega arith

    by : (b : Bool) → (who == 0) ≡ b → (not b || (l == 0 && not (is_own verb))) ≡ true → 1 ≤ who
    by true e h =
        let none : not (is_own verb) ≡ true = (both (l == 0) (not (is_own verb)) h).1 in
        absurd (let no : false ≡ true = ap not (sym own) ∙ none in cc)
    by false e h = positive who (eqb-false who 0 e)

named_none : (who l : ℕ) (verb : Verb) → is_named who l verb ≡ true → who ≡ 0 → l ≡ 0
named_none who l verb named none =
    let test : (not (who == 0) || (l == 0 && not (is_own verb))) ≡ true = named in
    let zero : (who == 0) ≡ true = eq-eqb who 0 none in
    let rest : (l == 0 && not (is_own verb)) ≡ true =
    ap (λ b. not b || (l == 0 && not (is_own verb))) (sym zero) ∙ test in
    eqb-true l 0 (both (l == 0) (not (is_own verb)) rest).0

second-range : (companions : ℕ) (words : List (List ℕ))
    → IfOk (lines.second_of_words companions words) (IsSecondLine companions)
unfolding lines.second_of_words
second-range companions words =
    let Out = IsSecondLine companions in
    after IsTime Out _ _ (time-range words) (λ t after_t ht.
    after IsTime Out _ _ (time-range after_t) (λ w after_w hw.
    after (λ n. n < companions + 1) Out _ _ (number-range (companions + 1) after_w) (λ who after_who hk.
    after IsTime Out _ _ (time-range after_who) (λ l after_l hl.
    after IsVerb Out _ _ (second_verb-range after_l) (λ verb end hv.
    pass Out (all_read end) _ (λ done.
    where_true Out (is_named who l verb) _ (λ named. record {
      range = record { t = ht; w = hw; l = hl; verb = hv };
      of = record { who = omega (arith, hk); own = named_own who l verb named; none = named_none who l verb named };
    })))))))

-- so is that of a call that answers it
first_range : (words : List (List ℕ)) (answer : Result Line LineFault)
    → GivesBy (λ line. line) Memory answer (line_of_words words) → IfOk answer IsLine
first_range words answer e = by answer (answer-range IsFirstLine answer (line_of_words words) (words-range words) e)
  where
    by : (answer : Result Line LineFault) → IfOk answer IsFirstLine → IfOk answer IsLine
    by (Ok line) h = h.range
    by (Err fault) h = tt

-- and it is of version 1
first_is_first : (words : List (List ℕ)) (answer : Result Line LineFault)
    → GivesBy (λ line. line) Memory answer (line_of_words words) → IfOk answer IsFirst
first_is_first words answer e = by answer (answer-range IsFirstLine answer (line_of_words words) (words-range words) e)
  where
    by : (answer : Result Line LineFault) → IfOk answer IsFirstLine → IfOk answer IsFirst
    by (Ok line) h = h.of
    by (Err fault) h = tt

-- the same of version 2
pub second_line_range : (companions : ℕ) (words : List (List ℕ)) (answer : Result Line LineFault)
    → GivesBy (λ line. line) Memory answer (lines.second_of_words companions words) → IfOk answer IsLine
second_line_range companions words answer e =
    by answer
    (answer-range (IsSecondLine companions) answer (lines.second_of_words companions words)
    (second-range companions words) e)
  where
    by : (answer : Result Line LineFault) → IfOk answer (IsSecondLine companions) → IfOk answer IsLine
    by (Ok line) h = h.range
    by (Err fault) h = tt

pub second_is_second : (companions : ℕ) (words : List (List ℕ)) (answer : Result Line LineFault)
    → GivesBy (λ line. line) Memory answer (lines.second_of_words companions words) → IfOk answer (IsSecond companions)
second_is_second companions words answer e =
    by answer
    (answer-range (IsSecondLine companions) answer (lines.second_of_words companions words)
    (second-range companions words) e)
  where
    by : (answer : Result Line LineFault) → IfOk answer (IsSecondLine companions) → IfOk answer (IsSecond companions)
    by (Ok line) h = h.of
    by (Err fault) h = tt

-- ---- by the version
-- what one function reads for both versions is the line of the one
same_line : (first : Bool) (companions : ℕ) (words : List (List ℕ)) → lines.line_by first companions words
    ≡ (if first then line_of_words words else lines.second_of_words companions words)
unfolding lines.line_by lines.verb_in line_of_words lines.second_of_words verb_at second_verb_at
same_line true companions words = refl
same_line false companions words = refl

pub by_version : (first : Bool) (companions : ℕ) (words : List (List ℕ)) (answer : Result Line LineFault)
    → GivesBy (λ line. line) Memory answer (lines.line_by first companions words)
    → GivesBy (λ line. line) Memory answer
    (if first then line_of_words words else lines.second_of_words companions words)
by_version first companions words answer e =
    subst (λ (expected : Result Line LineFault). GivesBy (λ line. line) Memory answer expected)
    (same_line first companions words) e

pub line_range : (first : Bool) (companions : ℕ) (words : List (List ℕ)) (answer : Result Line LineFault)
    → GivesBy (λ line. line) Memory answer
    (if first then line_of_words words else lines.second_of_words companions words) → IfOk answer IsLine
line_range true companions words answer e = first_range words answer e
line_range false companions words answer e = second_line_range companions words answer e

pub line_is_of : (first : Bool) (companions : ℕ) (words : List (List ℕ)) (answer : Result Line LineFault)
    → GivesBy (λ line. line) Memory answer
    (if first then line_of_words words else lines.second_of_words companions words)
    → IfOk answer (IsOf first companions)
line_is_of true companions words answer e = first_is_first words answer e
line_is_of false companions words answer e = second_is_second companions words answer e

-- ---- lines of a script
-- a viewer's command has no reading yet
due_command-range : (name words : _) → Gets IsDue (due_command_at name words)
unfolding due_command_at
due_command-range name words =
    after IsCommand (First IsDue) _ _ (command-range name words) (λ command rest c.
    record { range = record { reading = omega arith; command = c }; scripted = refl })

script_operands-range : (name words : _) → Gets IsDue (script_operands_at name words)
unfolding script_operands_at
script_operands-range name words =
    either (First IsDue) (bytes_eq name (codes "programme")) _ _ (programme-range words)
    (either (First IsDue) (bytes_eq name (codes "timeline")) _ _ (timeline-range words) (due_command-range name words))

script_verb-range : (words : List (List ℕ)) → Gets IsDue (script_verb_at words)
unfolding script_verb_at
script_verb-range words = pass (First IsDue) (word_at words) _ (λ name. script_operands-range name.0 name.1)

script_words-range : (words : List (List ℕ)) → IfOk (script_of_words words) IsScriptLine
unfolding script_of_words
script_words-range words =
    after IsTime IsScriptLine _ _ (time-range words) (λ due after_due d.
    after IsDue IsScriptLine _ _ (script_verb-range after_due) (λ verb end v.
    pass IsScriptLine (all_read end) _ (λ done. record { due = d; verb = v.range; scripted = v.scripted })))

-- the line of a script that a call answers is in range
pub script_in_range : (bytes : List ℕ) (answer : Result ScriptLine LineFault)
    → GivesBy (λ script. script) Memory answer (script_of bytes) → IfOk answer IsScriptLine
script_in_range bytes answer e =
    answer-range IsScriptLine answer (script_of bytes) (script_words-range (words_of bytes)) e
