-- What is printed for a line that a replay accepts keeps the promise. How far texts are read, what is known of a
-- schedule as far as it is read, what a line answers, and that what is printed for texts keeps the promise.
use Rattle.std.proofs.Common.{◌≡◌, ◌≢◌, ℕ, zero, suc, ◌+◌, arith, ap, subst, ◌∙◌, Bool, refl, List, [], ◌∷◌, ◌++◌}
use Rattle.std.proofs.Common.{length, ◌==◌, ◌⊎◌, inl, inr, rules}
use Rattle.std.specs.Prelude.{ℤ, All, unwrap_or, slice_get, Result, Ok, Err, OnOk, Option, Some, None, MatchOption}
use Rattle.std.specs.Option.{option_map}
use Rattle.std.proofs.lemmas.Int.{ints}
use Rattle.std.proofs.lemmas.List.{length-append}
use Rattle.std.proofs.lemmas.Grind.{common_steps}
use Rattle.std.proofs.lemmas.Bool.Decides.{nat_tests}
use Rattle.css_num.specs.Gives.{LeavesBy}
use Rattle.css_model.specs.WallClock.{IsLocal, Answer, Local, IsLeast, scaled_width, narrowest}
use Rattle.css_model.proofs.Narrowest.{narrowest_is_least}
use Rattle.css_outside.specs.Bytes.{IsPrefix}
use Rattle.css_lines.specs.Answers.{Answers}
use Rattle.css_lines.specs.declared.reader.Refusal.{Refusal}
use Rattle.css_lines.specs.declared.reader.Refusal.TheVariants.{Refused}
use Rattle.css_lines.specs.Meaning.{finish_outcome, reader_outcome, outcome, outcome_so_far}
use Rattle.css_lines.proofs.Meant.{prefix_refl, prefix_trans}
use Rattle.css_lines.proofs.Induction.{TakenOf, taken_so_far, taken_in_all}
use Rattle.css_schedule.specs.declared.fault.LineFault.{LineFault}
use Rattle.css_schedule.specs.declared.header.CompanionLine.{CompanionLine}
use Rattle.css_schedule.specs.declared.header.Header.{Header}
use Rattle.css_schedule.specs.declared.header.Start.{Start}
use Rattle.css_schedule.specs.declared.header.Start.TheVariants.{One, Two}
use Rattle.css_schedule.specs.declared.line.Line.{Line}
use Rattle.css_schedule.specs.Headers.{header_of, with_companion}
use Rattle.css_schedule.specs.Ranges.{IsCount, IsGoodHeader, IsPrintableCompanion, IsStart, IsSecond, IsOf, FitsFirst}
use Rattle.css_schedule.specs.Ranges.{IsVersion}
use Rattle.css_schedule.proofs.Adding.{more_companions}
use Rattle.css_schedule.proofs.HeadersInRange.{start_in_range, companion_in_range}
use Rattle.css_schedule.specs.Lines.{line_in}
use Rattle.css_schedule.specs.Words.{words_of}
use Rattle.css_schedule.proofs.InRange.{line_range, line_is_of}
use Rattle.css_schedule.specs.declared.line.Verb.{Verb}
use Rattle.css_schedule.specs.declared.line.Verb.TheVariants.{Wall, Print}
use Rattle.css_companion.specs.Printed as companions
use Rattle.css_companion.specs.Reports.{HasTickOf}
use Rattle.css_companion.specs.declared.report.Report.{Report}
use Rattle.css_companion.specs.declared.report.Report.TheVariants as reports
use Rattle.css_meaning.specs.Happened.{Numbered}
use Rattle.css_meaning.specs.Accepted.{AreAccepted}
use Rattle.css_meaning.specs.Verdicts.{line_meant, local_of, IsDeclared, report_at, assigned_at, printed_for, carried_out}
use Rattle.css_meaning.specs.declared.fault.WorldFault.{WorldFault}
use Rattle.css_meaning.specs.declared.fault.WorldFault.TheVariants.{Memory}
use Rattle.css_meaning.proofs.Worlds.{all-head, all-tail, carried_ok, second_ok}
use Rattle.css_meaning.proofs.Truth.{accepted_lines_are_world, accepted_lines_are_true}
use Rattle.css_meaning.specs.Truth.{IsTrueLine}
use Rattle.css_world.specs.Standing.{World, appended}
use Rattle.css_replay.specs.Replayed.{Extent, Opening, Outset, Running, Unread, after, declared, next_companion, grown}
use Rattle.css_replay.specs.Replayed.{reached, read_from, started, with_line, caused, meant_at, ended_at, read_meant}
use Rattle.css_replay.specs.Replayed.{replayed}
use Rattle.css_replay.specs.Stands.{IsWell, IsWhole, RunsAt, told_of}
use Rattle.css_replay.specs.declared.reader.Cause.{Cause}
use Rattle.css_replay.specs.declared.reader.Cause.TheVariants.{Form}
use Rattle.css_replay.specs.Headline.{AreKept, KeepsPromise, PromiseKept, IsKept, KeepsLine, accepted_before}

-- ---- one line
-- what is printed for a line that was accepted
pub printed_is : (header : Header) (older : List Numbered) (now : Numbered) (printed : List ℕ)
    → carried_out header older now ≡ Ok printed → printed ≡ printed_for header older now now.line.verb
printed_is header older now printed e = grind (arith, common_steps, second_ok)

module _ (header : Header) (older : List Numbered) (now : Numbered) (printed : List ℕ) where
  abbrev own : Local
  own = local_of now.line.who header

  abbrev accepted : List Answer
  accepted = accepted_before header older now

  -- the promise is kept at `print`
  kept-print : (reading : ℕ) (o : Option Answer) (report : Report) (position : Option ℤ)
      → narrowest own reading accepted ≡ o → report_at now.line.who header older reading ≡ report
      → assigned_at now.line.who header older now.line.w ≡ position
      → MatchOption o (accepted ≡ []) (IsLeast (λ answer. scaled_width own answer reading) accepted)
      → printed ≡ companions.line_of now.number report position → HasTickOf report position
      → IsKept header older now (Print reading) printed
  kept-print reading o (reports.None why) position so first told least e c = search rules
  kept-print reading o (reports.Ticks low high) None so first told least e c = absurd c
  kept-print reading None (reports.Ticks low high) (Some position) so first told least e c =
      absurd (let none = rw so at first in cc)
  kept-print reading (Some answer) (reports.Ticks low high) (Some position) so first told least e c =
      let ticks = rw so at first in inl (search rules)

  -- and at each verb
  kept-by : (verb : Verb) → now.line.verb ≡ verb → IsTrueLine header older now
      → printed ≡ printed_for header older now verb → IsKept header older now verb printed
  kept-by (Wall reading) is truth e =
      let least = narrowest_is_least own reading accepted in
      let covers = truth.wall reading is in
      grind (arith, common_steps)
  kept-by (Print reading) is truth e =
      kept-print reading (narrowest own reading accepted) (report_at now.line.who header older reading)
      (assigned_at now.line.who header older now.line.w) refl refl refl (narrowest_is_least own reading accepted) e
      (truth.report reading is)
  kept-by _ is truth e = e

  -- an accepted line keeps the promise
  pub kept_line : IsDeclared header → AreAccepted header (now ∷ older) → line_meant header older now ≡ Ok printed
      → KeepsLine header older now printed
  kept_line declared accepted e =
      let truth = accepted_lines_are_true header older now declared accepted in
      let is = printed_is header older now printed (carried_ok header older now printed e) in
      let kept = kept-by now.line.verb refl truth is in
      search rules

-- a text more is read after those before it
read_from-push : (number : ℕ) (extent : Extent) (texts : List (List ℕ)) (text : List ℕ)
    → read_from number extent (texts ++ text ∷ [])
    ≡ after (number + length texts) (read_from number extent texts) text
read_from-push number extent [] text = grind (arith, common_steps)
read_from-push number extent (t ∷ texts) text =
    let rest = read_from-push (suc number) (after number extent t) texts text in grind (arith, common_steps)

-- so it is from the first on
pub reached-push : (texts : List (List ℕ)) (text : List ℕ)
    → reached (texts ++ text ∷ []) ≡ after (length texts + 1) (reached texts) text
reached-push texts text =
    read_from-push 1 Outset texts text ∙ ap (λ (n : ℕ). after n (reached texts) text) (omega arith)

-- ---- the header
-- the header is whole, or more companions are to come
on_grown : (P : Extent → Type 0) (header : Header) (count : ℕ)
    → (length header.companions ≡ count → P (Running header 2 []))
    → (length header.companions ≢ count → P (Opening header count)) → P (grown header count)
on_grown P header count whole part = grind (arith, nat_tests)

-- each companion's clock is in range, and so is that of a number that no companion has
local-good : (list : List CompanionLine) (place : ℕ) → All IsPrintableCompanion list
    → IsLocal (unwrap_or (option_map (λ companion. companion.local) (slice_get list place))
    (record { error = 0; precision = 0 }))
local-good [] place all = search rules
local-good (companion ∷ list) zero all = search (rules, all-head)
local-good (companion ∷ list) (suc place) all = search (rules, local-good list place, all-tail)

-- a good header is whole
header-whole : (number version : ℕ) (header : Header) → IsGoodHeader header → IsCount (length header.companions)
    → IsVersion version → FitsFirst (version == 1) (length header.companions) → IsWhole number header version []
header-whole number version header good count known fits = search (rules, ints, local-good)

-- with one text more
pub well-after : (number : ℕ) (extent : Extent) (text : List ℕ) → IsWell number extent
    → IsWell (suc number) (after number extent text)
well-after number Outset text well = by (header_of text) refl
  where
    by : (start : Result Start LineFault) → header_of text ≡ start → IsWell (suc number) (started start)
    by (Err fault) is = tt
    by (Ok (One header)) is =
        let range : IsStart (One header) = start_in_range text (Ok (One header)) is in
        header-whole (suc number) 1 header (range.0, range.2) (search rules) (search rules) range.1
    by (Ok (Two header count)) is =
        let range : IsStart (Two header count) = start_in_range text (Ok (Two header count)) is in
        let empty : length header.companions ≡ 0 = ap length range.1 in
        search rules
well-after number (Opening header count) text part = by (next_companion header text) refl
  where
    by : (read : Result CompanionLine LineFault) → next_companion header text ≡ read
        → IsWell (suc number) (declared header count read)
    by (Err fault) is = tt
    by (Ok companion) is =
        let more = with_companion header companion in
        let good = more_companions header companion part.good
        (companion_in_range (length header.companions + 1) text (Ok companion) is) in
        let longer = length-append header.companions (companion ∷ []) in
        on_grown (IsWell (suc number)) more count
        (λ all. header-whole (suc number) 2 more good (search rules) (search rules) (search rules))
        (λ apart. search rules)
well-after number (Running header version lines) text well = grind (arith, common_steps)
well-after number Unread text well = tt

-- and with several
well-from : (number : ℕ) (extent : Extent) (texts : List (List ℕ)) → IsWell number extent
    → IsWell (number + length texts) (read_from number extent texts)
well-from number extent [] well = search rules
well-from number extent (t ∷ texts) well =
    let rest = well-from (suc number) (after number extent t) texts (well-after number extent t well) in
    grind (arith, common_steps)

-- so it is of any schedule, and the number of a text is above those of the lines before it
pub well : (texts : List (List ℕ)) → IsWell (length texts + 1) (reached texts)
well texts = let all = well-from 1 Outset texts tt in grind (arith, common_steps)

-- ---- what is answered
-- a line that was carried out, or was not, answers what is meant
pub answered : (meant : Result (List ℕ) WorldFault) (old new : List ℕ) (result : Result (Unit {0}) WorldFault)
    → LeavesBy Memory result old new (appended old meant) → Answers (caused meant) old new (told_of result)
answered meant old new result e = grind (arith, common_steps)

-- what holds of a line that was carried out holds of what is told of it
pub on_carried : {P : Type 0} (result : Result (Unit {0}) WorldFault) → (result ≡ Ok tt → P) → OnOk (told_of result) P
on_carried result p = grind (arith, common_steps)

-- what is known of the line after these texts
pub whole : {world : World} {version companions : ℕ} (texts : List (List ℕ))
    (runs : RunsAt world version companions (reached texts))
    → IsWhole (length texts + 1) world.header version runs.lines
whole texts runs = subst (IsWell (length texts + 1)) runs.is (well texts)

-- a line of either version is one of so many companions, or the television's alone
pub of-second : (first : Bool) (count : ℕ) (line : Line) → FitsFirst first count → IsOf first count line
    → IsSecond count line
of-second first count line fits of = grind (arith, common_steps)

-- ---- the texts that were taken
-- A schedule was read so far, and this was printed. After its header the lines are accepted, and what was printed keeps
-- the promise.
abbrev TakenAt : Extent → List ℕ → Type 0
TakenAt (Running header version lines) printed = AreAccepted header lines × AreKept header lines printed
TakenAt Unread printed = ⊥
TakenAt _ printed = printed ≡ []

abbrev TakenAll : List (List ℕ) → List ℕ → Type 0
TakenAll texts printed = TakenAt (reached texts) printed

-- what is printed is what the world printed
caused-ok : (meant : Result (List ℕ) WorldFault) (printed : List ℕ) → caused meant ≡ Ok printed → meant ≡ Ok printed
caused-ok meant printed e = grind (arith, common_steps)

-- one text more
taken-at : (number : ℕ) (extent : Extent) (text sofar printed : List ℕ) → IsWell number extent → TakenAt extent sofar
    → meant_at number extent text ≡ Ok printed → TakenAt (after number extent text) (sofar ++ printed)
taken-at number (Running header version lines) text sofar printed well taken e =
    by (line_in version (length header.companions) text) refl e
  where
    by : (read : Result Line LineFault) → line_in version (length header.companions) text ≡ read
        → read_meant header lines number read ≡ Ok printed
        → TakenAt (Running header version (with_line number lines read)) (sofar ++ printed)
    by (Err fault) is e = absurd (cc)
    by (Ok line) is e =
        let now : Numbered = record { number = number; line = line } in
        let count = length header.companions in
        let ok : line_meant header lines now ≡ Ok printed = caused-ok (line_meant header lines now) printed e in
        let range = line_range (version == 1) count (words_of text) (Ok line) is in
        let of = of-second (version == 1) count line well.fits
        (line_is_of (version == 1) count (words_of text) (Ok line) is) in
        let accepted : AreAccepted header (now ∷ lines) = (range, of, well.next, (printed, ok), taken.0) in (
          accepted,
          (sofar, printed, refl, kept_line header lines now printed well.declared accepted ok, taken.1),
        )
taken-at number _ text sofar printed well taken e = grind (arith, common_steps)

taken_text : (before : List (List ℕ)) (text sofar printed : List ℕ) → TakenAll before sofar
    → meant_at (length before + 1) (reached before) text ≡ Ok printed
    → TakenAll (before ++ text ∷ []) (sofar ++ printed)
taken_text before text sofar printed taken e =
    rw (reached-push before text)
    (taken-at (length before + 1) (reached before) text sofar printed (well before) taken e)

-- ---- the whole input
-- nothing is printed at the end, whatever comes of it
finishes : (before : List (List ℕ)) → (verdict : Option (ℕ × Refusal Cause))
    × (finish_outcome replayed before ≡ record { printed = []; verdict = verdict })
finishes before = by (reached before)
  where
    by : (extent : Extent) → (verdict : Option (ℕ × Refusal Cause))
        × (reader_outcome (length before + 1) (ended_at extent) ≡ record { printed = []; verdict = verdict })
    by (Running header version lines) = (None, refl)
    by _ = (Some (length before + 1, Refused Form), refl)

-- what was taken keeps the promise
promise_of : {bytes printed : List ℕ} → TakenOf replayed TakenAll taken_text finishes bytes printed
    → KeepsPromise bytes printed
promise_of {bytes = bytes} {printed = printed} of =
    (printed, prefix_refl printed, by (reached of.texts) refl (well of.texts) of.taken)
  where
    by : (extent : Extent) → reached of.texts ≡ extent → IsWell (length of.texts + 1) extent → TakenAt extent printed
        → (printed ≡ []) ⊎ PromiseKept bytes printed
    by (Running header version lines) is well t =
        let world = accepted_lines_are_world header lines well.declared t.0 in inr (search rules)
    by Unread is well t = absurd t
    by _ is well t = inl t

-- what is printed for whole lines keeps the promise
pub so_far : (bytes : List ℕ) → KeepsPromise bytes (outcome_so_far replayed bytes).printed
so_far bytes = promise_of (taken_so_far replayed TakenAll taken_text finishes refl bytes)

-- so does what is printed for the whole input
pub in_all : (bytes : List ℕ) → KeepsPromise bytes (outcome replayed bytes).printed
in_all bytes = promise_of (taken_in_all replayed TakenAll taken_text finishes refl bytes)

-- a front part keeps it too
pub front_keeps : (bytes front whole : List ℕ) → IsPrefix front whole → KeepsPromise bytes whole
    → KeepsPromise bytes front
front_keeps bytes front whole prefix keeps = (keeps.0, prefix_trans front whole keeps.0 prefix keeps.1, keeps.2)
