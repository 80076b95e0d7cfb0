-- What a command took and did, by the words of its command line, and what its end is as a status.
use Rattle.std.proofs.Common.{◌≡◌, ◌∙◌, ℕ, ◌+◌, ◌<◌, ◌≤◌, ℤ, pos, List, [], ◌∷◌, ◌++◌, length, ap, refl, sym, subst}
use Rattle.std.proofs.Common.{arith, rules, append_assoc, append-nil, inl, inr, true, false}
use Rattle.std.specs.Prelude.{◌⊎◌, ◌≢◌, Option, Some, None, Result, Ok, Err, OnOk, All, ⊤}
use Rattle.std.specs.Io.KnownBytes.{IsAtEnd}
use Rattle.std.specs.List.{flat_map}
use Rattle.std.proofs.lemmas.Bool.Decides.{nat_tests}
use Rattle.std.proofs.lemmas.Grind.{common_steps, flat_map-append}
use Rattle.std.proofs.lemmas.List.Elements.{All-nil, All-cons, All-append}
use Rattle.std.proofs.lemmas.List.Sums.{sum_by-append, sum_by-cons}
use Rattle.css_model.specs.History.{History}
use Rattle.css_outside.proofs.Known.{appends_none, consumes_none}
use Rattle.css_outside.specs.Faults.{CountsCall}
use Rattle.css_outside.specs.Outsides.{Counts, with_entries}
use Rattle.css_outside.specs.declared.fault.OutFault.{OutFault}
use Rattle.css_outside.specs.declared.fault.OutFault.TheVariants as fault
use Rattle.css_lines.specs.declared.reader.LineFault as engine
use Rattle.css_lines.specs.declared.reader.Refusal.{Refusal}
use Rattle.css_lines.specs.declared.reader.Refusal.TheVariants.{Long}
use Rattle.css_lines.specs.declared.ending.Stop.{Stop}
use Rattle.css_lines.specs.declared.ending.Stop.TheVariants as stops
use Rattle.css_lines.specs.Ending.{Finishes, RanUntil, SinkCounts, StopsInPiece}
use Rattle.css_lines.specs.Lines.{lines_of, whole_lines, last_part}
use Rattle.css_lines.specs.Meaning.{Meaning, Outcome, followed_from, offset, line_outcome, outcome_from, outcome_so_far}
use Rattle.css_lines.specs.Meaning.{outcome}
use Rattle.css_lines.proofs.Cut.{length_read}
use Rattle.css_lines.proofs.Meant.{outcome-append, outcome_after, some_next, long_input}
use Rattle.css_agree.specs.Agreeing.{agreeing}
use Rattle.css_agree.specs.Naming.{naming}
use Rattle.css_audit.specs.Auditing.{auditing}
use Rattle.css_migrate.specs.Migrated.{migrated}
use Rattle.css_schedule.specs.Lines.{script_of}
use Rattle.css_schedule.specs.Ranges.{IsScriptLine}
use Rattle.css_schedule.specs.declared.fault.LineWhy.{LineWhy}
use Rattle.css_schedule.specs.declared.line.ScriptLine.{ScriptLine}
use Rattle.css_tv.specs.declared.event.TvOut.{TvOut}
use Rattle.css_tv.specs.declared.fault.TvFault.{TvFault}
use Rattle.css_drive.specs.Ends.{CountsDialFaults, CountsNetFault, CountsWriteFault, MayEnd}
use Rattle.css_drive.specs.Proper.{Due, Ends}
use Rattle.css_drive.specs.TvDue.{TvRun, due, due_at, unless_owed, unless_refused as unless_player_refuses}
use Rattle.css_drive.specs.TvProgress.{Place, addresses_in, open_after, progress_of}
use Rattle.css_drive.specs.declared.config.DriveConfig.{DriveConfig}
use Rattle.css_drive.specs.declared.driven.Driven.{Driven}
use Rattle.css_drive.specs.declared.driven.Driven.TheVariants as driven
use Rattle.css_drive.specs.declared.turns.Turns.{Turns}
use Rattle.css_watch.specs.Visits as visits
use Rattle.css_watch.specs.declared.ending.Watched.{Watched}
use Rattle.css_words.specs.Commands.{Asked, Replay, Agree, Audit, Migrate}
use Rattle.css_words.specs.declared.fault.WordsFault.{WordsFault}
use Rattle.css_status.specs.declared.status.Status.{Status}
use Rattle.css_status.specs.declared.status.Status.TheVariants as status
use Rattle.css_status.specs.Ended.{OverLines}
use Rattle.css_status.specs.Ended.{CountsReads, CountsWrites, HasNotFailed, IsNoUsage, stop_status}
use Rattle.css_replay.specs.Ended.{replay_refused}
use Rattle.css_replay.specs.Replayed.{replayed}
use Rattle.css_status.proofs.OverLines.{EndsLines, IsOfLine, line_ends}
use Rattle.css_app.specs.declared.inputs.NoLine.{NoLine}
use Rattle.css_app.specs.declared.inputs.ScriptLines.{ScriptLines}
use Rattle.css_drive_relay.specs.Ran.{IsRelayEnd}
use Rattle.css_app.specs.Commands.{Does, OfAsked}
use Rattle.css_app.specs.Ended.{Stands, Writes, agree_refused, audit_refused, line_in, line_refused, script_in}
use Rattle.css_app.specs.Ended.{script_lines, script_of_lines, unless_refused, why_of}
use Rattle.css_app.specs.Live.{EndsAsDue, EndsAtLastUnlessMemory, Gives, GivesAll, GivesNone, GivesScriptText}
use Rattle.css_app.specs.Live.{GivesUpTo, HasNoScript, IsMadeAsDue, IsScript, PairsAsDue, TellsFaults, TellsOverLines}
use Rattle.css_app.specs.Live.{Uses, driven_status, unused, watched_status, with_child}

-- ---- a run over lines
pub tells_lines : {r r' w w' : ℕ} {result : Status} → EndsLines r r' w w' result → TellsOverLines r r' w w' result
tells_lines ends c s = record {
  reads = ends.reads;
  writes = ends.writes;
  calls = ends.quiet.calls c.faults;
  dials = ends.quiet.dials c.dial_faults;
  spawns = ends.quiet.spawns s;
}

-- ---- texts that are written
pub writes_tells : {r w w' s : ℕ} {c : Counts} (text : List ℕ) (old new : Option (List ℕ)) (result : Status)
    → Writes text old new result → CountsWrites w w' result
    → TellsFaults r r w w' c c s s result
writes_tells text old new result wrote counted = search rules

-- ---- live commands
pub driven_tells : {r w w' s : ℕ} {c c' : Counts} (ended : Driven) → CountsWriteFault w w' ended
    → CountsNetFault c.faults c'.faults ended → CountsDialFaults c.dial_faults c'.dial_faults ended
    → TellsFaults r r w w' c c' s s (driven_status ended)
driven_tells ended wrote called dialled = search rules

-- a run that ended with no failed write
pub unwritten : (ended : Driven) (count : ℕ) → ended ≢ driven.WriteFault → CountsWriteFault count count ended
unwritten ended count none = grind (arith, common_steps)

-- ---- where no device failed
-- an end at which no device failed is one that was due, or memory ran out
pub as_due : {w w' c c' : ℕ} {proper : History → Type 0} {due_of : History → Due} {before now : Option History}
    (history : History) (ended : Driven) → now ≡ with_entries history before → proper history
    → MayEnd (due_of history) ended → CountsWriteFault w w' ended → CountsNetFault c c' ended
    → HasNotFailed w w' → HasNotFailed c c'
    → (driven_status ended ≡ status.Memory) ⊎ IsMadeAsDue proper due_of before now (driven_status ended)
as_due history driven.WriteFault told is_proper ends wrote called nw nc =
    absurd (omega (arith, wrote.risen.risen nw.below, nw.same))
as_due history (driven.NetFault failure) told is_proper ends wrote called nw nc =
    absurd (omega (arith, called.risen.risen nc.below, nc.same))
as_due history driven.Memory told is_proper ends wrote called nw nc = inl refl
as_due history ended told is_proper ends wrote called nw nc =
    inr (record { history = history; told = told; is_proper = is_proper; ended = ended; is_due = ends; tells = refl })

-- no write was to be made
pub no_write : HasNotFailed 0 0
no_write = record { below = omega arith; same = refl }

-- ---- a relay
-- over an outside that didn't fail its last turn was made, or memory ran out
pub relay_last : {c c' : ℕ} (ended : Driven) → IsRelayEnd ended → CountsNetFault c c' ended → HasNotFailed c c'
    → EndsAtLastUnlessMemory (driven_status ended)
relay_last ended kind called nc = grind (arith, common_steps, kind, called, nc)

-- it writes nothing
pub relay_writes : {ended : Driven} → IsRelayEnd ended → ended ≢ driven.WriteFault
relay_writes kind e = subst IsRelayEnd e kind

-- ---- a watch
pub watched_tells : {r w w' s : ℕ} {c c' : Counts} (ended : Watched) → visits.CountsWriteFault w w' ended
    → visits.CountsNetFault c.faults c'.faults ended → visits.CountsDialFaults c.dial_faults c'.dial_faults ended
    → TellsFaults r r w w' c c' s s (watched_status ended)
watched_tells ended wrote called dialled = search rules

-- a watch over devices that didn't fail made its last turn, or memory ran out
pub watched_last : {w w' c c' : ℕ} (ended : Watched) → visits.CountsWriteFault w w' ended
    → visits.CountsNetFault c c' ended → HasNotFailed w w' → HasNotFailed c c'
    → EndsAtLastUnlessMemory (watched_status ended)
watched_last ended wrote called nw nc = grind (arith, common_steps)

-- ---- a television's run dials nobody, and so it never ends as one that reached nobody
-- what is due is another end, or a call
abbrev IsReached : Due → Type 0
IsReached (Ends (driven.Unreachable turns)) = ⊥
IsReached _ = ⊤

reached : (before : ℕ) (refused : Option TvFault) (owed : List TvOut) (run : TvRun) (live : List ℕ) (turns : Turns)
    (place : Place) → IsReached (unless_player_refuses before refused (unless_owed owed (due_at run live turns place)))
reached before refused owed run live turns place = grind (arith, common_steps)

-- so no dial of it fails
pub tv_dials : {before now : ℕ} (run : TvRun) (h : History) (ended : Driven) → MayEnd (due run h) ended → now ≡ before
    → CountsDialFaults before now ended
tv_dials run h (driven.Unreachable turns) ends same =
    let p = progress_of run h in
    absurd (subst IsReached ends
    (reached p.carried p.refused p.owed run (open_after (addresses_in run.config) p.events) p.turns p.place))
tv_dials run h _ ends same = omega (arith, same)

-- ---- a companion's run beside a child: the status of both
pub both_tell : {r r' w w' s s' s'' : ℕ} {c c' : Counts} (ended : Driven) (finished : Result ℤ OutFault)
    → TellsFaults r r' w w' c c' s s'' (driven_status ended) → CountsCall s s' finished
    → TellsFaults r r' w w' c c' s s' (with_child (driven_status ended) finished)
both_tell ended finished told counted = search rules

-- ---- the run of both
-- the run was made to an end that was due, and the child ended
pub pairs_as_due : (config : DriveConfig) (before now : Option History) (companion : Status)
    (finished : Result ℤ OutFault) (old new : ℕ) → EndsAsDue config before now companion
    → CountsCall old new finished → HasNotFailed old new
    → PairsAsDue config before now (with_child companion finished)
pairs_as_due config before now companion finished old new (inl memory) counted none =
    inl (ap (λ (s : Status). with_child s finished) memory)
pairs_as_due config before now companion (Ok ended) old new (inr due) counted none =
    inr (record { companion = companion; due = due; ended = ended; tells = refl })
pairs_as_due config before now companion (Err (fault.Failed failure)) old new (inr due) counted none =
    absurd (omega (arith, counted.risen.risen none.below, none.same))
pairs_as_due config before now status.Done (Err fault.Memory) old new (inr due) counted none = inl refl
pairs_as_due config before now companion (Err fault.Memory) old new (inr due) counted none =
    inr (record { companion = companion; due = due; ended = pos 0; tells = refl })

-- ---- an input that wasn't read
-- What its status says: that the words are those of a command, which fault of a device there was, and, where the input
-- could be read, that memory ran out.
pub record TookNone {T E : Type 0} (reading : List ℕ → Result T E) (left : Option (List ℕ)) (r r' : ℕ)
    (result : Status) : Type 0 where
  pub no_usage : IsNoUsage result
  pub tells : (writes : ℕ) → TellsOverLines r r' writes writes result
  pub lacks : (bytes : List ℕ) (value : T) → left ≡ Some bytes → reading bytes ≡ Ok value → HasNotFailed r r'
      → result ≡ status.Memory

module _ {T Bad : Type 0} (reading : List ℕ → Result T Bad) (refused : Bad → Status)
    (of_line : (bad : Bad) → IsOfLine (refused bad)) where
  pub took_none : {r r' : ℕ} (left : Option (List ℕ)) (result : Status) → GivesNone reading refused left result
      → CountsReads r r' result → TookNone reading left r r' result
  took_none left status.ReadFault none counted = search rules
  took_none left status.Memory none counted = search rules
  took_none left result none counted =
      let of = subst IsOfLine (sym none.1) (of_line none.0) in
      record {
        no_usage = (line_ends {w = 0} result of counted refl).no_usage;
        tells = λ writes. tells_lines (line_ends result of counted refl);
        lacks = λ bytes value is ok n. absurd (let bad = none.2 bytes is in cc);
      }

  -- the run over its lines stopped
  pub none_at : {Cause : Type 0} (meaning : Meaning Cause) (bad : ℕ → Refusal Cause → Bad)
      → ((bytes : List ℕ) (line : ℕ) (why : Refusal Cause) → (outcome meaning bytes).verdict ≡ Some (line, why)
      → reading bytes ≡ Err (bad line why)) → (left left_new old new : Option (List ℕ))
      → ((bad : Bad) → ((bytes : List ℕ) → left ≡ Some bytes → reading bytes ≡ Err bad)
      → GivesNone reading refused left (refused bad)) → (stop : Stop Cause) → SinkCounts 0 0 stop
      → ((bytes : List ℕ) → left ≡ Some bytes → RanUntil meaning bytes left_new old new stop)
      → GivesNone reading refused left (stop_status (λ line why. refused (bad line why)) stop)
  none_at meaning bad is left left_new old new none (stops.BadLine line why) wrote ran =
      none (bad line why) (λ bytes of. is bytes line why (ap (λ (o : Outcome _). o.verdict) (ran bytes of).verdict))
  none_at meaning bad is left left_new old new none stops.WriteFault wrote ran =
      absurd (omega (arith, wrote.risen.risen (omega arith)))
  none_at meaning bad is left left_new old new none _ wrote ran = tt

-- ---- a script
script_of_lines-more : (before : List (List ℕ)) (text : List ℕ) (line : ScriptLine) → script_of text ≡ Ok line
    → script_of_lines (before ++ text ∷ []) ≡ script_of_lines before ++ line ∷ []
unfolding script_of_lines
script_of_lines-more before text line e =
    flat_map-append (λ l. line_in (script_of l)) before (text ∷ [])
    ∙ ap (λ r. flat_map (λ l. line_in (script_of l)) before ++ (line_in r ++ [])) e

-- a reader that has kept a line more stands for one line more
pub stands-more : {T : Type 0} (number : ℕ) (result : Result T (engine.LineFault NoLine)) (old new : ScriptLines)
    (text : List ℕ) (line : ScriptLine) → script_of text ≡ Ok line → IsScriptLine line
    → OnOk result (new.lines.items ≡ old.lines.items ++ line ∷ [])
    → OnOk result ((before : List (List ℕ)) → Stands old before → number ≡ length before + 1
    → Stands new (before ++ text ∷ []))
stands-more number (Ok x) old new text line e range grew = λ before stood is. record {
  lines = grew ∙ ap (λ l. l ++ line ∷ []) stood.lines ∙ sym (script_of_lines-more before text line e);
  each = subst (λ l. All IsScriptLine l) (sym grew)
      (All-append IsScriptLine old.lines.items (line ∷ []) stood.each
      (All-cons IsScriptLine line [] range (All-nil IsScriptLine)));
}
stands-more number (Err x) old new text line e range grew = tt

-- a verdict says that there is no script
pub script-bad : (bytes : List ℕ) (line : ℕ) (why : Refusal NoLine)
    → (outcome script_lines bytes).verdict ≡ Some (line, why) → script_in bytes ≡ Err (line, why_of why)
unfolding script_in
script-bad bytes line why e = ap (λ w. unless_refused w (script_of_lines (lines_of bytes))) e

-- a source that was read to its end gives the script of the reader
pub gives-script : (left_old left_new holds_old holds_new : Option (List ℕ)) (reader : ScriptLines)
    → Finishes script_lines Stands left_old left_new holds_old holds_new reader
    → Gives script_in left_old left_new reader.lines.items
unfolding script_in
gives-script left_old left_new holds_old holds_new reader f = record {
  read = f.read;
  all = record { took = f.took; at_end = f.at_end };
  is = ap (λ (o : Outcome NoLine). unless_refused o.verdict (script_of_lines (lines_of f.read))) f.all
      ∙ ap (λ s. Ok s) (sym f.stood.lines);
}

-- ---- the bytes of a script
-- a source of these bytes that gave all gave these
gave_text : (text read : List ℕ) (now : Option (List ℕ)) → GivesAll (Some text) now read → read ≡ text
gave_text text read None gave = absurd gave.took
gave_text text read (Some rest) gave =
    sym (gave.took ∙ ap (λ r. read ++ r) gave.at_end ∙ append-nil read)

-- so the script that it gave is theirs
pub script_of_text : (left : Option (List ℕ)) (text : List ℕ) (now : Option (List ℕ)) (script : List ScriptLine)
    → left ≡ Some text → Gives script_in left now script → script_in text ≡ Ok script
script_of_text left text now script is gives =
    rw (gave_text text gives.read now (rw is at gives.all)) at gives.is

-- ---- bytes that are too many for a script: the same line of them is refused, whatever follows
-- where nothing is refused in two parts, nothing is in either
accepted_both : (printed : List ℕ) (first : Option (ℕ × Refusal NoLine)) (next : Outcome NoLine)
    → (followed_from printed first next).verdict ≡ None → (first ≡ None) × (next.verdict ≡ None)
accepted_both printed first next none = search (rules, common_steps)

-- a line that ends after too many bytes is refused
within_limit : (before : List (List ℕ)) (line : List ℕ) (end : ℕ)
    → (line_outcome script_lines before line end).verdict ≡ None → end ≤ 67108864
within_limit before line end accepted = grind (arith, nat_tests)

-- so lines of which none is refused are not too many bytes
accepted_within : (before lines : List (List ℕ)) → (outcome_from script_lines before lines).verdict ≡ None
    → offset before ≤ 67108864 → offset (before ++ lines) ≤ 67108864
accepted_within before [] none le = rw append-nil le
accepted_within before (line ∷ lines) none le =
    let end = offset before + length line + 1 in
    let first = line_outcome script_lines before line end in
    let both = accepted_both first.printed first.verdict (outcome_from script_lines (before ++ line ∷ []) lines) none in
    let within = within_limit before line end both.0 in
    let longer = sum_by-append (λ (l : List ℕ). length l + 1) before (line ∷ []) in
    let last = sum_by-cons (λ (l : List ℕ). length l + 1) line [] in
    rw append_assoc at (accepted_within (before ++ line ∷ []) lines both.1 (omega (arith, within, longer, last)))

-- where the same lines come first it is enough that none of them is refused
followed : (printed : List ℕ) (first : Option (ℕ × Refusal NoLine)) (next : List ℕ → Outcome NoLine)
    → (first ≡ None → (bad : ℕ × Refusal NoLine) × ((rest : List ℕ) → (next rest).verdict ≡ Some bad))
    → (bad : ℕ × Refusal NoLine) × ((rest : List ℕ) → (followed_from printed first (next rest)).verdict ≡ Some bad)
followed printed (Some bad) next begun = (bad, λ rest. refl)
followed printed None next begun = begun refl

-- the line that has begun is too long, whatever follows
begun : (whole : List (List ℕ)) (part : List ℕ) → 0 < length part → 67108864 < offset whole + length part
    → (bad : ℕ × Refusal NoLine)
    × ((rest : List ℕ) → (outcome_after script_lines whole part rest).verdict ≡ Some bad)
begun whole part some past = (
  (length whole + 1, Long),
  λ rest.
      let next = some_next script_lines whole part rest some in
      rw (next.is, long_input script_lines whole next.line next.end (omega (arith, past, next.far))) refl,
)

-- Of more bytes than a script has a line is refused, and the same one whatever follows.
long_text : (text : List ℕ) → 67108864 < length text
    → (bad : ℕ × LineWhy) × ((rest : List ℕ) → script_in (text ++ rest) ≡ Err bad)
unfolding outcome_so_far
long_text text past =
    let whole = whole_lines text in
    let part = last_part text in
    let so_far = outcome_so_far script_lines text in
    let refused = followed so_far.printed so_far.verdict (λ rest. outcome_after script_lines whole part rest)
    (λ e. let within = accepted_within [] whole e (omega arith) in
    begun whole part (omega (arith, within, past, length_read text)) (omega (arith, past, length_read text))) in
    let bad = refused.0 in (
      (bad.0, why_of bad.1),
      λ rest. script-bad (text ++ rest) bad.0 bad.1 (rw (outcome-append script_lines text rest) (refused.1 rest)),
    )

-- ---- bytes that were taken first
-- what follows them doesn't count
same_text : (text rest : List ℕ) → (rest ≡ []) ⊎ (67108864 < length text) → script_in (text ++ rest) ≡ script_in text
same_text text rest (inl none) = ap script_in (rw (none, append-nil text) refl)
same_text text rest (inr long) =
    let bad = long_text text long in
    bad.1 rest ∙ sym (rw append-nil at (bad.1 []))

-- what was taken of a source whose bytes are a script is all
pub gives_text : (left now : Option (List ℕ)) (text : List ℕ) → GivesUpTo left now text → IsScript text
    → GivesScriptText left now text
gives_text left now text gives script = record {
  all = record { took = gives.took; at_end = ends gives.reached };
  is_script = script;
}
  where
    ends : IsAtEnd now ⊎ (67108864 < length text) → IsAtEnd now
    ends (inl at_end) = at_end
    ends (inr long) = absurd (let bad = rw append-nil at ((long_text text long).1 []) in let some = script.1 in cc)

-- what was taken reads as all does
same_reading : (left now : Option (List ℕ)) (text : List ℕ) → GivesUpTo left now text → (bytes : List ℕ)
    → left ≡ Some bytes → script_in bytes ≡ script_in text
same_reading None now text gives bytes is = absurd (cc)
same_reading (Some all) None text gives bytes is = absurd gives.took
same_reading (Some all) (Some rest) text gives bytes is =
    let whole : text ++ rest ≡ bytes = (let took = gives.took in cc) in
    rw whole at (same_text text rest gives.reached)

-- a source whose bytes are no script has none
pub no_text : (left now : Option (List ℕ)) (text : List ℕ) (result : Status) → GivesUpTo left now text
    → HasNoScript (Some text) result → HasNoScript left result
no_text left now text status.Memory gives none = tt
no_text left now text status.ReadFault gives none = tt
no_text left now text _ gives none =
    (none.0, none.1, λ bytes is. same_reading left now text gives bytes is ∙ none.2 text refl)

-- ---- what the words ask for
-- what a run came to is so of one that the options ask for
pub as_asked : {None Run : Type 0} {IsAsked Came : Run → Type 0} (run : Run) → IsAsked run → None ⊎ Came run
    → OfAsked None IsAsked Came
as_asked run is (inl none) = inl none
as_asked run is (inr came) = inr (run, is, came)

-- ---- memory ran out before a command began: every device is as it was
module _ {Cause : Type 0} (meaning : Meaning Cause) where
  -- nothing was read, and nothing was printed
  in_nothing : StopsInPiece meaning [] []
  unfolding outcome_so_far whole_lines last_part
  in_nothing = record {
    before = [];
    piece = [];
    cut = refl;
    short = omega arith;
    sound = record { accepted = refl; short = omega arith; within = λ some. omega arith };
    kept = ([], refl);
  }

  over_none : (refused : ℕ → Refusal Cause → Status) (used : Uses)
      → OverLines meaning refused (unused used).source (unused used).sink status.Memory
  over_none refused used = record {
    no_usage = tt;
    reads = λ bytes is. inr (record {
      stop = stops.Memory;
      ran = record {
        read = [];
        rest = bytes;
        cut = refl;
        at = is;
        printed = [];
        grew = appends_none used.sink.holds_old;
        verdict = tt;
        ends = (inl ((outcome_so_far meaning []).printed, refl), in_nothing);
      };
      told = refl;
    });
    complete = λ bytes is accepted read written. tt;
  }

-- whatever the words ask for
lacks : (asked : Result Asked WordsFault) (used : Uses) → Does asked (unused used) status.Memory
lacks (Ok Replay) used = record {
  lines = over_none replayed replay_refused used;
  promise = record {
    read = [];
    printed = [];
    took = consumes_none _;
    grew = appends_none _;
    keeps = ([], ([], refl), inl refl);
  };
}
lacks (Ok (Agree false)) used = record {
  lines = over_none agreeing agree_refused used;
  promise = record { read = []; printed = []; took = consumes_none _; grew = appends_none _; keeps = inl refl };
}
lacks (Ok (Agree true)) used = record {
  lines = over_none naming agree_refused used;
  promise = record { read = []; printed = []; took = consumes_none _; grew = appends_none _; keeps = inl refl };
}
lacks (Ok Audit) used =
    record { lines = over_none auditing audit_refused used; right = λ done. absurd (cc) }
lacks (Ok Migrate) used = over_none migrated line_refused used
lacks _ used = search rules

-- so it is where the devices are known as unused
pub lacks_unused : (asked : Result Asked WordsFault) (used : Uses) → used ≡ unused used → Does asked used status.Memory
lacks_unused asked used same = rw same (lacks asked used)
