-- A replay of a migrated schedule says the same as one of the schedule, line after line.
use Rattle.std.proofs.Common.{◌≡◌, ℕ, ◌+◌, ◌*◌, ◌≤◌, arith, ap, sym, subst, ◌∙◌, refl, List, [], ◌∷◌, ◌++◌, length, map}
use Rattle.std.proofs.Common.{append_assoc, append-nil, Option, Some, None, Result, Ok, Err, eq-eqb, option_map}
use Rattle.css_lines.specs.Meaning.{Outcome, accepted, followed_from, followed_by, offset, reader_outcome, line_outcome}
use Rattle.css_lines.specs.Meaning.{finish_outcome, outcome}
use Rattle.css_schedule.specs.Lines.{line_of, line_in}
use Rattle.css_migrate.specs.declared.migrate.NoLine.{NoLine}
use Rattle.css_meaning.specs.Verdicts.{line_meant}
use Rattle.css_meaning.specs.declared.fault.WorldFault.TheVariants as world
use Rattle.css_replay.specs.declared.reader.Cause.{Cause}
use Rattle.css_replay.specs.Replayed.{Extent, Running, caused, ended_at, longest_input, longest_line, reached, replayed}
use Rattle.css_replay.specs.Replayed.{started, next_companion}
use Rattle.css_laws.specs.Numbers.{raised_lines, raised_fault, Said, said_text, MeanAlike}
use Rattle.css_laws.specs.Raised.{IsRaised, raised_verdict, said_texts, raised_texts, MigratedSchedulesAreReplayedAlike}
use Rattle.css_laws.proofs.Names.{result_map_both, length-append, flat_map-append, whole_lines, last_part, Refusal}
use Rattle.css_laws.proofs.Names.{LineFault, CompanionLine, Header, Start, One, Two, Line, header_of, companion_of, fed}
use Rattle.css_laws.proofs.Names.{line_turned, header_turned, header_becomes, line_becomes, text_becomes, migrated}
use Rattle.css_laws.proofs.Names.{Numbered, WorldFault, reached-push}
use Rattle.css_laws.proofs.Raising.{numbers_raised}
use Rattle.css_laws.proofs.Runs.{with_feed, steps_of, ran, outcome-ran, joined, AreFree, joined-ran, both-accepted}
use Rattle.css_laws.proofs.Runs.{AreFreeSteps, input-free, IsTaken, line-taken, offset-push, within, not-long}
use Rattle.css_laws.proofs.Turned.{line-turned, IsOpened, header-turned, header-lines, start_line, companion_line}

-- ---- outcomes
-- one outcome after another
followed-raised : (a b c d : Outcome Cause) → IsRaised a b → IsRaised c d → IsRaised (followed_by a c) (followed_by b d)
followed-raised a b c d h next =
    subst (λ (v : Option (ℕ × Refusal Cause)). IsRaised (followed_by a c) (followed_from b.printed v d)) (sym h.verdict)
    (by a.verdict)
  where
    by : (v : Option (ℕ × Refusal Cause))
        → IsRaised (followed_from a.printed v c) (followed_from b.printed (option_map raised_verdict v) d)
    by None = record {
      said = h.said ++ next.said;
      printed = ap (λ (p : List ℕ). p ++ c.printed) h.printed
          ∙ ap (λ (p : List ℕ). said_texts h.said ++ p) next.printed
          ∙ sym (flat_map-append (λ (line : ℕ × Said). said_text line.0 line.1) h.said next.said);
      raised = ap (λ (p : List ℕ). p ++ d.printed) h.raised
          ∙ ap (λ (p : List ℕ). raised_texts h.said ++ p) next.raised
          ∙ sym (flat_map-append (λ (line : ℕ × Said). said_text (line.0 + 1) line.1) h.said next.said);
      verdict = next.verdict;
    }
    by (Some v) = record { said = h.said; printed = h.printed; raised = h.raised; verdict = refl }

-- nothing is printed and nothing is refused
nothing-raised : IsRaised (accepted []) (accepted [])
nothing-raised = record { said = []; printed = refl; raised = refl; verdict = refl }

-- what a line that is read means
meant-raised : (number : ℕ) (meant next_meant : Result (List ℕ) WorldFault) → MeanAlike number meant next_meant
    → IsRaised (reader_outcome number (caused meant)) (reader_outcome (number + 1) (caused next_meant))
meant-raised number meant next_meant alike = rw (alike.first, alike.second) (by alike.said)
  where
    by : (said : Result Said WorldFault)
        → IsRaised (reader_outcome number (caused (result_map_both (said_text number) (λ fault. fault) said)))
        (reader_outcome (number + 1) (caused (result_map_both (said_text (number + 1)) raised_fault said)))
    by (Ok said) = record {
      said = (number, said) ∷ [];
      printed = sym (append-nil (said_text number said));
      raised = sym (append-nil (said_text (number + 1) said));
      verdict = refl;
    }
    by (Err (world.Player fault)) = record { said = []; printed = refl; raised = refl; verdict = refl }
    by _ = record { said = []; printed = refl; raised = refl; verdict = refl }

-- ---- a line after the header, in a version
-- what is printed for it
line-at : (before : List (List ℕ)) (header : Header) (version : ℕ) (lines : List Numbered) (text : List ℕ) (line : Line)
    (end : ℕ) → reached before ≡ Running header version lines → length header.companions ≡ 1
    → line_in version 1 text ≡ Ok line → length text ≤ longest_line version → end ≤ longest_input version
    → line_outcome replayed before text end
    ≡ reader_outcome (length before + 1)
    (caused (line_meant header lines (record { number = length before + 1; line = line })))
line-at before header version lines text line end at one read fits inside =
    simp (at, not-long (longest_line version) (longest_input version) (length text) end fits inside, one, read)

-- and how far the schedule is read with it
line-reached : (before : List (List ℕ)) (header : Header) (version : ℕ) (lines : List Numbered) (text : List ℕ)
    (line : Line) → reached before ≡ Running header version lines → length header.companions ≡ 1
    → line_in version 1 text ≡ Ok line → reached (before ++ text ∷ [])
    ≡ Running header version (record { number = length before + 1; line = line } ∷ lines)
line-reached before header version lines text line at one read = simp (reached-push before text, at, one, read)

-- Both replays are after the header: that of the schedule after lines of version 1, and that of the migrated one after
-- the same lines of version 2, the number of each of which is raised by one.
record Follows (before turns : List (List ℕ)) (header : Header) (lines : List Numbered) : Type 0 where
  first : reached before ≡ Running header 1 lines
  second : reached turns ≡ Running header 2 (raised_lines lines)
  one : length header.companions ≡ 1
  count : length turns ≡ length before + 1
  small : offset turns ≤ 2 * offset before
  rest : (text : List ℕ) → migrated.line before text ≡ line_becomes text (line_of text)

-- the line that is read, and what it becomes
record IsRead (text printed : List ℕ) : Type 0 where
  line : Line
  read : line_of text ≡ Ok line
  becomes : printed ≡ fed (line_turned text)

line-read : (text printed : List ℕ) → line_becomes text (line_of text) ≡ Ok printed → IsRead text printed
line-read text printed e = by (line_of text) refl e
  where
    by : (answer : Result Line LineFault) → line_of text ≡ answer → line_becomes text answer ≡ Ok printed
        → IsRead text printed
    by (Err fault) same p = absurd (cc)
    by (Ok line) same p = record { line = line; read = same; becomes = cc p }

rest-push : (before : List (List ℕ)) (text next : List ℕ)
    → text_becomes (before ++ text ∷ []) next ≡ line_becomes next (line_of next)
rest-push [] text next = refl
rest-push (first ∷ before) text next = refl

-- what becomes of these steps, and of the lines that the migration makes of them
record AreAlike (before turns : List (List ℕ)) (steps : List (List ℕ × ℕ)) : Type 0 where
  texts : List (List ℕ)
  free : AreFree texts
  printed : (ran migrated before steps).printed ≡ joined texts
  alike : IsRaised (ran replayed before steps) (ran replayed turns (map with_feed texts))

-- nothing is left to be read
end-printed : (before : List (List ℕ)) → (finish_outcome migrated before).verdict ≡ None
    → (finish_outcome migrated before).printed ≡ []
end-printed [] e = absurd (cc)
end-printed (first ∷ before) e = refl

-- what a line becomes is printed first
line-printed : (before : List (List ℕ)) (text : List ℕ) (end : ℕ) (rest : Outcome NoLine)
    → (taken : IsTaken migrated before text end) → (first : List ℕ) (texts all : List (List ℕ)) → taken.printed ≡ first
    → rest.printed ≡ joined texts → first ++ joined texts ≡ joined all
    → (followed_by (line_outcome migrated before text end) rest).printed ≡ joined all
line-printed before text end rest taken first texts all becomes more is =
    simp (taken.short, taken.meant, becomes, more) is

joined-one : (line : List ℕ) (lines : List (List ℕ)) → fed line ++ joined lines ≡ joined (line ∷ lines)
joined-one line lines = refl

-- all lines
steps-alike : (before turns : List (List ℕ)) (header : Header) (lines : List Numbered) (steps : List (List ℕ × ℕ))
    → Follows before turns header lines → AreFreeSteps steps → (ran migrated before steps).verdict ≡ None
    → AreAlike before turns steps
steps-alike before turns header lines [] at free e = record {
  texts = [];
  free = tt;
  printed = end-printed before e;
  alike = rw (
    ap (λ (x : Extent). reader_outcome (length before + 1) (ended_at x)) at.first,
    ap (λ (x : Extent). reader_outcome (length turns + 1) (ended_at x)) at.second,
  ) nothing-raised;
}
steps-alike before turns header lines (step ∷ steps) at free e =
    let text = step.0 in
    let end = offset before + length text + step.1 in
    let first = line_outcome migrated before text end in
    let rest = ran migrated (before ++ text ∷ []) steps in
    let parts = both-accepted first.printed first.verdict rest e in
    let taken = line-taken migrated before text end parts.0 in
    let read = line-read text taken.printed (sym (at.rest text) ∙ taken.meant) in
    let line = read.line in
    let out = line_turned text in
    let turn = line-turned text line free.0 read.read in
    let size = turn.size in
    let least = turn.least in
    let limits = within 4096 67108864 (length text) end taken.short in
    let n = length before + 1 in
    let number : length turns + 1 ≡ n + 1 = ap (λ (c : ℕ). c + 1) at.count in
    let now : Numbered = record { number = n; line = line } in
    let more = steps-alike (before ++ text ∷ []) (turns ++ out ∷ []) header (now ∷ lines) steps (record {
      first = line-reached before header 1 lines text line at.first at.one read.read;
      second = simp (line-reached turns header 2 (raised_lines lines) out line at.second at.one turn.back, at.count);
      one = at.one;
      count = omega (arith, at.count, length-append before (text ∷ []), length-append turns (out ∷ []));
      small = omega (arith, at.small, offset-push before text, offset-push turns out, size, least);
      rest = λ next. rest-push before text next;
    }) free.1 parts.1 in
    let one : IsRaised (line_outcome replayed before text end)
    (line_outcome replayed turns out (offset turns + length out + 1)) =
    rw (
      line-at before header 1 lines text line end at.first at.one read.read limits.0 limits.1,
      line-at turns header 2 (raised_lines lines) out line (offset turns + length out + 1) at.second at.one turn.back
          (omega (arith, size, limits.0)) (omega (arith, at.small, size, least, limits.1)),
      number,
    ) (meant-raised n (line_meant header lines now) _ (numbers_raised header lines now)) in
    record {
      texts = out ∷ more.texts;
      free = (turn.free, more.free);
      printed = line-printed before text end rest taken (fed out) more.texts (out ∷ more.texts) read.becomes
          more.printed (joined-one out more.texts);
      alike = followed-raised (line_outcome replayed before text end)
          (line_outcome replayed turns out (offset turns + length out + 1))
          (ran replayed (before ++ text ∷ []) steps)
          (ran replayed (turns ++ out ∷ []) (map with_feed more.texts)) one more.alike;
    }

-- ---- line 1
-- nothing is printed for it, be it a header of version 1 or 2
start-nothing : (text : List ℕ) (start : Start) (end : ℕ) → header_of text ≡ Ok start → length text ≤ 4096
    → end ≤ 67108864 → line_outcome replayed [] text end ≡ accepted []
start-nothing text start end read fits inside = simp (not-long 4096 67108864 (length text) end fits inside, read)

-- A replay of the migrated schedule after its two lines: nothing is printed for the second one either.
record HasBegun (text : List ℕ) (header : Header) : Type 0 where
  one : length header.companions ≡ 1
  whole : reached (start_line text ∷ companion_line text ∷ []) ≡ Running header 2 []
  nothing : (end : ℕ) → length (companion_line text) ≤ 4352 → end ≤ 134217728
      → line_outcome replayed (start_line text ∷ []) (companion_line text) end ≡ accepted []

has-begun : (text : List ℕ) (header : Header) → IsOpened text header → HasBegun text header
has-begun text header is =
    let a = start_line text in
    let b = companion_line text in
    let none : length is.bare.companions ≡ 0 = ap (λ (l : List CompanionLine). length l) is.alone in
    let all : length (is.bare.companions ++ is.companion ∷ []) ≡ 1 =
    omega (arith, none, length-append is.bare.companions (is.companion ∷ [])) in
    let next : next_companion is.bare b ≡ Ok is.companion = ap (λ (n : ℕ). companion_of (n + 1) b) none ∙ is.next in
    record {
      one = ap (λ (h : Header). length h.companions) (sym is.whole) ∙ all;
      whole = simp (is.start, next, eq-eqb (length (is.bare.companions ++ is.companion ∷ [])) 1 all, is.whole);
      nothing = λ end fits inside. simp (is.start, not-long 4352 134217728 (length b) end fits inside, next);
    }

-- the header that is read, and what it becomes
record IsStart (text printed : List ℕ) : Type 0 where
  header : Header
  read : header_of text ≡ Ok (One header)
  becomes : printed ≡ fed (header_turned text)

start-read : (text printed : List ℕ) → header_becomes text (header_of text) ≡ Ok printed → IsStart text printed
start-read text printed e = by (header_of text) refl e
  where
    by : (answer : Result Start LineFault) → header_of text ≡ answer → header_becomes text answer ≡ Ok printed
        → IsStart text printed
    by (Err fault) same p = absurd (cc)
    by (Ok (Two bare count)) same p = absurd (cc)
    by (Ok (One header)) same p = record { header = header; read = same; becomes = cc p }

-- the two lines are printed before the others
joined-two : (a b : List ℕ) (more : List (List ℕ)) → joined (a ∷ b ∷ []) ++ joined more ≡ joined (a ∷ b ∷ more)
joined-two a b more = simp append_assoc

-- line 1 and all lines after it
all-alike : (steps : List (List ℕ × ℕ)) → AreFreeSteps steps → (ran migrated [] steps).verdict ≡ None
    → AreAlike [] [] steps
all-alike [] free e = absurd (cc)
all-alike (step ∷ steps) free e =
    let text = step.0 in
    let none : offset [] ≡ 0 = refl in
    let end = offset [] + length text + step.1 in
    let line = line_outcome migrated [] text end in
    let rest = ran migrated (text ∷ []) steps in
    let parts = both-accepted line.printed line.verdict rest e in
    let taken = line-taken migrated [] text end parts.0 in
    let read = start-read text taken.printed taken.meant in
    let header = read.header in
    let is = header-turned text header free.0 read.read in
    let begun = has-begun text header is in
    let a = start_line text in
    let b = companion_line text in
    let limits = within 4096 67108864 (length text) end taken.short in
    let becomes : taken.printed ≡ joined (a ∷ b ∷ []) = read.becomes ∙ header-lines text in
    let fits = is.first_fits in
    let second_fits = is.second_fits in
    let twice = is.twice in
    let pushed = offset-push (a ∷ []) b in
    let first = offset-push [] a in
    let more = steps-alike (text ∷ []) (a ∷ b ∷ []) header [] steps (record {
      first = ap started read.read;
      second = begun.whole;
      one = begun.one;
      count = omega arith;
      small = omega (arith, none, first, pushed, offset-push [] text, twice);
      rest = λ next. refl;
    }) free.1 parts.1 in
    record {
      texts = a ∷ b ∷ more.texts;
      free = (is.first, (is.second, more.free));
      printed = line-printed [] text end rest taken (joined (a ∷ b ∷ [])) more.texts (a ∷ b ∷ more.texts) becomes
          more.printed (joined-two a b more.texts);
      alike = rw (
        start-nothing text (One header) end read.read limits.0 limits.1,
        start-nothing a (Two is.bare 1) (offset [] + length a + 1) is.start (omega (arith, fits, limits.0))
            (omega (arith, none, fits, limits.0)),
        begun.nothing (offset (a ∷ []) + length b + 1) (omega (arith, second_fits, limits.0))
            (omega (arith, none, first, fits, second_fits, limits.0)),
      ) more.alike;
    }

-- the law
pub replayed_alike : MigratedSchedulesAreReplayedAlike
replayed_alike bytes e =
    let steps = steps_of (whole_lines bytes) (last_part bytes) in
    let all = all-alike steps (input-free bytes)
    (sym (ap (λ (o : Outcome NoLine). o.verdict) (outcome-ran migrated bytes)) ∙ e) in
    let written : (outcome migrated bytes).printed ≡ joined all.texts =
    ap (λ (o : Outcome NoLine). o.printed) (outcome-ran migrated bytes) ∙ all.printed in
    rw (outcome-ran replayed bytes, written, joined-ran replayed all.texts all.free) all.alike
