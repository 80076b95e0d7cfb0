-- A replay of a generated schedule accepts each line, and prints what is told at it.
use Rattle.std.proofs.Common.{◌≡◌, ℕ, suc, zero, ◌+◌, ◌-◌, ◌*◌, ◌<◌, ◌≤◌, ◌==◌, arith, ap, sym, subst, ◌∙◌, refl, Bool}
use Rattle.std.proofs.Common.{true, false, List, [], ◌∷◌, ◌++◌, length, Option, Some, None, Result, Ok, if◌then◌else◌}
use Rattle.std.proofs.Common.{replicate, eq-eqb, ne_eqb, eqb-true, option_map, option_to_list}
use Rattle.std.proofs.lemmas.Bool.{eqb-false}
use Rattle.std.proofs.lemmas.List.{append-nil}
use Rattle.css_lines.specs.Meaning.{Outcome, outcome, outcome_from, accepted, followed_by, reader_outcome, line_outcome}
use Rattle.css_lines.specs.Meaning.{offset}
use Rattle.css_lines.proofs.Meant.{outcome_from-append}
use Rattle.css_companion.specs.Printed.{line_of}
use Rattle.css_schedule.specs.Lines.{line_in}
use Rattle.css_meaning.specs.Verdicts.{printed_for}
use Rattle.css_meaning.proofs.Worlds.{carried_ok}
use Rattle.css_gen.specs.Generated.{line_numbered, text_numbered, text_in}
use Rattle.css_gen.specs.Opening as opening
use Rattle.css_gen.specs.Second.{second_line, second_text}
use Rattle.css_gen.specs.Standing.{AreSome}
use Rattle.css_gen.proofs.Reading.{generated_read}
use Rattle.css_gen.proofs.SecondReading.{second_read}
use Rattle.css_survey.specs.Generated.{schedule_text, header_for, heading, version_for, line_for, numbered_for}
use Rattle.css_survey.specs.Generated.{generated}
use Rattle.css_survey.specs.Surveyed.{Told, asked_by, told_by, told_at, told_of, told_text, told_in}
use Rattle.css_survey.proofs.Accepted.{generated_accepted}
use Rattle.css_replay.specs.declared.reader.Cause.{Cause}
use Rattle.css_replay.specs.Replayed.{Extent, Opening, Outset, Running, after, caused, declared, ended_at, grown}
use Rattle.css_replay.specs.Replayed.{longest_input, longest_line, meant_at, next_companion, opened, reached}
use Rattle.css_replay.specs.Replayed.{read_meant, replayed, started, version_of, with_line}
use Rattle.css_laws.specs.Generations.{GeneratedSchedulesAreReplayed}
use Rattle.css_laws.proofs.Names.{nat_tests, length-append, length-replicate, replicate_more, flat_map-append}
use Rattle.css_laws.proofs.Names.{HasNoFeed, LineFault, CompanionLine, Header, Start, Line, Verb, Wall, Print}
use Rattle.css_laws.proofs.Names.{header_of, companion_of, with_companion, Numbered, printed_is, reached-push}
use Rattle.css_laws.proofs.Plain.{is_short, IsLineText, line-short, line-plain, line-text, header-short}
use Rattle.css_laws.proofs.Runs.{joined, AreFree, joined-outcome, short-line, offset-push, not-long}

-- ---- what is printed
-- the line of a report, if there is one
abbrev told_line : Option Told → List ℕ
told_line None = []
told_line (Some told) = line_of told.number told.report told.position

-- one report more
told_text-more : (told : Option Told) (older : List Told)
    → told_text (option_to_list told ++ older) ≡ told_text older ++ told_line told
told_text-more None older = sym (append-nil (told_text older))
told_text-more (Some told) older = refl

-- where no line is `wall`, reports alone are printed
printed-told : (header : Header) (older : List Numbered) (now : Numbered) (verb : Verb) → is_short verb ≡ true
    → printed_for header older now verb ≡ told_line (option_map (told_by header older now) (asked_by verb))
printed-told header older now (Print r) short = refl
printed-told header older now (Wall r) short = absurd (cc)
printed-told header older now _ short = refl

-- ---- the texts so far
-- those of the first lines, so many of them
abbrev texts_of : (seed companions lines : ℕ) → List (List ℕ)
texts_of seed companions zero = []
texts_of seed companions (suc lines) = texts_of seed companions lines ++ text_in seed companions (suc lines) ∷ []

schedule-texts : (seed companions lines : ℕ)
    → schedule_text seed companions lines ≡ joined (texts_of seed companions lines)
schedule-texts seed companions zero = refl
schedule-texts seed companions (suc lines) =
    let text = text_in seed companions (suc lines) in
    ap (λ (t : List ℕ). t ++ (text ++ 10 ∷ [])) (schedule-texts seed companions lines)
    ∙ ap (λ (t : List ℕ). joined (texts_of seed companions lines) ++ t) (sym (append-nil (text ++ 10 ∷ [])))
    ∙ sym (flat_map-append (λ line. line ++ 10 ∷ []) (texts_of seed companions lines) (text ∷ []))

free-push : (lines : List (List ℕ)) (line : List ℕ) → AreFree lines → HasNoFeed line → AreFree (lines ++ line ∷ [])
free-push [] line free more = (more, tt)
free-push (first ∷ lines) line free more = (free.0, free-push lines line free.1 more)

-- So many lines were read that far, for which this is printed, and they aren't long.
record AreRead (seed companions lines : ℕ) (extent : Extent) (printed : List ℕ) : Type 0 where
  far : reached (texts_of seed companions lines) ≡ extent
  so_far : outcome_from replayed [] (texts_of seed companions lines) ≡ accepted printed
  count : length (texts_of seed companions lines) ≡ lines
  few : offset (texts_of seed companions lines) ≤ 300 * lines
  free : AreFree (texts_of seed companions lines)

nothing-read : (seed companions : ℕ) → AreRead seed companions 0 Outset []
nothing-read seed companions = record { far = refl; so_far = refl; count = refl; few = omega arith; free = tt }

-- the limits of a version aren't below those of version 1
limits : (version : ℕ) → (4096 ≤ longest_line version) × (67108864 ≤ longest_input version)
limits version = (grind (arith, nat_tests), grind (arith, nat_tests))

-- one line more
one-more : (seed companions lines number : ℕ) (extent next : Extent) (so_far printed : List ℕ) → lines < 200000
    → AreRead seed companions lines extent so_far → suc lines ≡ number → IsLineText (text_in seed companions number)
    → meant_at number extent (text_in seed companions number) ≡ Ok printed
    → after number extent (text_in seed companions number) ≡ next
    → AreRead seed companions number next (so_far ++ printed)
one-more seed companions lines number extent next so_far printed within before is =
    subst (λ (n : ℕ). IsLineText (text_in seed companions n)
    → meant_at n extent (text_in seed companions n) ≡ Ok printed
    → after n extent (text_in seed companions n) ≡ next
    → AreRead seed companions n next (so_far ++ printed)) is more
  where
    more : IsLineText (text_in seed companions (suc lines))
        → meant_at (suc lines) extent (text_in seed companions (suc lines)) ≡ Ok printed
        → after (suc lines) extent (text_in seed companions (suc lines)) ≡ next
        → AreRead seed companions (suc lines) next (so_far ++ printed)
    more plain meant reaches =
        let texts = texts_of seed companions lines in
        let text = text_in seed companions (suc lines) in
        let short = plain.short in
        let few = before.few in
        let count = before.count in
        let end = offset texts + length text + 1 in
        let version = version_of (reached texts) in
        let place : length texts + 1 ≡ suc lines = omega (arith, count) in
        let long = not-long (longest_line version) (longest_input version) (length text) end
        (omega (arith, short, limits version)) (omega (arith, short, few, within, limits version)) in
        let line : line_outcome replayed texts text end ≡ accepted printed =
        short-line replayed texts text end long ∙ simp (place, before.far, meant) in
        record {
          far = simp (reached-push texts text, place, before.far, reaches);
          so_far = simp (outcome_from-append replayed [] texts (text ∷ []), before.so_far, line, append-nil printed);
          count = omega (arith, count, length-append texts (text ∷ []));
          few = omega (arith, few, short, offset-push texts text);
          free = free-push texts text before.free plain.free;
        }

-- ---- the header
-- of one companion
first-read : (seed : ℕ) → AreRead seed 1 1 (Running (header_for 1) 1 []) []
first-read seed =
    let some : AreSome 1 = record { low = omega arith; high = omega arith } in
    let start = (generated_read seed).first in
    one-more seed 1 0 1 Outset (Running (header_for 1) 1 []) [] [] (omega arith) (nothing-read seed 1) refl
    (header-short seed 1 0 some (omega arith)) (ap (opened {T = Start}) start) (ap started start)

-- the text of a line, where there are several
text-second : (seed companions number : ℕ) → (companions ≡ 1 → ⊥)
    → text_in seed companions number ≡ second_text seed companions number
text-second seed companions number several = grind (arith, nat_tests)

-- one companion more
grows-read : (seed companions count : ℕ) (extent : Extent) → AreSome companions → (companions ≡ 1 → ⊥)
    → count < companions → AreRead seed companions (suc count) (Opening (header_for count) companions) []
    → (if suc count == companions then Running (header_for (suc count)) 2 []
    else Opening (header_for (suc count)) companions) ≡ extent
    → AreRead seed companions (suc (suc count)) extent []
grows-read seed companions count extent some several early before is =
    let high = some.high in
    let header = header_for count in
    let text = text_in seed companions (suc (suc count)) in
    let place : suc (suc count) ≡ count + 1 + 1 = omega arith in
    let number : count + 1 ≡ suc count = omega arith in
    let next : next_companion header text ≡ Ok opening.companion =
    ap (λ (n : ℕ). companion_of (n + 1) text) (length-replicate count opening.companion)
    ∙ ap (companion_of (count + 1)) (text-second seed companions (suc (suc count)) several)
    ∙ ap (λ (n : ℕ). companion_of (count + 1) (second_text seed companions n)) place
    ∙ (second_read seed companions some).each (count + 1) (omega arith) (omega (arith, early)) in
    let longer : with_companion header opening.companion ≡ header_for (suc count) =
    ap (λ (list : List CompanionLine). record opening.header { companions = list })
    (replicate_more count opening.companion ∙ ap (λ (n : ℕ). replicate n opening.companion) number) in
    one-more seed companions (suc count) (suc (suc count)) (Opening header companions) extent [] []
    (omega (arith, early, high)) before refl
    (header-short seed companions (suc count) some (grind (arith, nat_tests)))
    (ap (opened {T = CompanionLine}) next)
    (ap (declared header companions) next
    ∙ ap (λ (h : Header). grown h companions) longer
    ∙ ap (λ (n : ℕ). if n == companions then Running (header_for (suc count)) 2 []
    else Opening (header_for (suc count)) companions) (length-replicate (suc count) opening.companion)
    ∙ is)

-- line 1 and the lines of so many companions, but not of all
opening-read : (seed companions count : ℕ) → AreSome companions → (companions ≡ 1 → ⊥) → count < companions
    → AreRead seed companions (suc count) (Opening (header_for count) companions) []
opening-read seed companions zero some several early =
    let start = ap header_of (text-second seed companions 1 several) ∙ (second_read seed companions some).first in
    one-more seed companions 0 1 Outset (Opening (header_for 0) companions) [] [] (omega arith)
    (nothing-read seed companions) refl
    (header-short seed companions 0 some (grind (arith, nat_tests))) (ap (opened {T = Start}) start) (ap started start)
opening-read seed companions (suc count) some several early =
    grows-read seed companions count (Opening (header_for (suc count)) companions) some several (omega (arith, early))
    (opening-read seed companions count some several (omega (arith, early)))
    (ap (λ (b : Bool). if b then Running (header_for (suc count)) 2 [] else Opening (header_for (suc count)) companions)
    (ne_eqb (suc count) companions (λ e. omega (arith, e, early))))

-- and of all
whole-read : (seed companions : ℕ) → AreSome companions → (companions ≡ 1 → ⊥)
    → AreRead seed companions (suc companions) (Running (header_for companions) 2 []) []
whole-read seed zero some several = absurd (let low = some.low in omega (arith, low))
whole-read seed (suc count) some several =
    grows-read seed (suc count) count (Running (header_for (suc count)) 2 []) some several (omega arith)
    (opening-read seed (suc count) count some several (omega arith))
    (ap (λ (b : Bool). if b then Running (header_for (suc count)) 2 [] else Opening (header_for (suc count))
    (suc count))
    (eq-eqb (suc count) (suc count) refl))

heading-read : (seed companions : ℕ) → AreSome companions
    → AreRead seed companions (heading companions) (Running (header_for companions) (version_for companions) []) []
heading-read seed companions some = by (companions == 1) refl
  where
    by : (one : Bool) → (companions == 1) ≡ one → AreRead seed companions (if one then 1 else companions + 1)
        (Running (header_for companions) (if one then 1 else 2) []) []
    by true e =
        subst (λ (n : ℕ). AreRead seed n 1 (Running (header_for n) 1 []) []) (sym (eqb-true companions 1 e))
        (first-read seed)
    by false e =
        let number : suc companions ≡ companions + 1 = omega arith in
        subst (λ (n : ℕ). AreRead seed companions n (Running (header_for companions) 2 []) []) number
        (whole-read seed companions some (eqb-false companions 1 e))

-- ---- the lines after it
-- a text is read as the line
line_read : (seed companions number : ℕ) → AreSome companions → heading companions < number → number ≤ 200000
    → line_in (version_for companions) companions (text_in seed companions number)
    ≡ Ok (line_for seed companions number)
line_read seed companions number some late few = by (companions == 1) late
  where
    by : (one : Bool) → (if one then 1 else companions + 1) < number → line_in (if one then 1 else 2) companions
        (if one then text_numbered seed number else second_text seed companions number)
        ≡ Ok (if one then line_numbered seed number else second_line seed companions number)
    by true late = (generated_read seed).others number (omega (arith, late)) few
    by false late = (second_read seed companions some).others number (omega (arith, late)) few

-- what is told at the lines after the header, so many of them
abbrev told_after : (seed companions count : ℕ) → List Told
told_after seed companions count = told_of (header_for companions) (generated seed companions count)

-- reports are printed for them
all-read : (seed companions count : ℕ) → AreSome companions → heading companions + count ≤ 200000
    → AreRead seed companions (heading companions + count)
    (Running (header_for companions) (version_for companions) (generated seed companions count))
    (told_text (told_after seed companions count))
unfolding generated
all-read seed companions zero some few =
    let none : heading companions ≡ heading companions + 0 = omega arith in
    subst (λ (n : ℕ). AreRead seed companions n (Running (header_for companions) (version_for companions) []) []) none
    (heading-read seed companions some)
all-read seed companions (suc count) some few =
    let header = header_for companions in
    let version = version_for companions in
    let older = generated seed companions count in
    let number = heading companions + suc count in
    let line = line_for seed companions number in
    let now = numbered_for seed companions number in
    let some_heading : 1 ≤ heading companions = grind (arith, nat_tests) in
    let all = (generated_accepted seed companions (suc count) some (omega (arith, few, some_heading))).accepted in
    let taken = all.3 in
    let short = line-short seed companions number in
    let text = text_in seed companions number in
    let high = some.high in
    let who : line.who ≤ companions =
    subst (λ (n : ℕ). line.who ≤ n) (length-replicate companions opening.companion) all.1.who in
    let printed : taken.0 ≡ told_line (told_at header older now) =
    printed_is header older now taken.0 (carried_ok header older now taken.0 taken.1)
    ∙ printed-told header older now line.verb short in
    let plain : IsLineText text =
    subst IsLineText (sym (line-text seed companions number (omega arith)))
    (line-plain version line all.0 (omega (arith, who, high)) short) in
    let read : line_in version (length header.companions) text ≡ Ok line =
    ap (λ (n : ℕ). line_in version n text) (length-replicate companions opening.companion)
    ∙ line_read seed companions number some (omega arith) few in
    let told : told_text (told_after seed companions count) ++ taken.0
    ≡ told_text (told_after seed companions (suc count)) =
    ap (λ (p : List ℕ). told_text (told_of header older) ++ p) printed
    ∙ sym (told_text-more (told_at header older now) (told_of header older)) in
    subst (AreRead seed companions number (Running header version (generated seed companions (suc count)))) told
    (one-more seed companions (heading companions + count) number (Running header version older)
    (Running header version (now ∷ older)) (told_text (told_after seed companions count)) taken.0 (omega (arith, few))
    (all-read seed companions count some (omega (arith, few))) (omega arith) plain
    (ap (λ (r : Result Line LineFault). read_meant header older number r) read ∙ ap caused taken.1)
    (ap (λ (r : Result Line LineFault). Running header version (with_line number older r)) read))

-- ---- the whole
pub generated_replayed : GeneratedSchedulesAreReplayed
unfolding told_in
generated_replayed seed companions lines some enough few =
    let count = lines - heading companions in
    let all : heading companions + count ≡ lines = omega (arith, enough) in
    let texts = texts_of seed companions (heading companions + count) in
    let read = all-read seed companions count some (omega (arith, enough, few)) in
    let told = told_text (told_after seed companions count) in
    ap (λ (n : ℕ). outcome replayed (schedule_text seed companions n)) (sym all)
    ∙ ap (outcome replayed) (schedule-texts seed companions (heading companions + count))
    ∙ joined-outcome replayed texts read.free
    ∙ ap (λ (o : Outcome Cause). followed_by o (reader_outcome (length texts + 1) (ended_at (reached texts))))
    read.so_far
    ∙ ap (λ (x : Extent). followed_by (accepted told) (reader_outcome (length texts + 1) (ended_at x))) read.far
    ∙ ap accepted (append-nil told)
