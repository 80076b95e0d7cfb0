-- An input as steps: each line with the number of its line feeds, which the last line may lack.
use Rattle.std.proofs.Common.{◌≡◌, ℕ, ◌+◌, ◌≤◌, ap, sym, subst, ◌∙◌, refl, Bool, true, false, cond, List, [], ◌∷◌, ◌++◌}
use Rattle.std.proofs.Common.{length, map, append_assoc, append-nil, arith, ltb}
use Rattle.std.specs.Prelude.{Option, Some, None, Result, Ok, Err, not, ◌||◌}
use Rattle.std.proofs.lemmas.List.Sums.{AllPass-from_list_all, sum_by_push}
use Rattle.css_lines.specs.Meaning.{Meaning, Outcome, refused_at, followed_from, followed_by, offset, is_long}
use Rattle.css_lines.specs.Meaning.{reader_outcome, line_outcome, outcome_from, finish_outcome, end_outcome, outcome}
use Rattle.css_lines.specs.declared.reader.Refusal.TheVariants.{Long}
use Rattle.css_lines.proofs.Cut.{whole_lines_is, last_part_is, whole_from, last_from, whole_from-free, last_from-free}
use Rattle.css_lines.proofs.Meant.{followed_by-assoc}
use Rattle.css_laws.proofs.Names.{flat_map, list_all, All-nil, All-push, All-weaker, nat_tests, is_feed, whole_lines}
use Rattle.css_laws.proofs.Names.{last_part, HasNoFeed, Refusal}

-- ---- steps
-- a line with its line feed
abbrev pub with_feed : List ℕ → List ℕ × ℕ
with_feed line = (line, 1)

-- the last line, which lacks its line feed, where it has a byte
abbrev pub unfed : List ℕ → List (List ℕ × ℕ)
unfed [] = []
unfed (byte ∷ bytes) = (byte ∷ bytes, 0) ∷ []

-- lines with their line feeds, and a last one without
abbrev pub steps_of : List (List ℕ) → List ℕ → List (List ℕ × ℕ)
steps_of [] last = unfed last
steps_of (line ∷ lines) last = with_feed line ∷ steps_of lines last

-- what becomes of these after the lines before them
abbrev pub ran : {C : Type 0} → Meaning C → List (List ℕ) → List (List ℕ × ℕ) → Outcome C
ran meaning before [] = finish_outcome meaning before
ran meaning before (step ∷ steps) =
    followed_by (line_outcome meaning before step.0 (offset before + length step.0 + step.1))
    (ran meaning (before ++ step.0 ∷ []) steps)

-- the last line
end-ran : {C : Type 0} (meaning : Meaning C) (before : List (List ℕ)) (last : List ℕ)
    → end_outcome meaning before last ≡ ran meaning before (unfed last)
end-ran meaning before [] = refl
end-ran meaning before (byte ∷ bytes) =
    let e : offset before + length (byte ∷ bytes) + 0 ≡ offset before + length (byte ∷ bytes) = omega arith in
    simp e

run-ran : {C : Type 0} (meaning : Meaning C) (before lines : List (List ℕ)) (last : List ℕ)
    → followed_by (outcome_from meaning before lines) (end_outcome meaning (before ++ lines) last)
    ≡ ran meaning before (steps_of lines last)
run-ran meaning before [] last =
    ap (λ (b : List (List ℕ)). end_outcome meaning b last) (append-nil before) ∙ end-ran meaning before last
run-ran meaning before (line ∷ lines) last =
    let first = line_outcome meaning before line (offset before + length line + 1) in
    followed_by-assoc first (outcome_from meaning (before ++ line ∷ []) lines)
    (end_outcome meaning (before ++ line ∷ lines) last)
    ∙ ap (λ (b : List (List ℕ)). followed_by first (followed_by (outcome_from meaning (before ++ line ∷ []) lines)
    (end_outcome meaning b last))) (sym (append_assoc before (line ∷ []) lines))
    ∙ ap (followed_by first) (run-ran meaning (before ++ line ∷ []) lines last)

-- an input is its steps
pub outcome-ran : {C : Type 0} (meaning : Meaning C) (bytes : List ℕ)
    → outcome meaning bytes ≡ ran meaning [] (steps_of (whole_lines bytes) (last_part bytes))
unfolding outcome
outcome-ran meaning bytes = run-ran meaning [] (whole_lines bytes) (last_part bytes)

-- ---- lines joined
-- no line feed stands in bytes, by a test
pub free-by : (bytes : List ℕ) → list_all (λ byte. not (is_feed byte)) bytes ≡ true → HasNoFeed bytes
free-by bytes test =
    All-weaker (λ byte. not (is_feed byte) ≡ true) (λ byte. is_feed byte ≡ false) (λ byte h. other (is_feed byte) h)
    bytes (AllPass-from_list_all (λ byte. not (is_feed byte)) bytes test)
  where
    other : (feed : Bool) → not feed ≡ true → feed ≡ false
    other true h = absurd (cc)
    other false h = refl

-- these lines, each with its line feed
abbrev pub joined : List (List ℕ) → List ℕ
joined lines = flat_map (λ line. line ++ 10 ∷ []) lines

-- no line feed stands in them
abbrev pub AreFree : List (List ℕ) → Type 0
AreFree [] = Unit {0}
AreFree (line ∷ lines) = HasNoFeed line × AreFree lines

joined-whole : (lines : List (List ℕ)) → AreFree lines → whole_from [] (joined lines) ≡ lines
joined-whole [] free = refl
joined-whole (line ∷ lines) free =
    ap (whole_from []) (append_assoc line (10 ∷ []) (joined lines))
    ∙ whole_from-free [] line (10 ∷ joined lines) free.0
    ∙ ap (λ (l : List (List ℕ)). line ∷ l) (joined-whole lines free.1)

joined-last : (lines : List (List ℕ)) → AreFree lines → last_from [] (joined lines) ≡ []
joined-last [] free = refl
joined-last (line ∷ lines) free =
    ap (last_from []) (append_assoc line (10 ∷ []) (joined lines))
    ∙ last_from-free [] line (10 ∷ joined lines) free.0
    ∙ joined-last lines free.1

steps-fed : (lines : List (List ℕ)) → steps_of lines [] ≡ map with_feed lines
steps-fed [] = refl
steps-fed (line ∷ lines) = ap (λ (s : List (List ℕ × ℕ)). with_feed line ∷ s) (steps-fed lines)

-- what becomes of them
pub joined-outcome : {C : Type 0} (meaning : Meaning C) (lines : List (List ℕ)) → AreFree lines
    → outcome meaning (joined lines) ≡ followed_by (outcome_from meaning [] lines) (finish_outcome meaning lines)
unfolding outcome
joined-outcome meaning lines free =
    rw (
      whole_lines_is (joined lines) ∙ joined-whole lines free,
      last_part_is (joined lines) ∙ joined-last lines free,
    ) refl

pub joined-ran : {C : Type 0} (meaning : Meaning C) (lines : List (List ℕ)) → AreFree lines
    → outcome meaning (joined lines) ≡ ran meaning [] (map with_feed lines)
joined-ran meaning lines free =
    joined-outcome meaning lines free ∙ run-ran meaning [] lines [] ∙ ap (ran meaning []) (steps-fed lines)

-- ---- no line feed stands in a step
abbrev pub AreFreeSteps : List (List ℕ × ℕ) → Type 0
AreFreeSteps [] = Unit {0}
AreFreeSteps (step ∷ steps) = HasNoFeed step.0 × AreFreeSteps steps

steps-free : (lines : List (List ℕ)) (last : List ℕ) → AreFree lines → HasNoFeed last
    → AreFreeSteps (steps_of lines last)
steps-free [] [] free end = tt
steps-free [] (byte ∷ bytes) free end = (end, tt)
steps-free (line ∷ lines) last free end = (free.0, steps-free lines last free.1 end)

-- since none stands in a part that bytes are cut into
cut-free : (part bytes : List ℕ) → HasNoFeed part → AreFree (whole_from part bytes) × HasNoFeed (last_from part bytes)
cut-free part [] free = (tt, free)
cut-free part (byte ∷ bytes) free =
    by (is_feed byte) refl (cut-free [] bytes (All-nil (λ b. is_feed b ≡ false)))
    (λ e. cut-free (part ++ byte ∷ []) bytes (All-push (λ b. is_feed b ≡ false) part byte free e))
  where
    by : (feed : Bool) → is_feed byte ≡ feed → AreFree (whole_from [] bytes) × HasNoFeed (last_from [] bytes)
        → (is_feed byte ≡ false → AreFree (whole_from (part ++ byte ∷ []) bytes)
        × HasNoFeed (last_from (part ++ byte ∷ []) bytes))
        → AreFree (cond feed (part ∷ whole_from [] bytes) (whole_from (part ++ byte ∷ []) bytes))
        × HasNoFeed (cond feed (last_from [] bytes) (last_from (part ++ byte ∷ []) bytes))
    by true e after longer = ((free, after.0), after.1)
    by false e after longer = longer e

pub input-free : (bytes : List ℕ) → AreFreeSteps (steps_of (whole_lines bytes) (last_part bytes))
input-free bytes =
    let cut = cut-free [] bytes (All-nil (λ b. is_feed b ≡ false)) in
    steps-free (whole_lines bytes) (last_part bytes) (subst AreFree (sym (whole_lines_is bytes)) cut.0)
    (subst HasNoFeed (sym (last_part_is bytes)) cut.1)

-- ---- what is accepted
-- where nothing is refused of one outcome after another, nothing is of both
pub both-accepted : {C : Type 0} (printed : List ℕ) (verdict : Option (ℕ × Refusal C)) (next : Outcome C)
    → (followed_from printed verdict next).verdict ≡ None → (verdict ≡ None) × (next.verdict ≡ None)
both-accepted printed None next e = (refl, e)
both-accepted printed (Some v) next e = absurd (cc)

-- this is printed for a line, which isn't too long
pub record IsTaken {C : Type 0} (meaning : Meaning C) (before : List (List ℕ)) (line : List ℕ) (end : ℕ) : Type 0 where
  pub printed : List ℕ
  pub short : is_long meaning before line end ≡ false
  pub meant : meaning.line before line ≡ Ok printed

pub line-taken : {C : Type 0} (meaning : Meaning C) (before : List (List ℕ)) (line : List ℕ) (end : ℕ)
    → (line_outcome meaning before line end).verdict ≡ None → IsTaken meaning before line end
line-taken {C = C} meaning before line end e =
    by (is_long meaning before line end) refl (meaning.line before line) refl e
  where
    by : (long : Bool) → is_long meaning before line end ≡ long
        → (answer : Result (List ℕ) C) → meaning.line before line ≡ answer
        → (cond long (refused_at [] (length before + 1) Long) (reader_outcome (length before + 1) answer)).verdict
        ≡ None → IsTaken meaning before line end
    by true is answer same v = absurd (cc)
    by false is (Ok printed) same v = record { printed = printed; short = is; meant = same }
    by false is (Err cause) same v = absurd (cc)

-- what becomes of a line that isn't too long
pub short-line : {C : Type 0} (meaning : Meaning C) (before : List (List ℕ)) (line : List ℕ) (end : ℕ)
    → is_long meaning before line end ≡ false
    → line_outcome meaning before line end ≡ reader_outcome (length before + 1) (meaning.line before line)
short-line meaning before line end short = simp short

-- ---- limits
pub offset-push : (lines : List (List ℕ)) (line : List ℕ)
    → offset (lines ++ line ∷ []) ≡ offset lines + (length line + 1)
offset-push lines line = sum_by_push (λ (l : List ℕ). length l + 1) lines line

-- a line that isn't too long, of an input that isn't
pub within : (most most_input line end : ℕ) → (ltb most line || ltb most_input end) ≡ false
    → (line ≤ most) × (end ≤ most_input)
within most most_input line end e = (grind (arith, nat_tests), grind (arith, nat_tests))

pub not-long : (most most_input line end : ℕ) → line ≤ most → end ≤ most_input
    → (ltb most line || ltb most_input end) ≡ false
not-long most most_input line end a b = grind (arith, nat_tests)
