-- Lines that are printed are read back.
use Rattle.std.proofs.Common.{◌≡◌, ℕ, ◌≤◌, arith, ap, subst, refl, sym, ◌∙◌, Bool, true, false, List, [], ◌∷◌, ◌++◌}
use Rattle.std.specs.Prelude.{if◌then◌else◌, ◌==◌, ◌||◌, ◌&&◌, not, Ok, codes, decimal}
use Rattle.std.proofs.lemmas.Bool.{eqb-true, eq-eqb}
use Rattle.css_player.specs.declared.command.Command.TheVariants.{Change, Speed, Seek}
use Rattle.css_printed.proofs.NumbersBack.{good, time-back, up_to-back}
use Rattle.css_printed.proofs.Spaced.{decimal-solid, words_of-with_words}
use Rattle.css_printed.proofs.VerbsBack.{reading-solid, verb-back, verb-solid}
use Rattle.css_schedule.specs.declared.line.Line.{Line}
use Rattle.css_schedule.specs.declared.line.Verb.{Verb}
use Rattle.css_schedule.specs.declared.line.Verb.TheVariants as verbs
use Rattle.css_schedule.specs.Words.{words_of}
use Rattle.css_schedule.specs.Headers.{max_companions}
use Rattle.css_schedule.specs.Lines as lines
use Rattle.css_schedule.specs.Lines.{verb_at, second_verb_at, line_of_words, line_of, line_in}
use Rattle.css_schedule.specs.Owners.{is_sleep, is_own, is_named}
use Rattle.css_schedule.specs.Words.{with_words}
use Rattle.css_printed.specs.Printed.{verb_words, line_text, clock_words, line_text_in}
use Rattle.css_schedule.specs.Ranges.{IsVerb, IsLine, IsFirst, IsSecond, IsOf}

-- ---- lines of version 1
-- the words of a line are read back
words-back : (line : Line) → IsLine line → IsFirst line
    → line_of_words (decimal line.t ∷ decimal line.w ∷ decimal line.l ∷ verb_words line.verb) ≡ Ok line
unfolding line_of_words
words-back line h first =
    rw (
      time-back line.t (decimal line.w ∷ decimal line.l ∷ verb_words line.verb) h.t,
      time-back line.w (decimal line.l ∷ verb_words line.verb) h.w,
      time-back line.l (verb_words line.verb) h.l,
      verb-back line.verb h.verb first.awake,
    ) (ap (λ (who : ℕ). good (record { t = line.t; w = line.w; who = who; l = line.l; verb = line.verb }))
    (sym first.who))

-- so is its text
pub line_text-back : (line : Line) → IsLine line → IsFirst line → line_of (line_text line) ≡ Ok line
line_text-back line h first =
    ap line_of_words (words_of-with_words (decimal line.t) (decimal line.w ∷ decimal line.l ∷ verb_words line.verb)
    (reading-solid line.t h.t) (reading-solid line.w h.w, (reading-solid line.l h.l, verb-solid line.verb h.verb)))
    ∙ words-back line h first

-- and what a call writes, where it writes the text
pub line_back : (line : Line) (text : List ℕ) → IsLine line → IsFirst line → text ≡ line_text line
    → line_of text ≡ Ok line
line_back line text h first e = ap line_of e ∙ line_text-back line h first

-- ---- lines of version 2
-- a verb other than a sleep is read as in version 1
second_verb-same : (verb : Verb) → is_sleep verb ≡ false → second_verb_at (verb_words verb) ≡ verb_at (verb_words verb)
unfolding second_verb_at verb_at
second_verb-same (verbs.Ask reading) awake = refl
second_verb-same (verbs.Take request reading) awake = refl
second_verb-same (verbs.Give take reading) awake = refl
second_verb-same (verbs.Land datagram reading) awake = refl
second_verb-same (verbs.Wall reading) awake = refl
second_verb-same (verbs.Print reading) awake = refl
second_verb-same (verbs.Programme content_id) awake = refl
second_verb-same (verbs.Timeline programme selector rate base) awake = refl
second_verb-same (verbs.Viewer reading (Change programme)) awake = refl
second_verb-same (verbs.Viewer reading (Speed speed)) awake = refl
second_verb-same (verbs.Viewer reading (Seek media)) awake = refl
second_verb-same (verbs.Opening kind) awake = refl
second_verb-same (verbs.Bring kind) awake = refl
second_verb-same verbs.Up awake = refl
second_verb-same (verbs.Present earliest latest) awake = refl
second_verb-same (verbs.Close kind) awake = refl
second_verb-same verbs.Sleep awake = absurd (cc)

sleep-back : second_verb_at (codes "sleep" ∷ []) ≡ Ok (verbs.Sleep, [])
unfolding second_verb_at
sleep-back = refl

-- what is no sleep isn't `Sleep`
only_sleep : (verb : Verb) → is_sleep verb ≡ true → verb ≡ verbs.Sleep
only_sleep (verbs.Ask reading) e = absurd (cc)
only_sleep (verbs.Take request reading) e = absurd (cc)
only_sleep (verbs.Give take reading) e = absurd (cc)
only_sleep (verbs.Land datagram reading) e = absurd (cc)
only_sleep (verbs.Wall reading) e = absurd (cc)
only_sleep (verbs.Print reading) e = absurd (cc)
only_sleep (verbs.Programme content_id) e = absurd (cc)
only_sleep (verbs.Timeline programme selector rate base) e = absurd (cc)
only_sleep (verbs.Viewer reading command) e = absurd (cc)
only_sleep (verbs.Opening kind) e = absurd (cc)
only_sleep (verbs.Bring kind) e = absurd (cc)
only_sleep verbs.Up e = absurd (cc)
only_sleep (verbs.Present earliest latest) e = absurd (cc)
only_sleep (verbs.Close kind) e = absurd (cc)
only_sleep verbs.Sleep e = refl

second_verb-back : (verb : Verb) → IsVerb verb → second_verb_at (verb_words verb) ≡ Ok (verb, [])
second_verb-back verb h = by (is_sleep verb) refl
  where
    by : (b : Bool) → is_sleep verb ≡ b → second_verb_at (verb_words verb) ≡ Ok (verb, [])
    by true e =
        let same : verb ≡ verbs.Sleep = only_sleep verb e in
        subst (λ (v : Verb). second_verb_at (verb_words v) ≡ good (v, [])) (sym same) sleep-back
    by false e = second_verb-same verb e ∙ verb-back verb h e

-- the line passes the test of whose it is
named-back : (companions : ℕ) (line : Line) → IsSecond companions line → is_named line.who line.l line.verb ≡ true
named-back companions line h = by (line.who == 0) refl (is_own line.verb) refl
  where
    by : (b : Bool) → (line.who == 0) ≡ b → (own : Bool) → is_own line.verb ≡ own
        → (not b || (line.l == 0 && not own)) ≡ true
    by false e own o = refl
    by true e false o = ap (λ c. c && true) (eq-eqb line.l 0 (h.none (eqb-true line.who 0 e)))
    by true e true o = absurd (omega (arith, h.own o, eqb-true line.who 0 e))

-- the words of a line of version 2
abbrev second_line_words : Line → List (List ℕ)
second_line_words line = decimal line.w ∷ decimal line.who ∷ decimal line.l ∷ verb_words line.verb

second_words-back : (most companions : ℕ) (line : Line) → IsLine line → IsSecond most line → line.who ≤ companions
    → companions ≤ max_companions
    → lines.second_of_words companions (decimal line.t ∷ second_line_words line) ≡ Ok line
unfolding lines.second_of_words
second_words-back most companions line h second within few =
    rw (
      time-back line.t (second_line_words line) h.t,
      time-back line.w (decimal line.who ∷ decimal line.l ∷ verb_words line.verb) h.w,
      up_to-back companions line.who (decimal line.l ∷ verb_words line.verb) (omega (arith, few)) within,
      time-back line.l (verb_words line.verb) h.l,
      second_verb-back line.verb h.verb,
      named-back most line second,
    ) refl

second_line-back : (most companions : ℕ) (line : Line) → IsLine line → IsSecond most line → most ≤ max_companions
    → line.who ≤ companions → companions ≤ max_companions
    → lines.second_of_words companions (words_of (with_words (decimal line.t) (second_line_words line))) ≡ Ok line
second_line-back most companions line h second top within few =
    let who = second.who in
    ap (lines.second_of_words companions) (words_of-with_words (decimal line.t) (second_line_words line)
    (reading-solid line.t h.t) (
      reading-solid line.w h.w,
      (
        decimal-solid line.who (omega (arith, who, top)),
        (reading-solid line.l h.l, verb-solid line.verb h.verb),
      ),
    ))
    ∙ second_words-back most companions line h second within few

-- ---- lines of both versions
-- what a call writes is read back, where it writes the text
pub line_back_in : (version : ℕ) (line : Line) (text : List ℕ) → IsLine line → IsOf (version == 1) max_companions line
    → text ≡ line_text_in version line
    → (companions : ℕ) → line.who ≤ companions → companions ≤ max_companions
    → line_in version companions text ≡ Ok line
line_back_in version line text h of e companions within few = by (version == 1) of e
  where
    by : (b : Bool) → IsOf b max_companions line
        → text ≡ with_words (decimal line.t) (clock_words b line ++ verb_words line.verb)
        → (if b then line_of text else lines.second_of_words companions (words_of text)) ≡ Ok line
    by true of e = ap line_of e ∙ line_text-back line h of
    by false of e =
        ap (λ t. lines.second_of_words companions (words_of t)) e
        ∙ second_line-back max_companions companions line h of (omega arith) within few
