-- The texts of a generated schedule are short, and no line feed stands in them.
use Rattle.std.proofs.Common.{◌≡◌, ℕ, suc, ◌+◌, ◌-◌, ◌*◌, ◌^◌, ◌<◌, ◌≤◌, arith, subst, sym, refl, Bool, true, false}
use Rattle.std.proofs.Common.{rules, List, [], ◌∷◌, ◌++◌, length, ◌==◌, ◌&&◌, not, nat_le, pos, negsuc, codes, decimal}
use Rattle.std.proofs.Common.{if◌then◌else◌, leb-true, eqb-true}
use Rattle.std.specs.Fmt.{digits}
use Rattle.std.proofs.lemmas.Fmt.{length-decimal-le}
use Rattle.css_player.specs.declared.command.Command.TheVariants as commands
use Rattle.css_num.specs.declared.protocol.Kind.{Kind}
use Rattle.css_num.specs.declared.protocol.Kind.TheVariants.{Cii, Ts}
use Rattle.css_schedule.proofs.Graphic.{both}
use Rattle.css_schedule.specs.Ranges.{IsVerb, IsLine}
use Rattle.css_printed.proofs.Spaced.{line-free, decimal-solid}
use Rattle.css_printed.specs.Printed.{kind_word, verb_words, clock_words, line_text_in, header_text, companion_words}
use Rattle.css_printed.specs.Printed.{declared_words}
use Rattle.css_gen.specs.Course.{chosen, happening}
use Rattle.css_gen.specs.Crowd.{chosen_of, happening_of}
use Rattle.css_gen.specs.Opening.{header, companion, opening_verb}
use Rattle.css_gen.specs.Generated.{line_numbered, text_numbered, text_in}
use Rattle.css_gen.specs.Second.{second_line, second_text, second_header_text, companion_text, openings, crowd_before}
use Rattle.css_gen.specs.Standing.{AreSome}
use Rattle.css_gen.specs.declared.course.Course.{Course}
use Rattle.css_gen.proofs.Crowds.{crowd-companions}
use Rattle.css_survey.specs.Generated.{heading, version_for, line_for}
use Rattle.css_laws.proofs.Names.{list_all, nat_tests, length-append, All-cons, All-append, is_feed, HasNoFeed, LIMIT}
use Rattle.css_laws.proofs.Names.{with_words, Line, Verb, Ask, Wall, Programme, Timeline, Viewer, Present}
use Rattle.css_laws.proofs.Runs.{free-by}

-- ---- words
-- a word of at most 24 bytes without a line feed
pub record IsPlain (word : List ℕ) : Type 0 where
  pub free : HasNoFeed word
  pub short : length word ≤ 24

abbrev ArePlain : List (List ℕ) → Type 0
ArePlain [] = Unit {0}
ArePlain (word ∷ words) = IsPlain word × ArePlain words

-- by a test
abbrev pub is_plain : List ℕ → Bool
is_plain word = list_all (λ byte. not (is_feed byte)) word && nat_le (length word) 24

plain-by : (word : List ℕ) → is_plain word ≡ true → IsPlain word
plain-by word e =
    let tests = both (list_all (λ byte. not (is_feed byte)) word) (nat_le (length word) 24) e in
    record { free = free-by word tests.0; short = leb-true (length word) 24 tests.1 }

plain-all : (words : List (List ℕ)) → list_all is_plain words ≡ true → ArePlain words
plain-all [] e = tt
plain-all (word ∷ words) e =
    let tests = both (is_plain word) (list_all is_plain words) e in
    (plain-by word tests.0, plain-all words tests.1)

number-plain : (number : ℕ) → number < LIMIT → IsPlain (decimal number)
number-plain number small =
    let fits : number < 2 ^ 64 = omega (arith, small) in
    let short = length-decimal-le 20 number (omega arith) (omega (arith, small)) fits in
    record { free = line-free (decimal number) [] (decimal-solid number fits) tt; short = omega (arith, short) }

kind-plain : (kind : Kind) → IsPlain (kind_word kind)
kind-plain Cii = plain-by (codes "cii") refl
kind-plain Ts = plain-by (codes "ts") refl

both-plain : (first second : List (List ℕ)) → ArePlain first → ArePlain second → ArePlain (first ++ second)
both-plain [] second plain more = more
both-plain (word ∷ first) second plain more = (plain.0, both-plain first second plain.1 more)

-- ---- lines
-- the verbs that are generated, and the texts in them
abbrev pub is_short : Verb → Bool
is_short (Programme id) = is_plain id
is_short (Timeline programme selector rate (pos base)) = is_plain selector && base == 0
is_short (Timeline programme selector rate (negsuc base)) = false
is_short (Viewer reading (commands.Change programme)) = true
is_short (Viewer reading _) = false
is_short (Wall reading) = false
is_short (Present earliest latest) = false
is_short _ = true

chosen-short : (choice : ℕ) (course : Course) → is_short (chosen choice course).verb ≡ true
unfolding chosen
chosen-short choice course = grind arith

opening-short : (number : ℕ) → is_short (opening_verb number) ≡ true
unfolding opening_verb
opening-short number = grind arith

first-short : (seed number : ℕ) → is_short (line_numbered seed number).verb ≡ true
unfolding line_numbered happening
first-short seed number = grind (arith, opening-short, chosen-short)

chosen_of-short : (choice : ℕ) (made : List ℕ) (course : Course) → is_short (chosen_of choice made course).verb ≡ true
unfolding chosen_of
chosen_of-short choice made course = grind (arith, chosen-short)

second-short : (seed companions number : ℕ) → is_short (second_line seed companions number).verb ≡ true
unfolding second_line happening_of
second-short seed companions number = grind (arith, opening-short, chosen_of-short)

pub line-short : (seed companions number : ℕ) → is_short (line_for seed companions number).verb ≡ true
line-short seed companions number = grind (arith, first-short, second-short)

ordinal-plain : (number : ℕ) → number < 4294967296 → IsPlain (decimal number)
ordinal-plain number small = number-plain number (omega (arith, small))

words-plain : (verb : Verb) → IsVerb verb → is_short verb ≡ true → ArePlain (verb_words verb)
words-plain (Wall reading) range e = absurd (cc)
words-plain (Programme id) range e = (plain-by (codes "programme") refl, (plain-by id e, tt))
words-plain (Timeline programme selector rate (pos base)) range e =
    let tests = both (is_plain selector) (base == 0) e in
    let none = eqb-true base 0 tests.1 in
    let name = plain-by (codes "timeline") refl in
    let number = number-plain programme (omega (arith, range.programme.high)) in
    let word = plain-by selector tests.0 in
    let tick = number-plain rate.units_per_tick (omega (arith, range.rate.tick_small)) in
    let second = number-plain rate.units_per_second (omega (arith, range.rate.second_small)) in
    (name, (number, (word, (tick, (second, (number-plain base (omega (arith, none)), tt))))))
words-plain (Timeline programme selector rate (negsuc base)) range e = absurd (cc)
words-plain (Viewer reading (commands.Speed speed)) range e = absurd (cc)
words-plain (Viewer reading (commands.Seek media)) range e = absurd (cc)
words-plain (Present earliest latest) range e = absurd (cc)
words-plain _ range e = (plain-by _ refl, search (rules, number-plain, ordinal-plain, kind-plain))

few-words : (verb : Verb) → length (verb_words verb) ≤ 6
few-words (Ask reading) = omega arith
few-words _ = omega arith

clocks-plain : (first : Bool) (line : Line) → IsLine line → line.who < LIMIT
    → ArePlain (clock_words first line) × (length (clock_words first line) ≤ 3)
clocks-plain true line range who = ((number-plain line.w range.w, (number-plain line.l range.l, tt)), omega arith)
clocks-plain false line range who =
    ((number-plain line.w range.w, (number-plain line.who who, (number-plain line.l range.l, tt))), omega arith)

-- ---- texts
-- a text of at most 299 bytes without a line feed
pub record IsLineText (text : List ℕ) : Type 0 where
  pub free : HasNoFeed text
  pub short : length text ≤ 299

with_words-text : (text : List ℕ) (words : List (List ℕ)) → HasNoFeed text → ArePlain words
    → HasNoFeed (with_words text words) × (length (with_words text words) ≤ length text + 25 * length words)
with_words-text text [] free plain = (free, omega arith)
with_words-text text (word ∷ words) free plain =
    let more = with_words-text (text ++ 32 ∷ word) words
    (All-append (λ byte. is_feed byte ≡ false) text (32 ∷ word) free
    (All-cons (λ byte. is_feed byte ≡ false) 32 word refl plain.0.free)) plain.1 in
    (more.0, omega (arith, more.1, length-append text (32 ∷ word), plain.0.short))

-- a word and up to 11 more are such a text
words-text : (word : List ℕ) (words : List (List ℕ)) → IsPlain word → ArePlain words → length words ≤ 11
    → IsLineText (with_words word words)
words-text word words plain more few =
    let text = with_words-text word words plain.free more in
    record { free = text.0; short = omega (arith, text.1, plain.short, few) }

-- the text of a line in a version
pub line-plain : (version : ℕ) (line : Line) → IsLine line → line.who < LIMIT → is_short line.verb ≡ true
    → IsLineText (line_text_in version line)
line-plain version line range who e =
    let clocks = clocks-plain (version == 1) line range who in
    let before = clock_words (version == 1) line in
    words-text (decimal line.t) (before ++ verb_words line.verb) (number-plain line.t range.t)
    (both-plain before (verb_words line.verb) clocks.0 (words-plain line.verb range.verb e))
    (omega (arith, length-append before (verb_words line.verb), clocks.1, few-words line.verb))

-- the header of one companion, and the lines of that of several
header-plain : IsLineText (header_text header)
unfolding digits
header-plain = record {
  free = free-by (header_text header) refl;
  short = leb-true (length (header_text header)) 299 refl;
}

second_header-plain : (companions : ℕ) → companions ≤ 16 → IsLineText (second_header_text companions)
unfolding digits
second_header-plain companions few =
    words-text (codes "css-schedule") (codes "2" ∷ declared_words header (decimal companions ∷ []))
    (plain-by (codes "css-schedule") refl)
    (both-plain (codes "2" ∷ declared_words header []) (decimal companions ∷ [])
    (plain-all (codes "2" ∷ declared_words header []) refl) (number-plain companions (omega (arith, few)), tt))
    (omega arith)

companion-plain : (who : ℕ) → who ≤ 16 → IsLineText (companion_text who)
unfolding digits
companion-plain who few =
    words-text (codes "companion") (decimal who ∷ companion_words companion) (plain-by (codes "companion") refl)
    (number-plain who (omega (arith, few)), plain-all (companion_words companion) refl) (omega arith)

-- the crowd has so many companions
same-crowd : (seed companions number : ℕ) → (crowd_before seed companions number).companions ≡ companions
same-crowd seed companions number = crowd-companions seed companions (number - (openings companions + 1))

-- a line of the header
abbrev header_line : (companions before : ℕ) → Bool → Bool → List ℕ
header_line companions before one first =
    if one then header_text header else if first then second_header_text companions else companion_text before

header-line : (seed companions before : ℕ) → before < heading companions
    → text_in seed companions (suc before) ≡ header_line companions before (companions == 1) (before == 0)
unfolding text_numbered second_text
header-line seed companions before early =
    let is = same-crowd seed companions (suc before) in
    grind (arith, nat_tests, is)

pub header-short : (seed companions before : ℕ) → AreSome companions → before < heading companions
    → IsLineText (text_in seed companions (suc before))
header-short seed companions before some early =
    subst IsLineText (sym (header-line seed companions before early)) (by (companions == 1) (before == 0))
  where
    few : before ≤ 16
    few = let high = some.high in grind (arith, nat_tests)

    by : (one first : Bool) → IsLineText (header_line companions before one first)
    by true first = header-plain
    by false true = second_header-plain companions some.high
    by false false = companion-plain before few

pub line-text : (seed companions number : ℕ) → heading companions < number
    → text_in seed companions number ≡ line_text_in (version_for companions) (line_for seed companions number)
unfolding text_numbered line_numbered second_text second_line
line-text seed companions number late =
    let is = same-crowd seed companions number in
    grind (arith, nat_tests, is)
