-- Every seed and every number of lines can be told, and every number of companions.
use Rattle.std.proofs.Common.{◌≡◌, ◌∙◌, ◌<◌, ◌≤◌, ◌+◌, ◌-◌, ◌*◌, ◌^◌, ℕ, ap, ap₂}
use Rattle.std.proofs.Common.{arith, refl, List, [], ◌∷◌, ◌++◌, Option, Some, None, Result, Ok}
use Rattle.std.proofs.Common.{codes}
use Rattle.std.proofs.lemmas.Bool.Decides.{nat_tests}
use Rattle.std.specs.Fmt.{decimal}
use Rattle.clap.proofs.OnLiterals.{clap_on_literals}
use Rattle.clap.specs.Faults.{fault_of}
use Rattle.clap.specs.Kinds.{Kinds}
use Rattle.clap.specs.Words.{Row, Text, first_of, matches_of}
use Rattle.css_num.proofs.Spellings.{whole_number_of-spelling}
use Rattle.css_words.specs.Commands.{Generate, command_in, named}
use Rattle.css_words.specs.Generator.{GeneratorAsked, generator_app, generator_in, generator_rows}
use Rattle.css_words.specs.Generator.{companions_given}
use Rattle.css_words.specs.Laws.{CompanionsCanBeTold, SchedulesCanBeTold}
use Rattle.css_words.specs.Lines.{least_lines}
use Rattle.css_words.specs.Options.{◌>>=◌, given, number_in, or_usage, rows_in, unless_refused, within}
use Rattle.css_words.specs.declared.fault.WordsFault.{WordsFault}

-- ---- what is told
abbrev words : Text → Text → List Text
words seed lines = codes "generate" ∷ (codes "--seed=" ++ seed) ∷ (codes "--lines=" ++ lines) ∷ []

abbrev more_words : Text → Text → Text → List Text
more_words seed lines companions =
    codes "generate" ∷ (codes "--seed=" ++ seed) ∷ (codes "--lines=" ++ lines)
    ∷ (codes "--companions=" ++ companions) ∷ []

-- no parse refuses these words, and this is what they tell
record Tells (words : List Text) (seed lines companions : Option Text) : Type 0 where
  refused : fault_of generator_app words ≡ []
  seed_so : first_of (codes "seed") (matches_of generator_app words) ≡ seed
  lines_so : first_of (codes "lines") (matches_of generator_app words) ≡ lines
  companions_so : first_of (codes "companions") (matches_of generator_app words) ≡ companions

words_tell : (seed lines : Text) → Tells (words seed lines) (Some seed) (Some lines) None
unfolding clap_on_literals
words_tell seed lines = record { refused = refl; seed_so = refl; lines_so = refl; companions_so = refl }

more_words_tell : (seed lines companions : Text)
    → Tells (more_words seed lines companions) (Some seed) (Some lines) (Some companions)
unfolding clap_on_literals
more_words_tell seed lines companions =
    record { refused = refl; seed_so = refl; lines_so = refl; companions_so = refl }

-- ---- what is asked for
rows_told : (words : List Text) → fault_of generator_app words ≡ []
    → rows_in generator_app words ≡ Ok (matches_of generator_app words)
unfolding rows_in
rows_told words refused = ap (λ (kinds : Kinds). unless_refused kinds (matches_of generator_app words)) refused

-- what these texts ask for
abbrev read : Option Text → Option Text → Option Text → Result GeneratorAsked WordsFault
read seed lines companions =
    given (number_in 0 9223372036854775807) seed >>= λ seed.
    companions_given companions >>= λ companions.
    given (number_in (least_lines companions) 200000) lines >>= λ lines.
    Ok (record { seed = seed; lines = lines; companions = companions })

abbrev read_rows : List Row → Result GeneratorAsked WordsFault
read_rows rows =
    read (first_of (codes "seed") rows) (first_of (codes "lines") rows) (first_of (codes "companions") rows)

asked : (words : List Text) (seed lines companions : Option Text) → Tells words seed lines companions
    → generator_in words ≡ read seed lines companions
unfolding generator_in generator_rows
asked words seed lines companions tells =
    let rows : List Row = matches_of generator_app words in
    ap (λ (r : Result (List Row) WordsFault). r >>= read_rows) (rows_told words tells.refused)
    ∙ ap (λ (s : Option Text). read s (first_of (codes "lines") rows) (first_of (codes "companions") rows))
    tells.seed_so
    ∙ ap₂ (λ (l c : Option Text). read seed l c) tells.lines_so tells.companions_so

-- ---- numbers
in_range : (least most number : ℕ) → least ≤ number → number ≤ most → within least most number ≡ Ok number
in_range least most number low high = grind (arith, nat_tests)

number_told : (least most number : ℕ) → least ≤ number → number ≤ most → number < 2 ^ 64 - 1
    → number_in least most (decimal number) ≡ Ok number
unfolding number_in
number_told least most number low high small =
    let spelled = (whole_number_of-spelling (decimal number) (2 ^ 64 - 1) (omega arith) number).1
    (record { spelling = refl; small = small }) in
    ap (λ (o : Option ℕ). or_usage o >>= within least most) spelled ∙ in_range least most number low high

-- ---- the laws
both_told : (seed lines : ℕ) → seed < 2 ^ 63 → 9 ≤ lines → lines ≤ 200000
    → generator_in (words (decimal seed) (decimal lines))
    ≡ Ok (record { seed = seed; lines = lines; companions = None })
both_told seed lines small some few =
    let first = number_told 0 9223372036854775807 seed (omega arith) (omega arith) (omega arith) in
    let second = number_told 9 200000 lines some few (omega arith) in
    asked _ _ _ _ (words_tell (decimal seed) (decimal lines))
    ∙ ap₂ (λ (s l : Result ℕ WordsFault). s >>= λ seed. l >>= λ lines.
    Ok (record { seed = seed; lines = lines; companions = None })) first second

all_told : (seed lines count : ℕ) → seed < 2 ^ 63 → 2 ≤ count → count ≤ 16 → 4 + 6 * count ≤ lines → lines ≤ 200000
    → generator_in (more_words (decimal seed) (decimal lines) (decimal count))
    ≡ Ok (record { seed = seed; lines = lines; companions = Some count })
all_told seed lines count small two sixteen some few =
    let first = number_told 0 9223372036854775807 seed (omega arith) (omega arith) (omega arith) in
    let second = number_told 2 16 count two sixteen (omega arith) in
    let third = number_told (4 + 6 * count) 200000 lines some few (omega arith) in
    asked _ _ _ _ (more_words_tell (decimal seed) (decimal lines) (decimal count))
    ∙ ap₂ (λ (s c : Result ℕ WordsFault). s >>= λ seed. (c >>= λ count. Ok (Some count)) >>= λ companions.
    number_in (least_lines companions) 200000 (decimal lines) >>= λ lines.
    Ok (record { seed = seed; lines = lines; companions = companions })) first second
    ∙ ap (λ (l : Result ℕ WordsFault). l >>= λ lines.
    Ok (record { seed = seed; lines = lines; companions = Some count })) third

pub schedules_told : SchedulesCanBeTold
unfolding command_in named
schedules_told seed lines small some few =
    ap (λ (r : Result GeneratorAsked WordsFault). r >>= λ asked. Ok (Generate asked))
    (both_told seed lines small some few)

pub companions_told : CompanionsCanBeTold
unfolding command_in named
companions_told seed lines count small two sixteen some few =
    ap (λ (r : Result GeneratorAsked WordsFault). r >>= λ asked. Ok (Generate asked))
    (all_told seed lines count small two sixteen some few)
