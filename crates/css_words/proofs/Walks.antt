-- Which words a parse refuses, wherever they stand.
use Rattle.std.proofs.Common.{◌≡◌, ◌⊎◌, ◌∙◌, ◌||◌, ◌&&◌, inl, inr, ℕ, Bool, true, false, cond, refl, ap, ap₂, sym}
use Rattle.std.proofs.Common.{subst, true≢false, List}
use Rattle.std.proofs.Common.{[], ◌∷◌, ◌++◌, Option, Some, None, codes, map}
use Rattle.std.specs.Prelude.{find, is_some, not}
use Rattle.std.specs.List.{list_any}
use Rattle.std.specs.Str.{bytes_eq}
use Rattle.clap.specs.Faults.{flag_word_fault, long_fault, step_fault, turn_fault, use_fault, walk_fault}
use Rattle.clap.specs.Faults.{settle_fault, word_fault}
use Rattle.clap.specs.Kinds.{Kinds, or_else}
use Rattle.clap.specs.Lexer.{long_of, short_of}
use Rattle.clap.specs.Simple.{Shape, filled, filled_from, help_rule, with_index}
use Rattle.clap.specs.Walk.{Held, Outcome, Rule, Step, Text, Waiting, Walk, after_flag, after_step, arg_by_index}
use Rattle.clap.specs.Walk.{arg_by_long, done, has_long, idle, long_or_other, next, option, plain, plain_word}
use Rattle.clap.specs.Walk.{positional, refused, settled, short_or_plain, subcommand, trailing}
use Rattle.clap.specs.Walk.{bundle, long_met, value, waits, walked, walked_from, word_met}
use Rattle.clap.specs.declared.builder.action.ArgAction.{ArgAction}
use Rattle.clap.specs.declared.builder.action.ArgAction.TheVariants.{Set, SetTrue}
use Rattle.css_words.specs.Options.{arg_rule}

-- something is refused
abbrev pub IsRefusal : Kinds → Type 0
IsRefusal [] = ⊥
IsRefusal (kind ∷ kinds) = Unit {0}

pub at_once : (kinds more : Kinds) → IsRefusal kinds → IsRefusal (or_else kinds more)
at_once [] more h = absurd h
at_once (kind ∷ kinds) more h = tt

pub neither : (a b : Bool) → (a || b) ≡ false → (a ≡ false) × (b ≡ false)
neither true b h = absurd (true≢false h)
neither false b h = (refl, h)

later : (kinds more : Kinds) → IsRefusal more → IsRefusal (or_else kinds more)
later [] more h = h
later (kind ∷ kinds) more h = tt

-- ---- where the walk stands between two words
-- options may still come
pub record MayGoOn (walk : Walk) : Type 0 where
  pub within : walk.is_trailing ≡ false
  pub whole : walk.stopped ≡ None

-- a word that leaves it so
abbrev GoesOn : Step → Type 0
GoesOn (next waiting) = Unit {0}
GoesOn value = Unit {0}
GoesOn _ = ⊥

abbrev pub HasNoPositional : List Rule → Type 0
HasNoPositional rules = (i : ℕ) → arg_by_index rules i ≡ None

abbrev pub IsNoDashes : Text → Type 0
IsNoDashes word = bytes_eq word (45 ∷ 45 ∷ []) ≡ false

plain_goes : (rules : List Rule) (waiting : Waiting) (word : Text) (held : Held)
    → GoesOn (plain_word rules waiting word held).1
plain_goes rules idle word held = tt
plain_goes rules (option id) word held = tt
plain_goes rules positional word held = tt

flag_goes : (rules : List Rule) (waiting : Waiting) (word : Text) (held : Held) (outcome : Outcome)
    → GoesOn (after_flag rules waiting word held outcome).1
flag_goes rules waiting word held done = tt
flag_goes rules waiting word held (waits id) = tt
flag_goes rules waiting word held plain = plain_goes rules waiting word held
flag_goes rules waiting word held refused = plain_goes rules waiting word held

short_goes : (rules : List Rule) (waiting : Waiting) (word : Text) (flags : Option Text) (held : Held)
    → GoesOn (short_or_plain rules waiting word flags held).1
short_goes rules waiting word None held = plain_goes rules waiting word held
short_goes rules waiting word (Some flags) held =
    flag_goes rules waiting word (bundle rules flags held).0 (bundle rules flags held).1

long_goes : (rules : List Rule) (waiting : Waiting) (word : Text) (name : Option (Text × Option Text)) (held : Held)
    → GoesOn (long_or_other rules waiting word name held).1
long_goes rules waiting word None held = short_goes rules waiting word (short_of word) held
long_goes rules waiting word (Some name) held =
    let met = long_met rules (arg_by_long rules name.0) name.1 held in flag_goes rules waiting word met.0 met.1

dashes_go : (rules : List Rule) (waiting : Waiting) (position : ℕ) (word : Text) (held : Held) (b : Bool) → b ≡ false
    → GoesOn (cond b (held, trailing position) (long_or_other rules waiting word (long_of word) held)).1
dashes_go rules waiting position word held true h = absurd (true≢false h)
dashes_go rules waiting position word held false h = long_goes rules waiting word (long_of word) held

word_goes : (rules : List Rule) (waiting : Waiting) (position : ℕ) (word : Text) (held : Held) → IsNoDashes word
    → GoesOn (word_met rules [] false waiting position word held).1
word_goes rules idle position word held h =
    dashes_go rules idle position word held (bytes_eq word (45 ∷ 45 ∷ [])) h
word_goes rules (option id) position word held h =
    dashes_go rules (option id) position word held (bytes_eq word (45 ∷ 45 ∷ [])) h
word_goes rules positional position word held h =
    dashes_go rules positional position word held (bytes_eq word (45 ∷ 45 ∷ [])) h

step_goes : (rules : List Rule) → HasNoPositional rules → (word : Text) (walk : Walk) (held : Held) (step : Step)
    → GoesOn step → MayGoOn walk → MayGoOn (after_step rules word walk held step)
step_goes rules none word walk held (next waiting) goes may = record { within = may.within; whole = may.whole }
step_goes rules none word walk held value goes may =
    rw (none walk.position) (record { within = may.within; whole = may.whole })
step_goes rules none word walk held (trailing position) goes may = absurd goes
step_goes rules none word walk held (subcommand name) goes may = absurd goes

-- the walk after a word, by whether only positionals may come
abbrev walked_by : List Rule → Walk → Text → Bool → Walk
walked_by rules walk word within =
    let met = word_met rules [] within walk.waiting walk.position word walk.held in
    after_step rules word walk met.0 met.1

walked_goes : (rules : List Rule) → HasNoPositional rules → (walk : Walk) (word : Text) → IsNoDashes word
    → MayGoOn walk → MayGoOn (walked rules [] walk word)
unfolding walked
walked_goes rules none walk word h may =
    let met = word_met rules [] false walk.waiting walk.position word walk.held in
    let goes = word_goes rules walk.waiting walk.position word walk.held h in
    let is = ap (λ (stopped : Option (Text × List Text)). walked_from rules [] stopped walk word) may.whole
    ∙ ap (walked_by rules walk word) may.within in
    subst MayGoOn (sym is) (step_goes rules none word walk met.0 met.1 goes may)

-- ---- a word that is refused
-- no option has this name, or that for help has it
abbrev pub IsUnknown : List Rule → Text → Type 0
IsUnknown rules name =
    (arg_by_long rules name ≡ None) ⊎ (arg_by_long rules name ≡ Some (with_index 1 (filled help_rule)))

abbrev help : Rule
help = with_index 1 (filled help_rule)

help_refused : (rules : List Rule) (again : Bool) (given : Option Text) (held : Held)
    → IsRefusal (long_fault rules again (Some help) given held)
help_refused rules again (Some given) held = tt
help_refused rules again None held =
    later (settle_fault rules again held) (use_fault again help [] (settled rules held).rows) tt

unknown_refused : (rules : List Rule) (again : Bool) (name : Text) (given : Option Text) (held : Held)
    → IsUnknown rules name → IsRefusal (long_fault rules again (arg_by_long rules name) given held)
unknown_refused rules again name given held (inl none) =
    subst (λ (a : Option Rule). IsRefusal (long_fault rules again a given held)) (sym none) tt
unknown_refused rules again name given held (inr is) =
    subst (λ (a : Option Rule). IsRefusal (long_fault rules again a given held)) (sym is)
    (help_refused rules again given held)

-- the word is `--NAME` or `--NAME=VALUE` with such a name
pub record IsUnknownWord (rules : List Rule) (word : Text) : Type 0 where
  pub name : Text
  pub given : Option Text
  pub spelled : long_of word ≡ Some (name, given)
  pub unknown : IsUnknown rules name

dashes_refused : (s : Shape) (word : Text) (held : Held) (b : Bool) → b ≡ false → IsUnknownWord s.rules word
    → IsRefusal (cond b [] (flag_word_fault s.rules s.args_override_self (long_of word) word held))
dashes_refused s word held true h it = absurd (true≢false h)
dashes_refused s word held false h it =
    subst (λ (o : Option (Text × Option Text)).
    IsRefusal (flag_word_fault s.rules s.args_override_self o word held)) (sym it.spelled)
    (unknown_refused s.rules s.args_override_self it.name it.given held it.unknown)

word_refused : (s : Shape) (waiting : Waiting) (word : Text) (held : Held) → IsNoDashes word
    → IsUnknownWord s.rules word → IsRefusal (word_fault s [] false waiting word held)
word_refused s idle word held h it = dashes_refused s word held (bytes_eq word (45 ∷ 45 ∷ [])) h it
word_refused s (option id) word held h it = dashes_refused s word held (bytes_eq word (45 ∷ 45 ∷ [])) h it
word_refused s positional word held h it = dashes_refused s word held (bytes_eq word (45 ∷ 45 ∷ [])) h it

abbrev turn_by : Shape → Walk → Text → Option (Text × List Text) → Bool → Kinds
turn_by s walk word stopped within =
    let met = word_met s.rules [] within walk.waiting walk.position word walk.held in
    cond (is_some stopped) []
    (or_else (word_fault s [] within walk.waiting word walk.held) (step_fault s walk.position met.0 met.1))

turn_refused : (s : Shape) (walk : Walk) (word : Text) → IsNoDashes word → IsUnknownWord s.rules word → MayGoOn walk
    → IsRefusal (turn_fault s [] walk word)
turn_refused s walk word h it may =
    let met = word_met s.rules [] false walk.waiting walk.position word walk.held in
    subst IsRefusal (sym (ap₂ (turn_by s walk word) may.whole may.within))
    (at_once (word_fault s [] false walk.waiting word walk.held) (step_fault s walk.position met.0 met.1)
    (word_refused s walk.waiting word walk.held h it))

abbrev is_double : Text → Bool
is_double word = bytes_eq word (45 ∷ 45 ∷ [])

-- wherever it stands
pub walk_refused : (s : Shape) → HasNoPositional s.rules → (walk : Walk) (before after : List Text) (word : Text)
    → list_any (λ w. bytes_eq w (45 ∷ 45 ∷ [])) (before ++ word ∷ after) ≡ false → IsUnknownWord s.rules word
    → MayGoOn walk → IsRefusal (walk_fault s [] walk (before ++ word ∷ after))
unfolding walk_fault
walk_refused s none walk [] after word h it may =
    let parts = neither (is_double word) (list_any is_double after) h in
    at_once (turn_fault s [] walk word) (walk_fault s [] (walked s.rules [] walk word) after)
    (turn_refused s walk word parts.0 it may)
walk_refused s none walk (other ∷ before) after word h it may =
    let parts = neither (is_double other) (list_any is_double (before ++ word ∷ after)) h in
    let more = walked s.rules [] walk other in
    later (turn_fault s [] walk other) (walk_fault s [] more (before ++ word ∷ after))
    (walk_refused s none more before after word parts.1 it (walked_goes s.rules none walk other parts.0 may))

-- ---- the names of options
any_of-append : {X : Type 0} (p : X → Bool) (xs ys : List X) → list_any p (xs ++ ys) ≡ false
    → (list_any p xs ≡ false) × (list_any p ys ≡ false)
any_of-append p [] ys h = (refl, h)
any_of-append p (x ∷ xs) ys h =
    let parts = neither (p x) (list_any p (xs ++ ys)) h in
    let rest = any_of-append p xs ys parts.1 in
    (ap (λ (b : Bool). b || list_any p xs) parts.0 ∙ rest.0, rest.1)

abbrev has_name : Text → Rule → Bool
has_name name a = not (is_some a.index) && has_long a name

-- arguments of other names are passed over
passed_over : (action : ArgAction) (names : List Text) (tail : List Rule) (name : Text)
    → list_any (λ known. bytes_eq known name) names ≡ false
    → find (has_name name) (filled_from 1 (map (arg_rule action) names ++ tail))
    ≡ find (has_name name) (filled_from 1 tail)
passed_over action [] tail name h = refl
passed_over action (known ∷ names) tail name h =
    let parts = neither (bytes_eq known name) (list_any (λ k. bytes_eq k name) names) h in
    ap (λ (b : Bool). cond (b || false) (Some (with_index 1 (filled (arg_rule action known))))
    (find (has_name name) (filled_from 1 (map (arg_rule action) names ++ tail)))) parts.0
    ∙ passed_over action names tail name parts.1

help_alone : (name : Text) (b : Bool)
    → (cond (b || false) (Some (with_index 1 (filled help_rule))) None ≡ None)
    ⊎ (cond (b || false) (Some (with_index 1 (filled help_rule))) None ≡ Some (with_index 1 (filled help_rule)))
help_alone name true = inr refl
help_alone name false = inl refl

by_tail : (rules : List Rule) (name : Text)
    → arg_by_long rules name ≡ find (has_name name) (filled_from 1 (help_rule ∷ [])) → IsUnknown rules name
by_tail rules name is = elim (help_alone name (bytes_eq (codes "help") name)) [
  | inl none ↦ inl (is ∙ none)
  | inr help ↦ inr (is ∙ help)
]

-- the rules of a command with these options and flags
abbrev pub flag_rules : List Text → List Rule
flag_rules flags = map (arg_rule SetTrue) flags ++ help_rule ∷ []

abbrev pub rules_with : List Text → List Text → List Rule
rules_with names flags = filled_from 1 (map (arg_rule Set) names ++ flag_rules flags)

pub unknown_option : (names flags : List Text) (name : Text)
    → list_any (λ known. bytes_eq known name) (names ++ flags) ≡ false → IsUnknown (rules_with names flags) name
unknown_option names flags name h =
    let parts = any_of-append (λ known. bytes_eq known name) names flags h in
    by_tail (rules_with names flags) name
    (passed_over Set names (flag_rules flags) name parts.0 ∙ passed_over SetTrue flags (help_rule ∷ []) name parts.1)
