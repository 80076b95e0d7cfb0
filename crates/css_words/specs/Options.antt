-- The options of a command, and what the words after its name give them.
use Rattle.std.specs.Prelude.{ℕ, ◌-◌, ◌^◌, Bool, false, nat_lt, if◌then◌else◌, bytes_eq}
use Rattle.std.specs.Prelude.{List, [], ◌∷◌, fold, codes, Option, Some, None, Result, Ok, Err, unwrap_or}
use Rattle.clap.specs.Words.{App, Row, Rule, Text, first_of, matches_of, new_app, new_rule, with_rule}
use Rattle.clap.specs.Faults.{fault_of}
use Rattle.clap.specs.Kinds.{Kinds}
use Rattle.clap.specs.declared.builder.action.ArgAction.{ArgAction}
use Rattle.clap.specs.declared.builder.action.ArgAction.TheVariants.{Set, SetTrue}
use Rattle.css_num.specs.Words.{whole_number_of}
use Rattle.css_words.specs.declared.fault.WordsFault.{WordsFault}
use Rattle.css_words.specs.declared.fault.WordsFault.TheVariants.{Usage}

-- the next step, where there was no fault
infixl 10 ◌>>=◌
abbrev pub ◌>>=◌ : {A B : Type 0} → Result A WordsFault → (A → Result B WordsFault) → Result B WordsFault
Ok value >>= next = next value
Err fault >>= next = Err fault

-- the value, or Usage where there is none
abbrev pub or_usage : {A : Type 0} → Option A → Result A WordsFault
or_usage None = Err Usage
or_usage (Some value) = Ok value

-- ---- what a command takes
-- an argument, by what a use of it does: `--name value` or `--name=value` sets an option, and `--name` a flag
abbrev pub arg_rule : ArgAction → Text → Rule
arg_rule action name = record (new_rule name) { long = Some name; action = Some action }

abbrev pub with_args : ArgAction → App → List Text → App
with_args action app names = fold (λ app name. with_rule app (arg_rule action name)) app names

-- the command with options of these names, each of which takes a value, and with flags; each may be left out
abbrev pub app_taking : List Text → List Text → App
app_taking names flags = with_args SetTrue (with_args Set (new_app (codes "css")) names) flags

-- ---- what the words say
-- what is found, where nothing is refused
abbrev pub unless_refused : {A : Type 0} → Kinds → A → Result A WordsFault
unless_refused [] found = Ok found
unless_refused (kind ∷ kinds) found = Err Usage

-- what the words say of the options of a command, unless it refuses them; the first word is the command's name
unfoldable pub rows_in : App → List Text → Result (List Row) WordsFault
rows_in app words = unless_refused (fault_of app words) (matches_of app words)

-- ---- what an option says
-- of one that has to be given
abbrev pub given : {A : Type 0} → (Text → Result A WordsFault) → Option Text → Result A WordsFault
given read None = Err Usage
given read (Some text) = read text

abbrev pub required : {A : Type 0} → (Text → Result A WordsFault) → Text → List Row → Result A WordsFault
required read name rows = given read (first_of name rows)

-- of one that may be left out
abbrev pub given_or : {A : Type 0} → A → (Text → Result A WordsFault) → Option Text → Result A WordsFault
given_or default read None = Ok default
given_or default read (Some text) = read text

abbrev pub optional : {A : Type 0} → A → (Text → Result A WordsFault) → Text → List Row → Result A WordsFault
optional default read name rows = given_or default read (first_of name rows)

-- of one that may be any text
abbrev pub text_or : Text → Text → List Row → Text
text_or default name rows = unwrap_or (first_of name rows) default

-- of a flag
abbrev pub is_true : Option Text → Bool
is_true None = false
is_true (Some text) = bytes_eq text (codes "true")

abbrev pub is_set : Text → List Row → Bool
is_set name rows = is_true (first_of name rows)

-- ---- numbers
-- a number from `least` to `most`
abbrev pub within : ℕ → ℕ → ℕ → Result ℕ WordsFault
within least most number =
    if nat_lt number least then Err Usage else if nat_lt most number then Err Usage else Ok number

-- the one that a text spells
unfoldable pub number_in : ℕ → ℕ → Text → Result ℕ WordsFault
number_in least most text = or_usage (whole_number_of text (2 ^ 64 - 1)) >>= within least most
