-- Laws of command lines, in a reader's words.
use Rattle.std.specs.Prelude.{◌≡◌, ◌<◌, ◌≤◌, ◌^◌, ◌+◌, ◌*◌, ℕ, Bool, false, if◌then◌else◌, bytes_eq}
use Rattle.std.specs.Prelude.{List, [], ◌∷◌, ◌++◌, codes, decimal, Option, Some, None, Ok, Err}
use Rattle.std.specs.List.{list_any}
use Rattle.clap.specs.Lexer.{long_of}
use Rattle.clap.specs.Words.{Text}
use Rattle.css_words.specs.Commands.{Generate, command_in}
use Rattle.css_words.specs.Companion.{companion_flags, companion_options}
use Rattle.css_words.specs.Generator.{generator_options}
use Rattle.css_words.specs.Pair.{pair_options}
use Rattle.css_words.specs.Relay.{relay_options}
use Rattle.css_words.specs.Tv.{tv_flags, tv_options}
use Rattle.css_words.specs.Watch.{watch_options}
use Rattle.css_words.specs.declared.fault.WordsFault.TheVariants.{Usage}

-- the names of the options and flags of a command
abbrev pub options_of_command : Text → List Text
options_of_command name =
    if bytes_eq name (codes "agree") then codes "pairs" ∷ []
    else if bytes_eq name (codes "companion") then companion_options ++ companion_flags
    else if bytes_eq name (codes "tv") then tv_options ++ tv_flags
    else if bytes_eq name (codes "pair") then pair_options ++ tv_flags
    else if bytes_eq name (codes "relay") then relay_options
    else if bytes_eq name (codes "watch") then watch_options
    else if bytes_eq name (codes "generate") then generator_options
    else if bytes_eq name (codes "survey") then generator_options
    else []

-- the command has an option of this name, letter for letter
abbrev pub has_option : Text → Text → Bool
has_option name option = list_any (λ known. bytes_eq known option) (options_of_command name)

-- `--OPTION` and `--OPTION=VALUE` are refused wherever they stand, where the command has no option of just this name:
-- neither a beginning of a name nor `--help` is one
abbrev pub UnknownOptionsAreUsage : Type 0
UnknownOptionsAreUsage =
    (name : Text) (before after : List Text) (word option : Text) (value : Option Text)
    → long_of word ≡ Some (option, value) → has_option name option ≡ false
    → command_in (name ∷ (before ++ word ∷ after)) ≡ Err Usage

-- every seed and every number of lines can be told, in decimal
abbrev pub SchedulesCanBeTold : Type 0
SchedulesCanBeTold =
    (seed lines : ℕ) → seed < 2 ^ 63 → 9 ≤ lines → lines ≤ 200000
    → command_in (codes "generate" ∷ (codes "--seed=" ++ decimal seed) ∷ (codes "--lines=" ++ decimal lines) ∷ [])
    ≡ Ok (Generate (record { seed = seed; lines = lines; companions = None }))

-- and with them every number of companions, where the lines suffice for it
abbrev pub CompanionsCanBeTold : Type 0
CompanionsCanBeTold =
    (seed lines count : ℕ) → seed < 2 ^ 63 → 2 ≤ count → count ≤ 16 → 4 + 6 * count ≤ lines → lines ≤ 200000
    → command_in (codes "generate" ∷ (codes "--seed=" ++ decimal seed) ∷ (codes "--lines=" ++ decimal lines)
    ∷ (codes "--companions=" ++ decimal count) ∷ [])
    ≡ Ok (Generate (record { seed = seed; lines = lines; companions = Some count }))
