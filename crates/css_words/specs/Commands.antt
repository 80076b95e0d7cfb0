-- Which words a command line may have, and what they mean.
use Rattle.std.specs.Prelude.{Bool, true, false, ◌||◌, if◌then◌else◌, List, [], ◌∷◌, codes, bytes_eq, Result, Ok, Err}
use Rattle.std.specs.List.{list_any}
use Rattle.clap.specs.Words.{Text}
use Rattle.css_words.specs.Companion.{CompanionAsked, companion_in, companion_of}
use Rattle.css_words.specs.Generator.{GeneratorAsked, generator_in, generator_of}
use Rattle.css_words.specs.Options.{◌>>=◌}
use Rattle.css_words.specs.Pair.{PairAsked, pair_in, pair_of}
use Rattle.css_words.specs.Relay.{RelayAsked, relay_in, relay_of}
use Rattle.css_words.specs.Tv.{TvAsked, tv_in, tv_of}
use Rattle.css_words.specs.Watch.{WatchAsked, watch_in, watch_of}
use Rattle.css_words.specs.declared.command.Command.{Command}
use Rattle.css_words.specs.declared.command.Command.TheVariants as command
use Rattle.css_words.specs.declared.fault.WordsFault.{WordsFault}
use Rattle.css_words.specs.declared.fault.WordsFault.TheVariants.{Usage}

-- a command, with what its options say
pub data Asked : Type 0 where
  Replay : Asked
  Agree : Bool → Asked
  Audit : Asked
  Migrate : Asked
  Companion : CompanionAsked → Asked
  Tv : TvAsked → Asked
  Pair : PairAsked → Asked
  Relay : RelayAsked → Asked
  Watch : WatchAsked → Asked
  Generate : GeneratorAsked → Asked
  Survey : GeneratorAsked → Asked

abbrev pub asked_of : Command → Asked
asked_of command.Replay = Replay
asked_of (command.Agree pairs) = Agree pairs
asked_of command.Audit = Audit
asked_of command.Migrate = Migrate
asked_of (command.Companion words) = Companion (companion_of words)
asked_of (command.Tv words) = Tv (tv_of words)
asked_of (command.Pair words) = Pair (pair_of words)
asked_of (command.Relay words) = Relay (relay_of words)
asked_of (command.Watch words) = Watch (watch_of words)
asked_of (command.Generate words) = Generate (generator_of words)
asked_of (command.Survey words) = Survey (generator_of words)

-- the word is `-` or `--`
abbrev pub is_bare_dashes : Text → Bool
is_bare_dashes word = bytes_eq word (codes "-") || bytes_eq word (codes "--")

-- no words stand after the name of a command without options
abbrev pub no_options : List Text → Result (Unit {0}) WordsFault
no_options [] = Ok tt
no_options (word ∷ words) = Err Usage

-- the words after `agree` are its flag `--pairs`, or none
abbrev pub has_pairs : List Text → Result Bool WordsFault
has_pairs [] = Ok false
has_pairs (word ∷ []) = if bytes_eq word (codes "--pairs") then Ok true else Err Usage
has_pairs (word ∷ next ∷ words) = Err Usage

-- the command with this name, behind which `rest` stands; `words` are both
unfoldable pub named : Text → List Text → List Text → Result Asked WordsFault
named name rest words =
    if bytes_eq name (codes "replay") then (no_options rest >>= λ _. Ok Replay)
    else if bytes_eq name (codes "agree") then (has_pairs rest >>= λ pairs. Ok (Agree pairs))
    else if bytes_eq name (codes "audit") then (no_options rest >>= λ _. Ok Audit)
    else if bytes_eq name (codes "migrate") then (no_options rest >>= λ _. Ok Migrate)
    else if bytes_eq name (codes "companion") then (companion_in words >>= λ asked. Ok (Companion asked))
    else if bytes_eq name (codes "tv") then (tv_in words >>= λ asked. Ok (Tv asked))
    else if bytes_eq name (codes "pair") then (pair_in words >>= λ asked. Ok (Pair asked))
    else if bytes_eq name (codes "relay") then (relay_in words >>= λ asked. Ok (Relay asked))
    else if bytes_eq name (codes "watch") then (watch_in words >>= λ asked. Ok (Watch asked))
    else if bytes_eq name (codes "generate") then (generator_in words >>= λ asked. Ok (Generate asked))
    else if bytes_eq name (codes "survey") then (generator_in words >>= λ asked. Ok (Survey asked))
    else Err Usage

-- the command that the words after the program's name are
unfoldable pub command_in : List Text → Result Asked WordsFault
command_in [] = Err Usage
command_in (name ∷ rest) =
    if list_any is_bare_dashes rest then Err Usage else named name rest (name ∷ rest)
