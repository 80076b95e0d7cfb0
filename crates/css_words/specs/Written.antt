-- What is asked for can be written into the texts of the two ends.
use Rattle.std.specs.Prelude.{IfSome, None}
use Rattle.std.specs.Str.{IsUtf8}
use Rattle.css_tsmsg.specs.Presentations.{IsPresentation}
use Rattle.css_tsmsg.specs.declared.bound.Bound.{Bound}
use Rattle.css_words.specs.declared.command.Command.{Command}
use Rattle.css_words.specs.declared.command.Command.TheVariants.{Companion, Tv, Pair, Relay, Watch}
use Rattle.css_words.specs.declared.words.CompanionOptions.{CompanionOptions}

-- the times of a presentation are in range, and each is infinite on its own side alone
abbrev pub IsWindow : Bound × Bound → Type 0
IsWindow bounds = IsPresentation (record { earliest = bounds.0; latest = bounds.1; actual = None })

-- both texts are UTF-8, and the times, where they are told, are those of a presentation
pub record AreWritable (options : CompanionOptions) : Type 0 where
  pub selector : IsUtf8 options.selector
  pub stem : IsUtf8 options.stem
  pub present : IfSome options.present IsWindow

-- what the words of a command line ask for can be written, and its texts are UTF-8
abbrev pub IsWritable : Command → Type 0
IsWritable (Companion words) = AreWritable words.options
IsWritable (Tv words) = IsUtf8 words.host
IsWritable (Pair words) = AreWritable words.companion × IsUtf8 words.tv.host
IsWritable (Relay words) = IsUtf8 words.host
IsWritable (Watch words) = IsUtf8 words.selector × IsUtf8 words.stem
IsWritable _ = Unit {0}
