-- The command takes what it was given.
use Rattle.std.proofs.Common.{◌≡◌, subst, sym, map, string_bytes, true}
use Rattle.clap.specs.Words.{App, found_of, rows_of}
use Rattle.clap.specs.Faults.{is_simple_and_free}
use Rattle.css_num.specs.Gives.{GivesBy}
use Rattle.css_words.specs.Options.{rows_in}
use Rattle.css_words.specs.declared.fault.WordsFault.TheVariants as faults
use Rattle.css_words.proofs.options.matches_of.Goals as goal

pub matches_in-requires : goal.matches_in-requires
matches_in-requires c =
    subst (λ (app : App). is_simple_and_free app ≡ true) (sym c.in_ok-command.ensures.takes) c.requires

pub returns : goal.returns
returns c =
    subst (λ (app : App). GivesBy (λ matches. rows_of (found_of matches.all)) faults.Memory c.matches_in.result
    (rows_in app (map string_bytes c.args.words.now))) c.in_ok-command.ensures.takes c.matches_in.ensures
