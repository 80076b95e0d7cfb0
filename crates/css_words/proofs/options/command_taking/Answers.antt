-- The command takes what it was given.
use Rattle.std.proofs.Common.{◌∙◌, ap, map}
use Rattle.clap.specs.declared.builder.action.ArgAction.TheVariants.{Set, SetTrue}
use Rattle.css_words.specs.Options.{with_args}
use Rattle.css_words.proofs.options.command_taking.Goals as goal

pub returns-clause-takes : goal.returns-clause-takes
returns-clause-takes c =
    let names = map (λ name. name.now) c.args.names.now in
    let flags = map (λ name. name.now) c.args.flags.now in
    c.in_ok-command-2.ensures.takes ∙ ap (λ app. with_args SetTrue app flags)
    (c.in_ok-command.ensures.takes ∙ ap (λ app. with_args Set app names) c.new-command.ensures.app)
