use Rattle.std.proofs.Common.{◌≡◌, take, map}
use Rattle.clap.specs.Words.{app_of}
use Rattle.css_words.specs.Options.{with_args}
use Rattle.css_words.proofs.options.with_args.Given as goal

-- the command has the arguments so far
abbrev pub invariant-loop-name : goal.invariant-loop-name
invariant-loop-name l =
    app_of l.more ≡ with_args l.action (app_of l.fn.command) (map (λ name. name.now) (take l.name-index l.names))
