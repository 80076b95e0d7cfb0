use Rattle.std.proofs.Common.{◌∙◌, ap, arith}
use Rattle.clap.specs.Words.{app_of, with_rule}
use Rattle.css_words.proofs.Parsing.{one_more}
use Rattle.css_words.proofs.options.with_args.Goals as goal

pub loop-name-preserved : goal.loop-name-preserved
loop-name-preserved c =
    let old = app_of c.loop-name.more in
    let next = c.in_ok-more.ensures.shape c.arg.ensures.local ∙ ap (with_rule old) c.arg.ensures.rule in
    one_more c.args.action _ c.args.names.now c.loop-name.name-index _ old (app_of c.in_ok-more.more) (omega arith)
    c.loop-name.invariant next
