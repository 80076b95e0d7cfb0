use Rattle.std.proofs.Common.{◌∙◌, ap, sym, refl, Some, string_bytes}
use Rattle.std.specs.Option.{option_map}
use Rattle.css_watch.proofs.Following as following
use Rattle.css_watch.proofs.visit.after.Goals as goal

pub returns-in-Err-clause-makes : goal.returns-in-Err-clause-makes
returns-in-Err-clause-makes g c plan begun start history r =
    following.lacks_words plan begun start _ history c.args.ended.now c.args.parting.now c.args.progress.now r
    c.in-Err.ensures.err

pub returns-in-Ok-Some-clause-makes : goal.returns-in-Ok-Some-clause-makes
returns-in-Ok-Some-clause-makes g c plan begun start history r =
    following.parts_make plan begun start _ _ history c.args.ended.now c.args.parting.now c.args.progress.now _
    c.go_on.result r (sym c.in-Ok-Some.ensures.words ∙ ap (option_map string_bytes) c.in-Ok-Some.field-0-is
    ∙ ap Some (sym c.as_str.ensures.value)) c.go_on.ensures.parts

pub returns-in-Ok-None-clause-makes : goal.returns-in-Ok-None-clause-makes
returns-in-Ok-None-clause-makes g c plan begun start history r =
    following.leaves_make plan begun start _ _ history c.args.ended.now c.args.parting.now c.args.progress.now
    c.end_of-end.result c.leave.result r (sym c.in-Ok-None.ensures.words
    ∙ ap (option_map string_bytes) c.in-Ok-None.field-0-is) c.end_of-end.ensures.value c.leave.ensures.leaves
    refl refl
