-- By what the parse found or refused.
use Rattle.std.proofs.Common.{map, string_bytes}
use Rattle.clap.specs.Words.{app_of, found_of, kind_of, rows_of}
use Rattle.css_words.specs.Faults.{parse_fault}
use Rattle.css_words.specs.Options.{rows_in}
use Rattle.css_words.proofs.Parsing.{by_fault, taken, refused}
use Rattle.css_words.proofs.options.matches_in.Goals as goal

pub returns-in_err-try_get_matches_from : goal.returns-in_err-try_get_matches_from
returns-in_err-try_get_matches_from c =
    let app = app_of c.args.command in
    let words = map string_bytes c.args.words.now in
    let kind = kind_of c.in_err-try_get_matches_from.field-0.0 in
    by_fault _ _ (λ matches. rows_of (found_of matches.all)) c.from_residual.result (rows_in app words)
    (parse_fault kind) c.from_residual.ensures.1
    (refused app words kind (c.in_err-try_get_matches_from.ensures.kinds c.requires))

pub returns : goal.returns
returns c =
    taken (app_of c.args.command) (map string_bytes c.args.words.now)
    (rows_of (found_of c.in_ok-try_get_matches_from.field-0)) c.requires
    (c.in_ok-try_get_matches_from.ensures.kinds c.requires)
    (λ simple. (c.in_ok-try_get_matches_from.ensures.matches simple).0)
