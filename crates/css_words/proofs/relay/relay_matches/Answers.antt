use Rattle.std.proofs.Common.{◌≡◌, refl, rules, map, true}
use Rattle.css_words.specs.Relay.{relay_options, relay_rows}
use Rattle.css_words.proofs.relay.relay_matches.Goals as goal

pub matches_of-requires : goal.matches_of-requires
matches_of-requires c =
    let names : map (λ name. name.now) c.as_slice.result.now ≡ relay_options = search rules in
    rw names (refl {a = true})

pub returns : goal.returns
unfolding relay_rows
returns c =
    let names : map (λ name. name.now) c.as_slice.result.now ≡ relay_options = search rules in
    rw names at c.matches_of.ensures
