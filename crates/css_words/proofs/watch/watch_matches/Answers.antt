use Rattle.std.proofs.Common.{◌≡◌, refl, rules, map, true}
use Rattle.css_words.specs.Watch.{watch_options, watch_rows}
use Rattle.css_words.proofs.watch.watch_matches.Goals as goal

pub matches_of-requires : goal.matches_of-requires
matches_of-requires c =
    let names : map (λ name. name.now) c.as_slice.result.now ≡ watch_options = search rules in
    rw names (refl {a = true})

pub returns : goal.returns
unfolding watch_rows
returns c =
    let names : map (λ name. name.now) c.as_slice.result.now ≡ watch_options = search rules in
    rw names at c.matches_of.ensures
