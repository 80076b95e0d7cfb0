use Rattle.std.proofs.Common.{◌≡◌, refl, rules, map, true}
use Rattle.css_words.specs.Generator.{generator_options, generator_rows}
use Rattle.css_words.proofs.generator.generator_matches.Goals as goal

pub matches_of-requires : goal.matches_of-requires
matches_of-requires c =
    let names : map (λ name. name.now) c.as_slice.result.now ≡ generator_options = search rules in
    rw names (refl {a = true})

pub returns : goal.returns
unfolding generator_rows
returns c =
    let names : map (λ name. name.now) c.as_slice.result.now ≡ generator_options = search rules in
    rw names at c.matches_of.ensures
