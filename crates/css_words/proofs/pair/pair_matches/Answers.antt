use Rattle.std.proofs.Common.{◌≡◌, refl, rules, map, true}
use Rattle.css_words.specs.Pair.{pair_options, pair_rows}
use Rattle.css_words.specs.Tv.{tv_flags}
use Rattle.css_words.proofs.pair.pair_matches.Goals as goal

pub matches_of-requires : goal.matches_of-requires
matches_of-requires c =
    let names : map (λ name. name.now) c.as_slice.result.now ≡ pair_options = search rules in
    let flags : map (λ name. name.now) c.as_slice-2.result.now ≡ tv_flags = search rules in
    rw (names, flags) (refl {a = true})

pub returns : goal.returns
unfolding pair_rows
returns c =
    let names : map (λ name. name.now) c.as_slice.result.now ≡ pair_options = search rules in
    let flags : map (λ name. name.now) c.as_slice-2.result.now ≡ tv_flags = search rules in
    rw (names, flags) at c.matches_of.ensures
