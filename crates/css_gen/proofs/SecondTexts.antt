-- The first lines of a schedule of several companions as texts.
use Rattle.std.proofs.Common.{◌≡◌, ℕ, refl, sym, [], ◌∷◌, ◌++◌, codes, decimal}
use Rattle.std.specs.Fmt.{digits}
use Rattle.css_printed.proofs.Spaced.{with_words-after}
use Rattle.css_gen.specs.Opening.{pts}
use Rattle.css_gen.specs.Second.{second_header_text, companion_text}

-- line 1 is these bytes and the number of companions
pub header_text-is : (companions : ℕ)
    → codes "css-schedule 2 follow 12800 -20 " ++ decimal companions ≡ second_header_text companions
unfolding digits
header_text-is companions = refl

-- a companion's line is these bytes around its number
pub companion_text-is : (who : ℕ)
    → (codes "companion " ++ decimal who) ++ codes " 12800 1000 urn:dvb:css:timeline:pts dvb://" ≡ companion_text who
unfolding digits
companion_text-is who =
    let more = codes "1000" ∷ pts ∷ codes "dvb://" ∷ [] in
    sym (with_words-after (codes "companion " ++ decimal who) (codes " 12800") more)
