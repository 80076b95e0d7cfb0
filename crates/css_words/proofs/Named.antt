-- What a command line means, by its first word.
use Rattle.std.proofs.Common.{◌≡◌, ◌∙◌, ◌||◌, refl, ap, sym, arith, Bool, true, false, List, [], ◌∷◌, Err, length, map}
use Rattle.std.specs.Prelude.{if◌then◌else◌}
use Rattle.std.specs.List.{list_any}
use Rattle.clap.specs.Words.{Text}
use Rattle.css_words.specs.Commands.{command_in, is_bare_dashes, named}
use Rattle.css_words.specs.declared.fault.WordsFault.TheVariants.{Usage}

-- a test of what each element shows
any_shown : (X : Type 0) (shown : X → Text) (xs : List X)
    → list_any (λ x. is_bare_dashes (shown x)) xs ≡ list_any is_bare_dashes (map shown xs)
any_shown X shown [] = refl
any_shown X shown (x ∷ xs) = ap (λ (rest : Bool). is_bare_dashes (shown x) || rest) (any_shown X shown xs)

-- no words
pub without_words : (X : Type 0) (shown : X → Text) (xs : List X) → length xs ≡ 0
    → command_in (map shown xs) ≡ Err Usage
unfolding command_in
without_words X shown [] none = refl
without_words X shown (x ∷ xs) none = absurd (omega (arith, none))

-- dashes alone
pub with_dashes : (X : Type 0) (shown : X → Text) (xs : List X) (x : X) (rest : List X) → xs ≡ x ∷ rest
    → list_any (λ y. is_bare_dashes (shown y)) rest ≡ true → command_in (map shown xs) ≡ Err Usage
unfolding command_in
with_dashes X shown xs x rest cut dashes =
    let test : list_any is_bare_dashes (map shown rest) ≡ true = sym (any_shown X shown rest) ∙ dashes in
    ap (λ (ys : List X). command_in (map shown ys)) cut
    ∙ ap (λ (b : Bool). if b then Err Usage else named (shown x) (map shown rest) (shown x ∷ map shown rest)) test

-- any other words
pub without_dashes : (X : Type 0) (shown : X → Text) (xs : List X) (x : X) (rest : List X) → xs ≡ x ∷ rest
    → list_any (λ y. is_bare_dashes (shown y)) rest ≡ false
    → command_in (map shown xs) ≡ named (shown x) (map shown rest) (map shown xs)
unfolding command_in
without_dashes X shown xs x rest cut clean =
    let test : list_any is_bare_dashes (map shown rest) ≡ false = sym (any_shown X shown rest) ∙ clean in
    ap (λ (ys : List X). command_in (map shown ys)) cut
    ∙ ap (λ (b : Bool). if b then Err Usage else named (shown x) (map shown rest) (shown x ∷ map shown rest)) test
    ∙ ap (λ (ys : List X). named (shown x) (map shown rest) (map shown ys)) (sym cut)
