-- A text with words is its first word, a space, and the other words.
use Rattle.std.proofs.Common.{◌≡◌, ℕ, ◌+◌, ◌<◌, arith, ap, ◌∙◌, Bool, true, false, cond, ltb, List, ◌∷◌, ◌++◌, length}
use Rattle.std.proofs.Common.{refl, All, Some, None, ltb-true, eqb-true}
use Rattle.std.proofs.lemmas.List.Sums.{fails_before_first, passes_at_first, split_at_first}
use Rattle.css_schedule.proofs.Cut.{words_of-one}
use Rattle.css_laws.proofs.Names.{position_or_len, get_or-take, length-append, length-take, slice_split_first, is_space}
use Rattle.css_laws.proofs.Names.{words_of, first_word, other_words}

-- the first word is this one, and these are the words after it
pub record IsCut (text word : List ℕ) (words : List (List ℕ)) : Type 0 where
  pub first : first_word text ≡ word
  pub rest : words_of (other_words text) ≡ words
  pub free : All (λ byte. is_space byte ≡ false) (first_word text)
  pub whole : text ≡ first_word text ++ 32 ∷ other_words text

pub cut-words : (text word next : List ℕ) (words : List (List ℕ)) → words_of text ≡ word ∷ next ∷ words
    → IsCut text word (next ∷ words)
cut-words text word next words e = by (ltb (position_or_len is_space text) (length text)) refl
  where
    place : ℕ
    place = position_or_len is_space text

    by : (b : Bool) → ltb place (length text) ≡ b → IsCut text word (next ∷ words)
    by false is =
        let one = words_of-one text (ap (λ (b : Bool). cond b (Some place) None) is) in
        absurd (cc)
    by true is =
        let within = ltb-true place (length text) is in
        let parts = slice_split_first is_space text 0 within in
        record {
          first = cc;
          rest = cc;
          free = λ k d below.
              let early : k < place = omega (arith, below, within, length-take place text) in
              ap is_space (get_or-take place text k d early) ∙ fails_before_first is_space text k d early;
          whole = split_at_first is_space text 32 within
              ∙ ap (λ (byte : ℕ). first_word text ++ byte ∷ other_words text)
              (eqb-true _ 32 (passes_at_first is_space text 32 within));
        }

-- how long both are
pub cut-size : (text word : List ℕ) (words : List (List ℕ)) → IsCut text word words
    → length text ≡ length (first_word text) + length (other_words text) + 1
cut-size text word words cut =
    omega (arith, ap (λ (l : List ℕ). length l) cut.whole, length-append (first_word text) (32 ∷ other_words text))
