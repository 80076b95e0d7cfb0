-- The compact text of a control timestamp, from its parts.
use Rattle.std.proofs.Common.{◌≡◌, ℕ, ◌<◌, ◌≤◌, ◌^◌, List, [], ◌∷◌, ◌++◌, true, refl, ap, ap₂, ◌∙◌, arith}
use Rattle.std.proofs.Common.{append_assoc}
use Rattle.std.proofs.lemmas.Grind.{common_steps}
use Rattle.std.specs.Prelude.{ℤ, pos, negsuc, decimal, codes}
use Rattle.std.specs.Fmt.{signed_decimal}
use Rattle.std.specs.List.{list_all}
use Rattle.std.specs.Char.{is_ascii_digit}
use Rattle.std.proofs.lemmas.Bool.{and_parts}
use Rattle.std.proofs.lemmas.Int.{ints}
use Rattle.json.specs.Print.{escape_byte, escape, quoted}
use Rattle.json.proofs.Printed.Strings.{escape_byte_plain}
use Rattle.serde_json.specs.Find.{of_integer}
use Rattle.serde_json.specs.Written.{number_text}
use Rattle.css_num.specs.declared.control.Control.TheVariants.{Available, Unavailable}
use Rattle.css_text.proofs.CompactTexts.{decimal_digits}
use Rattle.css_tsmsg.specs.Controls.{AreInRange, control_text}
use Rattle.css_tsmsg.specs.Times.{IsContent}

-- digits need no escape
escape_digits : (s : List ℕ) → list_all is_ascii_digit s ≡ true → escape s ≡ s
escape_digits [] h = refl
escape_digits (x ∷ s) h =
    let parts : (is_ascii_digit x ≡ true) × (list_all is_ascii_digit s ≡ true) = and_parts _ _ h in
    ap₂ (λ front back. front ++ back) (digit x parts.0) (escape_digits s parts.1)
  where
    digit : (x : ℕ) → is_ascii_digit x ≡ true → escape_byte x ≡ x ∷ []
    digit x h =
        let low : 48 ≤ x = grind (arith, common_steps) in
        let high : x ≤ 57 = grind (arith, common_steps) in
        escape_byte_plain x (λ e. omega arith) (λ e. omega arith) (omega arith)

-- nor does a number
escape_wall : (n : ℕ) → n < 2 ^ 64 → escape (decimal n) ≡ decimal n
escape_wall n h = escape_digits (decimal n) (decimal_digits n h)

-- nor one with a `-`
escape_content : (z : ℤ) → IsContent z → escape (signed_decimal z) ≡ signed_decimal z
unfolding escape_byte
escape_content (pos n) h = escape_wall n (omega (arith, ints, h.high))
escape_content (negsuc n) h = ap (λ s. 45 ∷ s) (escape_wall _ (omega (arith, ints, h.low)))

-- a text without escapes, and what follows
quoted_then : (s r : List ℕ) → escape s ≡ s → quoted s ++ r ≡ 34 ∷ (s ++ 34 ∷ r)
quoted_then s r same = ap (λ t. 34 ∷ t) (append_assoc (escape s) (34 ∷ []) r ∙ ap (λ t. t ++ 34 ∷ r) same)

-- a whole number is written in decimal
number_text_is : (z : ℤ) → number_text (of_integer z) ≡ signed_decimal z
number_text_is (pos n) = refl
number_text_is (negsuc n) = refl

-- the text of an available timeline's control timestamp
pub available_text : (content : ℤ) (wall : ℕ) (speed : ℤ) → AreInRange content wall speed
    → control_text (Available content wall speed) ≡ codes "{\"contentTime\":\"" ++ (signed_decimal content
    ++ (codes "\",\"timelineSpeedMultiplier\":" ++ (signed_decimal speed ++ (codes ",\"wallClockTime\":\""
    ++ (decimal wall ++ codes "\"}")))))
unfolding control_text escape_byte
available_text content wall speed h =
    let first : List ℕ → List ℕ = λ t. codes "{\"contentTime\":" ++ t in
    let second : List ℕ → List ℕ = λ t. codes ",\"timelineSpeedMultiplier\":" ++ t in
    let third : List ℕ → List ℕ = λ t. codes ",\"wallClockTime\":" ++ t in
    let told : List ℕ = quoted (decimal wall) ++ 125 ∷ [] in
    let rest : List ℕ = second (number_text (of_integer speed) ++ third told) in
    ap first (quoted_then (signed_decimal content) rest (escape_content content h.content_time))
    ∙ ap (λ t. first (34 ∷ (signed_decimal content ++ 34 ∷ second (t ++ third told)))) (number_text_is speed)
    ∙ ap (λ t. first (34 ∷ (signed_decimal content ++ 34 ∷ second (signed_decimal speed ++ third t))))
    (quoted_then (decimal wall) (125 ∷ []) (escape_wall wall (omega (arith, h.wall_time))))

-- and that of one that isn't available
pub unavailable_text : codes "{\"contentTime\":null,\"timelineSpeedMultiplier\":null,\"wallClockTime\":\"0\"}"
    ≡ control_text Unavailable
unfolding control_text escape_byte
unavailable_text = refl
