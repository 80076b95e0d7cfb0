-- The compact text of a plain value is read back, as a law over values alone.
use Rattle.std.specs.Prelude.{option_map, decimal, Bool, true, false}
use Rattle.std.specs.Ordering.{match_ordering}
use Rattle.std.proofs.lemmas.Str.{IsUtf8-append, IsUtf8-from_ascii, IsUtf8-nil}
use Rattle.std.proofs.lemmas.Fmt.{IsAscii-decimal}
use Rattle.json.proofs.Printed.Utf8.{IsUtf8-are_ascii, IsUtf8-quoted}
use Rattle.serde_json.proofs.Numbers.{number_of-decimal, number_of-negative}
use Rattle.serde_json.specs.Data.{put}
use Rattle.serde_json.specs.Read.{number_of, of_items, of_members}
use Rattle.serde_json.specs.Written.{items_text, members_text, comma_if}
use Rattle.css_text.specs.Ordered.{IsCanonical, HasUtf8, ItemsHaveUtf8, MembersHaveUtf8, IsAfter, followed_by}
use Rattle.css_text.specs.Ordered.{IsOrdered, ItemsAreOrdered, AreOrderedAfter}
use Rattle.std.proofs.Common.{◌≡◌, ℕ, ◌≤◌, List, [], ◌∷◌, ◌++◌, suc, Some, Ok, refl, sym, ap, ap₂, ◌∙◌, arith}
use Rattle.std.proofs.Common.{append-nil}
use Rattle.std.specs.Prelude.{pos, negsuc, option_and_then, max}
use Rattle.std.specs.Str.{IsUtf8}
use Rattle.json.specs.Lex.{tokens}
use Rattle.json.specs.Json as json
use Rattle.json.specs.Tree as tree
use Rattle.json.specs.Print.{quoted}
use Rattle.json.specs.Tree.{json_tokens, HasNumbers, ItemsHaveNumbers, MembersHaveNumbers}
use Rattle.json.proofs.Printed.Trees.{value-json_tokens, ArePrintable-json_tokens}
use Rattle.json.proofs.Printed.Tokens.{tokens-print}
use Rattle.json.proofs.Printed.Decimals.{IsNumber-decimal, IsNumber-signed_decimal}
use Rattle.serde_json.specs.Data.{Num, unsigned, negative, float, Data, null, boolean, number, string, array, object}
use Rattle.serde_json.specs.Data.{Items, no_items, item, Members, no_members, member, depth, items_depth, members_depth}
use Rattle.serde_json.specs.Read.{read, of_json, max_depth}
use Rattle.serde_json.specs.Written.{compact_text, outline, items_outline, members_outline, number_text}
use Rattle.serde_json.proofs.Texts.{print-outline}
use Rattle.json.specs.Print.{IsNumber}
use Rattle.css_text.specs.CompactTexts.{IsPlain, IsPlainNumber, ItemsArePlain, MembersArePlain}
use Rattle.css_text.specs.Readings.{object_of, members_or_fault}
use Rattle.css_text.proofs.CompactTexts.{object_written}

-- a plain number is written as one
plain_number : (n : Num) → IsPlainNumber n → IsNumber (number_text n)
plain_number (unsigned n) h = IsNumber-decimal n (omega arith)
plain_number (negative (pos n)) h = IsNumber-signed_decimal (pos n) (omega arith)
plain_number (negative (negsuc n)) h = IsNumber-signed_decimal (negsuc n) (omega arith)
plain_number (float x) h = absurd h

-- each number in a plain value is written as one
mutual
  numbers : (d : Data) → IsPlain d → HasNumbers (outline d)
  numbers null h = tt
  numbers (boolean b) h = tt
  numbers (number n) h = plain_number n h
  numbers (string s) h = tt
  numbers (array ds) h = items_numbers ds h
  numbers (object ms) h = members_numbers ms h

  items_numbers : (ds : Items) → ItemsArePlain ds → ItemsHaveNumbers (items_outline ds)
  items_numbers no_items h = tt
  items_numbers (item d ds) h = (numbers d h.0, items_numbers ds h.1)

  members_numbers : (ms : Members) → MembersArePlain ms → MembersHaveNumbers (members_outline ms)
  members_numbers no_members h = tt
  members_numbers (member k d ms) h = (numbers d h.0, members_numbers ms h.1)

-- a value's outline nests as deep as the value
mutual
  same_depth : (d : Data) → tree.depth (outline d) ≡ depth d
  same_depth null = refl
  same_depth (boolean b) = refl
  same_depth (number n) = refl
  same_depth (string s) = refl
  same_depth (array ds) = ap suc (same_items ds)
  same_depth (object ms) = ap suc (same_members ms)

  same_items : (ds : Items) → tree.items_depth (items_outline ds) ≡ items_depth ds
  same_items no_items = refl
  same_items (item d ds) = ap₂ max (same_depth d) (same_items ds)

  same_members : (ms : Members) → tree.members_depth (members_outline ms) ≡ members_depth ms
  same_members no_members = refl
  same_members (member k d ms) = ap₂ max (same_depth d) (same_members ms)

-- the tokens of the text are those of the outline
compact_tokens : (d : Data) → IsPlain d → tokens (compact_text d) ≡ json_tokens (outline d)
compact_tokens d plain =
    ap tokens (sym (print-outline d)) ∙ tokens-print (json_tokens (outline d))
    (ArePrintable-json_tokens (outline d) (numbers d plain))

-- so the text is read as the outline is
pub read_compact : (d : Data) → IsPlain d → depth d ≤ max_depth → read (compact_text d) ≡ of_json (outline d)
read_compact d plain shallow =
    ap (λ ts. option_and_then of_json (option_and_then (λ p. json.if_last p.0 p.1) (json.value max_depth ts)))
    (compact_tokens d plain ∙ sym (append-nil (json_tokens (outline d))))
    ∙ ap (λ r. option_and_then of_json (option_and_then (λ p. json.if_last p.0 p.1) r))
    (value-json_tokens (outline d) max_depth [] (omega (arith, same_depth d)))

-- ---- UTF-8
-- a byte before a text
led : (byte : ℕ) (text : List ℕ) → IsUtf8 (byte ∷ []) → IsUtf8 text → IsUtf8 (byte ∷ text)
led byte text b t = IsUtf8-append (byte ∷ []) text b t

-- the comma before a later item
comma_utf8 : (later : Bool) → IsUtf8 (comma_if later)
comma_utf8 true = IsUtf8-are_ascii (44 ∷ []) refl
comma_utf8 false = IsUtf8-nil

-- a plain number's text is ASCII
number_utf8 : (n : Num) → IsPlainNumber n → IsUtf8 (number_text n)
number_utf8 (unsigned n) h = IsUtf8-from_ascii (decimal n) (IsAscii-decimal n (omega arith))
number_utf8 (negative (pos n)) h = IsUtf8-from_ascii (decimal n) (IsAscii-decimal n (omega arith))
number_utf8 (negative (negsuc n)) h =
    led 45 (decimal (suc n)) (IsUtf8-are_ascii (45 ∷ []) refl)
    (IsUtf8-from_ascii (decimal (suc n)) (IsAscii-decimal (suc n) (omega arith)))
number_utf8 (float x) h = absurd h

-- the compact text is UTF-8 where the value's texts are
mutual
  text_utf8 : (d : Data) → IsPlain d → HasUtf8 d → IsUtf8 (compact_text d)
  text_utf8 null p h = IsUtf8-are_ascii (compact_text null) refl
  text_utf8 (boolean b) p h = absurd p
  text_utf8 (number n) p h = number_utf8 n p
  text_utf8 (string s) p h = IsUtf8-quoted s h
  text_utf8 (array ds) p h = led 91 (items_text false ds) (IsUtf8-are_ascii (91 ∷ []) refl) (items_utf8 false ds p h)
  text_utf8 (object ms) p h =
      led 123 (members_text false ms) (IsUtf8-are_ascii (123 ∷ []) refl) (members_utf8 false ms p h)

  items_utf8 : (later : Bool) (ds : Items) → ItemsArePlain ds → ItemsHaveUtf8 ds → IsUtf8 (items_text later ds)
  items_utf8 later no_items p h = IsUtf8-are_ascii (93 ∷ []) refl
  items_utf8 later (item d ds) p h =
      IsUtf8-append (comma_if later) _ (comma_utf8 later)
      (IsUtf8-append (compact_text d) _ (text_utf8 d p.0 h.0) (items_utf8 true ds p.1 h.1))

  members_utf8 : (later : Bool) (ms : Members) → MembersArePlain ms → MembersHaveUtf8 ms
      → IsUtf8 (members_text later ms)
  members_utf8 later no_members p h = IsUtf8-are_ascii (125 ∷ []) refl
  members_utf8 later (member k d ms) p h =
      IsUtf8-append (comma_if later) _ (comma_utf8 later) (IsUtf8-append (quoted k) _ (IsUtf8-quoted k h.0)
      (led 58 (compact_text d ++ members_text true ms) (IsUtf8-are_ascii (58 ∷ []) refl)
      (IsUtf8-append (compact_text d) _ (text_utf8 d p.0 h.1) (members_utf8 true ms p.1 h.2))))

-- ---- names in order
-- a name after all others is put at the end
put_last : (k : List ℕ) (d : Data) (ms : Members) → IsAfter k ms → put k d ms ≡ followed_by ms (member k d no_members)
put_last k d no_members h = refl
put_last k d (member l e ms) h =
    ap (λ o. match_ordering o (member k d (member l e ms)) (member l d ms) (member l e (put k d ms))) h.0 ∙ ap
    (member l e) (put_last k d ms h.1)

-- members one after another, however they are grouped
followed-assoc : (a b c : Members) → followed_by (followed_by a b) c ≡ followed_by a (followed_by b c)
followed-assoc no_members b c = refl
followed-assoc (member k d a) b c = ap (member k d) (followed-assoc a b c)

-- members with none after them
followed_none : (a : Members) → followed_by a no_members ≡ a
followed_none no_members = refl
followed_none (member k d a) = ap (member k d) (followed_none a)

-- a plain number is read back from its text
number_back : (n : Num) → IsPlainNumber n → IsCanonical n → number_of (number_text n) ≡ Some n
number_back (unsigned n) h c = number_of-decimal n (omega arith)
number_back (negative (pos n)) h c = absurd c
number_back (negative (negsuc n)) h c = number_of-negative n (omega arith)
number_back (float x) h c = absurd h

-- a value whose names are in order is read back from its outline
mutual
  outline_back : (d : Data) → IsPlain d → IsOrdered d → of_json (outline d) ≡ Some d
  outline_back null p h = refl
  outline_back (boolean b) p h = refl
  outline_back (number n) p h = ap (option_map number) (number_back n p h)
  outline_back (string s) p h = refl
  outline_back (array ds) p h = ap (option_map array) (items_back ds p h)
  outline_back (object ms) p h = ap (option_map object) (members_back ms no_members p h)

  items_back : (ds : Items) → ItemsArePlain ds → ItemsAreOrdered ds → of_items (items_outline ds) ≡ Some ds
  items_back no_items p h = refl
  items_back (item d ds) p h =
      ap (option_and_then (λ d. option_map (item d) (of_items (items_outline ds)))) (outline_back d p.0 h.0) ∙ ap
      (option_map (item d)) (items_back ds p.1 h.1)

  members_back : (ms found : Members) → MembersArePlain ms → AreOrderedAfter found ms
      → of_members (members_outline ms) found ≡ Some (followed_by found ms)
  members_back no_members found p h = ap Some (sym (followed_none found))
  members_back (member k d ms) found p h =
      ap (option_and_then (λ d. of_members (members_outline ms) (put k d found))) (outline_back d p.0 h.1)
      ∙ ap (of_members (members_outline ms)) (put_last k d found h.0)
      ∙ members_back ms (followed_by found (member k d no_members)) p.1 h.2
      ∙ ap Some (followed-assoc found (member k d no_members) ms)

-- so the object of its text is the value's
pub object_compact : (d : Data) → IsPlain d → depth d ≤ max_depth → HasUtf8 d → IsOrdered d
    → object_of (compact_text d) ≡ members_or_fault (Ok d)
object_compact d plain shallow utf8 ordered =
    object_written d (compact_text d) plain refl (text_utf8 d plain utf8)
    (read_compact d plain shallow ∙ outline_back d plain ordered)
