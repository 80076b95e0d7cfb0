-- The compact text of a plain value is its own whole text, and reads as that value.
use Rattle.std.proofs.Common.{◌≡◌, ℕ, zero, suc, ◌+◌, ◌-◌, ◌^◌, ◌%◌, ◌≢◌, ◌<◌, ◌≤◌, Bool, true, false, not, cond, ◌==◌}
use Rattle.std.proofs.Common.{◌&&◌, List, [], ◌∷◌, ◌++◌, length, get_or, take, Some, pos, negsuc, decimal, inl, inr}
use Rattle.std.proofs.Common.{◌⊎◌, refl, sym, ap, ◌∙◌, subst, arith, append_assoc, append-nil, zero-add}
use Rattle.std.proofs.lemmas.Bool.{cases_eq, cases_lt, ne_eqb, and_parts, not-true, true≢false, le-leb}
use Rattle.std.proofs.lemmas.List.{drop_all}
use Rattle.std.proofs.lemmas.List.Folds.{list_all-append}
use Rattle.std.proofs.lemmas.Grind.{common_steps}
use Rattle.std.specs.Int.{from_bool}
use Rattle.std.proofs.lemmas.Slice.Eq.{bytes_eq-Decides}
use Rattle.std.proofs.lemmas.Fmt.{first_decimal, decimal_by_steps, decimal_digit, length-decimal-le, decimal_nonempty}
use Rattle.std.specs.Prelude.{⊤, codes, bytes_eq, ◌||◌, Ok}
use Rattle.std.specs.Str.{IsUtf8}
use Rattle.std.specs.List.{list_all, prefix_len}
use Rattle.std.specs.Char.{is_ascii_digit}
use Rattle.json.specs.Print.{escape_byte, escape, quoted}
use Rattle.json.specs.Word.{head, after_number, after_whole, after_minus}
use Rattle.json.proofs.Printed.Strings.{escape_byte_plain}
use Rattle.serde_json.specs.Data.{Num, unsigned, negative, float, Data, null, boolean, number, string, array, object}
use Rattle.serde_json.specs.Data.{Items, no_items, item, Members, no_members, member}
use Rattle.serde_json.specs.Written.{number_text, compact_text, items_text, members_text, comma_if, has_float}
use Rattle.serde_json.specs.Written.{items_have_float, members_have_float}
use Rattle.serde_json.specs.Read.{read}
use Rattle.css_text.specs.Readings.{object_of, members_or_fault}
use Rattle.css_text.proofs.Readings.{reading_found}
use Rattle.css_text.specs.Numerals.{rewritten, is_odd, is_numeral_byte, is_numeral, whole_part}
use Rattle.css_text.specs.WholeTexts.{whole_from, odd_from, whole_text, odd_count, place_after, is_in_run}
use Rattle.css_text.specs.CompactTexts.{IsPlainNumber, IsPlain, ItemsArePlain, MembersArePlain}
use Rattle.css_text.specs.declared.whole_text.Place.{Place}
use Rattle.css_text.specs.declared.whole_text.Place.TheVariants.{Outside, InString}

-- ---- bytes that belong to no run

-- no byte belongs to a run
abbrev stays : Place → List ℕ → Bool
stays p [] = true
stays p (b ∷ bytes) = not (is_in_run p b) && stays (place_after p b) bytes

-- where the byte after these stands
abbrev places : Place → List ℕ → Place
places p [] = p
places p (b ∷ bytes) = places (place_after p b) bytes

-- what is written stands as it was, and the rewriting goes on behind it with nothing odd before
pub record Same (p q : Place) (before after written : List ℕ) : Type 0 where
  pub whole : whole_from p [] before ≡ written ++ whole_from q [] after
  pub odd : odd_from p [] before ≡ odd_from q [] after

-- a byte that belongs to no run stays
inside : (p : Place) (b : ℕ) (r : List ℕ) → is_in_run p b ≡ false
    → (whole_from p [] (b ∷ r) ≡ b ∷ whole_from (place_after p b) [] r)
    × (odd_from p [] (b ∷ r) ≡ odd_from (place_after p b) [] r)
unfolding whole_from odd_from rewritten is_odd after_number
inside p b r h = (rw h refl, rw h (zero-add _))

-- so do several
over : (p : Place) (xs r : List ℕ) → stays p xs ≡ true → Same p (places p xs) (xs ++ r) r xs
over p [] r h = record { whole = refl; odd = refl }
over p (b ∷ xs) r h =
    let parts = and_parts _ _ h in
    let here = inside p b (xs ++ r) (not-true _ parts.0) in
    let rest = over (place_after p b) xs r parts.1 in
    record { whole = here.0 ∙ ap (λ t. b ∷ t) rest.whole; odd = here.1 ∙ rest.odd }

-- ---- strings

-- the escape of a byte stays in its string
abbrev Passes : ℕ → Type 0
Passes x = (stays InString (escape_byte x) ≡ true) × (places InString (escape_byte x) ≡ InString)

-- a fact holds of each number below a limit
abbrev Each : (ℕ → Type 0) → ℕ → Type 0
Each P zero = Unit {0}
Each P (suc n) = P n × Each P n

-- so it holds of such a number
each_sound : (P : ℕ → Type 0) (n : ℕ) → Each P n → (x : ℕ) → x < n → P x
each_sound P zero h x lt = absurd (omega arith)
each_sound P (suc n) h x lt = go (each_sound P n h.1 x) (cases_eq x n)
  where
    go : (x < n → P x) → (x ≡ n) ⊎ (x ≡ n → ⊥) → P x
    go below (inl e) = subst P (sym e) h.0
    go below (inr ne) = below (omega arith)

-- both hold by computing
same : {A B : Type 0} {a : A} {b : B} → (a ≡ a) × (b ≡ b)
same = (refl, refl)

-- the escapes of control characters
below_8 : Each Passes 8
unfolding escape_byte
below_8 = (same, (same, (same, (same, (same, (same, (same, (same, tt))))))))

below_16 : Each Passes 16
unfolding escape_byte
below_16 = (same, (same, (same, (same, (same, (same, (same, (same, below_8))))))))

below_24 : Each Passes 24
unfolding escape_byte
below_24 = (same, (same, (same, (same, (same, (same, (same, (same, below_16))))))))

controls : Each Passes 32
unfolding escape_byte
controls = (same, (same, (same, (same, (same, (same, (same, (same, below_24))))))))

-- the escape of a quote
quote_passes : Passes 34
unfolding escape_byte
quote_passes = (refl, refl)

-- the escape of a backslash
backslash_passes : Passes 92
unfolding escape_byte
backslash_passes = (refl, refl)

-- the escape of any byte
passes : (x : ℕ) → Passes x
passes x = go (cases_eq x 34) (cases_eq x 92) (cases_lt x 32)
  where
    go : (x ≡ 34) ⊎ (x ≡ 34 → ⊥) → (x ≡ 92) ⊎ (x ≡ 92 → ⊥) → (x < 32) ⊎ (32 ≤ x) → Passes x
    go (inl e) b c = subst Passes (sym e) quote_passes
    go (inr q) (inl e) c = subst Passes (sym e) backslash_passes
    go (inr q) (inr b) (inl c) = each_sound Passes 32 controls x c
    go (inr q) (inr b) (inr l) = let same = escape_byte_plain x q b l in
        (rw same refl, rw (same, ne_eqb x 34 q, ne_eqb x 92 b) refl)

-- an escaped text stays
escape_same : (s r : List ℕ) → Same InString InString (escape s ++ r) r (escape s)
escape_same [] r = record { whole = refl; odd = refl }
escape_same (x ∷ s) r =
    let first = over InString (escape_byte x) (escape s ++ r) (passes x).0 in
    let rest = escape_same s r in
    let group = append_assoc (escape_byte x) (escape s) r in
    record {
      whole =
          ap (whole_from InString []) group ∙ first.whole ∙ ap (λ p. escape_byte x ++ whole_from p [] (escape s ++ r))
          (passes x).1 ∙ ap (λ t. escape_byte x ++ t) rest.whole
          ∙ sym (append_assoc (escape_byte x) (escape s) (whole_from InString [] r));
      odd =
          ap (odd_from InString []) group ∙ first.odd ∙ ap (λ p. odd_from p [] (escape s ++ r)) (passes x).1 ∙ rest.odd;
    }

-- a string stays
pub quoted_same : (s r : List ℕ) → Same Outside Outside (quoted s ++ r) r (quoted s)
quoted_same s r =
    let first = inside Outside 34 ((escape s ++ 34 ∷ []) ++ r) refl in
    let group = append_assoc (escape s) (34 ∷ []) r in
    let middle = escape_same s (34 ∷ r) in
    let close = inside InString 34 r refl in
    record {
      whole =
          first.0 ∙ ap (λ t. 34 ∷ whole_from InString [] t) group ∙ ap (λ t. 34 ∷ t)
          (middle.whole ∙ ap (λ t. escape s ++ t) close.0)
          ∙ ap (λ t. 34 ∷ t) (sym (append_assoc (escape s) (34 ∷ []) (whole_from Outside [] r)));
      odd = first.1 ∙ ap (odd_from InString []) group ∙ middle.odd ∙ close.1;
    }

-- ---- numbers

-- what follows a value begins no run
abbrev Stops : List ℕ → Type 0
Stops [] = ⊤
Stops (b ∷ r) = is_numeral_byte b ≡ false

-- a numeral character is no quote
numeral_no_quote : (x : ℕ) → is_numeral_byte x ≡ true → (x == 34) ≡ false
numeral_no_quote x h =
    ne_eqb x 34 (λ e. let P : ℕ → Type 0 = λ y. is_numeral_byte y ≡ true in true≢false (sym (subst P e h)))

-- numeral characters go on a run
run_on : (run xs r : List ℕ) → list_all is_numeral_byte xs ≡ true
    → (whole_from Outside run (xs ++ r) ≡ whole_from Outside (run ++ xs) r)
    × (odd_from Outside run (xs ++ r) ≡ odd_from Outside (run ++ xs) r)
unfolding whole_from odd_from
run_on run [] r h =
    (ap (λ t. whole_from Outside t r) (sym (append-nil run)), ap (λ t. odd_from Outside t r) (sym (append-nil run)))
run_on run (x ∷ xs) r h =
    let parts = and_parts _ _ h in
    let next = run_on (run ++ x ∷ []) xs r parts.1 in
    let group = append_assoc run (x ∷ []) xs in
    let place : place_after Outside x ≡ Outside = rw (numeral_no_quote x parts.0) refl in (
      rw (parts.0, place) (next.0 ∙ ap (λ t. whole_from Outside t r) group),
      rw (parts.0, place) (zero-add _ ∙ next.1 ∙ ap (λ t. odd_from Outside t r) group),
    )

-- a run that the rewriting keeps
pub record KeptRun (ds : List ℕ) : Type 0 where
  pub numeral : list_all is_numeral_byte ds ≡ true
  pub whole : rewritten ds ≡ ds
  pub odd : is_odd ds ≡ false

-- a run that is kept stays, where no run goes on behind it
run_same : (ds r : List ℕ) → KeptRun ds → Stops r → Same Outside Outside (ds ++ r) r ds
unfolding whole_from odd_from rewritten is_odd after_number
run_same ds [] h stops =
    let on = run_on [] ds [] h.numeral in
    record {
      whole = on.0 ∙ h.whole ∙ sym (append-nil ds);
      odd = on.1 ∙ ap from_bool h.odd;
    }
run_same ds (b ∷ r) h stops =
    let on = run_on [] ds (b ∷ r) h.numeral in
    let none = inside Outside b r stops in
    record {
      whole =
          on.0 ∙ rw stops (ap (λ t. (t ++ b ∷ []) ++ whole_from (place_after Outside b) [] r) h.whole) ∙ append_assoc ds
          (b ∷ []) _ ∙ ap (λ t. ds ++ t) (sym none.0);
      odd = on.1 ∙ rw (stops, h.odd) (zero-add _) ∙ sym none.1;
    }

-- ---- the digits of a number

-- the character of a digit is one
digit_glyph_is : (n : ℕ) → n < 10 → is_ascii_digit (48 + n) ≡ true
digit_glyph_is n h = let low : 48 ≤ 48 + n = omega arith in let high : 48 + n ≤ 57 = omega arith in
    rw (le-leb _ _ low, le-leb _ _ high) refl

-- a number is written in digits
pub decimal_digits : (n : ℕ) → n < 2 ^ 64 → list_all is_ascii_digit (decimal n) ≡ true
decimal_digits n h =
    decimal_by_steps (λ _ ds. list_all is_ascii_digit ds ≡ true) (λ k lt. rw (digit_glyph_is k lt) refl)
    (λ k ds ten all.
    list_all-append is_ascii_digit ds ((48 + k % 10) ∷ []) ∙ rw (all, digit_glyph_is (k % 10) (omega arith)) refl) n h

-- digits are numeral characters
digits_numeral : (ds : List ℕ) → list_all is_ascii_digit ds ≡ true → list_all is_numeral_byte ds ≡ true
digits_numeral [] h = refl
digits_numeral (d ∷ ds) h = let p : (is_ascii_digit d ≡ true) × (list_all is_ascii_digit ds ≡ true) = and_parts _ _ h in
    rw p.0 (digits_numeral ds p.1)

-- all digits are a front part of digits
digits_prefix : (ds : List ℕ) → list_all is_ascii_digit ds ≡ true → prefix_len is_ascii_digit ds ≡ length ds
digits_prefix [] h = refl
digits_prefix (d ∷ ds) h = let p : (is_ascii_digit d ≡ true) × (list_all is_ascii_digit ds ≡ true) = and_parts _ _ h in
    rw (p.0, digits_prefix ds p.1) (omega arith)

-- digits with no leading zero are a whole part
after_whole_all : (ds : List ℕ) → list_all is_ascii_digit ds ≡ true → 48 < get_or ds 0 0 → after_whole ds ≡ Some []
after_whole_all [] h lead = absurd (omega arith)
after_whole_all (d ∷ ds) h lead =
    let some : length (d ∷ ds) ≢ 0 = omega arith in
    rw (ne_eqb d 48 (λ e. omega arith), digits_prefix (d ∷ ds) h, ne_eqb (length (d ∷ ds)) 0 some)
    (ap Some (drop_all (length (d ∷ ds)) (d ∷ ds) (omega arith)))

-- a number is a whole part
whole_of : (n : ℕ) → n < 2 ^ 64 → after_whole (decimal n) ≡ Some []
whole_of zero h = rw (decimal_digit 0 (omega arith)) refl
whole_of (suc n) h =
    after_whole_all (decimal (suc n)) (decimal_digits (suc n) h) (first_decimal (suc n) (omega arith) h)

-- a digit is no `-`
head_digit : (ds : List ℕ) → list_all is_ascii_digit ds ≡ true → 0 < length ds → (head ds == 45) ≡ false
head_digit [] h some = absurd (omega arith)
head_digit (d ∷ ds) h some =
    ne_eqb d 45 (λ e. let P : ℕ → Type 0 = λ y. is_ascii_digit y ≡ true in
    true≢false (sym (subst P e (and_parts _ _ h).0)))

-- so a number has no `-`
no_minus : (n : ℕ) → n < 2 ^ 64 → after_minus (decimal n) ≡ decimal n
no_minus n h = rw (head_digit (decimal n) (decimal_digits n h) (decimal_nonempty n h)) refl

-- a run less nothing is the run
take_all_of : (run : List ℕ) → take (length run - 0) run ≡ run
take_all_of run = grind (arith, common_steps)

-- a choice between equals
either_same : (b : Bool) (run : List ℕ) → cond b run run ≡ run
either_same true run = refl
either_same false run = refl

-- nothing and false is false
and_false : (b : Bool) → (b && false) ≡ false
and_false true = refl
and_false false = refl

-- a whole part that is all of the run, of at most 18 digits, and not `-0`, stays
whole_kept : (run : List ℕ) → after_whole (after_minus run) ≡ Some [] → length (after_minus run) ≤ 18
    → bytes_eq run (codes "-0") ≡ false → whole_part run ≡ Some run
whole_kept run e few other =
    rw e (let le : length (after_minus run) - 0 ≤ 18 = omega arith in
    rw (le-leb _ _ le, take_all_of run) (rw other refl))

-- such a run is kept
kept_by : (run : List ℕ) → list_all is_numeral_byte run ≡ true → whole_part run ≡ Some run → KeptRun run
unfolding rewritten is_odd
kept_by run h e =
    record { numeral = h; whole = rw e (either_same (is_numeral run) run); odd = rw e (and_false (is_numeral run)) }

-- what is not true is false
bool_not : (b : Bool) → (b ≡ true → ⊥) → not b ≡ true
bool_not true h = absurd (h refl)
bool_not false h = refl

-- texts that differ are told apart
pub bytes_differ : (xs ys : List ℕ) → (xs ≡ ys → ⊥) → bytes_eq xs ys ≡ false
bytes_differ xs ys h = not-true _ (bool_not (bytes_eq xs ys) (λ e. h ((bytes_eq-Decides xs ys).0 e)))

-- a number of at most 18 digits is kept
kept_decimal : (n : ℕ) → n < 10 ^ 18 → KeptRun (decimal n)
kept_decimal n h =
    let small : n < 2 ^ 64 = omega arith in
    let same = no_minus n small in
    let ds = decimal_digits n small in
    let few : length (after_minus (decimal n)) ≤ 18 = rw same (length-decimal-le 18 n (omega arith) h small) in
    let other =
    bytes_differ (decimal n) (codes "-0") (λ e. let P : List ℕ → Type 0 = λ t. list_all is_ascii_digit t ≡ true in
    true≢false (sym (subst P e ds))) in
    kept_by (decimal n) (digits_numeral (decimal n) ds)
    (whole_kept (decimal n) (ap after_whole same ∙ whole_of n small) few other)

-- so is one below zero
kept_negative : (n : ℕ) → suc n < 10 ^ 18 → KeptRun (45 ∷ decimal (suc n))
kept_negative n h =
    let small : suc n < 2 ^ 64 = omega arith in
    let few : length (decimal (suc n)) ≤ 18 = length-decimal-le 18 (suc n) (omega arith) h small in
    let first = first_decimal (suc n) (omega arith) small in
    let other =
    bytes_differ (45 ∷ decimal (suc n)) (codes "-0") (λ e. let lead : get_or (decimal (suc n)) 0 0 ≡ 48 =
    ap (λ t. get_or t 1 0) e in omega arith) in
    kept_by (45 ∷ decimal (suc n)) (digits_numeral (decimal (suc n)) (decimal_digits (suc n) small))
    (whole_kept (45 ∷ decimal (suc n)) (whole_of (suc n) small) few other)

-- so is each plain number
pub kept_number : (n : Num) → IsPlainNumber n → KeptRun (number_text n)
kept_number (unsigned n) h = kept_decimal n h
kept_number (negative (pos n)) h = kept_decimal n h
kept_number (negative (negsuc n)) h = kept_negative n h
kept_number (float x) h = absurd h

-- ---- values

-- two texts that stay, one behind the other
then : (xs ys r : List ℕ) → Same Outside Outside (xs ++ (ys ++ r)) (ys ++ r) xs → Same Outside Outside (ys ++ r) r ys
    → Same Outside Outside ((xs ++ ys) ++ r) r (xs ++ ys)
then xs ys r first rest =
    let group = append_assoc xs ys r in
    record {
      whole =
          ap (whole_from Outside []) group ∙ first.whole ∙ ap (λ t. xs ++ t) rest.whole ∙ sym
          (append_assoc xs ys (whole_from Outside [] r));
      odd = ap (odd_from Outside []) group ∙ first.odd ∙ rest.odd;
    }

-- a byte that is no numeral character stays
mark : (b : ℕ) (r : List ℕ) → is_in_run Outside b ≡ false → place_after Outside b ≡ Outside
    → Same Outside Outside (b ∷ r) r (b ∷ [])
mark b r h e = let one = inside Outside b r h in
    record { whole = one.0 ∙ ap (λ p. b ∷ whole_from p [] r) e; odd = one.1 ∙ ap (λ p. odd_from p [] r) e }

-- a comma stays
comma : (later : Bool) (r : List ℕ) → Same Outside Outside (comma_if later ++ r) r (comma_if later)
comma true r = mark 44 r refl refl
comma false r = record { whole = refl; odd = refl }

-- behind an item no run goes on
items_stop : (ds : Items) (r : List ℕ) → Stops (items_text true ds ++ r)
items_stop no_items r = refl
items_stop (item d ds) r = refl

-- nor behind a member
members_stop : (ms : Members) (r : List ℕ) → Stops (members_text true ms ++ r)
members_stop no_members r = refl
members_stop (member k d ms) r = refl

mutual
  pub value_same : (d : Data) (r : List ℕ) → IsPlain d → Stops r
      → Same Outside Outside (compact_text d ++ r) r (compact_text d)
  value_same null r h s = over Outside (codes "null") r refl
  value_same (boolean b) r h s = absurd h
  value_same (number n) r h s = run_same (number_text n) r (kept_number n h) s
  value_same (string t) r h s = quoted_same t r
  value_same (array ds) r h s =
      then (91 ∷ []) (items_text false ds) r (mark 91 (items_text false ds ++ r) refl refl) (items_same false ds r h)
  value_same (object ms) r h s =
      then (123 ∷ []) (members_text false ms) r (mark 123 (members_text false ms ++ r) refl refl)
      (members_same false ms r h)

  -- the items stay
  items_same : (later : Bool) (ds : Items) (r : List ℕ) → ItemsArePlain ds
      → Same Outside Outside (items_text later ds ++ r) r (items_text later ds)
  items_same later no_items r h = mark 93 r refl refl
  items_same later (item d ds) r h =
      then (comma_if later) (compact_text d ++ items_text true ds) r
      (comma later ((compact_text d ++ items_text true ds) ++ r))
      (then (compact_text d) (items_text true ds) r (value_same d (items_text true ds ++ r) h.0 (items_stop ds r))
      (items_same true ds r h.1))

  -- the members stay
  members_same : (later : Bool) (ms : Members) (r : List ℕ) → MembersArePlain ms
      → Same Outside Outside (members_text later ms ++ r) r (members_text later ms)
  members_same later no_members r h = mark 125 r refl refl
  members_same later (member k d ms) r h =
      let value =
      then (compact_text d) (members_text true ms) r
      (value_same d (members_text true ms ++ r) h.0 (members_stop ms r)) (members_same true ms r h.1) in
      let colon =
      then (58 ∷ []) (compact_text d ++ members_text true ms) r
      (mark 58 ((compact_text d ++ members_text true ms) ++ r) refl refl) value in
      then (comma_if later) (quoted k ++ 58 ∷ (compact_text d ++ members_text true ms)) r (comma later _)
      (then (quoted k) (58 ∷ (compact_text d ++ members_text true ms)) r (quoted_same k _) colon)

-- the rewriting keeps the compact text of such data, and finds nothing odd
pub compact_kept : (d : Data) → IsPlain d → (whole_text (compact_text d) ≡ compact_text d)
    × (odd_count (compact_text d) ≡ 0)
unfolding whole_from odd_from rewritten is_odd after_number
compact_kept d h =
    let same = value_same d [] h tt in
    let nil = append-nil (compact_text d) in
    (ap whole_text (sym nil) ∙ same.whole ∙ nil, ap odd_count (sym nil) ∙ same.odd)

-- ---- what is written

-- neither of two
or_false : (a b : Bool) → a ≡ false → b ≡ false → (a || b) ≡ false
or_false a b h k = rw (h, k) refl

-- a plain number is no float
no_float_number : (n : Num) → IsPlainNumber n → has_float (number n) ≡ false
no_float_number (unsigned n) h = refl
no_float_number (negative z) h = refl
no_float_number (float x) h = absurd h

mutual
  -- a plain value has no float
  pub no_float : (d : Data) → IsPlain d → has_float d ≡ false
  no_float null h = refl
  no_float (boolean b) h = refl
  no_float (number n) h = no_float_number n h
  no_float (string s) h = refl
  no_float (array ds) h = no_float_items ds h
  no_float (object ms) h = no_float_members ms h

  -- nor has a plain item one
  no_float_items : (ds : Items) → ItemsArePlain ds → items_have_float ds ≡ false
  no_float_items no_items h = refl
  no_float_items (item d ds) h = or_false _ _ (no_float d h.0) (no_float_items ds h.1)

  -- nor a plain member
  no_float_members : (ms : Members) → MembersArePlain ms → members_have_float ms ≡ false
  no_float_members no_members h = refl
  no_float_members (member k d ms) h = or_false _ _ (no_float d h.0) (no_float_members ms h.1)

-- the object that the compact text of a plain value tells is that value
pub object_written : (d : Data) (text : List ℕ) → IsPlain d → text ≡ compact_text d → IsUtf8 text → read text ≡ Some d
    → object_of text ≡ members_or_fault (Ok d)
unfolding object_of
object_written d text plain is utf8 reads =
    let whole : whole_text text ≡ text = ap whole_text is ∙ (compact_kept d plain).0 ∙ sym is in
    rw (whole, reading_found text d utf8 reads) refl

-- and none of its numerals is odd
pub odd_written : (d : Data) (text : List ℕ) → IsPlain d → text ≡ compact_text d → odd_count text ≡ 0
odd_written d text plain is = ap odd_count is ∙ (compact_kept d plain).1
