-- A setup, a control timestamp and a presentation that are written are read back.
use Rattle.std.proofs.Common.{◌≡◌, ℕ, zero, suc, ◌^◌, ◌<◌, ◌≤◌, ℤ, pos, negsuc, neg_ℤ, ◌≤ℤ◌, true, false, List, ◌∷◌}
use Rattle.std.proofs.Common.{length, get_or, Some, Ok, decimal, refl, ap, ap₂, ◌∙◌, arith, lt-ltb, le-ltb, ne_eqb}
use Rattle.std.specs.Prelude.{nat_lt}
use Rattle.std.specs.Fmt.{signed_decimal}
use Rattle.std.specs.Str.Parse.{digits_value}
use Rattle.std.proofs.lemmas.Int.{ints}
use Rattle.std.proofs.lemmas.Bool.{lt-leb}
use Rattle.std.proofs.lemmas.Fmt.{decimal_digit, length-decimal-le, decimal_is_IsNumeral, decimal_nonempty}
use Rattle.std.proofs.lemmas.Fmt.{first_decimal}
use Rattle.css_num.specs.declared.control.Control.{Control}
use Rattle.css_num.specs.declared.control.Control.TheVariants.{Available, Unavailable}
use Rattle.serde_json.specs.Data.{depth}
use Rattle.serde_json.specs.Find.{of_integer, as_i64}
use Rattle.serde_json.specs.Read.{max_depth}
use Rattle.serde_json.specs.Written.{compact_text}
use Rattle.css_text.specs.CompactTexts.{IsPlainNumber, IsPlain}
use Rattle.css_text.specs.Fields.{whole_or_other}
use Rattle.css_text.specs.Readings.{object_of, members_or_fault}
use Rattle.css_text.specs.WholeTexts.{odd_count}
use Rattle.css_text.specs.declared.fields.Field.TheVariants as field
use Rattle.css_text.proofs.CompactTexts.{decimal_digits}
use Rattle.css_tsmsg.specs.Controls.{control_of, control_in, control_or_fault, control_from, is_speed, control_data}
use Rattle.css_tsmsg.specs.Controls.{control_text, IsInRange, AreInRange}
use Rattle.css_tsmsg.specs.Setups.{setup_of, setup_in, setup_or_fault, setup_data, setup_text}
use Rattle.css_tsmsg.specs.Times.{is_wall, has_minus, without_minus, is_content, content_value, IsContent}
use Rattle.css_tsmsg.specs.declared.setup.Setup.{Setup}

-- ---- numbers

-- a speed is a plain number
small_speed : (s : ℤ) → neg_ℤ (pos 64) ≤ℤ s → s ≤ℤ pos 64 → IsPlainNumber (of_integer s)
small_speed (pos n) low high = omega (arith, ints)
small_speed (negsuc n) low high = omega (arith, ints)

-- a speed is read back from its number
speed_back : (s : ℤ) → neg_ℤ (pos 64) ≤ℤ s → s ≤ℤ pos 64 → as_i64 (of_integer s) ≡ Some s
speed_back (pos n) low high = let lt : n < 2 ^ 63 = omega (arith, ints) in rw (lt-ltb _ _ lt) refl
speed_back (negsuc n) low high = refl

-- the test of a speed that is in range
speed_fits : (s : ℤ) → neg_ℤ (pos 64) ≤ℤ s → s ≤ℤ pos 64 → is_speed s ≡ true
speed_fits (pos n) low high = let le : n ≤ 64 = omega (arith, ints) in rw (le-ltb _ _ le) refl
speed_fits (negsuc n) low high = let lt : n < 64 = omega (arith, ints) in rw (lt-leb 64 n lt) refl

-- what is written of a content time
pub record Reads (bytes : List ℕ) (z : ℤ) : Type 0 where
  pub form : is_content bytes ≡ true
  pub few : length (without_minus bytes) ≤ 18
  pub value : content_value bytes ≡ z

-- a number is written as digits, one or more
pub wall_form : (n : ℕ) → n < 2 ^ 64 → is_wall (decimal n) ≡ true
wall_form n h =
    rw (ne_eqb (length (decimal n)) 0 (let some = decimal_nonempty n h in λ e. omega arith), decimal_digits n h) refl

-- with no `-`
plain : (n : ℕ) → n < 2 ^ 64 → has_minus (decimal n) ≡ false
plain zero h = rw (decimal_digit 0 (omega arith)) refl
plain (suc n) h = let first = first_decimal (suc n) (omega arith) h in
    ne_eqb (get_or (decimal (suc n)) 0 0) 45 (λ e. omega arith)

-- a content time without a `-`
reads_decimal : (n : ℕ) → n < 10 ^ 18 → Reads (decimal n) (pos n)
reads_decimal n h =
    let small : n < 2 ^ 64 = omega arith in
    let sign = plain n small in
    record {
      form = rw sign (wall_form n small);
      few = rw sign (length-decimal-le 18 n (omega arith) h small);
      value = rw sign (ap pos (decimal_is_IsNumeral n small).1);
    }

-- a content time with a `-`
reads_negative : (n : ℕ) → suc n < 10 ^ 18 → Reads (45 ∷ decimal (suc n)) (negsuc n)
reads_negative n h =
    let small : suc n < 2 ^ 64 = omega arith in
    record {
      form = wall_form (suc n) small;
      few = length-decimal-le 18 (suc n) (omega arith) h small;
      value = ap (λ k. neg_ℤ (pos k)) (decimal_is_IsNumeral (suc n) small).1;
    }

-- a content time is read back from its text
pub reads_signed : (z : ℤ) → IsContent z → Reads (signed_decimal z) z
reads_signed (pos n) h = let low = h.low in let high = h.high in reads_decimal n (omega (arith, ints))
reads_signed (negsuc n) h = let low = h.low in let high = h.high in reads_negative n (omega (arith, ints))

-- a wall time has at most 19 digits, and is read back from them
pub wall_few : (n : ℕ) → n < 2 ^ 63 → length (decimal n) ≤ 19
wall_few n h = length-decimal-le 19 n (omega arith) (omega arith) (omega arith)

-- and is read back from them
pub wall_value : (n : ℕ) → n < 2 ^ 63 → digits_value 10 (decimal n) ≡ n
wall_value n h = (decimal_is_IsNumeral n (omega arith)).1

-- ---- control timestamps

-- the three fields that were written
fields_back : (content : ℤ) (wall : ℕ) (speed : ℤ) → AreInRange content wall speed
    → control_from (field.Words (signed_decimal content)) (whole_or_other (as_i64 (of_integer speed)))
    (field.Words (decimal wall)) false ≡ Ok (Available content wall speed)
fields_back content wall speed h =
    let c = reads_signed content h.content_time in
    rw (
      speed_back speed h.slow h.fast,
      c.form,
      wall_form wall (omega (arith, h.wall_time)),
      le-ltb _ _ c.few,
      speed_fits speed h.slow h.fast,
      le-ltb _ _ (wall_few wall h.wall_time),
      wall_value wall h.wall_time,
      c.value,
      lt-leb (2 ^ 63) wall h.wall_time,
    ) refl

-- the object of a control timestamp is plain
pub control_plain : (c : Control) → IsInRange c → IsPlain (control_data c)
control_plain (Available content wall speed) h = (tt, (small_speed speed h.slow h.fast, (tt, tt)))
control_plain Unavailable h = (tt, (tt, (tt, tt)))

-- and nests one level deep
pub control_shallow : (c : Control) → depth (control_data c) ≤ max_depth
control_shallow (Available content wall speed) = omega arith
control_shallow Unavailable = omega arith

-- the members that were written are read as the same control timestamp
members_back : (c : Control) → IsInRange c → control_or_fault (members_or_fault (Ok (control_data c))) false ≡ Ok c
unfolding control_in
members_back (Available content wall speed) h = fields_back content wall speed h
members_back Unavailable h = refl

-- so its text is read back as the same control timestamp
pub control_back : (c : Control) (text : List ℕ) → IsInRange c → object_of text ≡ members_or_fault (Ok (control_data c))
    → odd_count text ≡ 0 → control_of text ≡ Ok c
unfolding control_of
control_back c text h told none =
    ap₂ (λ members odd. control_or_fault members (nat_lt 0 odd)) told none ∙ members_back c h

-- the text is that of the definition
pub control_text-is : (c : Control) → compact_text (control_data c) ≡ control_text c
unfolding control_text
control_text-is c = refl

-- ---- setups

-- the object of a setup is plain
pub setup_plain : (s : Setup) → IsPlain (setup_data s)
setup_plain s = (tt, (tt, tt))

-- and nests one level deep
pub setup_shallow : (s : Setup) → depth (setup_data s) ≤ max_depth
setup_shallow s = omega arith

-- so its text is read back as the same setup
pub setup_back : (s : Setup) (text : List ℕ) → object_of text ≡ members_or_fault (Ok (setup_data s))
    → setup_of text ≡ Ok s
unfolding setup_of setup_in
setup_back s text told = ap setup_or_fault told

-- the text is that of the definition
pub setup_text-is : (s : Setup) → compact_text (setup_data s) ≡ setup_text s
unfolding setup_text
setup_text-is s = refl
