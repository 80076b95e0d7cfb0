-- The number of a line is read off what is said at it.
use Rattle.std.proofs.Common.{◌≡◌, ℕ, suc, zero, ◌+◌, ◌/◌, ◌%◌, arith, ap, subst, ◌∙◌, refl, Bool, true, false, cond}
use Rattle.std.proofs.Common.{inl, inr, ltb, List, [], ◌∷◌, ◌++◌, ℤ, pos, negsuc, ◌==◌, All, Option, Some, None, codes}
use Rattle.std.proofs.Common.{decimal, ne_eqb}
use Rattle.std.specs.Fmt.{signed_decimal, digits, digits_onto, digit_glyph}
use Rattle.std.proofs.lemmas.List.{append_assoc}
use Rattle.css_num.specs.Spans.{Interval}
use Rattle.css_num.proofs.Numerals.{number_of-decimal}
use Rattle.css_tsmsg.specs.Names.{json_name}
use Rattle.css_tsmsg.specs.declared.name.TsName.{TsName}
use Rattle.css_tsmsg.specs.declared.name.TsName.TheVariants.{ContentIdStem}
use Rattle.css_tsmsg.specs.declared.fault.TsFault.{TsFault}
use Rattle.css_tsmsg.specs.declared.fault.TsFault.TheVariants as fault
use Rattle.css_companion.specs.Printed.{fault_words, cause_words, at_position, report_words}
use Rattle.css_companion.specs.declared.report.Cause.{Cause}
use Rattle.css_companion.specs.declared.report.Cause.TheVariants as cause
use Rattle.css_companion.specs.declared.report.Report.{Report}
use Rattle.css_companion.specs.declared.report.Report.TheVariants as report
use Rattle.css_laws.specs.Numbers.{IsReadOff, NumbersAreReadOff, Nothing, Span, Reported}
use Rattle.css_laws.proofs.Names.{All-nil, All-cons, All-append, All-weaker, slice_split_at, is_feed, HasNoFeed}
use Rattle.css_laws.proofs.Names.{is_space, words_of}
use Rattle.css_laws.proofs.Runs.{free-by}

-- ---- digits
-- neither a space nor a line feed
abbrev IsPlain : ℕ → Type 0
IsPlain byte = (is_space byte ≡ false) × (is_feed byte ≡ false)

-- nor is a digit
glyph-plain : (digit : ℕ) → IsPlain (digit_glyph false digit)
glyph-plain digit = by (ltb digit 10)
  where
    by : (b : Bool) → IsPlain (cond b (48 + digit) (87 + digit))
    by true = (
      ne_eqb (48 + digit) 32 (λ e. absurd (omega (arith, e))),
      ne_eqb (48 + digit) 10 (λ e. absurd (omega (arith, e))),
    )
    by false = (
      ne_eqb (87 + digit) 32 (λ e. absurd (omega (arith, e))),
      ne_eqb (87 + digit) 10 (λ e. absurd (omega (arith, e))),
    )

digits-plain : (k n : ℕ) (after : List ℕ) → All IsPlain after → All IsPlain (digits_onto k 10 false n after)
digits-plain zero n after plain = plain
digits-plain (suc k) n after plain =
    let glyph = digit_glyph false (n % 10) in
    let more = All-cons IsPlain glyph after (glyph-plain (n % 10)) plain in
    by (n / 10 == 0) more (digits-plain k (n / 10) (glyph ∷ after) more)
  where
    by : (b : Bool) → All IsPlain (digit_glyph false (n % 10) ∷ after)
        → All IsPlain (digits_onto k 10 false (n / 10) (digit_glyph false (n % 10) ∷ after))
        → All IsPlain (cond b (digit_glyph false (n % 10) ∷ after)
        (digits_onto k 10 false (n / 10) (digit_glyph false (n % 10) ∷ after)))
    by true last more = last
    by false last more = more

decimal-plain : (n : ℕ) → All IsPlain (decimal n)
unfolding digits
decimal-plain n = digits-plain 64 n [] (All-nil IsPlain)

decimal-free : (n : ℕ) → HasNoFeed (decimal n)
decimal-free n = All-weaker IsPlain (λ byte. is_feed byte ≡ false) (λ byte p. p.1) (decimal n) (decimal-plain n)

signed-free : (z : ℤ) → HasNoFeed (signed_decimal z)
signed-free (pos n) = decimal-free n
signed-free (negsuc n) = All-cons (λ byte. is_feed byte ≡ false) 45 (decimal (suc n)) refl (decimal-free (suc n))

-- ---- texts
join-free : (a b : List ℕ) → HasNoFeed a → HasNoFeed b → HasNoFeed (a ++ b)
join-free a b x y = All-append (λ byte. is_feed byte ≡ false) a b x y

-- a text begins with the number and a space
record Begins (number : ℕ) (text : List ℕ) : Type 0 where
  words : List ℕ
  free : HasNoFeed words
  is : text ≡ decimal number ++ 32 ∷ words

begins-first : (number : ℕ) (words : List ℕ) → HasNoFeed words → Begins number (decimal number ++ 32 ∷ words)
begins-first number words free = record { words = words; free = free; is = refl }

begins-more : (number : ℕ) (text words : List ℕ) → HasNoFeed words → Begins number text → Begins number (text ++ words)
begins-more number text words free before = record {
  words = before.words ++ words;
  free = join-free before.words words before.free free;
  is = ap (λ (t : List ℕ). t ++ words) before.is ∙ append_assoc (decimal number) (32 ∷ before.words) words;
}

-- with its line feed the number is read off it
off : (number : ℕ) (text : List ℕ) → Begins number text → IsReadOff number (text ++ 10 ∷ [])
off number text begins = record {
  line = decimal number ++ 32 ∷ begins.words;
  is = ap (λ (t : List ℕ). t ++ 10 ∷ []) begins.is;
  free = join-free (decimal number) (32 ∷ begins.words) (decimal-free number)
      (All-cons (λ byte. is_feed byte ≡ false) 32 begins.words refl begins.free);
  word = decimal number;
  others = words_of begins.words;
  words = slice_split_at is_space (decimal number) 32 begins.words
      (All-weaker IsPlain (λ byte. is_space byte ≡ false) (λ byte p. p.0) (decimal number) (decimal-plain number)) refl;
  read = number_of-decimal number;
}

-- ---- the wall clock
wall-begins : (number : ℕ) (span : Interval) (w : ℕ)
    → Begins number (decimal number ++ codes " wall " ++ signed_decimal span.lo ++ codes " " ++ signed_decimal span.hi
    ++ codes " at " ++ decimal w)
wall-begins number span w =
    let name = decimal number ++ codes " wall " in
    let low = name ++ signed_decimal span.lo in
    let high = low ++ codes " " ++ signed_decimal span.hi in
    begins-more number (high ++ codes " at ") (decimal w) (decimal-free w)
    (begins-more number high (codes " at ") (free-by (codes " at ") refl)
    (begins-more number (low ++ codes " ") (signed_decimal span.hi) (signed-free span.hi)
    (begins-more number low (codes " ") (free-by (codes " ") refl)
    (begins-more number name (signed_decimal span.lo) (signed-free span.lo)
    (begins-first number (codes "wall ") (free-by (codes "wall ") refl))))))

-- ---- reports
name-free : (name : TsName) → HasNoFeed (json_name name)
name-free ContentIdStem = free-by (codes "contentIdStem") refl
name-free name = free-by (json_name name) refl

fault-free : (f : TsFault) → HasNoFeed (fault_words f)
fault-free (fault.Field name) =
    join-free (codes "Field ") (json_name name) (free-by (codes "Field ") refl) (name-free name)
fault-free (fault.Range name) =
    join-free (codes "Range ") (json_name name) (free-by (codes "Range ") refl) (name-free name)
fault-free f = free-by (fault_words f) refl

cause-free : (c : Cause) → HasNoFeed (cause_words c)
cause-free (cause.Unreadable f) =
    join-free (codes "Unreadable ") (fault_words f) (free-by (codes "Unreadable ") refl) (fault-free f)
cause-free c = free-by (cause_words c) refl

position-free : (assigned : Option ℤ) → HasNoFeed (at_position assigned)
position-free None = All-nil (λ byte. is_feed byte ≡ false)
position-free (Some position) =
    join-free (codes " at ") (signed_decimal position) (free-by (codes " at ") refl) (signed-free position)

-- what a report says is a space and words
report-begins : (number : ℕ) (r : Report) (assigned : Option ℤ)
    → Begins number (decimal number ++ report_words r assigned)
report-begins number (report.Ticks lo hi) assigned =
    let ends = codes "ticks " ++ signed_decimal lo ++ codes " " in
    begins-first number (ends ++ signed_decimal hi ++ at_position assigned)
    (join-free (ends ++ signed_decimal hi) (at_position assigned)
    (join-free ends (signed_decimal hi)
    (join-free (codes "ticks " ++ signed_decimal lo) (codes " ")
    (join-free (codes "ticks ") (signed_decimal lo) (free-by (codes "ticks ") refl) (signed-free lo))
    (free-by (codes " ") refl)) (signed-free hi)) (position-free assigned))
report-begins number (report.None c) assigned =
    begins-first number (codes "none " ++ cause_words c)
    (join-free (codes "none ") (cause_words c) (free-by (codes "none ") refl) (cause-free c))

-- ---- the law
-- where no answer came
none-read : (number : ℕ) → IsReadOff number (decimal number ++ (codes " none NoAnswer" ++ 10 ∷ []))
none-read number =
    subst (IsReadOff number) (append_assoc (decimal number) (codes " none NoAnswer") (10 ∷ []))
    (off number (decimal number ++ codes " none NoAnswer")
    (begins-first number (codes "none NoAnswer") (free-by (codes "none NoAnswer") refl)))

pub read_off : NumbersAreReadOff
read_off number Nothing = inl refl
read_off number (Span None w) = inr (none-read number)
read_off number (Span (Some span) w) = inr (off number _ (wall-begins number span w))
read_off number (Reported r assigned) = inr (off number _ (report-begins number r assigned))
