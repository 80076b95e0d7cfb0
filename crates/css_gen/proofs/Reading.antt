-- What is written of generated lines is read as these lines.
use Rattle.std.proofs.Common.{◌≡◌, ℕ, ◌≤◌, ap, arith, refl, cond, [], ne_eqb}
use Rattle.std.proofs.lemmas.Int.{ints}
use Rattle.std.proofs.lemmas.List.Elements.{All-nil, All-cons}
use Rattle.css_printed.specs.Printed.{header_text, line_text}
use Rattle.css_schedule.specs.Ranges.{IsPrintable, IsPrintableCompanion}
use Rattle.css_printed.proofs.HeadersBack.{header_text-back}
use Rattle.css_printed.proofs.ReadBack.{line_back}
use Rattle.css_gen.specs.Opening.{header, companion}
use Rattle.css_gen.specs.Generated.{line_numbered, text_numbered}
use Rattle.css_gen.specs.Readable.{GeneratedLinesAreRead}
use Rattle.css_gen.proofs.Awake.{line-first}
use Rattle.css_gen.proofs.Ranges.{line-range}

-- the header can be printed
pub header-printable : IsPrintable header
header-printable = record {
  tv_error = omega arith;
  least = omega (arith, ints);
  greatest = omega (arith, ints);
  companions = All-cons IsPrintableCompanion companion []
      (record { local = record { error = omega arith; precision = omega arith }; selector = refl; stem = refl })
      (All-nil IsPrintableCompanion);
}

-- the text of a line from 2 on
text-line : (seed number : ℕ) → 2 ≤ number → text_numbered seed number ≡ line_text (line_numbered seed number)
unfolding text_numbered line_numbered
text-line seed number late =
    ap (λ b. cond b (header_text header) (line_text (line_numbered seed number)))
    (ne_eqb number 1 (λ e. omega (arith, e, late)))

pub generated_read : GeneratedLinesAreRead
unfolding text_numbered
generated_read seed = record {
  first = header_text-back header refl header-printable;
  others = λ number late few.
      line_back (line_numbered seed number) (text_numbered seed number) (line-range seed number few)
      (line-first seed number) (text-line seed number late);
}
