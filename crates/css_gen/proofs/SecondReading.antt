-- What is written of several companions' lines is read as these lines.
use Rattle.std.proofs.Common.{◌≡◌, ℕ, ◌+◌, ◌-◌, ◌^◌, ◌<◌, ◌≤◌, arith, ap, subst, ◌∙◌, refl, Bool, true, false}
use Rattle.std.proofs.Common.{List, [], ◌∷◌, ne_eqb}
use Rattle.std.specs.Prelude.{ℤ, pos, negsuc, ◌≤ℤ◌, unsigned_abs, nat_le, if◌then◌else◌, Ok, codes, decimal}
use Rattle.std.specs.Fmt.{signed_decimal}
use Rattle.std.proofs.lemmas.Bool.{eq-eqb, le-leb, leb-true, lt-leb}
use Rattle.std.proofs.lemmas.Int.{ints}
use Rattle.css_model.specs.Numbers.{max_error, max_local_error, max_local_precision}
use Rattle.css_schedule.specs.declared.header.Start.TheVariants.{Two}
use Rattle.css_schedule.specs.declared.line.Line.{Line}
use Rattle.css_schedule.specs.Words.{after_word}
use Rattle.css_schedule.specs.Headers.{max_companions, mode_at, declared_at, local_at, companion_of_words, count_at}
use Rattle.css_schedule.specs.Headers.{second_of_words, start_of, header_of_words, header_of, after_number}
use Rattle.css_schedule.specs.Headers.{numbered_of_words, companion_of}
use Rattle.css_schedule.specs.Lines.{line_in}
use Rattle.css_printed.specs.Printed.{declared_words, companion_words, line_text_in}
use Rattle.css_schedule.specs.Ranges.{IsLine, IsSecond}
use Rattle.css_printed.proofs.NumbersBack.{up_to-back, signed-back, text-back}
use Rattle.css_printed.proofs.Spaced.{Solid, AllSolid, words_of-with_words, graphic-solid, decimal-solid, signed-solid}
use Rattle.css_printed.proofs.ReadBack.{line_back_in}
use Rattle.css_gen.specs.Opening.{pts, header, companion}
use Rattle.css_gen.specs.Crowd.{next_line_of}
use Rattle.css_gen.specs.Second.{second_header_text, companion_text, openings, line_placed, second_line_from}
use Rattle.css_gen.specs.Second.{second_text_from, crowd_before, second_line, second_text}
use Rattle.css_gen.specs.Readable.{bare_header, SecondLinesAreRead}
use Rattle.css_gen.specs.Standing.{AreSome, IsReady}
use Rattle.css_gen.specs.declared.crowd.Crowd.{Crowd}
use Rattle.css_gen.proofs.Crowds.{crowd-companions, crowd-ready}
use Rattle.css_gen.proofs.CrowdRanges.{next-range_of, next-second, next-few, placed-range, placed-second}

-- ---- line 1
mode-back : (rest : List (List ℕ)) → mode_at (codes "follow" ∷ rest) ≡ Ok (true, rest)
unfolding mode_at
mode-back rest = refl

-- what the television declares is read back
declared-back : (error : ℕ) (precision : ℤ) (rest : List (List ℕ)) → error ≤ max_error
    → unsigned_abs precision < 10 ^ 3 → negsuc 127 ≤ℤ precision → precision ≤ℤ pos 30
    → declared_at (codes "follow" ∷ decimal error ∷ signed_decimal precision ∷ rest)
    ≡ Ok (record { follow = true; tv_error = error; tv_precision = precision }, rest)
unfolding declared_at
declared-back error precision rest small digits low high =
    rw (
      mode-back (decimal error ∷ signed_decimal precision ∷ rest),
      up_to-back max_error error (signed_decimal precision ∷ rest) (omega arith) small,
      signed-back (negsuc 127) (pos 30) precision rest digits low high,
    ) refl

first-words : (companions : ℕ) → AreSome companions
    → header_of_words (codes "css-schedule" ∷ codes "2" ∷ declared_words header (decimal companions ∷ []))
    ≡ Ok (Two bare_header companions)
unfolding header_of_words after_word start_of second_of_words count_at
first-words companions some =
    let low = some.low in
    rw (
      declared-back 12800 (negsuc 19) (decimal companions ∷ []) (omega arith) (omega arith) (omega (arith, ints))
          (omega (arith, ints)),
      up_to-back max_companions companions [] (omega arith) some.high,
      ne_eqb companions 0 (λ e. omega (arith, e, low)),
    ) refl

first-back : (companions : ℕ) → AreSome companions
    → header_of (second_header_text companions) ≡ Ok (Two bare_header companions)
first-back companions some =
    let high = some.high in
    let last : Solid (decimal companions) = decimal-solid companions (omega (arith, high)) in
    let words = codes "2" ∷ declared_words header (decimal companions ∷ []) in
    let solid : AllSolid words = (
      graphic-solid (codes "2") refl,
      (
        graphic-solid (codes "follow") refl,
        (decimal-solid 12800 (omega arith), (signed-solid (negsuc 19) (omega arith), (last, tt))),
      ),
    ) in
    ap header_of_words (words_of-with_words (codes "css-schedule") words (graphic-solid (codes "css-schedule") refl)
    solid)
    ∙ first-words companions some

-- ---- the companions' lines
wanted-back : (error precision : ℕ) → error ≤ max_local_error → precision ≤ max_local_precision
    → companion_of_words (decimal error ∷ decimal precision ∷ pts ∷ codes "dvb://" ∷ [])
    ≡ Ok (record { local = record { error = error; precision = precision }; selector = pts; stem = codes "dvb://" })
unfolding companion_of_words local_at
wanted-back error precision e p =
    rw (
      up_to-back max_local_error error (decimal precision ∷ pts ∷ codes "dvb://" ∷ []) (omega arith) e,
      up_to-back max_local_precision precision (pts ∷ codes "dvb://" ∷ []) (omega arith) p,
      text-back pts (codes "dvb://" ∷ []) refl,
      text-back (codes "dvb://") [] refl,
    ) refl

numbered-words : (who : ℕ) → who ≤ max_companions
    → numbered_of_words who (codes "companion" ∷ decimal who ∷ companion_words companion) ≡ Ok companion
unfolding numbered_of_words after_word after_number
numbered-words who few =
    rw (
      up_to-back max_companions who (companion_words companion) (omega arith) few,
      eq-eqb who who refl,
      wanted-back 12800 1000 (omega arith) (omega arith),
    ) refl

companion-back : (who : ℕ) → who ≤ max_companions → companion_of who (companion_text who) ≡ Ok companion
companion-back who few =
    let words = decimal who ∷ companion_words companion in
    let solid : AllSolid words = (
      decimal-solid who (omega (arith, few)),
      (
        decimal-solid 12800 (omega arith),
        (decimal-solid 1000 (omega arith), (graphic-solid pts refl, (graphic-solid (codes "dvb://") refl, tt))),
      ),
    ) in
    ap (numbered_of_words who) (words_of-with_words (codes "companion") words (graphic-solid (codes "companion") refl)
    solid)
    ∙ numbered-words who few

-- the text of such a line
text-own : (crowd : Crowd) (who : ℕ) → 1 ≤ who → who ≤ crowd.companions
    → second_text_from crowd (who + 1) ≡ companion_text who
text-own crowd who low few =
    let other = line_text_in 2 (second_line_from crowd (who + 1)) in
    let own = companion_text (who + 1 - 1) in
    let all = if nat_le (who + 1) (crowd.companions + 1) then own else other in
    let back : who + 1 - 1 ≡ who = omega arith in
    ap (λ (b : Bool). if b then second_header_text crowd.companions else all)
    (ne_eqb (who + 1) 1 (λ e. omega (arith, e, low)))
    ∙ ap (λ (b : Bool). if b then own else other) (le-leb (who + 1) (crowd.companions + 1) (omega (arith, few)))
    ∙ ap companion_text back

-- ---- the other lines
-- a line in range and of version 2, of one of so many companions
record IsGood (companions : ℕ) (line : Line) : Type 0 where
  range : IsLine line
  second : IsSecond max_companions line
  few : line.who ≤ companions

line-good : (crowd : Crowd) (number : ℕ) → IsReady crowd → crowd.companions + 2 ≤ number
    → IsGood crowd.companions (second_line_from crowd number)
line-good crowd number ready late = by (nat_le number (openings crowd.companions)) refl
  where
    place : ℕ
    place = number - crowd.companions

    by : (b : Bool) → nat_le number (openings crowd.companions) ≡ b
        → IsGood crowd.companions (if b then line_placed place else next_line_of crowd)
    by true e =
        let within = leb-true number (openings crowd.companions) e in
        let low = late in
        let high = ready.companions.high in
        let own = placed-second crowd.companions place (omega (arith, low)) (omega (arith, within, low)) in
        record {
          range = placed-range place;
          second = placed-second 16 place (omega (arith, low)) (omega (arith, within, low, high));
          few = own.who;
        }
    by false e = record {
      range = next-range_of crowd ready;
      second = next-second crowd ready;
      few = next-few crowd ready;
    }

-- the text of a line after those of the companions
text-line : (crowd : Crowd) (number : ℕ) → crowd.companions + 2 ≤ number
    → second_text_from crowd number ≡ line_text_in 2 (second_line_from crowd number)
text-line crowd number late =
    let text = line_text_in 2 (second_line_from crowd number) in
    let own = if nat_le number (crowd.companions + 1) then companion_text (number - 1) else text in
    ap (λ (b : Bool). if b then second_header_text crowd.companions else own)
    (ne_eqb number 1 (λ e. omega (arith, e, late)))
    ∙ ap (λ (b : Bool). if b then companion_text (number - 1) else text)
    (lt-leb number (crowd.companions + 1) (omega (arith, late)))

line-back : (crowd : Crowd) (number : ℕ) → IsReady crowd → crowd.companions + 2 ≤ number
    → line_in 2 crowd.companions (second_text_from crowd number) ≡ Ok (second_line_from crowd number)
line-back crowd number ready late =
    let good = line-good crowd number ready late in
    line_back_in 2 (second_line_from crowd number) (second_text_from crowd number) good.range good.second
    (text-line crowd number late) crowd.companions good.few ready.companions.high

-- ---- all of them
pub second_read : SecondLinesAreRead
unfolding second_text second_line
second_read seed companions some = record {
  first = ap (λ (n : ℕ). header_of (second_header_text n)) (same 1) ∙ first-back companions some;
  each = each;
  others = others;
}
  where
    same : (number : ℕ) → (crowd_before seed companions number).companions ≡ companions
    same number = crowd-companions seed companions (number - (openings companions + 1))

    each : (who : ℕ) → 1 ≤ who → who ≤ companions
        → companion_of who (second_text_from (crowd_before seed companions (who + 1)) (who + 1)) ≡ Ok companion
    each who low few =
        let is = same (who + 1) in
        let high = some.high in
        ap (companion_of who) (text-own (crowd_before seed companions (who + 1)) who low (omega (arith, is, few)))
        ∙ companion-back who (omega (arith, few, high))

    others : (number : ℕ) → companions + 2 ≤ number → number ≤ 200000
        → line_in 2 companions (second_text_from (crowd_before seed companions number) number)
        ≡ Ok (second_line_from (crowd_before seed companions number) number)
    others number late few =
        let crowd = crowd_before seed companions number in
        let ready = crowd-ready seed companions (number - (openings companions + 1)) some (omega (arith, few)) in
        let is = same number in
        subst (λ (n : ℕ). line_in 2 n (second_text_from crowd number) ≡ Ok (second_line_from crowd number)) is
        (line-back crowd number ready (omega (arith, is, late)))
