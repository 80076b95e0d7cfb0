-- What is printed of answers is what they say together.
use Rattle.std.proofs.Common.{◌≡◌, ℕ, arith, refl, ap, sym, ◌∙◌, Bool, true, false, cond, List, [], ◌∷◌, ◌++◌}
use Rattle.std.proofs.Common.{append_assoc}
use Rattle.std.specs.Prelude.{ℤ, ◌≤ℤ◌, ◌<ℤ◌, int_lt, if◌then◌else◌, Contains, Result, Ok, Err, OnOk, Some}
use Rattle.std.specs.Result.{is_ok}
use Rattle.std.specs.Int.{int_max, int_min}
use Rattle.std.proofs.lemmas.Int.{ints}
use Rattle.std.proofs.lemmas.List.Elements.{All-nil, All-cons, All-contains, All-weaker, Contains-append_right}
use Rattle.std.proofs.lemmas.List.Elements.{Contains-append_left, Contains-push}
use Rattle.css_model.specs.WallClock.{Answer, Local, lo, hi}
use Rattle.css_span.specs.Frontiers.{Answers}
use Rattle.css_agree.specs.Agreements.{HasGreatestLow, HasLeastHigh, AgreesAt, TellsTruth}
use Rattle.css_agree.specs.Agreements.{DeclareInRange}
use Rattle.css_agree.specs.declared.agreed.Agreed.{Agreed}
use Rattle.css_agree.specs.declared.agreed.Agreed.TheVariants.{Nothing, Within, Disagree}
use Rattle.css_agree.specs.declared.best.Best.{Best}
use Rattle.css_agree.specs.Told.{told_by}
use Rattle.css_agree.specs.Printed.{greatest_low, least_high, between, at_text, agreed_text, agree_line, disagree_line}
use Rattle.css_agree.proofs.Truth.{agreement_is_true, contradiction_is_false}

-- ---- pieces
-- what is added where the call succeeds
pub added : {T E : Type 0} (r : Result T E) (new old bytes line : List ℕ)
    → new ≡ (if is_ok r then old ++ bytes else old) → bytes ≡ line → OnOk r (new ≡ old ++ line)
added (Ok done) new old bytes line put same = put ∙ ap (λ b. old ++ b) same
added (Err fault) new old bytes line put same = tt

-- six pieces, one after the other
pub joined : (a b d e f g line : List ℕ) → line ≡ a ++ (b ++ (d ++ (e ++ (f ++ g)))) → line ≡ a ++ b ++ d ++ e ++ f ++ g
joined a b d e f g line is = rw is (simp append_assoc)

-- ---- ends
-- the first of a list is among it, and so is each of the rest
contains-first : (first : Answer) (others : Answers) → Contains (first ∷ others) first
contains-first first others = Contains-append_left (first ∷ []) others first (Contains-push [] first)

contains-rest : (first : Answer) (others : Answers) (a : Answer) → Contains others a → Contains (first ∷ others) a
contains-rest first others a h = Contains-append_right (first ∷ []) others a h

-- ---- an answer has the greatest lower end
pub record Lowest (own : Local) (reading : ℕ) (added : Answers) (low : ℤ) : Type 0 where
  pub answer : Answer
  pub greatest : HasGreatestLow own reading added answer
  pub same : low ≡ lo own answer reading

lowest-with : (own : Local) (reading : ℕ) (first : Answer) (others : Answers) (there : ℤ)
    → Lowest own reading others there
    → Lowest own reading (first ∷ others) (int_max (lo own first reading) there)
lowest-with own reading first others there rest = by (int_lt there here) refl
  where
    here : ℤ
    here = lo own first reading

    by : (b : Bool) → int_lt there here ≡ b → Lowest own reading (first ∷ others) (cond b here there)
    by false e = record {
      answer = rest.answer;
      greatest = record {
        is_among = contains-rest first others rest.answer rest.greatest.is_among;
        greatest = All-cons (λ other. lo own other reading ≤ℤ lo own rest.answer reading) first others
            (omega (arith, ints, e, rest.same)) rest.greatest.greatest;
      };
      same = rest.same;
    }
    by true e = record {
      answer = first;
      greatest = record {
        is_among = contains-first first others;
        greatest = All-cons (λ other. lo own other reading ≤ℤ lo own first reading) first others (omega (arith, ints))
            (All-weaker (λ other. lo own other reading ≤ℤ lo own rest.answer reading)
            (λ other. lo own other reading ≤ℤ lo own first reading)
            (λ other h. omega (arith, ints, h, e, rest.same))
            others rest.greatest.greatest);
      };
      same = refl;
    }

pub lowest : (own : Local) (reading : ℕ) (first : Answer) (others : Answers)
    → Lowest own reading (first ∷ others) (greatest_low own reading first others)
lowest own reading first [] = record {
  answer = first;
  greatest = record {
    is_among = contains-first first [];
    greatest = All-cons (λ other. lo own other reading ≤ℤ lo own first reading) first [] (omega (arith, ints))
        (All-nil (λ other. lo own other reading ≤ℤ lo own first reading));
  };
  same = refl;
}
lowest own reading first (next ∷ others) =
    lowest-with own reading first (next ∷ others) (greatest_low own reading next others)
    (lowest own reading next others)

-- ---- an answer has the least upper end
pub record Highest (own : Local) (reading : ℕ) (added : Answers) (high : ℤ) : Type 0 where
  pub answer : Answer
  pub least : HasLeastHigh own reading added answer
  pub same : high ≡ hi own answer reading

highest-with : (own : Local) (reading : ℕ) (first : Answer) (others : Answers) (there : ℤ)
    → Highest own reading others there
    → Highest own reading (first ∷ others) (int_min (hi own first reading) there)
highest-with own reading first others there rest = by (int_lt there here) refl
  where
    here : ℤ
    here = hi own first reading

    by : (b : Bool) → int_lt there here ≡ b → Highest own reading (first ∷ others) (cond b there here)
    by true e = record {
      answer = rest.answer;
      least = record {
        is_among = contains-rest first others rest.answer rest.least.is_among;
        least = All-cons (λ other. hi own rest.answer reading ≤ℤ hi own other reading) first others
            (omega (arith, ints, e, rest.same)) rest.least.least;
      };
      same = rest.same;
    }
    by false e = record {
      answer = first;
      least = record {
        is_among = contains-first first others;
        least = All-cons (λ other. hi own first reading ≤ℤ hi own other reading) first others (omega (arith, ints))
            (All-weaker (λ other. hi own rest.answer reading ≤ℤ hi own other reading)
            (λ other. hi own first reading ≤ℤ hi own other reading)
            (λ other h. omega (arith, ints, h, e, rest.same))
            others rest.least.least);
      };
      same = refl;
    }

pub highest : (own : Local) (reading : ℕ) (first : Answer) (others : Answers)
    → Highest own reading (first ∷ others) (least_high own reading first others)
highest own reading first [] = record {
  answer = first;
  least = record {
    is_among = contains-first first [];
    least = All-cons (λ other. hi own first reading ≤ℤ hi own other reading) first [] (omega (arith, ints))
        (All-nil (λ other. hi own first reading ≤ℤ hi own other reading));
  };
  same = refl;
}
highest own reading first (next ∷ others) =
    highest-with own reading first (next ∷ others) (least_high own reading next others)
    (highest own reading next others)

-- ---- two such answers have one end
pub same_low : (own : Local) (reading : ℕ) (added : Answers) (a b : Answer) → HasGreatestLow own reading added a
    → HasGreatestLow own reading added b → lo own a reading ≡ lo own b reading
same_low own reading added a b x y =
    let ab = All-contains (λ other. lo own other reading ≤ℤ lo own b reading) added a y.greatest x.is_among in
    let ba = All-contains (λ other. lo own other reading ≤ℤ lo own a reading) added b x.greatest y.is_among in
    omega (arith, ints, ab, ba)

pub same_high : (own : Local) (reading : ℕ) (added : Answers) (a b : Answer) → HasLeastHigh own reading added a
    → HasLeastHigh own reading added b → hi own a reading ≡ hi own b reading
same_high own reading added a b x y =
    let ab = All-contains (λ other. hi own a reading ≤ℤ hi own other reading) added b x.least y.is_among in
    let ba = All-contains (λ other. hi own b reading ≤ℤ hi own other reading) added a y.least x.is_among in
    omega (arith, ints, ab, ba)

-- ---- what is printed
between-ordered : (number : ℕ) (low high : ℤ) → low ≤ℤ high → between number low high ≡ agree_line number low high
between-ordered number low high le = by (int_lt high low) refl
  where
    by : (b : Bool) → int_lt high low ≡ b
        → (if b then disagree_line number low high else agree_line number low high) ≡ agree_line number low high
    by true e = absurd (omega (arith, ints, e, le))
    by false e = refl

between-apart : (number : ℕ) (low high : ℤ) → high <ℤ low → between number low high ≡ disagree_line number low high
between-apart number low high lt = by (int_lt high low) refl
  where
    by : (b : Bool) → int_lt high low ≡ b
        → (if b then disagree_line number low high else agree_line number low high) ≡ disagree_line number low high
    by true e = refl
    by false e = absurd (omega (arith, ints, e, lt))

-- the same of ends that are equal to these
same-ends : (number : ℕ) (low high l h : ℤ) → low ≡ l → high ≡ h → between number low high ≡ between number l h
same-ends number low high l h a b = ap (λ x. between number x high) a ∙ ap (λ y. between number l y) b

-- what is printed of answers that say this is its text
pub shown : (own : Local) (number reading : ℕ) (added : Answers) (agreed : Agreed) → AgreesAt own reading added agreed
    → at_text own number reading added ≡ agreed_text own number reading agreed
shown own number reading [] Nothing h = refl
shown own number reading (first ∷ others) Nothing h = absurd (cc)
shown own number reading [] (Within span) h =
    absurd (All-contains (λ a. ⊥) [] h.low (All-nil (λ a. ⊥)) h.greatest_low.is_among)
shown own number reading (first ∷ others) (Within span) h =
    let low = lowest own reading first others in
    let high = highest own reading first others in
    same-ends number _ _ span.lo span.hi
    (low.same ∙ same_low own reading (first ∷ others) low.answer h.low low.greatest h.greatest_low ∙ sym h.lower_end)
    (high.same ∙ same_high own reading (first ∷ others) high.answer h.high high.least h.least_high ∙ sym h.upper_end)
    ∙ between-ordered number span.lo span.hi h.ordered
shown own number reading [] (Disagree low high) h =
    absurd (All-contains (λ a. ⊥) [] low (All-nil (λ a. ⊥)) h.greatest_low.is_among)
shown own number reading (first ∷ others) (Disagree a b) h =
    let low = lowest own reading first others in
    let high = highest own reading first others in
    same-ends number _ _ (lo own a reading) (hi own b reading)
    (low.same ∙ same_low own reading (first ∷ others) low.answer a low.greatest h.greatest_low)
    (high.same ∙ same_high own reading (first ∷ others) high.answer b high.least h.least_high)
    ∙ between-apart number (lo own a reading) (hi own b reading) h.apart

-- ---- answers always say something together
-- it is told by the two ends
pub said : (own : Local) (reading : ℕ) (added : Answers) (best : Best) → HasGreatestLow own reading added best.low
    → HasLeastHigh own reading added best.high → AgreesAt own reading added (told_by own reading (Some best))
said own reading added best greatest least = by (int_lt (hi own best.high reading) (lo own best.low reading)) refl
  where
    by : (b : Bool) → int_lt (hi own best.high reading) (lo own best.low reading) ≡ b
        → AgreesAt own reading added (if b then Disagree best.low best.high
        else Within (record { lo = lo own best.low reading; hi = hi own best.high reading }))
    by true e = record { greatest_low = greatest; least_high = least; apart = omega (arith, ints, e) }
    by false e = record {
      low = best.low;
      high = best.high;
      greatest_low = greatest;
      least_high = least;
      lower_end = refl;
      upper_end = refl;
      ordered = omega (arith, ints, e);
      lies_in_each = λ k d within. record { low = greatest.greatest k d within; high = least.least k d within };
    }

pub says : (own : Local) (reading : ℕ) (added : Answers) → (agreed : Agreed) × AgreesAt own reading added agreed
says own reading [] = (Nothing, refl)
says own reading (first ∷ others) =
    let low = lowest own reading first others in
    let high = highest own reading first others in
    let best : Best = record { low = low.answer; high = high.answer } in
    (told_by own reading (Some best), said own reading (first ∷ others) best low.greatest high.least)

-- and it is true
pub true_of : (own : Local) (reading : ℕ) (added : Answers) (agreed : Agreed) → DeclareInRange added
    → AgreesAt own reading added agreed → TellsTruth own reading added agreed
true_of own reading added Nothing most h = tt
true_of own reading added (Within span) most h = agreement_is_true own reading added span most h
true_of own reading added (Disagree low high) most h = contradiction_is_false own reading added low high most h
