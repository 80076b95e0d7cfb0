-- What is kept of the answers of lines names the first line that has the best end of all.
use Rattle.std.proofs.Common.{◌≡◌, ◌≢◌, ℕ, zero, suc, ◌≤◌, ◌<◌, arith, refl, sym, ap, subst, ◌∙◌, inl, inr}
use Rattle.std.proofs.Common.{Bool, true, false, List, [], ◌∷◌, ◌++◌, length, get_or}
use Rattle.std.specs.Prelude.{ℤ, ◌≤ℤ◌, ◌==◌, int_lt, nat_lt, if◌then◌else◌, Option, Some, None}
use Rattle.std.specs.Prelude.{option_map, All, Contains, reverse}
use Rattle.std.proofs.Math.ListN.{set}
use Rattle.std.proofs.lemmas.Bool.{ne_eqb, eqb-true, ltb-true, ltb-false}
use Rattle.std.proofs.lemmas.Int.{ints}
use Rattle.std.proofs.lemmas.List.{reverse-reverse}
use Rattle.std.proofs.lemmas.List.Elements.{All-cons, All-head, All-tail, All-nil, All-weaker, All-contains}
use Rattle.std.proofs.lemmas.List.Elements.{All-contains_itself, Contains-append_left, Contains-append_right}
use Rattle.std.proofs.lemmas.List.Elements.{Contains-push}
use Rattle.css_model.specs.WallClock.{Answer, Local, upper}
use Rattle.css_agree.specs.declared.named.End.{End}
use Rattle.css_agree.specs.declared.named.End.TheVariants.{Low, High}
use Rattle.css_agree.specs.declared.named.Named.{Named}
use Rattle.css_agree.specs.Named.{measure, chosen, chosen_of, best_of, number_of_best}
use Rattle.css_agree.specs.NamesKept.{kept_with}
use Rattle.css_agree.specs.Named.{Leads}
use Rattle.css_agree.specs.NamesKept.{IsLed, Names}
use Rattle.css_agree.proofs.Alike.{ends_move_alike}
use Rattle.css_agree.proofs.Choices.{All-reversed, All-unreversed}

-- ---- the ends of answers of one error
measure-alike : (end : End) (own : Local) (a b : Answer) (r s : ℕ) → a.error ≡ b.error
    → measure end own a r ≤ℤ measure end own b r → measure end own a s ≤ℤ measure end own b s
measure-alike Low own a b r s same h = (ends_move_alike own a b same).lows r s h
measure-alike High own a b r s same h =
    let moved : upper own b s ≤ℤ upper own a s =
    (ends_move_alike own b a (sym same)).highs r s (omega (arith, ints, h)) in
    omega (arith, ints, moved)

-- ---- the better of two
pub chosen-of_both : (end : End) (own : Local) (r : ℕ) (P : Named → Type 0) (x n : Named) → P x → P n
    → P (chosen end own r x n)
chosen-of_both end own r P x n at_x at_n =
    by (int_lt (measure end own x.answer r) (measure end own n.answer r))
    (int_lt (measure end own n.answer r) (measure end own x.answer r)) (nat_lt n.number x.number)
  where
    by : (t u v : Bool) → P (if t then n else if u then x else if v then n else x)
    by true u v = at_n
    by false true v = at_x
    by false false true = at_n
    by false false false = at_x

leads-itself : (end : End) (own : Local) (r : ℕ) (x : Named) → Leads end own r x x
leads-itself end own r x = record { best = omega (arith, ints); first = λ e. omega arith }

leads-through : (end : End) (own : Local) (r : ℕ) (a b c : Named) → Leads end own r a b → Leads end own r b c
    → Leads end own r a c
leads-through end own r a b c h k = record {
  best = omega (arith, ints, h.best, k.best);
  first = λ e.
      let cb : measure end own c.answer r ≡ measure end own b.answer r = omega (arith, ints, h.best, k.best, e) in
      let ba : measure end own b.answer r ≡ measure end own a.answer r = omega (arith, ints, h.best, k.best, e) in
      omega (arith, h.first ba, k.first cb);
}

-- The one that is chosen at reading r leads both at reading s, where the order of both is the same there.
record Chosen (end : End) (own : Local) (s : ℕ) (x n chosen : Named) : Type 0 where
  pub first : Leads end own s chosen x
  pub second : Leads end own s chosen n

abbrev Moves : End → Local → ℕ → ℕ → Named → Named → Type 0
Moves end own r s a b = measure end own a.answer r ≤ℤ measure end own b.answer r
    → measure end own a.answer s ≤ℤ measure end own b.answer s

leads-both : (end : End) (own : Local) (r s : ℕ) (x n : Named) → Moves end own r s x n → Moves end own r s n x
    → Moves end own s r x n → Moves end own s r n x
    → Chosen end own s x n (chosen end own r x n)
leads-both end own r s x n up down back_up back_down =
    by (int_lt (at x r) (at n r)) refl (int_lt (at n r) (at x r)) refl (nat_lt n.number x.number) refl
  where
    at : Named → ℕ → ℤ
    at a t = measure end own a.answer t

    by : (t : Bool) → int_lt (at x r) (at n r) ≡ t → (u : Bool) → int_lt (at n r) (at x r) ≡ u
        → (v : Bool) → nat_lt n.number x.number ≡ v
        → Chosen end own s x n (if t then n else if u then x else if v then n else x)
    by true e u f v g = record {
      first = record {
        best = up (omega (arith, ints, e));
        first = λ same.
            let back : at n r ≤ℤ at x r = back_down (omega (arith, ints, same)) in
            absurd (omega (arith, ints, e, back));
      };
      second = leads-itself end own s n;
    }
    by false e true f v g = record {
      first = leads-itself end own s x;
      second = record {
        best = down (omega (arith, ints, f));
        first = λ same.
            let back : at x r ≤ℤ at n r = back_up (omega (arith, ints, same)) in
            absurd (omega (arith, ints, f, back));
      };
    }
    by false e false f true g = record {
      first = record {
        best = up (omega (arith, ints, f));
        first = λ same. omega (arith, ltb-true n.number x.number g);
      };
      second = leads-itself end own s n;
    }
    by false e false f false g = record {
      first = leads-itself end own s x;
      second =
          record { best = down (omega (arith, ints, e)); first = λ same. omega (arith, ltb-false n.number x.number g) };
    }

leads-alike : (end : End) (own : Local) (r s : ℕ) (x n : Named) → x.answer.error ≡ n.answer.error
    → Chosen end own s x n (chosen end own r x n)
leads-alike end own r s x n same =
    leads-both end own r s x n (measure-alike end own x.answer n.answer r s same)
    (measure-alike end own n.answer x.answer r s (sym same)) (measure-alike end own x.answer n.answer s r same)
    (measure-alike end own n.answer x.answer s r (sym same))

leads-here : (end : End) (own : Local) (r : ℕ) (x n : Named) → Chosen end own r x n (chosen end own r x n)
leads-here end own r x n = leads-both end own r r x n (λ h. h) (λ h. h) (λ h. h) (λ h. h)

-- ---- what is kept with one more
-- what holds of each that is kept, and of the new one, goes on holding of each that is kept
each-with : (end : End) (own : Local) (r : ℕ) (P : Named → Type 0) (n : Named) (xs : List Named) → P n → All P xs
    → All P (kept_with end own r n xs)
each-with end own r P n [] here h = All-cons P n [] here (All-nil P)
each-with end own r P n (x ∷ xs) here h =
    by (x.answer.error == n.answer.error) (each-with end own r P n xs here (All-tail P x xs h))
  where
    by : (t : Bool) → All P (kept_with end own r n xs)
        → All P (if t then chosen end own r x n ∷ xs else x ∷ kept_with end own r n xs)
    by true ih =
        All-cons P (chosen end own r x n) xs (chosen-of_both end own r P x n (All-head P x xs h) here)
        (All-tail P x xs h)
    by false ih = All-cons P x (kept_with end own r n xs) (All-head P x xs h) ih

-- an answer that was led still is
led-with : (end : End) (own : Local) (r : ℕ) (n b : Named) (xs : List Named) → IsLed end own xs b
    → IsLed end own (kept_with end own r n xs) b
led-with end own r n b [] h = absurd h
led-with end own r n b (x ∷ xs) h = by (x.answer.error == n.answer.error) refl (led-with end own r n b xs) h
  where
    by : (t : Bool) → (x.answer.error == n.answer.error) ≡ t
        → (IsLed end own xs b → IsLed end own (kept_with end own r n xs) b) → IsLed end own (x ∷ xs) b
        → IsLed end own (if t then chosen end own r x n ∷ xs else x ∷ kept_with end own r n xs) b
    by true e ih (inl here) =
        let same : x.answer.error ≡ n.answer.error = eqb-true x.answer.error n.answer.error e in
        inl (record {
          same = chosen-of_both end own r (λ y. y.answer.error ≡ b.answer.error) x n here.same (sym same ∙ here.same);
          leads = λ s.
              leads-through end own s (chosen end own r x n) x b (leads-alike end own r s x n same).first
              (here.leads s);
        })
    by true e ih (inr rest) = inr rest
    by false e ih (inl here) = inl here
    by false e ih (inr rest) = inr (ih rest)

-- and the new one is
led-new : (end : End) (own : Local) (r : ℕ) (n : Named) (xs : List Named) → IsLed end own (kept_with end own r n xs) n
led-new end own r n [] = inl (record { same = refl; leads = λ s. leads-itself end own s n })
led-new end own r n (x ∷ xs) = by (x.answer.error == n.answer.error) refl (led-new end own r n xs)
  where
    by : (t : Bool) → (x.answer.error == n.answer.error) ≡ t → IsLed end own (kept_with end own r n xs) n
        → IsLed end own (if t then chosen end own r x n ∷ xs else x ∷ kept_with end own r n xs) n
    by true e ih =
        let same : x.answer.error ≡ n.answer.error = eqb-true x.answer.error n.answer.error e in
        inl (record {
          same = chosen-of_both end own r (λ y. y.answer.error ≡ n.answer.error) x n same refl;
          leads = λ s. (leads-alike end own r s x n same).second;
        })
    by false e ih = inr ih

contains-first : (n : Named) (added : List Named) → Contains (n ∷ added) n
contains-first n added = Contains-append_left (n ∷ []) added n (Contains-push [] n)

pub names-with : (end : End) (own : Local) (r : ℕ) (n : Named) (kept added : List Named) → Names end own kept added
    → Names end own (kept_with end own r n kept) (n ∷ added)
names-with end own r n kept added names = record {
  from = each-with end own r (Contains (n ∷ added)) n kept (contains-first n added)
      (All-weaker (Contains added) (Contains (n ∷ added)) (λ x. Contains-append_right (n ∷ []) added x) kept
      names.from);
  led = All-cons (IsLed end own (kept_with end own r n kept)) n added (led-new end own r n kept)
      (All-weaker (IsLed end own kept) (IsLed end own (kept_with end own r n kept))
      (λ b. led-with end own r n b kept) added names.led);
}

-- ---- by the place of the one of the new one's declared error
-- none of them declares it: the new one joins at the end
pub kept_with-none : (end : End) (own : Local) (r : ℕ) (n : Named) (xs : List Named)
    → All (λ x. x.answer.error ≢ n.answer.error) xs → kept_with end own r n xs ≡ xs ++ n ∷ []
kept_with-none end own r n [] h = refl
kept_with-none end own r n (x ∷ xs) h =
    let P = λ (x : Named). x.answer.error ≢ n.answer.error in
    let here : (x.answer.error == n.answer.error) ≡ false =
    ne_eqb x.answer.error n.answer.error (All-head P x xs h) in
    rw here (ap (λ ys. x ∷ ys) (kept_with-none end own r n xs (All-tail P x xs h)))

-- the one at place i is the first that declares it: it is replaced
pub kept_with-at : (end : End) (own : Local) (r : ℕ) (n : Named) (xs : List Named) (i : ℕ) (d : Named) → i < length xs
    → ((k : ℕ) → k < i → ((get_or xs k d).answer.error == n.answer.error) ≡ false)
    → ((get_or xs i d).answer.error == n.answer.error) ≡ true
    → kept_with end own r n xs ≡ set xs i (chosen end own r (get_or xs i d) n)
kept_with-at end own r n [] i d h before here = absurd (omega arith)
kept_with-at end own r n (x ∷ xs) zero d h before here = rw here refl
kept_with-at end own r n (x ∷ xs) (suc i) d h before here =
    let first : (x.answer.error == n.answer.error) ≡ false = before 0 (omega arith) in
    rw first (ap (λ ys. x ∷ ys)
    (kept_with-at end own r n xs i d (omega arith) (λ k below. before (suc k) (omega arith)) here))

-- ---- the best of some
-- there is one of any
pub no_best : (end : End) (own : Local) (r : ℕ) (xs : List Named) → best_of end own r xs ≡ None → xs ≡ []
no_best end own r [] e = refl
no_best end own r (x ∷ xs) e = absurd (cc)

-- it leads each
best_of-leads : (end : End) (own : Local) (r : ℕ) (xs : List Named) (best : Named) → best_of end own r xs ≡ Some best
    → All (Leads end own r best) xs
best_of-leads end own r [] best e = absurd (cc)
best_of-leads end own r (x ∷ xs) best e = by (best_of end own r xs) refl e (best_of-leads end own r xs)
  where
    by : (o : Option Named) → best_of end own r xs ≡ o → Some (chosen_of end own r x o) ≡ Some best
        → ((b : Named) → best_of end own r xs ≡ Some b → All (Leads end own r b) xs)
        → All (Leads end own r best) (x ∷ xs)
    by None none picked ih =
        let same : x ≡ best = cc picked in
        rw (no_best end own r xs none, ← same)
        (All-cons (Leads end own r x) x [] (leads-itself end own r x) (All-nil (Leads end own r x)))
    by (Some older) some picked ih =
        let it = chosen end own r older x in
        let same : it ≡ best = cc picked in
        let both = leads-here end own r older x in
        subst (λ (b : Named). All (Leads end own r b) (x ∷ xs)) same
        (All-cons (Leads end own r it) x xs both.second
        (All-weaker (Leads end own r older) (Leads end own r it)
        (λ y h. leads-through end own r it older y both.first h) xs (ih older some)))

-- what holds of each holds of it
best_of-keeps : (end : End) (own : Local) (r : ℕ) (P : Named → Type 0) (xs : List Named) (best : Named) → All P xs
    → best_of end own r xs ≡ Some best → P best
best_of-keeps end own r P [] best h e = absurd (cc)
best_of-keeps end own r P (x ∷ xs) best h e =
    by (best_of end own r xs) (λ b. best_of-keeps end own r P xs b (All-tail P x xs h)) e
  where
    by : (o : Option Named) → ((b : Named) → o ≡ Some b → P b) → Some (chosen_of end own r x o) ≡ Some best → P best
    by None rest picked =
        let same : x ≡ best = cc picked in
        subst P same (All-head P x xs h)
    by (Some older) rest picked =
        let same : chosen_of end own r x (Some older) ≡ best = cc picked in
        subst P same (chosen-of_both end own r P older x (rest older refl) (All-head P x xs h))

-- one that leads each of the kept leads each that was added
leads-led : (end : End) (own : Local) (r : ℕ) (best : Named) (kept : List Named) (b : Named)
    → All (Leads end own r best) kept → IsLed end own kept b → Leads end own r best b
leads-led end own r best [] b h led = absurd led
leads-led end own r best (x ∷ xs) b h (inl here) =
    leads-through end own r best x b (All-head (Leads end own r best) x xs h) (here.leads r)
leads-led end own r best (x ∷ xs) b h (inr rest) =
    leads-led end own r best xs b (All-tail (Leads end own r best) x xs h) rest

-- the best of answers is among them, and leads each
pub record IsBest (end : End) (own : Local) (r : ℕ) (added : List Named) (best : Named) : Type 0 where
  pub among : Contains added best
  pub leads : All (Leads end own r best) added

pub best_of-is : (end : End) (own : Local) (r : ℕ) (added : List Named) (best : Named)
    → best_of end own r added ≡ Some best → IsBest end own r added best
best_of-is end own r added best e = record {
  among = best_of-keeps end own r (Contains added) added best (All-contains_itself added) e;
  leads = best_of-leads end own r added best e;
}

-- two such have one number
one_number : (end : End) (own : Local) (r : ℕ) (added : List Named) (a b : Named) → IsBest end own r added a
    → IsBest end own r added b → a.number ≡ b.number
one_number end own r added a b x y =
    let ab = All-contains (Leads end own r a) added b x.leads y.among in
    let ba = All-contains (Leads end own r b) added a y.leads x.among in
    let le : b.number ≤ a.number = ba.first (omega (arith, ints, ab.best, ba.best)) in
    let ge : a.number ≤ b.number = ab.first (omega (arith, ints, ab.best, ba.best)) in
    omega (arith, le, ge)

-- where nothing is kept, nothing was added
none_led : (end : End) (own : Local) (added : List Named) → All (IsLed end own []) added → added ≡ []
none_led end own [] h = refl
none_led end own (n ∷ added) h = absurd (All-head (IsLed end own []) n added h)

-- what is kept names the same line as all that was added
pub number-is : (end : End) (own : Local) (r : ℕ) (kept added : List Named) → Names end own kept added
    → number_of_best end own r (reverse kept) ≡ number_of_best end own r added
number-is end own r kept added names = by (best_of end own r (reverse kept)) refl (best_of end own r added) refl
  where
    empty : best_of end own r (reverse kept) ≡ None → added ≡ []
    empty none =
        let turned : reverse kept ≡ [] = no_best end own r (reverse kept) none in
        let nothing : kept ≡ [] = sym (reverse-reverse kept) ∙ ap reverse turned in
        none_led end own added (subst (λ (xs : List Named). All (IsLed end own xs) added) nothing names.led)

    best : (x : Named) → best_of end own r (reverse kept) ≡ Some x → IsBest end own r added x
    best x e =
        let leads = All-unreversed (Leads end own r x) kept (best_of-leads end own r (reverse kept) x e) in record {
          among = best_of-keeps end own r (Contains added) (reverse kept) x
              (All-reversed (Contains added) kept names.from) e;
          leads = All-weaker (IsLed end own kept) (Leads end own r x) (λ b led. leads-led end own r x kept b leads led)
              added names.led;
        }

    by : (o : Option Named) → best_of end own r (reverse kept) ≡ o
        → (p : Option Named) → best_of end own r added ≡ p
        → option_map (λ b. b.number) o ≡ option_map (λ b. b.number) p
    by None none None e = refl
    by None none (Some y) e =
        let nothing : best_of end own r added ≡ None = ap (best_of end own r) (empty none) in
        absurd (cc)
    by (Some x) some None e =
        absurd (All-contains (λ b. ⊥) [] x (All-nil (λ b. ⊥))
        (subst (λ (xs : List Named). Contains xs x) (no_best end own r added e) (best x some).among))
    by (Some x) some (Some y) e =
        ap Some (one_number end own r added x y (best x some) (best_of-is end own r added y e))
