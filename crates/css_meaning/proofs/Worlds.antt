-- Accepted lines are the moments of a world that keeps the declared errors.
use Rattle.std.proofs.Common.{◌≡◌, ◌≢◌, ℕ, zero, suc, ◌<◌, ◌≤◌, arith, ap, sym, subst, ◌∙◌, refl, Bool, inl, inr, true}
use Rattle.std.proofs.Common.{false, cond, not, ◌==◌, ltb, List, [], ◌∷◌, map, length, ne_eqb, ◌&&◌, All, Some, None}
use Rattle.std.proofs.Common.{Result, Ok, Err, filter, lt-ltb, le-ltb, ltb-true, ltb-false, eqb-true, eq-eqb}
use Rattle.css_moments.specs.Drifts as drifts
use Rattle.css_moments.specs.Drifts.{Shown, Told, EachPair}
use Rattle.css_meaning.specs.Happened.{Numbered}
use Rattle.css_meaning.specs.Worlds.{world_of, sleeps_of, moment}
use Rattle.css_meaning.specs.Clocks.{Seen, shown_at, told_with, told_by, broken_by, clock_verdict}
use Rattle.css_meaning.specs.Verdicts.{tv_seen, own_seen, seen_of_tv, seen_of, local_of, tested, own_shown_tested}
use Rattle.css_meaning.specs.Verdicts.{shown_tested, reading_tested, carried_out, line_meant}
use Rattle.css_meaning.specs.declared.fault.WorldFault.{WorldFault}
use Rattle.css_meaning.proofs.Names.{result_and, result_map_both, eqb_tells, Moment, OwnClock, RunsWithin, is_sleep}
use Rattle.css_meaning.proofs.Names.{Header}

-- ---- lists
pub all-head : {A : Type 0} (P : A → Type 0) (x : A) (xs : List A) → All P (x ∷ xs) → P x
all-head P x xs each = each 0 x (omega arith)

-- what holds of all holds of the rest
pub all-tail : {A : Type 0} (P : A → Type 0) (x : A) (xs : List A) → All P (x ∷ xs) → All P xs
all-tail P x xs each = λ k d h. each (suc k) d (omega (arith, h))

-- equal values that are there are equal
same_Some : {A : Type 0} (x y : A) → Some x ≡ Some y → x ≡ y
same_Some x y e = cc

-- ---- the moments of lines
-- the moment of each line, by how many came before it
pub world-older : (now : Numbered) (older : List Numbered) (i : ℕ) → i < length older
    → world_of (now ∷ older) i ≡ world_of older i
world-older now older i h = ap (λ b. cond b (world_of older i) (moment older now)) (lt-ltb i (length older) h)

-- the newest moment stands for every later one
pub world-now : (now : Numbered) (older : List Numbered) (i : ℕ) → length older ≤ i
    → world_of (now ∷ older) i ≡ moment older now
world-now now older i h = ap (λ b. cond b (world_of older i) (moment older now)) (le-ltb i (length older) h)

-- a place is that of an older line, or of the newest
pub place : {P : Type 0} (i n : ℕ) → (i < n → P) → (n ≤ i → P) → P
place {P = P} i n older now = by (ltb i n) refl
  where
    by : (b : Bool) → ltb i n ≡ b → P
    by true p = older (ltb-true i n p)
    by false p = now (ltb-false i n p)

-- ---- accepted lines
-- the first of two results is good where both are
pub first_ok : {T U E : Type 0} (a : Result T E) (b : Result U E) (x : U) → result_and a b ≡ Ok x → (y : T) × (a ≡ Ok y)
first_ok (Ok y) b x e = (y, refl)
first_ok (Err f) b x e = absurd (cc)

-- and so is the second
pub second_ok : {T U E : Type 0} (a : Result T E) (b : Result U E) (x : U) → result_and a b ≡ Ok x → b ≡ Ok x
second_ok (Ok y) b x e = e
second_ok (Err f) b x e = absurd (cc)

-- what is good after its fault was renamed was good before
ok_before : {E D : Type 0} (rename : E → D) (r : Result (Unit {0}) E) (y : Unit {0})
    → result_map_both (λ x. x) rename r ≡ Ok y → r ≡ Ok tt
ok_before rename (Ok tt) y e = refl
ok_before rename (Err f) y e = absurd (cc)

-- the tests of an accepted line are passed
pub tested_ok : (header : Header) (older : List Numbered) (now : Numbered) (printed : List ℕ)
    → line_meant header older now ≡ Ok printed → tested header older now ≡ Ok tt
tested_ok header older now printed e = (first_ok (tested header older now) (carried_out header older now) printed e).1

-- and it can happen
pub carried_ok : (header : Header) (older : List Numbered) (now : Numbered) (printed : List ℕ)
    → line_meant header older now ≡ Ok printed → carried_out header older now ≡ Ok printed
carried_ok header older now printed e = second_ok (tested header older now) (carried_out header older now) printed e

-- what the wall clock shows at an accepted line is accepted
pub tv_shown-ok : (header : Header) (older : List Numbered) (now : Numbered) → tested header older now ≡ Ok tt
    → drifts.verdict header.tv_error (told_by (seen_of_tv older)) (shown_at (tv_seen now)) ≡ Ok tt
tv_shown-ok header older now e =
    let shown = first_ok (shown_tested header older now) (reading_tested header older now) tt e in
    let wall = first_ok (clock_verdict header.tv_error (seen_of_tv older) (tv_seen now))
    (own_shown_tested header older now) shown.0 shown.1 in
    ok_before broken_by
    (drifts.verdict header.tv_error (told_by (seen_of_tv older)) (shown_at (tv_seen now))) wall.0 wall.1

-- so is what its companion's clock shows
pub own_shown-ok : (header : Header) (older : List Numbered) (now : Numbered) (who : ℕ) → 1 ≤ who → now.line.who ≡ who
    → tested header older now ≡ Ok tt
    → drifts.verdict (local_of who header).error (told_with (is_sleep now.line.verb) (told_by (seen_of who older)))
    (shown_at (own_seen now)) ≡ Ok tt
own_shown-ok header older now who first is e =
    let shown = first_ok (shown_tested header older now) (reading_tested header older now) tt e in
    let own = second_ok (clock_verdict header.tv_error (seen_of_tv older) (tv_seen now))
    (own_shown_tested header older now) shown.0 shown.1 in
    let by_number : ℕ → Result (Unit {0}) WorldFault = λ n.
    cond (n == 0) (Ok tt) (clock_verdict (local_of n header).error (seen_of n older) (own_seen now)) in
    let verdict = clock_verdict (local_of who header).error (seen_of who older) (own_seen now) in
    let there : cond (who == 0) (Ok tt) verdict ≡ verdict =
    ap (λ b. cond b (Ok tt) verdict) (ne_eqb who 0 (λ same. absurd (omega (arith, same, first)))) in
    ok_before broken_by
    (drifts.verdict (local_of who header).error (told_with (is_sleep now.line.verb) (told_by (seen_of who older)))
    (shown_at (own_seen now))) shown.0 (sym (ap by_number is ∙ there) ∙ own)

-- a line's reading passes its tests
pub reading-ok : (header : Header) (older : List Numbered) (now : Numbered) → tested header older now ≡ Ok tt
    → reading_tested header older now ≡ Ok tt
reading-ok header older now e = second_ok (shown_tested header older now) (reading_tested header older now) tt e

-- ---- what is told of one companion
-- at a line of its own
pub seen_own : (now : Numbered) (older : List Numbered) (who : ℕ) → now.line.who ≡ who
    → seen_of who (now ∷ older) ≡ own_seen now ∷ seen_of who older
seen_own now older who is =
    ap (λ b. map own_seen (cond b (now ∷ filter (λ n. n.line.who == who) older)
    (filter (λ n. n.line.who == who) older)))
    (eq-eqb now.line.who who is)

-- and at one of another companion
pub seen_other : (now : Numbered) (older : List Numbered) (who : ℕ) → now.line.who ≢ who
    → seen_of who (now ∷ older) ≡ seen_of who older
seen_other now older who other =
    ap (λ b. map own_seen (cond b (now ∷ filter (λ n. n.line.who == who) older)
    (filter (λ n. n.line.who == who) older)))
    (ne_eqb now.line.who who other)

-- how often it slept, by whether the newest line is a sleep of its own
sleeps-now : (now : Numbered) (older : List Numbered) (who : ℕ) (b : Bool)
    → (is_sleep now.line.verb && (now.line.who == who)) ≡ b
    → sleeps_of who (now ∷ older) ≡ cond b (suc (sleeps_of who older)) (sleeps_of who older)
sleeps-now now older who b is =
    let slept = filter (λ n. is_sleep n.line.verb && (n.line.who == who)) older in
    ap (λ c. length (cond c (now ∷ slept) slept)) is ∙ by b slept
  where
    by : (b : Bool) (slept : List Numbered)
        → length (cond b (now ∷ slept) slept) ≡ cond b (suc (length slept)) (length slept)
    by true slept = refl
    by false slept = refl

-- at its own sleep once more
pub sleeps_woke : (now : Numbered) (older : List Numbered) (who : ℕ) → now.line.who ≡ who
    → is_sleep now.line.verb ≡ true → sleeps_of who (now ∷ older) ≡ suc (sleeps_of who older)
sleeps_woke now older who is sleep =
    sleeps-now now older who true (ap (λ b. b && (now.line.who == who)) sleep ∙ eq-eqb now.line.who who is)

-- at a line that is no sleep as often as before
pub sleeps_awake : (now : Numbered) (older : List Numbered) (who : ℕ) → is_sleep now.line.verb ≡ false
    → sleeps_of who (now ∷ older) ≡ sleeps_of who older
sleeps_awake now older who awake = sleeps-now now older who false (ap (λ b. b && (now.line.who == who)) awake)

-- and at one of another companion
pub sleeps_other : (now : Numbered) (older : List Numbered) (who : ℕ) → now.line.who ≢ who
    → sleeps_of who (now ∷ older) ≡ sleeps_of who older
sleeps_other now older who other =
    sleeps-now now older who false
    (ap (λ b. is_sleep now.line.verb && b) (ne_eqb now.line.who who other) ∙ never (is_sleep now.line.verb))
  where
    never : (b : Bool) → (b && false) ≡ false
    never true = refl
    never false = refl

-- it never sleeps less often
sleeps_rise : (now : Numbered) (older : List Numbered) (who : ℕ) → sleeps_of who older ≤ sleeps_of who (now ∷ older)
sleeps_rise now older who =
    by (is_sleep now.line.verb && (now.line.who == who)) (sleeps-now now older who _ refl)
  where
    by : (b : Bool) → sleeps_of who (now ∷ older) ≡ cond b (suc (sleeps_of who older)) (sleeps_of who older)
        → sleeps_of who older ≤ sleeps_of who (now ∷ older)
    by true is = omega (arith, is)
    by false is = omega (arith, is)

-- ---- the clock of one companion
-- the newest line gives the clock of its companion
pub record IsClock (who : ℕ) (clock : OwnClock) (older : List Numbered) (now : Numbered) : Type 0 where
  pub of_line : now.line.who ≡ who
  pub first : 1 ≤ who
  pub value : now.line.l ≡ clock.value
  pub sleeps : clock.sleeps ≡ sleeps_of who (now ∷ older)

pub clock-is : (who : ℕ) (clock : OwnClock) (older : List Numbered) (now : Numbered)
    → (moment older now).companion who ≡ Some clock → IsClock who clock older now
clock-is who clock older now e = by (who == 0) (now.line.who == who) refl refl e
  where
    shows : OwnClock
    shows = record { value = now.line.l; sleeps = sleeps_of who (now ∷ older) }

    by : (a b : Bool) → (who == 0) ≡ a → (now.line.who == who) ≡ b
        → cond (not a && b) (Some shows) None ≡ Some clock → IsClock who clock older now
    by true b p q is = absurd (cc)
    by false false p q is = absurd (cc)
    by false true p q is =
        let same : shows ≡ clock = same_Some shows clock is in
        record {
          of_line = eqb-true now.line.who who q;
          first = positive who p;
          value = ap (λ (c : OwnClock). c.value) same;
          sleeps = sym (ap (λ (c : OwnClock). c.sleeps) same);
        }
      where
        positive : (n : ℕ) → (n == 0) ≡ false → 1 ≤ n
        positive zero none = absurd (let no : true ≡ false = none in cc)
        positive (suc n) none = omega arith

-- a clock of these lines slept no more often than its companion
clock_sleeps : (who : ℕ) (lines : List Numbered) (i : ℕ) (a : OwnClock) → (world_of lines i).companion who ≡ Some a
    → a.sleeps ≤ sleeps_of who lines
clock_sleeps who [] i a e = absurd (cc)
clock_sleeps who (now ∷ older) i a e =
    place i (length older)
    (λ below.
    let same = ap (λ (m : Moment). m.companion who) (world-older now older i below) in
    let few = clock_sleeps who older i a (sym same ∙ e) in
    omega (arith, few, sleeps_rise now older who))
    (λ above.
    let same = ap (λ (m : Moment). m.companion who) (world-now now older i above) in
    let is = clock-is who a older now (sym same ∙ e) in
    omega (arith, is.sleeps))

-- later it slept no less often
pub sleeps_order : (who : ℕ) (lines : List Numbered) (i j : ℕ) (a b : OwnClock) → i ≤ j
    → (world_of lines i).companion who ≡ Some a → (world_of lines j).companion who ≡ Some b → a.sleeps ≤ b.sleeps
sleeps_order who [] i j a b le p q = absurd (cc)
sleeps_order who (now ∷ older) i j a b le p q =
    place j (length older)
    (λ below.
    let first : i < length older = omega (arith, le, below) in
    sleeps_order who older i j a b le
    (sym (ap (λ (m : Moment). m.companion who) (world-older now older i first)) ∙ p)
    (sym (ap (λ (m : Moment). m.companion who) (world-older now older j below)) ∙ q))
    (λ above.
    let later = clock-is who b older now (sym (ap (λ (m : Moment). m.companion who) (world-now now older j above)) ∙ q)
    in
    omega (arith, clock_sleeps who (now ∷ older) i a p, later.sleeps))

-- ---- what is told
-- at a line of the companion's own, after what was told of a sleep
abbrev ToldNow : ℕ → Numbered → List Numbered → List Told
ToldNow who now older = told_with (is_sleep now.line.verb) (told_by (seen_of who older))

-- what a drift accepted at a line it accepted before a sleep too
pairs_older : (error : ℕ) (woke : Bool) (told : List Told) → EachPair error (told_with woke told) → EachPair error told
pairs_older error true told pairs = pairs
pairs_older error false told pairs = pairs

-- what holds of time and value of all that was shown since the last sleep holds of each clock that slept as often
lately_at : (who : ℕ) (P : ℕ → ℕ → Type 0) (lines : List Numbered) (i : ℕ) (a : OwnClock)
    → All (λ (s : Shown). P s.time s.value) (drifts.shown_lately (told_by (seen_of who lines)))
    → (world_of lines i).companion who ≡ Some a → a.sleeps ≡ sleeps_of who lines → P (world_of lines i).time a.value
lately_at who P [] i a each e same = absurd (cc)
lately_at who P (now ∷ older) i a each e same = elim (eqb_tells now.line.who who) [
  | inl own ↦
      let shown = shown_at (own_seen now) in
      let Q : Shown → Type 0 = λ s. P s.time s.value in
      let here : All Q (shown ∷ drifts.shown_lately (ToldNow who now older)) =
      subst (λ (seen : List Seen). All Q (drifts.shown_lately (told_by seen))) (seen_own now older who own.1) each in
      place i (length older)
      (λ below.
      let at : (world_of (now ∷ older) i) ≡ world_of older i = world-older now older i below in
      let before : (world_of older i).companion who ≡ Some a = sym (ap (λ (m : Moment). m.companion who) at) ∙ e in
      subst (λ (m : Moment). P m.time a.value) (sym at)
      (by (is_sleep now.line.verb) refl own.1 before (all-tail Q shown (drifts.shown_lately (ToldNow who now older))
      here)
      (λ rest e slept. lately_at who P older i a rest e slept)))
      (λ above.
      let at = world-now now older i above in
      let is = clock-is who a older now (sym (ap (λ (m : Moment). m.companion who) at) ∙ e) in
      subst (λ (m : Moment). P m.time a.value) (sym at)
      (subst (λ v. P now.line.t v) is.value (all-head Q shown (drifts.shown_lately (ToldNow who now older)) here)))
  | inr other ↦
      let Q : Shown → Type 0 = λ s. P s.time s.value in
      let rest : All Q (drifts.shown_lately (told_by (seen_of who older))) =
      subst (λ (seen : List Seen). All Q (drifts.shown_lately (told_by seen))) (seen_other now older who other.1) each
      in
      place i (length older)
      (λ below.
      let at = world-older now older i below in
      subst (λ (m : Moment). P m.time a.value) (sym at)
      (lately_at who P older i a rest (sym (ap (λ (m : Moment). m.companion who) at) ∙ e)
      (same ∙ sleeps_other now older who other.1)))
      (λ above.
      let is = clock-is who a older now (sym (ap (λ (m : Moment). m.companion who) (world-now now older i above)) ∙ e)
      in
      absurd (other.1 is.of_line))
]
  where
    by : (woke : Bool) → is_sleep now.line.verb ≡ woke → now.line.who ≡ who → (world_of older i).companion who ≡ Some a
        → All (λ (s : Shown). P s.time s.value) (drifts.shown_lately (told_with woke (told_by (seen_of who older))))
        → (All (λ (s : Shown). P s.time s.value) (drifts.shown_lately (told_by (seen_of who older)))
        → (world_of older i).companion who ≡ Some a → a.sleeps ≡ sleeps_of who older
        → P (world_of older i).time a.value)
        → P (world_of older i).time a.value
    by true woke own before rest earlier =
        absurd (omega (arith, clock_sleeps who older i a before, same, sleeps_woke now older who own woke))
    by false awake own before rest earlier = earlier rest before (same ∙ sleeps_awake now older who awake)

-- ---- two moments
-- a clock keeps its error from a moment to itself
keeps-itself : (error time value : ℕ) → RunsWithin error time value time value
keeps-itself error time value = (omega arith, omega arith)

-- between two moments of one companion with no sleep between its clock keeps its error
pub own_two : (who error : ℕ) (lines : List Numbered) (i j : ℕ) (a b : OwnClock)
    → EachPair error (told_by (seen_of who lines)) → i ≤ j
    → (world_of lines i).companion who ≡ Some a → (world_of lines j).companion who ≡ Some b → a.sleeps ≡ b.sleeps
    → RunsWithin error (world_of lines i).time a.value (world_of lines j).time b.value
own_two who error [] i j a b pairs le p q same = absurd (cc)
own_two who error (now ∷ older) i j a b pairs le p q same =
    place j (length older)
    (λ below.
    let first : i < length older = omega (arith, le, below) in
    let at_i = world-older now older i first in
    let at_j = world-older now older j below in
    subst (λ (m : Moment). RunsWithin error m.time a.value (world_of (now ∷ older) j).time b.value) (sym at_i)
    (subst (λ (m : Moment). RunsWithin error (world_of older i).time a.value m.time b.value) (sym at_j)
    (own_two who error older i j a b before le (sym (ap (λ (m : Moment). m.companion who) at_i) ∙ p)
    (sym (ap (λ (m : Moment). m.companion who) at_j) ∙ q) same)))
    (λ above.
    let at_j = world-now now older j above in
    let last = clock-is who b older now (sym (ap (λ (m : Moment). m.companion who) at_j) ∙ q) in
    subst (λ (m : Moment). RunsWithin error (world_of (now ∷ older) i).time a.value m.time b.value) (sym at_j)
    (subst (λ v. RunsWithin error (world_of (now ∷ older) i).time a.value now.line.t v) last.value
    (to_last last)))
  where
    before : EachPair error (told_by (seen_of who older))
    before = elim (eqb_tells now.line.who who) [
      | inl own ↦
          let whole = subst (λ (seen : List Seen). EachPair error (told_by seen)) (seen_own now older who own.1) pairs
          in
          pairs_older error (is_sleep now.line.verb) (told_by (seen_of who older)) whole.2
      | inr other ↦ subst (λ (seen : List Seen). EachPair error (told_by seen)) (seen_other now older who other.1) pairs
    ]

    -- from a moment to the newest one
    to_last : IsClock who b older now → RunsWithin error (world_of (now ∷ older) i).time a.value now.line.t now.line.l
    to_last last =
        place i (length older)
        (λ below.
        let at_i = world-older now older i below in
        let e = sym (ap (λ (m : Moment). m.companion who) at_i) ∙ p in
        subst (λ (m : Moment). RunsWithin error m.time a.value now.line.t now.line.l) (sym at_i)
        (from_older last (is_sleep now.line.verb) refl e))
        (λ above.
        let at_i = world-now now older i above in
        let is = clock-is who a older now (sym (ap (λ (m : Moment). m.companion who) at_i) ∙ p) in
        subst (λ (m : Moment). RunsWithin error m.time a.value now.line.t now.line.l) (sym at_i)
        (subst (λ v. RunsWithin error now.line.t v now.line.t now.line.l) is.value
        (keeps-itself error now.line.t now.line.l)))
      where
        from_older : IsClock who b older now → (woke : Bool) → is_sleep now.line.verb ≡ woke
            → (world_of older i).companion who ≡ Some a
            → RunsWithin error (world_of older i).time a.value now.line.t now.line.l
        from_older last true woke e =
            absurd (omega (
              arith,
              clock_sleeps who older i a e,
              same,
              last.sleeps,
              sleeps_woke now older who last.of_line woke,
            ))
        from_older last false awake e =
            let whole =
            subst (λ (seen : List Seen). EachPair error (told_by seen)) (seen_own now older who last.of_line) pairs in
            let lately : All (λ (s : Shown). RunsWithin error s.time s.value now.line.t now.line.l)
            (drifts.shown_lately (told_by (seen_of who older))) =
            subst (λ woke. All (λ (s : Shown). RunsWithin error s.time s.value now.line.t now.line.l)
            (drifts.shown_lately (told_with woke (told_by (seen_of who older))))) awake whole.1 in
            lately_at who (λ t v. RunsWithin error t v now.line.t now.line.l) older i a lately e
            (same ∙ last.sleeps ∙ sleeps_awake now older who awake)

-- ---- the wall clock
-- it doesn't sleep, so what was shown lately is all
tv_lately : (lines : List Numbered)
    → drifts.shown_lately (told_by (seen_of_tv lines)) ≡ drifts.all_shown (told_by (seen_of_tv lines))
tv_lately [] = refl
tv_lately (now ∷ older) = ap (λ xs. shown_at (tv_seen now) ∷ xs) (tv_lately older)

-- what holds of time and value of all that was shown holds of each moment
tv_at : (P : ℕ → ℕ → Type 0) (lines : List Numbered) (i : ℕ)
    → All (λ (s : Shown). P s.time s.value) (drifts.all_shown (told_by (seen_of_tv lines))) → i < length lines
    → P (world_of lines i).time (world_of lines i).wall
tv_at P [] i each within = absurd (omega (arith, within))
tv_at P (now ∷ older) i each within =
    place i (length older)
    (λ below. rw (world-older now older i below) (tv_at P older i (all-tail (λ (s : Shown). P s.time s.value)
    (shown_at (tv_seen now)) (drifts.all_shown (told_by (seen_of_tv older))) each) below))
    (λ above. rw (world-now now older i above) (all-head (λ (s : Shown). P s.time s.value) (shown_at (tv_seen now))
    (drifts.all_shown (told_by (seen_of_tv older))) each))

-- between two moments true time doesn't fall, and the wall clock keeps its error
pub tv_two : (error : ℕ) (lines : List Numbered) (i j : ℕ) → EachPair error (told_by (seen_of_tv lines)) → i ≤ j
    → ((world_of lines i).time ≤ (world_of lines j).time)
    × RunsWithin error (world_of lines i).time (world_of lines i).wall (world_of lines j).time (world_of lines j).wall
tv_two error [] i j pairs le = (omega arith, (omega arith, omega arith))
tv_two error (now ∷ older) i j pairs le =
    place j (length older)
    (λ below.
    let first : i < length older = omega (arith, le, below) in
    both (sym (world-older now older i first)) (sym (world-older now older j below))
    (tv_two error older i j pairs.2 le))
    (λ above.
    place i (length older)
    (λ below. both (sym (world-older now older i below)) (sym (world-now now older j above)) (
      tv_at (λ t v. t ≤ now.line.t) older i pairs.0 below,
      tv_at (λ t v. RunsWithin error t v now.line.t now.line.w) older i
          (rw (tv_lately older) at pairs.1) below,
    ))
    (λ here. both (sym (world-now now older i here)) (sym (world-now now older j above))
    (omega arith, keeps-itself error now.line.t now.line.w)))
  where
    -- the same of equal moments
    both : {m m' n n' : Moment} → m ≡ m' → n ≡ n' → (m.time ≤ n.time) × RunsWithin error m.time m.wall n.time n.wall
        → (m'.time ≤ n'.time) × RunsWithin error m'.time m'.wall n'.time n'.wall
    both {m} {m'} {n} {n'} p q is = rw p at (rw q at is)
