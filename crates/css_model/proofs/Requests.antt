-- Which request an answer belongs to: in a lawful history, one of the time since the last sleep.
use Rattle.std.proofs.Common.{◌≡◌, ℕ, ◌<◌, ◌≤◌, inl, inr, arith, ap, sym, ◌∙◌, subst, [], ◌∷◌, length}
use Rattle.std.specs.Prelude.{IfSome, ⊤}
use Rattle.std.proofs.lemmas.Option.{MatchOption-at_some}
use Rattle.css_model.specs.declared.Stamp.{Stamp}
use Rattle.css_model.specs.declared.Why.TheVariants as why
use Rattle.css_model.specs.Wire.{reading_of, stamp_of}
use Rattle.css_model.specs.History.{Entry, Clock, History, Each, asking_at, sleeps}
use Rattle.css_model.specs.Explains.{IsJustAsked, WasAsked, RisesAt, AsksAt}
use Rattle.css_model.proofs.Lately.{Lately, Requests, sleeps-awake, sleeps-le}

-- the time on the wire of a reading stands for that reading
pub reading_of-stamp_of : (r : ℕ) → reading_of (stamp_of r) ≡ r
reading_of-stamp_of r = omega arith

-- two readings with one time on the wire are one
stamp_of-same : (r s : ℕ) → stamp_of r ≡ stamp_of s → r ≡ s
stamp_of-same r s e = sym (reading_of-stamp_of r) ∙ ap reading_of e ∙ reading_of-stamp_of s

-- what is said of each, where it implies another thing
pub each_weaker : (P Q : Entry → History → Type 0) → ((entry : Entry) (older : History) → P entry older → Q entry older)
    → (history : History) → Each P history → Each Q history
each_weaker P Q f [] h = tt
each_weaker P Q f (entry ∷ older) h = (f entry older h.0, each_weaker P Q f older h.1)

-- what two say of each entry, together
pub each-and : (P Q : Entry → History → Type 0) (history : History) → Each P history → Each Q history
    → Each (λ entry older. P entry older × Q entry older) history
each-and P Q [] p q = tt
each-and P Q (entry ∷ older) p q = ((p.0, q.0), each-and P Q older p.1 q.1)

-- and the first of them alone
pub each-first : (P Q : Entry → History → Type 0) (history : History)
    → Each (λ entry older. P entry older × Q entry older) history → Each P history
each-first P Q = each_weaker (λ entry older. P entry older × Q entry older) P (λ entry older h. h.0)

-- The reading for the request with this originate value, in the entry with this number, what came before it, and what Q
-- says of each entry up to it.
pub record Asking (Q : Entry → History → Type 0) (originate : Stamp) (number : ℕ) (history : History) : Type 0 where
  pub reading : ℕ
  pub before : History
  pub each : Each Q (Clock why.Ask reading ∷ before)
  pub same : originate ≡ stamp_of reading
  pub is_number : number ≡ length before
  pub earlier : sleeps before ≤ sleeps history
  pub shorter : length before < length history

-- an earlier request of a history is one of a longer history
longer : (Q : Entry → History → Type 0) (originate : Stamp) (number : ℕ) (entry : Entry) (older : History)
    → Asking Q originate number older → Asking Q originate number (entry ∷ older)
longer Q originate number entry older a = record {
  reading = a.reading;
  before = a.before;
  each = a.each;
  same = a.same;
  is_number = a.is_number;
  earlier = omega (arith, sleeps-le entry older, a.earlier);
  shorter = omega (arith, a.shorter);
}

-- the request whose reading is the newest entry of `older`
newest : (Q : Entry → History → Type 0) (originate : Stamp) (number : ℕ) (entry : Entry) (older : History)
    → Each Q older → (asked : IsJustAsked originate older) → number ≡ length asked.before
    → Asking Q originate number (entry ∷ older)
newest Q originate number entry older q asked is_number = record {
  reading = asked.reading;
  before = asked.before;
  each = subst (λ h. Each Q h) asked.just_before q;
  same = asked.same;
  is_number = is_number;
  earlier = omega (arith, ap sleeps asked.just_before, sleeps-le entry older);
  shorter = omega (arith, ap length asked.just_before);
}

-- what was asked was asked at some reading
asking : (Q : Entry → History → Type 0) (originate : Stamp) (number : ℕ) (history : History)
    → Each Q history → WasAsked originate number history → Asking Q originate number history
asking Q originate number [] q w = absurd w
asking Q originate number (entry ∷ older) q (inl w) = newest Q originate number entry older q.1 w.1 w.2
asking Q originate number (entry ∷ older) q (inr w) =
    longer Q originate number entry older (asking Q originate number older q.1 w)

-- what is said of each entry implies that the history is lawful there
abbrev pub SaysLawful : (Entry → History → Type 0) → Type 0
SaysLawful Q = (entry : Entry) (older : History) → Q entry older → RisesAt entry older × AsksAt entry older

-- where a request has the originate value of one before it, no sleep lies between them
repeated : (Q : Entry → History → Type 0) → SaysLawful Q
    → (originate : Stamp) (number : ℕ) (history : History) (reading : ℕ) (before : History)
    → Each Q (Clock why.Ask reading ∷ before) → originate ≡ stamp_of reading
    → WasAsked originate number (Clock why.Ask reading ∷ before) → sleeps before ≡ sleeps history
    → length before < length history
    → (a : Asking Q originate number history) × (sleeps a.before ≡ sleeps history)
repeated Q lawful originate number history reading before q same (inl w) awake shorter = absurd (cc (w.0))
repeated Q lawful originate number history reading before q same (inr w) awake shorter =
    let Rises : Entry → History → Type 0 = λ earlier b. IfSome (asking_at earlier) (λ r. sleeps b < sleeps before
    → r < reading) in
    let rises : Each Rises before = (lawful (Clock why.Ask reading) before q.0).0 in
    let a : Asking (λ e o. Q e o × Rises e o) originate number before =
    asking (λ e o. Q e o × Rises e o) originate number before (each-and Q Rises before q.1 rises) w in
    let again : a.reading ≡ reading = stamp_of-same a.reading reading (sym a.same ∙ same) in
    let less : sleeps a.before < sleeps before → a.reading < reading = a.each.0.1 in
    let none_between : ¬ (sleeps a.before < sleeps before) = λ h. omega (arith, less h) in (
      record {
        reading = a.reading;
        before = a.before;
        each = each-first Q Rises (Clock why.Ask a.reading ∷ a.before) a.each;
        same = a.same;
        is_number = a.is_number;
        earlier = omega (arith, a.earlier);
        shorter = omega (arith, a.shorter);
      },
      omega (arith, a.earlier, none_between),
    )

-- A request that is asked was sent since the last sleep: its reading is that of no request before a sleep.
pub awake_asking : (Q : Entry → History → Type 0) → SaysLawful Q → (originate : Stamp) (number : ℕ) (history : History)
    → Each Q history → Lately (Requests originate) history → WasAsked originate number history
    → (a : Asking Q originate number history) × (sleeps a.before ≡ sleeps history)
unfolding newest longer
awake_asking Q lawful originate number [] q l w = absurd w
awake_asking Q lawful originate number (entry ∷ older) q (awake, l) (inl w) = (
  newest Q originate number entry older q.1 w.1 w.2,
  sym (ap sleeps w.1.just_before) ∙ sym (sleeps-awake entry older awake),
)
awake_asking Q lawful originate number (entry ∷ older) q (awake, inr l) (inr w) =
    let f = awake_asking Q lawful originate number older q.1 l w in
    (longer Q originate number entry older f.0, f.1 ∙ sym (sleeps-awake entry older awake))
awake_asking Q lawful originate number (entry ∷ older) q (awake, inl l) (inr w) =
    let asked = MatchOption-at_some ⊤ (λ (o : Stamp). IsJustAsked o older) originate l (lawful entry older q.0).1 in
    repeated Q lawful originate number (entry ∷ older) asked.reading asked.before
    (subst (λ h. Each Q h) asked.just_before q.1) asked.same
    (subst (λ h. WasAsked originate number h) asked.just_before w)
    (sym (ap sleeps asked.just_before) ∙ sym (sleeps-awake entry older awake))
    (omega (arith, ap length asked.just_before))
