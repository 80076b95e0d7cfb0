-- What stands for the accepted answers goes on standing for them with one more.
use Rattle.std.proofs.Common.{◌≡◌, ℕ, ◌≤◌, ap, sym, ◌∙◌, refl, inl, [], ◌∷◌, ◌++◌, false}
use Rattle.std.specs.Prelude.{◌≤ℤ◌, ◌<ℤ◌, ◌==◌, ◌||◌, All}
use Rattle.std.proofs.lemmas.List.Elements.{All-cons, All-head, All-tail, All-weaker}
use Rattle.css_model.specs.WallClock.{Answer, Local, IsLocal, scaled_width, lesser, FrontierStands}
use Rattle.css_model.proofs.Narrowest.{frontier_is_enough}
use Rattle.css_model.proofs.Ends.{scaled_width-later}
use Rattle.css_span.specs.Frontiers.{Answers, IsPossible, declares, DeclareDifferent, KeepsFrontier}
use Rattle.css_span.proofs.Declared.{declares-middle, declares_itself, declares_already, different-middle}
use Rattle.css_span.proofs.Declared.{among-skipped, among-dropped}

pub possible-later : (own : Local) (r s : ℕ) (xs : Answers) → IsLocal own → r ≤ s → All (IsPossible own r) xs
    → All (IsPossible own s) xs
possible-later own r s xs local later =
    All-weaker (IsPossible own r) (IsPossible own s)
    (λ a h. record { ranges = h.ranges; wide = scaled_width-later own a r s local h.ranges.error later h.wide })
    xs

all-dropped : (P : Answer → Type 0) (newer older : Answers) (a : Answer) → All P (newer ++ a ∷ older)
    → All P (newer ++ older)
all-dropped P [] older a h = All-tail P a older h
all-dropped P (c ∷ newer) older a h =
    All-cons P c (newer ++ older) (All-head P c (newer ++ a ∷ older) h)
    (all-dropped P newer older a (All-tail P c (newer ++ a ∷ older) h))

-- no kept answer declares the error of the new one
pub keeps-joined : (own : Local) (r : ℕ) (b : Answer) (kept : Answers) → IsPossible own r b
    → declares b.error kept ≡ false → KeepsFrontier own r b kept (b ∷ kept)
keeps-joined own r b kept possible fresh = record {
  possible = All-cons (IsPossible own r) b kept possible;
  stands = λ floor accepted later local stands. record {
    narrowest = λ s. ap (lesser (λ (x : Answer). scaled_width own x s) b) (stands.narrowest s);
    among = inl (refl, stands.among);
    errors = λ e. ap (λ t. (b.error == e) || t) (stands.errors e);
    different = (fresh, stands.different);
    possible =
        All-cons (IsPossible own r) b accepted possible (possible-later own floor r accepted local later
        stands.possible);
  };
}

-- a kept answer of the same error is no wider
pub keeps-ignored : (own : Local) (r : ℕ) (a b : Answer) (newer older : Answers) → IsPossible own r b
    → a.error ≡ b.error → scaled_width own a r ≤ℤ scaled_width own b r
    → KeepsFrontier own r b (newer ++ a ∷ older) (newer ++ a ∷ older)
keeps-ignored own r a b newer older possible same wide = record {
  possible = λ h. h;
  stands = λ floor accepted later local stands.
      let enough : FrontierStands own newer older accepted a b r =
      frontier_is_enough own newer older accepted a b r same stands.narrowest in
      record {
        narrowest = enough.ignored wide;
        among = among-skipped (newer ++ a ∷ older) accepted b stands.among;
        errors =
            λ e.
            sym (declares_already e b.error (newer ++ a ∷ older) (declares_itself b.error newer older a
            same)) ∙ ap (λ t.
            (b.error == e) || t) (stands.errors e);
        different = stands.different;
        possible =
            All-cons (IsPossible own r) b accepted possible
            (possible-later own floor r accepted local later stands.possible);
      };
}

-- the kept answer of the same error is wider
pub keeps-replaced : (own : Local) (r : ℕ) (a b : Answer) (newer older : Answers) → IsPossible own r b
    → a.error ≡ b.error → scaled_width own b r <ℤ scaled_width own a r
    → KeepsFrontier own r b (newer ++ a ∷ older) (b ∷ newer ++ older)
keeps-replaced own r a b newer older possible same less = record {
  possible =
      λ h. All-cons (IsPossible own r) b (newer ++ older) possible (all-dropped (IsPossible own r) newer older a h);
  stands = λ floor accepted later local stands.
      let enough : FrontierStands own newer older accepted a b r =
      frontier_is_enough own newer older accepted a b r same stands.narrowest in
      let different : DeclareDifferent (a ∷ newer ++ older) = different-middle newer older a stands.different in
      let moved : (e : ℕ) → declares e (b ∷ newer ++ older) ≡ declares e (newer ++ a ∷ older) =
      λ e. ap (λ n. (n == e) || declares e (newer ++ older)) (sym same) ∙ sym (declares-middle e newer older a) in
      record {
        narrowest = enough.replaced less;
        among = inl (refl, among-dropped newer older accepted a stands.among);
        errors =
            λ e.
            moved e ∙ sym (declares_already e b.error (newer ++ a ∷ older) (declares_itself b.error newer
            older a same)) ∙
            ap (λ t. (b.error == e) || t) (stands.errors e);
        different = (ap (λ n. declares n (newer ++ older)) (sym same) ∙ different.0, different.1);
        possible =
            All-cons (IsPossible own r) b accepted possible
            (possible-later own floor r accepted local later stands.possible);
      };
}
