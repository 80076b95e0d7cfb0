-- The difference of two states is empty exactly where they are equal.
use Rattle.std.proofs.Common.{◌≡◌, ℕ, Bool, true, false, cond, ◌&&◌, List, Option, Decides, refl, subst}
use Rattle.std.specs.Prelude.{bytes_eq}
use Rattle.std.proofs.lemmas.Bool.{and_parts}
use Rattle.std.proofs.lemmas.Slice.Eq.{bytes_eq-Decides}
use Rattle.css_num.specs.Timelines.{timelines_eq}
use Rattle.css_num.proofs.Equality.{timelines_eq-Decides}
use Rattle.css_cii.specs.States.{is_unsaid, is_empty, is_same, told_new, words_told, difference}
use Rattle.css_cii.specs.declared.change.Told.TheVariants.{Unsaid, Said}
use Rattle.css_cii.specs.declared.state.State.{State}
use Rattle.css_cii.proofs.Sessions.{is_same-Decides}

-- two tests that hold hold together
both : (a b : Bool) → a ≡ true → b ≡ true → (a && b) ≡ true
both a b h k = rw (h, k) refl

-- nothing is told of a property exactly where it stays
unsaid : {T : Type 0} (eq : T → T → Bool) → ((a b : T) → Decides (eq a b) (a ≡ b)) → (a b : Option T)
    → Decides (is_unsaid (told_new eq a b)) (a ≡ b)
unsaid eq exact a b = by (is_same eq a b) (is_same-Decides eq exact a b)
  where
    by : (same : Bool) → Decides same (a ≡ b) → Decides (is_unsaid (cond same Unsaid (Said b))) (a ≡ b)
    by true known = known
    by false known = known

-- so it is of a text
unsaid_words : (a b : Option (List ℕ)) → Decides (is_unsaid (words_told a b)) (a ≡ b)
unsaid_words a b = unsaid bytes_eq bytes_eq-Decides a b

itself : (a : Option (List ℕ)) → is_unsaid (words_told a a) ≡ true
itself a = (unsaid_words a a).1 refl

-- a state doesn't differ from itself
none_to_itself : (s : State) → is_empty (difference s s) ≡ true
unfolding difference
none_to_itself s =
    both _ _ (itself s.protocol_version)
    (both _ _ (itself s.mrs_url)
    (both _ _ (itself s.content_id)
    (both _ _ (itself s.content_id_status)
    (both _ _ (itself s.presentation_status)
    (both _ _ (itself s.wc_url)
    (both _ _ (itself s.ts_url)
    (both _ _ (itself s.te_url)
    ((unsaid timelines_eq timelines_eq-Decides s.timelines s.timelines).1 refl))))))))

-- states that don't differ are one
pub same_where_empty : (a b : State) → is_empty (difference a b) ≡ true → a ≡ b
unfolding difference
same_where_empty a b h =
    let h1 = and_parts _ _ h in
    let h2 = and_parts _ _ h1.1 in
    let h3 = and_parts _ _ h2.1 in
    let h4 = and_parts _ _ h3.1 in
    let h5 = and_parts _ _ h4.1 in
    let h6 = and_parts _ _ h5.1 in
    let h7 = and_parts _ _ h6.1 in
    let h8 = and_parts _ _ h7.1 in
    rw (
      (unsaid_words a.protocol_version b.protocol_version).0 h1.0,
      (unsaid_words a.mrs_url b.mrs_url).0 h2.0,
      (unsaid_words a.content_id b.content_id).0 h3.0,
      (unsaid_words a.content_id_status b.content_id_status).0 h4.0,
      (unsaid_words a.presentation_status b.presentation_status).0 h5.0,
      (unsaid_words a.wc_url b.wc_url).0 h6.0,
      (unsaid_words a.ts_url b.ts_url).0 h7.0,
      (unsaid_words a.te_url b.te_url).0 h8.0,
      (unsaid timelines_eq timelines_eq-Decides a.timelines b.timelines).0 h8.1,
    ) refl

-- an empty difference tells exactly the equal ones
pub is_empty-Decides : (a b : State) → Decides (is_empty (difference a b)) (a ≡ b)
is_empty-Decides a b = (same_where_empty a b, λ e. subst (λ s. is_empty (difference a s) ≡ true) e (none_to_itself a))
