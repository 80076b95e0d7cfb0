-- There is room for what sessions are told.
use Rattle.std.proofs.Common.{◌≡◌, ℕ, ◌≤◌, suc, List, [], ◌∷◌, ◌++◌, length, Option, Some, None, refl, sym, ap, subst}
use Rattle.std.proofs.Common.{◌∙◌, arith}
use Rattle.std.specs.Prelude.{Result, Ok, Err, IsOk, true, false}
use Rattle.css_tsmsg.specs.declared.setup.Setup.{Setup}
use Rattle.css_tsmsg.specs.declared.fault.TsFault.{TsFault}
use Rattle.std.specs.List.{filter_map, cons_option}
use Rattle.css_cii.specs.declared.state.State.{State}
use Rattle.css_player.specs.Player.{Player}
use Rattle.css_sessions.specs.declared.session.Said.{Said}
use Rattle.css_player.specs.Events.{StandsFor as PlayerStandsFor}
use Rattle.css_sessions.specs.Told.{StandsFor as SessionsStandFor}
use Rattle.css_tv.specs.Stages.{Stage}
use Rattle.css_tv.specs.Outcomes.{by_setup}
use Rattle.css_tv.specs.Standing.{Any, GrowsBy}
use Rattle.css_sessions.specs.Kept.{Event as SessionsCall, SetUp, Kept, Published, step_of, news, difference_text}

-- at most one for each
pub few_given : {X Y : Type 0} (f : X → Option Y) (xs : List X) → length (filter_map f xs) ≤ length xs
few_given {Y = Y} f [] = omega arith
few_given {Y = Y} f (x ∷ xs) = go (f x) (few_given f xs) where
  go : (o : Option Y) → length (filter_map f xs) ≤ length xs
      → length (cons_option o (filter_map f xs)) ≤ suc (length xs)
  go None ih = omega (arith, ih)
  go (Some y) ih = omega (arith, ih)

pub few_news : (s : State) (p : Player) (k : Kept) → length (step_of (Published s p) k).said ≤ length k.list
few_news s p k = few_given (news (difference_text k.state s) p) k.list

-- a session that is set up is told one text
pub one_told : (r : Result Setup TsFault) (xs outs : List Said) (f : Setup → Said) → xs ≡ [] → IsOk r
    → ((u : Setup) → r ≡ Ok u → outs ≡ xs ++ f u ∷ []) → length outs ≡ 1
one_told (Err e) xs outs f none ok told = absurd (let t : false ≡ true = ok in cc)
one_told (Ok u) xs outs f none ok told = ap length (told u refl) ∙ ap (λ ys. length (ys ++ f u ∷ [])) none

-- and stands for its setup
pub grows_setup : (r : Result Setup TsFault) (peer : ℕ) (old new : Stage) → IsOk r → new.player ≡ old.player
    → ((h : List SessionsCall) (u : Setup) → r ≡ Ok u → SessionsStandFor old.sessions h
    → SessionsStandFor new.sessions (SetUp peer u old.player ∷ h))
    → GrowsBy Any old new (Ok (by_setup peer old.player r))
grows_setup (Err e) peer old new ok same stands = absurd (let t : false ≡ true = ok in cc)
grows_setup (Ok u) peer old new ok same stands = record {
  player = λ h before. subst (λ p. PlayerStandsFor p h) (sym same) before;
  sessions = λ h before any. stands h u refl before;
}
