-- The body is empty: the borrow is opened, and closed at the longer list.
use Rattle.std.proofs.Common.{[], ◌∷◌, refl}
use mir.Syntax.{named}
use mir.Val.{vunit}
use base.Logic.{id⊢}
use base.Fml.{ftrue, flft}
use Rattle.std.proofs.raw_atomic.Walks.{proved}
use types.Kit.{‵, ◌⊛◌, ◌$◌, ◌∵◌, !, qed, move, keep, use1, split, join, fsplit3, suffices, frame, group, feq_i, done}
use types.Run.{unit_lit, of_opd, returns, enter}
use types.ByLocal.{alloc_all, pass_all, free_all, look_at, sets}
use denote.Exit.{yes}
use denote.Ref.{MutRef, ShrRef, mut_vals, mut_Tells, shr_vals, shr_Tells}
use denote.Signature.{plain, named_lft}
use denote.Steps.{opens, closes}
use denote.Triple.Walked.{says, Stays, stay_ref, stay_none_ref, walk_of, Goes-ref, Goes-none_ref, ends_at}
use Rattle.css_told.specs.Noted.{spawned_of}
use Rattle.css_told.specs.contracts.happening.Happening as N
use Rattle.css_told.specs.contracts.roll.Roll.{the_row as R}
use Rattle.css_told.specs.contracts.roll.Roll.note as f
use Rattle.css_told.proofs.roll.Roll.note.Statement.{statement}
use Rattle.css_told.proofs.roll.Roll.note.Code as code

abbrev stayed : Stays f.ended.signature.params f.ended.kept
stayed = (
  stay_ref (0 ∷ []) tt (plain (λ _. R)),
  (stay_none_ref (1 ∷ []) tt (plain (λ κs. N.the_row (named_lft 3 2 tt κs))) yes, tt),
)

pub note_spec : {M : Type 1} → statement M
note_spec 𝓤 𝓛 𝓜 𝓡 wired =
    let c = f.clauses 𝓛 𝓜.mem 𝓡.returns in let W = walk_of 𝓛 f.ended stayed c in
    proved 𝓛 f.ended stayed c 𝓜 𝓡 (
      Goes-ref 𝓛 3 0 tt (plain (λ _. R)),
      (Goes-none_ref 𝓛 3 (1 ∷ []) tt (plain (λ κs. N.the_row (named_lft 3 2 tt κs))) yes, tt),
    )
    f.Key.name code.function (code.unfolded 𝓤 𝓛.H 𝓜 𝓡 wired)
    (λ κs. (mut_vals, (shr_vals, tt)))
    (λ κs. (mut_Tells (named 0) κs.0 R, (shr_Tells (named 1) κs.1.0 (N.the_row (named_lft 3 2 tt κs)), tt)))
    (λ κs qs bounds a _ are.
    let b = a.0.ref_ptr.0 in let o = a.0.ref_ptr.1 in let vs = mut_vals a.0 in let us = shr_vals a.1.0 in
    let h' = record (a.0.now) { children = spawned_of a.1.0.now ∷ a.0.now.children } in
    let y : W.Ghost = ((κs, qs, bounds, a, (vs, (us, tt))), tt) in
    qed 𝓛 (((‵ (flft κs.0 qs.0) ⊛ (‵ (flft κs.1.0 qs.1.0) ⊛ (‵ (flft κs.1.1.0 qs.1.1.0) ⊛ ‵ ftrue)))
    ⊛ (‵ ((MutRef (named 0) κs.0 R).own_val a.0 vs)
    ⊛ (‵ ((ShrRef (named 1) κs.1.0 (N.the_row (named_lft 3 2 tt κs))).own_val a.1.0 us) ⊛ ‵ ftrue)))
    ∷ ‵ ftrue ∷ []) ∵
    split ! $ split ! $ move ! (2 ∷ []) $ split ! $
    -- [self; its token; what happened, and no more; the other tokens]
    keep ! (0 ∷ 2 ∷ 1 ∷ 3 ∷ []) $
    enter ! _ _ _ _ _ $ alloc_all ! (λ l. pass_all ! refl ((tt, tt), ((tt, tt), tt)) $
    fsplit3 ! $ move ! (1 ∷ 2 ∷ 3 ∷ []) $ opens ! tt R b o (λ ws.
    sets ! (of_opd ! (unit_lit !)) refl (tt, tt) $
    move ! (1 ∷ []) $ use1 𝓛 (‵ (R.own_val h' ws)) (id⊢ 𝓤 _) $ move ! (1 ∷ 0 ∷ []) $ closes ! tt R h' ws b o $
    returns ! (look_at ! 0 refl) $ free_all ! refl $ move ! (3 ∷ []) $
    -- [self, in three parts; its token; what happened, and no more; the other tokens]
    suffices ! _ (ends_at 𝓛 f.ended stayed c y vunit tt (h', (tt, tt)) (tt, (tt, tt))) $ says ! refl $
    group ! 3 $ move ! (0 ∷ 2 ∷ []) $ join ! $ move ! (1 ∷ 2 ∷ []) $ join ! $
    frame ! $ frame ! $ feq_i ! _ (vunit ∷ []) _ refl $ done !)))
