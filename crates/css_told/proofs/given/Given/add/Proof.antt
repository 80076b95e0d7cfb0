-- The body is empty: the borrow is opened, and closed at the longer list.
use Rattle.std.proofs.Common.{[], ◌∷◌, ◌++◌, take, refl, w64}
use mir.Syntax.{named}
use mir.Val.{vunit}
use base.Logic.{id⊢}
use base.Fml.{ftrue, flft}
use Rattle.std.proofs.raw_atomic.Walks.{proved}
use types.Kit.{‵, ◌⊛◌, ◌$◌, ◌∵◌, !, qed, move, keep, use1, split, join, fsplit3, suffices, frame, group}
use types.Kit.{feq_i, done}
use types.Run.{unit_lit, of_opd, returns, enter}
use types.ByLocal.{alloc_all, pass_all, free_all, look_at, sets}
use denote.Builtin.{u8, u64}
use denote.Exit.{yes}
use denote.Plain.{uint_vals, uint_Tells}
use denote.Ref.{MutRef, mut_vals, mut_Tells}
use denote.Signature.{plain}
use denote.Slice.{ShrSlice, shr_slice_vals, shr_slice_Tells}
use denote.Steps.{nothing, opens, closes}
use denote.Triple.Walked.{says, Stays, stay_ref, stay_dropped, stay_none_slice, walk_of, Goes-ref, Goes-dropped}
use denote.Triple.Walked.{Goes-none_slice, ends_at}
use Rattle.css_told.specs.contracts.given.Given.{the_row as R}
use Rattle.css_told.specs.contracts.given.Given.add as f
use Rattle.css_told.proofs.given.Given.add.Statement.{statement}
use Rattle.css_told.proofs.given.Given.add.Code as code

abbrev stayed : Stays f.ended.signature.params f.ended.kept
stayed = (
  stay_ref (0 ∷ []) tt (plain (λ _. R)),
  (stay_none_slice (1 ∷ []) tt (plain (λ _. u8)) yes, (stay_dropped _ yes, tt)),
)

pub add_spec : {M : Type 1} → statement M
add_spec 𝓤 𝓛 𝓜 𝓡 wired =
    let c = f.clauses 𝓛 𝓜.mem 𝓡.returns in let W = walk_of 𝓛 f.ended stayed c in
    proved 𝓛 f.ended stayed c 𝓜 𝓡 (
      Goes-ref 𝓛 2 0 tt (plain (λ _. R)),
      (
        Goes-none_slice 𝓛 2 (1 ∷ []) tt (plain (λ _. u8)) yes,
        (Goes-dropped 𝓛 2 (plain (λ _. u64)) yes (λ κs x w. refl), tt),
      ),
    )
    f.Key.name code.function (code.unfolded 𝓤 𝓛.H 𝓜 𝓡 wired)
    (λ κs. (mut_vals, (shr_slice_vals, (uint_vals w64, tt))))
    (λ κs. (mut_Tells (named 0) κs.0 R, (shr_slice_Tells (named 1) κs.1.0 u8, (uint_Tells w64, tt))))
    (λ κs qs bounds a _ are.
    let b = a.0.ref_ptr.0 in let o = a.0.ref_ptr.1 in
    let vs = mut_vals a.0 in let us = shr_slice_vals a.1.0 in let ns = uint_vals w64 a.1.1.0 in
    let h' = record (a.0.now) { bytes = a.0.now.bytes ++ take a.1.1.0 a.1.0.now } in
    let y : W.Ghost = ((κs, qs, bounds, a, (vs, (us, (ns, tt)))), tt) in
    qed 𝓛 (((‵ (flft κs.0 qs.0) ⊛ (‵ (flft κs.1.0 qs.1.0) ⊛ ‵ ftrue))
    ⊛ (‵ ((MutRef (named 0) κs.0 R).own_val a.0 vs)
    ⊛ (‵ ((ShrSlice (named 1) κs.1.0 u8).own_val a.1.0 us) ⊛ (‵ (u64.own_val a.1.1.0 ns) ⊛ ‵ ftrue))))
    ∷ ‵ ftrue ∷ []) ∵
    split ! $ split ! $ move ! (2 ∷ []) $ split ! $ move ! (1 ∷ []) $ split ! $
    -- [the slice; the rest of the parameters; self; the token of self; the other token]
    keep ! (2 ∷ 3 ∷ 0 ∷ 4 ∷ []) $
    enter ! _ _ _ _ _ $ alloc_all ! (λ l. pass_all ! refl
    ((tt, tt), ((tt, (tt, (record { fits = are.1.0.0.1.0 }, tt))), ((tt, record { fits = are.1.1.0.1 }), tt))) $
    fsplit3 ! $ move ! (1 ∷ 2 ∷ 3 ∷ []) $ opens ! tt R b o (λ ws.
    sets ! (of_opd ! (unit_lit !)) refl (tt, tt) $
    move ! (1 ∷ []) $ use1 𝓛 (‵ (R.own_val h' ws)) (id⊢ 𝓤 _) $ move ! (1 ∷ 0 ∷ []) $ closes ! tt R h' ws b o $
    returns ! (look_at ! 0 refl) $ free_all ! refl $ move ! (3 ∷ []) $
    -- [self, in three parts; its token; the slice; the other token]
    suffices ! _ (ends_at 𝓛 f.ended stayed c y vunit tt (h', (tt, (tt, tt))) (tt, (tt, (tt, tt)))) $ says ! refl $
    group ! 3 $ nothing ! $ nothing ! $ join ! $ move ! (3 ∷ 0 ∷ []) $ join ! $ move ! (1 ∷ 0 ∷ []) $ join ! $
    move ! (1 ∷ 2 ∷ []) $ join ! $ frame ! $ frame ! $ feq_i ! _ (vunit ∷ []) _ refl $ done !)))
