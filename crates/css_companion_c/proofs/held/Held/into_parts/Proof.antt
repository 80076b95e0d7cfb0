-- `into_parts` moves both fields of a handle that owns a companion, and what is behind the pointer goes with them.
use Rattle.std.proofs.Common.{◌≡◌, List, [], ◌∷◌, ◌++◌, refl, sym, subst, Option, Some, None, IsSome, true≢false}
use mir.Val.{Val}
use base.Logic.{SProp, ent, id⊢}
use base.Fml.{ftrue, fsep}
use prog.Wp.{WpFn}
use contract.Monad.{fact}
use types.Kit.{‵, raw, ◌⊛◌, ◌$◌, ◌∵◌, !, qed, move, drop, split, join, fsplit, fjoin, suffices, use1, rewrite, done}
use types.Part.{whole, sub, agg}
use types.Run.{stop, fld, of_opd, no_more, and_then, returns, enter}
use types.ByLocal.{alloc_all, pass_all, free_all, look_at, get, get_in, sets}
use contract.Running.{tables}
use denote.Exit.{yes}
use denote.RawPtr.{ptr_val}
use denote.RattleType.{RattleType}
use denote.Signature.{plain}
use denote.Steps.{nothing, heard}
use denote.Triple.Walked.{Stays, stay_dropped, Goes-dropped, walk_of, ends_at, says}
use Rattle.std.proofs.raw_atomic.Walks.{proved_at}
use Rattle.std_heap.specs.contracts.Global.{the_row as Global}
use Rattle.std_heap.specs.contracts.GlobalAllocator.TheImpl.{ghosts}
use Rattle.css_companion_c.proofs.Heap.{heap}
use Rattle.css_companion_c.proofs.Pairs.{pair, pointer, pair_fits, pair_in, pair_out, Pair}
use Rattle.css_companion_c.specs.Holding.{held_owns}
use Rattle.css_companion_c.specs.declared.follower.Follower.{Follower}
use Rattle.css_companion_c.specs.contracts.follower.Follower.{the_row as Kept}
use Rattle.css_companion_c.specs.contracts.parts.Parts as parts
use Rattle.css_companion_c.specs.contracts.held.Held.{the_row as Held}
use Rattle.css_companion_c.specs.contracts.held.Held.into_parts as f
use Rattle.css_companion_c.proofs.held.Held.into_parts.Statement.{statement}
use Rattle.css_companion_c.proofs.held.Held.into_parts.Code as code

abbrev Parts : RattleType
Parts = parts.the_row Kept Global ghosts

abbrev stayed : Stays f.ended.signature.params f.ended.kept
stayed = (stay_dropped (plain (λ _. Held)) yes, tt)

there : (kept : Option Follower) → IsSome kept → (x : Follower) × (kept ≡ Some x)
there (Some x) is = (x, refl)
there None is = absurd (true≢false (sym is))

pub into_parts_spec : {M : Type 1} → statement M
into_parts_spec 𝓤 𝓛 𝓜 𝓡 wired =
    let c = f.clauses 𝓛 𝓜.mem 𝓡.returns in let 𝓣 = tables 𝓤 𝓛.H 𝓜 𝓡 𝓡.env in
    proved_at 𝓛 f.ended stayed c 𝓜 𝓡 (Goes-dropped 𝓛 0 (plain (λ _. Held)) yes (λ κs x w. refl), tt)
    f.Key.name code.function (code.unfolded 𝓤 𝓛.H 𝓜 𝓡 wired) (λ z are.
    let d = z.0.3.0 in let Post : Val → SProp 𝓤 = (walk_of 𝓛 f.ended stayed c).post z in
    let Run : List Val → SProp 𝓤 = λ ws. WpFn 𝓤 𝓛.H 𝓣.C 𝓣.Λ code.function ws Post in
    qed 𝓛 ((‵ ftrue ⊛ ‵ (fsep (fsep (Pair heap d.at d.alloc z.0.4.0) (held_owns d.at d.kept)) ftrue)) ∷ raw
    (fact 𝓤 (IsSome d.kept)) ∷ []) ∵
    move ! (1 ∷ []) $ heard ! (IsSome d.kept) (λ live.
    let x = (there d.kept live).0 in let is_x = (there d.kept live).1 in
    let made : Parts.Denot = record { at = d.at; alloc = d.alloc; value = x } in
    split ! $ drop ! $ fsplit ! $ move ! (1 ∷ []) $ drop ! $ fsplit ! $ move ! (1 ∷ []) $
    rewrite ! 0 (λ (kept : Option Follower). ‵ (held_owns d.at kept)) is_x refl $ move ! (1 ∷ []) $
    pair_out heap ! d.at d.alloc z.0.4.0 (λ h is fits.
    let w = pair (ptr_val d.at) h in let typed = pair_fits heap d.at h fits in
    suffices ! (Run (w ∷ [])) (subst (λ (us : List Val). ent 𝓤 (Run (w ∷ [])) (Run us)) (sym (λ i. is i ++ []))
    (id⊢ 𝓤 (Run (w ∷ [])))) $
    enter ! 𝓣.C 𝓣.Λ code.function (w ∷ []) Post $ alloc_all ! (λ l. pass_all ! refl (typed, tt) $
    sets ! (of_opd ! (get_in ! (fld ! refl (stop !)) (sub ! 0 refl (whole !)))) refl (pointer d.at) $
    sets ! (of_opd ! (get_in ! (fld ! refl (stop !)) (sub ! 1 refl (whole !)))) refl fits $
    sets ! (of_opd ! (get ! refl)) refl (pointer d.at) $
    sets ! (agg ! (and_then ! (get ! refl) (and_then ! (get ! refl) (no_more !)))) refl typed $
    returns ! (look_at ! 0 refl) $ free_all ! refl $
    pair_in heap ! d.at d.alloc h $ fjoin ! $
    use1 𝓛 (‵ (Parts.own_val made (w ∷ []))) (id⊢ 𝓤 _) $
    suffices ! _ (ends_at 𝓛 f.ended stayed c z w made (tt, tt) (tt, tt)) $ says ! is_x $
    nothing ! $ nothing ! $ fjoin ! $ join ! $ nothing ! $ join ! $ done !))))
