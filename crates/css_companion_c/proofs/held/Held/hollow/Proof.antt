-- `hollow` puts null beside the handle, and owns nothing behind it.
use Rattle.std.proofs.Common.{List, [], ◌∷◌, ◌++◌, refl, sym, subst, None}
use mir.Val.{Val, vnull}
use base.Logic.{SProp, ent, emp, id⊢}
use base.Fml.{ftrue, fsep}
use prog.Wp.{WpFn}
use types.Kit.{‵, raw, ◌⊛◌, ◌$◌, ◌∵◌, !, qed, move, drop, split, join, fsplit, fjoin, suffices, use1, done}
use types.Part.{agg}
use types.Run.{lit, no_more, and_then, returns, enter}
use types.ByLocal.{alloc_all, pass_all, free_all, look_at, get, sets}
use contract.Running.{tables}
use denote.Exit.{yes}
use denote.RawPtr.{null_ptr}
use denote.Signature.{plain}
use denote.Steps.{nothing}
use denote.Triple.Walked.{Stays, stay_dropped, Goes-dropped, walk_of, ends_at, says}
use Rattle.std.proofs.alloc.Calls.{handle_tells}
use Rattle.std.proofs.raw_atomic.Walks.{proved_at}
use Rattle.std_heap.specs.contracts.Global.{the_row as Global}
use Rattle.css_companion_c.proofs.Heap.{heap}
use Rattle.css_companion_c.proofs.Pairs.{pair, pair_fits, pair_in}
use Rattle.css_companion_c.specs.contracts.held.Held.{the_row as Held}
use Rattle.css_companion_c.specs.contracts.held.Held.hollow as f
use Rattle.css_companion_c.proofs.held.Held.hollow.Statement.{statement}
use Rattle.css_companion_c.proofs.held.Held.hollow.Code as code

abbrev stayed : Stays f.ended.signature.params f.ended.kept
stayed = (stay_dropped (plain (λ _. Global)) yes, tt)

pub hollow_spec : {M : Type 1} → statement M
hollow_spec 𝓤 𝓛 𝓜 𝓡 wired =
    let c = f.clauses 𝓛 𝓜.mem 𝓡.returns in let 𝓣 = tables 𝓤 𝓛.H 𝓜 𝓡 𝓡.env in
    proved_at 𝓛 f.ended stayed c 𝓜 𝓡 (Goes-dropped 𝓛 0 (plain (λ _. Global)) yes (λ κs x w. refl), tt)
    f.Key.name code.function (code.unfolded 𝓤 𝓛.H 𝓜 𝓡 wired) (λ z are.
    let a = z.0.3.0 in let Post : Val → SProp 𝓤 = (walk_of 𝓛 f.ended stayed c).post z in
    let Run : List Val → SProp 𝓤 = λ ws. WpFn 𝓤 𝓛.H 𝓣.C 𝓣.Λ code.function ws Post in
    let made : Held.Denot = record { at = null_ptr; alloc = a; kept = None } in
    qed 𝓛 ((‵ ftrue ⊛ ‵ (fsep (Global.own_val a z.0.4.0) ftrue)) ∷ raw (emp 𝓤) ∷ []) ∵
    move ! (1 ∷ []) $ drop ! $ split ! $ drop ! $ fsplit ! $ move ! (1 ∷ []) $ drop ! $
    handle_tells heap ! a z.0.4.0 (λ h is fits.
    suffices ! (Run (h ∷ [])) (subst (λ (us : List Val). ent 𝓤 (Run (h ∷ [])) (Run us)) (sym (λ i. is i ++ []))
    (id⊢ 𝓤 (Run (h ∷ [])))) $
    enter ! 𝓣.C 𝓣.Λ code.function (h ∷ []) Post $ alloc_all ! (λ l. pass_all ! refl (fits, tt) $
    sets ! (agg ! (and_then ! (lit ! tt) (and_then ! (get ! refl) (no_more !)))) refl (pair_fits heap null_ptr h fits) $
    returns ! (look_at ! 0 refl) $ free_all ! refl $
    pair_in heap ! null_ptr a h $ nothing ! $ move ! (1 ∷ 0 ∷ []) $ fjoin ! $
    use1 𝓛 (‵ (Held.own_val made (pair vnull h ∷ []))) (id⊢ 𝓤 _) $
    suffices ! _ (ends_at 𝓛 f.ended stayed c z (pair vnull h) made (tt, tt) (tt, tt)) $ says ! refl $
    nothing ! $ nothing ! $ fjoin ! $ join ! $ nothing ! $ join ! $ done !)))
