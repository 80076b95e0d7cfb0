-- A pointer beside an allocator's handle, as both structs of this crate that own memory hold them.
use Rattle.std.proofs.Common.{◌≡◌, List, [], ◌∷◌, ◌++◌, refl, ◌∙◌, lit<}
use mathlib.Core.Bool.{Bool, true, ◌&&◌}
use lib.Dec.{T}
use seplogic.Ra.Ura.{Ura}
use mir.Syntax.{ty_ptr}
use mir.Val.{Val, vstruct, vcons, vnil, of_list, has_ty, WT}
use base.Fml.{Fml, fex}
use types.Logic.{Logic}
use types.Kit.{Item, Goal, Seq, Step, step, ‵, ◌$◌, move, drop, fsplit, fjoin, fpick, fpack, feq_i, feq_l}
use denote.RattleType.{Valss}
use denote.RawPtr.{Ptr, RawPtr, block_ptr, null_ptr, ptr_val}
use denote.Steps.{nothing}
use denote.Struct.Struct.{within}
use Rattle.std.proofs.alloc.Calls.{Al, α, Fits, handle_tells}

-- the machine value of a pointer and of a handle, side by side
abbrev pub pair : Val → Val → Val
pair v h = vstruct (vcons v (vcons h vnil))

-- a machine value that may stand in a local for a pointer
abbrev pub IsPointer : Val → Type 0
IsPointer v = T (has_ty ty_ptr v) × WT v

pub pointer : (p : Ptr) → IsPointer (ptr_val p)
pointer (block_ptr b o) = (tt, tt)
pointer null_ptr = (tt, record { fits = lit< tt })

both_hold : (x y : Bool) → T x → T y → T (x && (y && true))
both_hold true true s t = tt
both_hold true mathlib.Core.Bool.false s t = absurd t
both_hold mathlib.Core.Bool.false y s t = absurd s

module _ (Z : Al) where
  pub pair_fits : (p : Ptr) (h : Val) → Fits Z h
      → T (has_ty ty_ptr (ptr_val p) && (has_ty (α Z) h && true)) × WT (pair (ptr_val p) h)
  pair_fits p h fits =
      (both_hold (has_ty ty_ptr (ptr_val p)) (has_ty (α Z) h) (pointer p).0 fits.0, ((pointer p).1, (fits.1, tt)))

  -- what the two fields own
  abbrev pub Pair : Ptr → Z.row.Denot → List Val → Fml
  Pair p a vs =
      fex (Valss (RawPtr ∷ Z.row ∷ []))
      (within (record { name = []; args = []; types = []; fields = RawPtr ∷ Z.row ∷ [] }) (p, (a, tt)) vs)

  module _ {M : Type 1} {𝓤 : Ura M} {𝓛 : Logic 𝓤} {K : Type 0} {Γ : List (Item 𝓤)} {G : Goal 𝓤 𝓛.H} where
    pub pair_out : K → (p : Ptr) (a : Z.row.Denot) (vs : List Val)
        → ((h : Val) → vs ≡ pair (ptr_val p) h ∷ [] → Fits Z h → Seq K 𝓛 (‵ (Z.row.own_val a (h ∷ [])) ∷ Γ) G)
        → Seq K 𝓛 (‵ (Pair p a vs) ∷ Γ) G
    pair_out t p a vs k =
        fpick t (λ vss. fsplit t $ feq_l t (λ whole. fsplit t $
        feq_l t (λ at. fsplit t $ handle_tells Z t a vss.1.0 (λ h is fits.
        move t (1 ∷ []) $ drop t $
        k h (whole ∙ (λ i. vstruct (of_list (at i ++ (is i ++ []))) ∷ [])) fits))))

    pub pair_in : K → (p : Ptr) (a : Z.row.Denot) (h : Val)
        → Step K 𝓛 (‵ (Pair p a (pair (ptr_val p) h ∷ [])) ∷ Γ) G (‵ (Z.row.own_val a (h ∷ [])) ∷ Γ) G
    pair_in t p a h = step (λ s.
        nothing t $ move t (1 ∷ 0 ∷ []) $ fjoin t $
        feq_i t (List Val) (ptr_val p ∷ []) (ptr_val p ∷ []) refl $ fjoin t $
        feq_i t (List Val) (pair (ptr_val p) h ∷ []) (pair (ptr_val p) h ∷ []) refl $ fjoin t $
        fpack t (Valss (RawPtr ∷ Z.row ∷ []))
        (within (record { name = []; args = []; types = []; fields = RawPtr ∷ Z.row ∷ [] }) (p, (a, tt))
        (pair (ptr_val p) h ∷ [])) (ptr_val p ∷ [], (h ∷ [], tt)) $ s)
