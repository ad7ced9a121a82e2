-- A block is made of a pointer and what lies there. Assumes `Logic`.
use Rattle.std.proofs.Common.{List, [], ◌∷◌, refl}
use Rattle.std.specs.Box.Ownership.{box_owns}
use Rattle.std.specs.contracts.impls.GlobalAllocator.TheImpl.{ghosts}
use Rattle.std.specs.declared.alloc.Global.{Global as Handle}
use Rattle.saga_c.specs.declared.blocks.Block.{Block}
use Rattle.saga_c.specs.contracts.blocks.Block as BlockRow
use seplogic.Ra.Ura.{Ura}
use base.Logic.{SProp, assoc∗, sep}
use contract.Monad.{fact}
use denote.Triple.Walked.{says}
use types.Kit.{Step, prop, step, suffices}
use base.Logic.{ent}
use denote.Builtin.{RawPtr}
use denote.RattleType.{RattleType, Valss}
use denote.RawPtr.{Ptr, block_ptr, null_ptr, ptr_val}
use denote.Steps.{nothing}
use denote.Struct.Owning.{shape}
use denote.Struct.Struct.{within}
use lib.Dec.{T, lit<}
use mir.Syntax.{tcons, tnil, ty_ptr, ty_struct}
use mir.Val.{Val, WT, has_ty, vcons, vnil, vstruct}
use base.Fml.{fex}
use mir.Val.{of_list}
use types.Kit.{Goal, Item, Sq, drop, feq_l, fpick, fsplit}
use Rattle.std.proofs.Common.{◌≡◌, ◌∙◌, ◌++◌, ap}
use types.Kit.{‵, ◌$◌, ◌∵◌, !, done, feq_i, fjoin, fpack, qed}
use types.Logic.{Logic, sem}

-- the value of the machine
abbrev pub word : Ptr → Val
word p = vstruct (vcons (ptr_val p) vnil)

abbrev pub block : {X : Type 0} → Ptr → X → Block X
block p x = record { at = p; value = x }

pub makes : {M : Type 1} {𝓤 : Ura M} (𝓛 : Logic 𝓤) (R : RattleType) (h : Handle) (p : Ptr) (x : R.Denot)
    → ent 𝓤 (sem 𝓛 (box_owns (ghosts.dealloc_token h) R p x)) (sem 𝓛 ((BlockRow.the_row R).own_val (block p x) (word p ∷ [])))
makes 𝓛 R h p x =
    qed 𝓛 (‵ (box_owns (ghosts.dealloc_token h) R p x) ∷ []) ∵
    fpack ! Handle (λ a. box_owns (ghosts.dealloc_token a) R p x) h $
    nothing ! $ feq_i ! (List Val) (ptr_val p ∷ []) (ptr_val p ∷ []) refl $ fjoin ! $ feq_i ! (List Val) (word p ∷ []) (word p ∷ []) refl $ fjoin ! $
    fpack ! (Valss (RawPtr ∷ [])) (within (shape (BlockRow.the_type R)) (p, tt) (word p ∷ [])) (ptr_val p ∷ [], tt) $ fjoin ! $ done !

-- it is of the type of a block, and so is its pointer
pub good_word : (p : Ptr) → T (has_ty (ty_struct [] (tcons ty_ptr tnil)) (word p)) × WT (word p)
good_word (block_ptr b o) = (tt, (tt, tt))
good_word null_ptr = (tt, (record { fits = lit< tt }, tt))

pub good_ptr : (p : Ptr) → T (has_ty ty_ptr (ptr_val p)) × WT (ptr_val p)
good_ptr (block_ptr b o) = (tt, tt)
good_ptr null_ptr = (tt, record { fits = lit< tt })

-- the value of the machine is the pointer's
pub tells : {M : Type 1} {𝓤 : Ura M} (𝓛 : Logic 𝓤) (R : RattleType) (k : Block R.Denot) (vs : List Val) {Γ : List (Item 𝓤)} {G : Goal 𝓤 𝓛.H}
    → (vs ≡ word k.at ∷ [] → Sq 𝓛 (‵ (fex Handle (λ a. box_owns (ghosts.dealloc_token a) R k.at k.value)) ∷ Γ) G)
    → Sq 𝓛 (‵ ((BlockRow.the_row R).own_val k vs) ∷ Γ) G
tells 𝓛 R k vs goes =
    fsplit ! $ fpick ! (λ ps. fsplit ! $ feq_l ! (λ is. fsplit ! $ feq_l ! (λ at. drop ! $ goes (is ∙ ap (λ qs. vstruct (of_list (qs ++ [])) ∷ []) at))))

-- two clauses are shown, the second first
pub says_two : {M : Type 1} {𝓤 : Ura M} {𝓛 : Logic 𝓤} {K : Type 0} {Γ : List (Item 𝓤)} → K → {φ ψ : Type 0} {P : SProp 𝓤} → φ → ψ
    → Step K 𝓛 Γ (prop P) Γ (prop (sep 𝓤 P (sep 𝓤 (fact 𝓤 φ) (fact 𝓤 ψ))))
says_two {𝓤 = 𝓤} {𝓛 = 𝓛} {Γ = Γ} t {φ} {ψ} {P} x x' =
    step (λ s. suffices t (sep 𝓤 (sep 𝓤 P (fact 𝓤 φ)) (fact 𝓤 ψ)) (assoc∗ 𝓤 P (fact 𝓤 φ) (fact 𝓤 ψ)) $ says t x' $ says t x $ s)
