-- An empty cell is one for any lifetime. Assumes `Logic`.
use Rattle.std.proofs.Common.{List, [], ◌∷◌, refl}
use Rattle.std.specs.Prelude.{None}
use Rattle.std.specs.contracts.option.Option as OptionRow
use Rattle.saga_c.specs.contracts.sessions.Session as SessionRow
use seplogic.Ra.Ura.{Ura}
use base.Fraction.{full_share}
use base.Logic.{ent}
use base.Fml.{fsep}
use base.Logic.{fst∗, never}
use denote.Enum.Declared.{shape}
use denote.Enum.Enum.{form_of}
use denote.Enum.Row.{tagged_with}
use denote.Memory.{cell_at, lone, part_of}
use denote.RawPtr.{Ptr, in_a_block, null_ptr}
use mathlib.Core.Logic.{inl}
use mir.Raw.{raw as bare}
use mir.Val.{Val}
use types.Kit.{move, rewrite, use1}
use Rattle.std.proofs.Common.{sym}
use Rattle.std.specs.Box.Ownership.{box_owns}
use Rattle.std.specs.contracts.impls.GlobalAllocator.TheImpl.{ghosts}
use Rattle.std.specs.declared.alloc.Global.{Global as Handle}
use denote.RattleType.{RattleType}
use denote.Ref.{NamedLft}
use types.Kit.{‵, ◌$◌, ◌∵◌, !, done, fjoin, fpack, fpick, fsplit, qed}
use types.Logic.{Logic, sem}

abbrev cell : NamedLft → RattleType
cell a = OptionRow.the_row (SessionRow.the_row a)

nothing_held : {M : Type 1} {𝓤 : Ura M} (𝓛 : Logic 𝓤) (a a' : NamedLft) (vs : List Val) → ent 𝓤 (sem 𝓛 ((cell a).own_val None vs)) (sem 𝓛 ((cell a').own_val None vs))
nothing_held 𝓛 a a' vs =
    let F = form_of (shape (OptionRow.the_type (SessionRow.the_row a'))) in
    qed 𝓛 (‵ ((cell a).own_val None vs) ∷ []) ∵ fpick ! (λ us. fpack ! (List Val) (tagged_with F F.payload (inl tt) vs) us $ done !)

pub moves : {M : Type 1} {𝓤 : Ura M} (𝓛 : Logic 𝓤) (a a' : NamedLft) (h : Handle) (p : Ptr)
    → ent 𝓤 (sem 𝓛 (box_owns (ghosts.dealloc_token h) (cell a) p None)) (sem 𝓛 (box_owns (ghosts.dealloc_token h) (cell a') p None))
unfolding part_of
moves {𝓤 = 𝓤} 𝓛 a a' h p =
    qed 𝓛 (‵ (box_owns (ghosts.dealloc_token h) (cell a) p None) ∷ []) ∵
    in_a_block ! p (λ p'. box_owns (ghosts.dealloc_token h) (cell a) p' None) (fst∗ 𝓤 (never 𝓤) (sem 𝓛 (ghosts.dealloc_token h (bare (lone (cell a).mir)) null_ptr))) (λ b o e. fsplit ! $ fpick ! (λ vs. fsplit ! $
    -- [the cell; what it owns; the right to the block]
    move ! (1 ∷ []) $ use1 𝓛 (‵ ((cell a').own_val None vs)) (nothing_held 𝓛 a a' vs) $ move ! (1 ∷ 0 ∷ []) $ fjoin ! $
    fpack ! (List Val) (λ us. fsep (cell_at full_share (cell a').mir us b o) ((cell a').own_val None us)) vs $ fjoin ! $
    rewrite ! 0 (λ p'. ‵ (box_owns (ghosts.dealloc_token h) (cell a') p' None)) (sym e) refl $ done !))
