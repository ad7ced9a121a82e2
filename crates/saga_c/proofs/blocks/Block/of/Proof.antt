-- A box is taken apart into its pointer and what it owns.
use Rattle.std.proofs.Common.{List, [], ◌∷◌, refl, ap}
use Rattle.std.proofs.raw_atomic.Walks.{proved_at}
use Rattle.std.proofs.alloc.Calls.{Goes-blank}
use Rattle.std.specs.contracts.boxed.Box as BoxRow
use Rattle.std.specs.contracts.alloc.Global as GlobalRow
use Rattle.std.proofs.alloc.Global.TheLaws as GlobalLaws
use Rattle.std.proofs.boxed.Box.TheLaws as BoxLaws
use Rattle.std.specs.contracts.boxed.Box.into_raw as g
use Rattle.std.proofs.boxed.Box.into_raw.Met as into
use Rattle.std.specs.contracts.impls.GlobalAllocator.TheImpl.{ghosts, dict}
use Rattle.std.proofs.impls.GlobalAllocator.TheImpl.Met as heap
use mir.Syntax.{Ty, a_type, dcons, dnil, impl, tcons, tnil, ty_struct, ty_unit}
use mir.MapTy.{inst_fn}
use mir.Val.{Val}
use base.Fml.{ftrue, flft}
use contract.Monad.{fact}
use contract.BorrowLft.{◌⊑◌}
use contract.Running.{tables}
use denote.Exit.{no}
use denote.Param.{arg, bounded, layout, param}
use denote.Param.Laws.{Laws, arg_laws}
use denote.Param.NoDrop.{glues}
use denote.RattleType.{RattleType}
use denote.Signature.{plain}
use denote.Triple.Walked.{Stays, stay_dropped, walk_of}
use types.Kit.{‵, raw, ◌⊛◌, ◌$◌, ◌∵◌, !, qed}
use base.Logic.{ent, emp}
use denote.Memory.{lone}
use denote.Param.Laws.{param_laws}
use denote.Param.Steps.{one_value}
use denote.Steps.{heard}
use denote.Triple.Spec.{triple_of}
use prog.Wp.{WpFn}
use types.ByLocal.{alloc_all, pass_all, get, sets}
use types.Kit.{move, split, keep}
use types.Run.{enter, of_opd}
use Rattle.std.proofs.Common.{◌++◌}
use base.Fraction.{full_share}
use base.Logic.{id⊢, fst∗, never}
use contract.Monad.{fact_i}
use contract.BorrowLft.{⊑_refl}
use denote.Builtin.{RawPtr}
use denote.RawPtr.{Ptr, block_ptr, null_ptr, ptr_val, in_a_block}
use denote.Steps.{nothing, only}
use denote.Triple.Call.{calls_at}
use denote.Triple.Clauses.{Lasts, lasts}
use denote.Triple.Table.{framed}
use mir.Raw.{raw as bare}
use mir.Val.{vptr, vstruct, vcons, vnil}
use types.ByLocal.{free_all, lands_as, look_at}
use types.Kit.{some, later, use0, use1, join, await, pick, drop, feq_l}
use types.Logic.{sem}
use types.Part.{agg}
use types.Run.{and_then, no_more, returns}
use Rattle.std.proofs.Common.{◌∙◌}
use Rattle.std.specs.Box.Ownership.{box_owns}
use Rattle.saga_c.specs.declared.blocks.Block.{Block}
use types.Kit.{fpack, fjoin, feq_i, suffices, frame, done}
use denote.RattleType.{Valss}
use denote.Struct.Struct.{within}
use denote.Struct.Owning.{shape}
use denote.Triple.Walked.{ends_at, says}
use Rattle.std.specs.declared.alloc.Global.{Global as Handle}
use Rattle.saga_c.specs.contracts.blocks.Block as BlockRow
use Rattle.saga_c.proofs.Destruct++none.drop.Code as none
use Rattle.saga_c.specs.contracts.blocks.Block.of as f
use Rattle.saga_c.proofs.blocks.Block.of.Statement.{statement}
use Rattle.saga_c.proofs.blocks.Block.of.Code as code

abbrev δ : Ty
δ = ty_struct [] (tcons (ty_struct [] (tcons ty_unit tnil)) tnil)

abbrev Z : RattleType
Z = arg δ no GlobalRow.the_row

LZ : Laws Z
LZ = arg_laws δ no GlobalRow.the_row GlobalLaws.the_row_laws refl

pub of_spec : {M : Type 1} → statement M
unfolding none.code
of_spec {M} 𝓤 𝓛 𝓜 𝓡 wired X L dX mX =
    let H = 𝓛.H in let 𝓣 = tables 𝓤 H 𝓜 𝓡 𝓡.env in
    let dd = impl ("saga_c::Destruct++none::drop" ∷ []) (tcons δ tnil) dnil in
    let inst = bounded (a_type ∷ []) (X, tt) (dcons dX dnil) in let fn = inst_fn inst code.function in
    let En = f.ended X dX in let c = f.clauses X dX 𝓛 𝓜.mem 𝓡.returns in
    let B : RattleType = BoxRow.the_row (param 0 X) GlobalRow.the_row ghosts in
    let hs : Stays En.signature.params En.kept = (stay_dropped (plain (λ _. B)) no, tt) in
    let drops = glues "saga_c::Destruct++none::drop" 𝓡.env (code.calls-saga_c::Destruct++none::drop 𝓡.env wired) Z LZ M 𝓤 𝓛 𝓜 𝓡 in
    let frees = heap.passed 𝓡.env (code.calls-std_heap::GlobalAllocator::allocate 𝓡.env wired) (code.calls-std_heap::GlobalAllocator::deallocate 𝓡.env wired) (code.calls-std_heap::GlobalAllocator::grow 𝓡.env wired) (code.calls-std_heap::GlobalAllocator::shrink 𝓡.env wired) M 𝓤 𝓛 𝓜 𝓡 in
    let known = into.met 𝓤 𝓛 𝓜 𝓡 (code.calls-std_alloc::boxed::Box::into_raw 𝓡.env wired) X Z L LZ ghosts dict dd dX frees drops mX in
    let G = triple_of 𝓛 (g.signature X Z ghosts dict dd dX) (g.spec X Z ghosts dict dd dX 𝓛 𝓜.mem 𝓡.returns) in
    let W = walk_of 𝓛 En hs c in
    let lawful = (BoxLaws.the_field_loose (param 0 X) GlobalRow.the_row ghosts (param_laws 0 X L) GlobalLaws.the_row_laws).lawful 𝓛 in
    proved_at 𝓛 En hs c 𝓜 𝓡 (Goes-blank 𝓛 1 (plain (λ _. B)) no (λ κs x f. tt), tt) (f.Key.name inst) fn (code.unfolded 𝓤 H 𝓜 𝓡 wired (X, tt) dX) (λ z are.
    let κ = z.0.0.0 in let q = z.0.1.0 in let v = z.0.3.0 in
    let At : List Val → W.Ghost = λ us. ((z.0.0, z.0.1, z.0.2, z.0.3, (us, tt)), z.1) in
    -- whatever a box is made of, it is one value of the machine
    one_value (lone B.mir) (λ us. ent 𝓤 (W.pre (At us)) (WpFn 𝓤 H 𝓣.C 𝓣.Λ fn (us ++ []) (W.post (At us)))) z.0.4.0 (lawful.typed v z.0.4.0 are.0) (λ w good.
    let y = At (w ∷ []) in
    qed 𝓛 (((‵ (flft κ q) ⊛ ‵ ftrue) ⊛ ‵ (B.own_val v (w ∷ [])) ⊛ ‵ ftrue) ∷ raw (fact 𝓤 (κ ⊑ X.lives)) ∷ raw (emp 𝓤) ∷ []) ∵
    move ! (1 ∷ []) $ heard ! (κ ⊑ X.lives) (λ le. split ! $ split ! $ move ! (2 ∷ []) $ split ! $ keep ! (2 ∷ 0 ∷ []) $
    enter ! 𝓣.C 𝓣.Λ fn (w ∷ []) (W.post y) $ alloc_all ! (λ l. pass_all ! refl (good, tt) $
    sets ! (of_opd ! (get ! refl)) refl good $
    let y' : G.Ghost = (((κ, ([], tt)), (q, (full_share, tt)), tt, (v, tt), (w ∷ [], tt)), tt) in
    use0 𝓛 (‵ (flft [] full_share)) (𝓛.lfts.lft-nil full_share) $ nothing ! $ move ! (1 ∷ 0 ∷ []) $ join ! $ move ! (1 ∷ 0 ∷ []) $ join ! $
    nothing ! $ move ! (2 ∷ 0 ∷ []) $ join ! $ move ! (1 ∷ 0 ∷ []) $ join ! $
    use0 𝓛 (raw (emp 𝓤)) (id⊢ 𝓤 _) $ use0 𝓛 (raw (fact 𝓤 ([] ⊑ Z.lives))) (fact_i 𝓤 _ (emp 𝓤) (⊑_refl [])) $ join ! $
    use0 𝓛 (raw (fact 𝓤 (κ ⊑ X.lives))) (fact_i 𝓤 _ (emp 𝓤) le) $ join ! $ move ! (1 ∷ 0 ∷ []) $ join ! $
    use1 𝓛 (raw (G.pre y')) (id⊢ 𝓤 _) $
    calls_at ! (framed 𝓤 H 𝓜 𝓣) G known y' (and_then ! (get ! refl) (no_more !)) (λ u.
    use1 𝓛 (later (some (λ (p : Ptr). ((‵ (flft κ q) ⊛ ‵ (flft [] full_share) ⊛ ‵ ftrue) ⊛ ‵ (RawPtr.own_val p (u ∷ []))) ⊛
    some (λ (ws : Lasts (g.ended X Z ghosts dict dd dX) (κ, ([], tt)) (v, tt)). ‵ (lasts (g.ended X Z ghosts dict dd dX) (κ, ([], tt)) (v, tt) ws) ⊛ ‵ (box_owns (ghosts.dealloc_token v.alloc) (param 0 X) p v.value))))) (id⊢ 𝓤 _) $
    await ! tt $ pick ! (λ p. split ! $ split ! $ move ! (2 ∷ []) $ pick ! (λ ws. split ! $ drop ! $
    in_a_block ! p (λ p'. box_owns (ghosts.dealloc_token v.alloc) (param 0 X) p' v.value) (fst∗ 𝓤 (never 𝓤) (sem 𝓛 (ghosts.dealloc_token v.alloc (bare (layout X)) null_ptr))) (λ b o e.
    move ! (2 ∷ []) $ feq_l ! (λ is. lands_as ! (ap only is ∙ ap ptr_val e) refl (tt, tt) $
    sets ! (agg ! (and_then ! (get ! refl) (no_more !))) refl (tt, (tt, tt)) $
    returns ! (look_at ! 0 refl) $ free_all ! refl $
    -- [what the box owned; the tokens]
    let wd = vstruct (vcons (vptr b o) vnil) in let r : Block X.Denot = record { at = block_ptr b o; value = v.value } in
    fpack ! Handle (λ a. box_owns (ghosts.dealloc_token a) (param 0 X) (block_ptr b o) v.value) v.alloc $
    nothing ! $ feq_i ! (List Val) (vptr b o ∷ []) (ptr_val (block_ptr b o) ∷ []) refl $ fjoin ! $ feq_i ! (List Val) (wd ∷ []) (wd ∷ []) refl $ fjoin ! $
    fpack ! (Valss (RawPtr ∷ [])) (within (shape (BlockRow.the_type (param 0 X))) (block_ptr b o, tt) (wd ∷ [])) (vptr b o ∷ [], tt) $ fjoin ! $
    suffices ! _ (ends_at 𝓛 En hs c y wd r (tt, tt) (tt, tt)) $ says ! refl $
    move ! (1 ∷ []) $ split ! $ move ! (1 ∷ []) $ split ! $ keep ! (2 ∷ 3 ∷ []) $
    nothing ! $ move ! (1 ∷ 0 ∷ []) $ join ! $ nothing ! $ nothing ! $ join ! $ move ! (1 ∷ 0 ∷ []) $ frame ! $ frame ! $ done !)))))))))
