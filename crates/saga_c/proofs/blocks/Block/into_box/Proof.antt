-- A box is made again of its pointer and what it owned.
use Rattle.std.proofs.Common.{◌≡◌, List, [], ◌∷◌, refl}
use Rattle.std.proofs.raw_atomic.Walks.{proved_at}
use Rattle.std.proofs.alloc.Calls.{Goes-blank}
use Rattle.std.specs.contracts.boxed.Box as BoxRow
use Rattle.std.specs.contracts.alloc.Global as GlobalRow
use Rattle.std.proofs.alloc.Global.TheLaws as GlobalLaws
use Rattle.std.proofs.boxed.Box.TheLaws as BoxLaws
use Rattle.std.specs.contracts.boxed.Box.from_raw as g
use Rattle.std.proofs.boxed.Box.from_raw.Met as back
use Rattle.std.specs.contracts.impls.GlobalAllocator.TheImpl.{ghosts, dict}
use Rattle.std.proofs.impls.GlobalAllocator.TheImpl.Met as heap
use mir.Syntax.{Ty, a_type, dnil, impl, tcons, tnil, ty_struct, ty_unit}
use mir.MapTy.{inst_fn}
use mir.Val.{Val}
use base.Fml.{ftrue, flft}
use contract.Monad.{fact}
use contract.BorrowLft.{◌⊑◌}
use contract.Running.{tables}
use denote.Exit.{no}
use denote.Param.{arg, layout, param}
use denote.Param.Laws.{Laws, arg_laws}
use denote.Param.NoDrop.{glues}
use denote.RattleType.{RattleType}
use denote.Signature.{plain}
use denote.Triple.Walked.{Stays, stay_dropped, walk_of}
use types.Kit.{‵, raw, ◌⊛◌, ◌$◌, ◌∵◌, !, qed}
use base.Logic.{ent, emp}
use denote.Param.Laws.{param_laws}
use denote.Param.Steps.{one_value}
use denote.Steps.{heard}
use denote.Triple.Spec.{triple_of}
use prog.Wp.{WpFn}
use types.ByLocal.{alloc_all, pass_all, get, sets}
use types.Kit.{move, split, keep}
use types.Run.{enter, of_opd}
use Rattle.std.proofs.Common.{◌++◌}
use base.Fraction.{full_share}
use base.Logic.{id⊢, fst∗, never}
use contract.Monad.{fact_i}
use contract.BorrowLft.{⊑_refl}
use denote.RawPtr.{Ptr, block_ptr, null_ptr, ptr_val, in_a_block}
use denote.Steps.{nothing}
use denote.Triple.Clauses.{Lasts, lasts}
use denote.Triple.Table.{framed}
use mir.Raw.{raw as bare}
use mir.Val.{vptr}
use types.ByLocal.{free_all, look_at}
use types.Kit.{some, later, use0, use1, join, await, pick, drop}
use types.Logic.{sem}
use types.Run.{and_then, no_more, returns}
use Rattle.std.specs.Box.Ownership.{box_owns}
use types.Kit.{feq_i, suffices, frame, done}
use denote.Triple.Walked.{ends_at, says}
use Rattle.std.specs.declared.alloc.Global.{Global as Handle}
use Rattle.saga_c.specs.contracts.blocks.Block as BlockRow
use Rattle.saga_c.proofs.blocks.Block.TheLaws as BlockLaws
use Rattle.std.proofs.Common.{sym, subst}
use Rattle.std.proofs.VecSteps.Shapes.{after}
use denote.Laws.{Is, shows}
use denote.Steps.{peeks}
use denote.Triple.Call.{calls_at_last}
use denote.Triple.Walked.{Goes-dropped}
use denote.Exit.{yes}
use denote.Param.{layouts}
use types.ByLocal.{get_in, lands_last, env}
use types.Kit.{regoal, prop, at_ret, fsplit, fpick}
use types.Part.{sub, whole}
use types.Run.{fld, stop, first, blocks, exec}
use Rattle.std.specs.declared.boxed.Box.{Box}
use Rattle.saga_c.proofs.Destruct++none.drop.Code as none
use Rattle.saga_c.specs.contracts.blocks.Block.into_box as f
use Rattle.saga_c.proofs.blocks.Block.into_box.Statement.{statement}
use Rattle.saga_c.proofs.blocks.Block.into_box.Code as code

abbrev δ : Ty
δ = ty_struct [] (tcons (ty_struct [] (tcons ty_unit tnil)) tnil)

abbrev Z : RattleType
Z = arg δ no GlobalRow.the_row

LZ : Laws Z
LZ = arg_laws δ no GlobalRow.the_row GlobalLaws.the_row_laws refl

pub into_box_spec : {M : Type 1} → statement M
unfolding none.code
into_box_spec {M} 𝓤 𝓛 𝓜 𝓡 wired X L =
    let H = 𝓛.H in let 𝓣 = tables 𝓤 H 𝓜 𝓡 𝓡.env in
    let dd = impl ("saga_c::Destruct++none::drop" ∷ []) (tcons δ tnil) dnil in
    let inst = layouts (a_type ∷ []) (X, tt) in let fn = inst_fn inst code.function in
    let En = f.ended X in let c = f.clauses X 𝓛 𝓜.mem 𝓡.returns in
    let B : RattleType = BoxRow.the_row (param 0 X) GlobalRow.the_row ghosts in let K : RattleType = BlockRow.the_row (param 0 X) in
    let hs : Stays En.signature.params En.kept = (stay_dropped (plain (λ _. K)) no, (stay_dropped (plain (λ _. GlobalRow.the_row)) yes, tt)) in
    let drops = glues "saga_c::Destruct++none::drop" 𝓡.env (code.calls-saga_c::Destruct++none::drop 𝓡.env wired) Z LZ M 𝓤 𝓛 𝓜 𝓡 in
    let frees = heap.passed 𝓡.env (code.calls-std_heap::GlobalAllocator::allocate 𝓡.env wired) (code.calls-std_heap::GlobalAllocator::deallocate 𝓡.env wired) (code.calls-std_heap::GlobalAllocator::grow 𝓡.env wired) (code.calls-std_heap::GlobalAllocator::shrink 𝓡.env wired) M 𝓤 𝓛 𝓜 𝓡 in
    let known = back.met 𝓤 𝓛 𝓜 𝓡 (code.calls-std_alloc::boxed::Box::from_raw 𝓡.env wired) X Z L LZ ghosts dict dd frees drops in
    let G = triple_of 𝓛 (g.signature X Z ghosts dict dd) (g.spec X Z ghosts dict dd 𝓛 𝓜.mem 𝓡.returns) in
    let W = walk_of 𝓛 En hs c in
    let lawful = (BoxLaws.the_field_loose (param 0 X) GlobalRow.the_row ghosts (param_laws 0 X L) GlobalLaws.the_row_laws).lawful 𝓛 in
    proved_at 𝓛 En hs c 𝓜 𝓡 (Goes-blank 𝓛 1 (plain (λ _. K)) no (λ κs x f. tt), (Goes-dropped 𝓛 1 (plain (λ _. GlobalRow.the_row)) yes (λ κs x f. refl), tt)) (f.Key.name inst) fn (code.unfolded 𝓤 H 𝓜 𝓡 wired (X, tt)) (λ z are.
    let κ = z.0.0.0 in let q = z.0.1.0 in let v = z.0.3.0 in let a = z.0.3.1.0 in
    let LK = BlockLaws.lowers (param 0 X) (param_laws 0 X L) in let low = λ (p : Ptr). LK.lowered (record v { at = p }) in
    let At : List Val → List Val → W.Ghost = λ us ws. ((z.0.0, z.0.1, z.0.2, z.0.3, (us, (ws, tt))), z.1) in
    let Goal = λ (us ws : List Val). ent 𝓤 (W.pre (At us ws)) (WpFn 𝓤 H 𝓣.C 𝓣.Λ fn (us ++ (ws ++ [])) (W.post (At us ws))) in
    subst (λ us. Goal us z.0.4.1.0) (sym (LK.val_is v z.0.4.0 are.0))
    (one_value δ (λ ws. Goal (low v.at ∷ []) ws) z.0.4.1.0 ((LZ.lawful 𝓛).typed a z.0.4.1.0 are.1.0) (λ w good.
    qed 𝓛 (((‵ (flft κ q) ⊛ ‵ ftrue) ⊛ ‵ (K.own_val v (low v.at ∷ [])) ⊛ ‵ (GlobalRow.the_row.own_val a (w ∷ [])) ⊛ ‵ ftrue) ∷ raw (fact 𝓤 (κ ⊑ X.lives)) ∷ raw (emp 𝓤) ∷ []) ∵
    move ! (1 ∷ []) $ heard ! (κ ⊑ X.lives) (λ le. split ! $ split ! $ move ! (2 ∷ []) $ split ! $ move ! (1 ∷ []) $ split ! $ keep ! (2 ∷ 3 ∷ 0 ∷ []) $
    fsplit ! $ move ! (1 ∷ []) $ fpick ! (λ h. in_a_block ! v.at (λ p'. box_owns (ghosts.dealloc_token h) (param 0 X) p' v.value) (fst∗ 𝓤 (never 𝓤) (sem 𝓛 (ghosts.dealloc_token h (bare (layout X)) null_ptr))) (λ b o e.
    keep ! (0 ∷ 2 ∷ 3 ∷ []) $
    regoal ! (λ p. prop (WpFn 𝓤 H 𝓣.C 𝓣.Λ fn (low p ∷ w ∷ []) (W.post (At (low p ∷ []) (w ∷ []))))) e refl $
    let y = At (low (block_ptr b o) ∷ []) (w ∷ []) in
    enter ! 𝓣.C 𝓣.Λ fn (low (block_ptr b o) ∷ w ∷ []) (W.post y) $ alloc_all ! (λ l. pass_all ! refl ((tt, (tt, tt)), (good, tt)) $
    sets ! (of_opd ! (get_in ! (fld ! refl (stop !)) (sub ! 0 refl (whole !)))) refl (tt, tt) $
    let y' : G.Ghost = (((κ, ([], tt)), (q, (full_share, tt)), tt, (a, (block_ptr b o, tt)), (w ∷ [], (vptr b o ∷ [], tt))), v.value) in
    use0 𝓛 (raw (fact 𝓤 ([] ⊑ Z.lives))) (fact_i 𝓤 _ (emp 𝓤) (⊑_refl [])) $ join ! $ use0 𝓛 (raw (fact 𝓤 (κ ⊑ X.lives))) (fact_i 𝓤 _ (emp 𝓤) le) $ join ! $
    nothing ! $ use0 𝓛 (‵ (flft [] full_share)) (𝓛.lfts.lft-nil full_share) $ join ! $ move ! (2 ∷ 0 ∷ []) $ join ! $
    nothing ! $ feq_i ! (List Val) (vptr b o ∷ []) (ptr_val (block_ptr b o) ∷ []) refl $ join ! $ move ! (3 ∷ 0 ∷ []) $ join ! $ move ! (1 ∷ 0 ∷ []) $ join ! $ join ! $
    use1 𝓛 (raw (G.pre y')) (id⊢ 𝓤 _) $
    first ! $ blocks ! $ calls_at_last ! (framed 𝓤 H 𝓜 𝓣) G known y' (and_then ! (get ! refl) (and_then ! (get ! refl) (no_more !))) (λ u.
    let Ce = g.ended X Z ghosts dict dd in
    use1 𝓛 (later (some (λ (r : Box X.Denot Handle). ((‵ (flft κ q) ⊛ ‵ (flft [] full_share) ⊛ ‵ ftrue) ⊛ ‵ (B.own_val r (u ∷ []))) ⊛
    some (λ (ws : Lasts Ce (κ, ([], tt)) (a, (block_ptr b o, tt))). ‵ (lasts Ce (κ, ([], tt)) (a, (block_ptr b o, tt)) ws) ⊛ raw (fact 𝓤 (r.value ≡ v.value)) ⊛ raw (fact 𝓤 (r.alloc ≡ a)))))) (id⊢ 𝓤 _) $
    await ! tt $ pick ! (λ r. split ! $ split ! $ move ! (2 ∷ []) $ pick ! (λ ws. split ! $ drop ! $ split ! $ heard ! _ (λ same. drop ! $ move ! (1 ∷ []) $
    -- [the box; the tokens]
    peeks ! B (Is B) (shows 𝓛 B) r (u ∷ []) (λ is. let typed = (lawful.typed r (u ∷ []) is).0 in
    lands_last ! refl typed $ exec ! 𝓣.C 𝓣.Λ (env fn.locals l) (after 2 fn.body) (at_ret _ (W.post y)) $ sets ! (of_opd ! (get ! refl)) refl typed $
    returns ! (look_at ! 0 refl) $ free_all ! refl $
    suffices ! _ (ends_at 𝓛 En hs c y u r (tt, (tt, tt)) (tt, (tt, tt))) $ says ! same $
    move ! (1 ∷ []) $ split ! $ move ! (1 ∷ []) $ split ! $ keep ! (2 ∷ 3 ∷ []) $
    nothing ! $ move ! (1 ∷ 0 ∷ []) $ join ! $ nothing ! $ nothing ! $ join ! $ nothing ! $ join ! $ move ! (1 ∷ 0 ∷ []) $ frame ! $ frame ! $ done !))))))))))))
