-- The definitions are lent to a session for a lifetime that is made for it.
use Rattle.std.proofs.Common.{◌≡◌, ◌++◌, ℕ, List, [], ◌∷◌, refl, ap, sym, subst}
use Rattle.std.proofs.raw_atomic.Walks.{proved_at}
use Rattle.std.proofs.alloc.Global.TheLaws as GlobalLaws
use Rattle.std.specs.Prelude.{None, Option, Some}
use Rattle.std.specs.Box.Ownership.{box_owns}
use Rattle.std.specs.contracts.alloc.Global as GlobalRow
use Rattle.std.specs.contracts.impls.GlobalAllocator.TheImpl.{ghosts}
use Rattle.std.specs.declared.alloc.Global.{Global as Handle}
use Rattle.saga_c.specs.Leases.{CellRow, ShelfRow}
use Rattle.saga_c.specs.contracts.blocks.Block as BlockRow
use Rattle.saga_c.specs.contracts.leases.Lease.{the_row as R}
use Rattle.saga_c.specs.contracts.leases.Lease.begin as f
use Rattle.saga_c.specs.contracts.sessions.settle as g
use Rattle.saga_c.proofs.Made.{block, good_ptr, good_word, makes, tells, word}
use Rattle.saga_c.proofs.leases.Lease.TheLaws.{lowers}
use Rattle.saga_c.proofs.leases.Lease.begin.Code as code
use Rattle.saga_c.proofs.leases.Lease.begin.Statement.{statement}
use Rattle.saga_c.proofs.sessions.settle.Met as settle
use base.Fml.{flent, flft, ftrue}
use base.Fraction.{full_share}
use base.Logic.{ent, fst∗, id⊢, never}
use contract.Monad.{fact}
use contract.Running.{tables}
use denote.Exit.{no, yes}
use denote.Laws.{shows}
use denote.Memory.{cell_at, lone, mem}
use denote.Param.Steps.{one_value}
use denote.RattleType.{RattleType}
use denote.RawPtr.{block_ptr, in_a_block, null_ptr, ptr_val}
use denote.Ref.{MutRef, mut_Tells, mut_vals}
use denote.Signature.{plain}
use denote.Steps.{closes, heard, nothing, only, opens, peeks}
use denote.Triple.Call.{calls_at}
use denote.Triple.Clauses.{Lasts, lasts}
use denote.Triple.Spec.{triple_of}
use denote.Triple.Table.{framed}
use denote.Triple.Walked.{Goes-dropped, Goes-ref, Stays, ends_at, says, stay_dropped, stay_ref, walk_of}
use mir.Raw.{raw as bare}
use mir.Syntax.{Ty, named, tcons, tnil, ty_struct, ty_unit}
use mir.Val.{Val, vunit}
use prog.Wp.{WpFn}
use types.ByLocal.{alloc_all, free_all, get, lands_as, look_at, pass_all, sets, through}
use types.Kit.{‵, raw, ◌⊛◌, ◌$◌, ◌∵◌, !, await, done, drop, feq_i, fjoin, fpick, frame, fsplit, fsplit3, group, join, keep, later, move, pick, qed, rewrite, some, split, suffices, use1, use2}
use types.Logic.{sem}
use types.Part.{sub, whole}
use types.Run.{and_then, enter, fld, no_more, of_opd, returns, stop, unit_lit}
use types.SemTy.{Body}
use Rattle.std.proofs.Common.{MutBor}
use Rattle.std.proofs.alloc.Calls.{Goes-blank}
use Rattle.saga_c.specs.Leases.{lease_parts, life}
use Rattle.saga_c.specs.declared.blocks.Block.{Block}
use Rattle.saga_c.specs.declared.sessions.Session.{Session}
use Rattle.saga_c.specs.contracts.leases.Lease as LeaseRow
use Rattle.saga_c.specs.contracts.sessions.Session as SessionRow
use Rattle.std.specs.contracts.option.Option as OptionRow
use base.Fml.{GName, fex}
use denote.Builtin.{RawPtr}
use denote.Lend.{lends_ref}
use denote.RattleType.{Valss}
use denote.Signature.{static_lft}
use denote.Struct.Owning.{shape}
use denote.Struct.Struct.{within}
use mir.Val.{vcons, vnil, vptr, vstruct}
use types.ByLocal.{env, get_in, sets_last}
use types.Kit.{at_ret, fpack, prop, regoal}
use types.Part.{store_in}
use types.Run.{addr, assigns, blocks, exec, first}
use types.Tokens.{lft_new}
use Rattle.saga_c.proofs.Empties.{moves}
use Rattle.saga_c.specs.Sessions.{settled}

abbrev δ : Ty
δ = ty_struct [] (tcons (ty_struct [] (tcons ty_unit tnil)) tnil)

-- the types of the two blocks that are passed
abbrev Cell : RattleType
Cell = OptionRow.the_row (SessionRow.the_row static_lft)

abbrev stayed : Stays f.ended.signature.params f.ended.kept
stayed = (
  stay_ref (0 ∷ []) tt (plain (λ _. R)),
  (stay_dropped (plain (λ _. GlobalRow.the_row)) yes, (stay_dropped (plain (λ _. BlockRow.the_row Cell)) no, (stay_dropped (plain (λ _. BlockRow.the_row ShelfRow)) yes, tt))),
)

pub begin_spec : {M : Type 1} → statement M
begin_spec 𝓤 𝓛 𝓜 𝓡 wired =
    let H = 𝓛.H in let 𝓣 = tables 𝓤 H 𝓜 𝓡 𝓡.env in let fn = code.function in
    let c = f.clauses 𝓛 𝓜.mem 𝓡.returns in let W = walk_of 𝓛 f.ended stayed c in
    proved_at 𝓛 f.ended stayed c 𝓜 𝓡 (
      Goes-ref 𝓛 1 0 tt (plain (λ _. R)),
      (
        Goes-dropped 𝓛 1 (plain (λ _. GlobalRow.the_row)) yes (λ κs x f. refl),
        (Goes-blank 𝓛 1 (plain (λ _. BlockRow.the_row Cell)) no (λ κs x f. tt), (Goes-blank 𝓛 1 (plain (λ _. BlockRow.the_row ShelfRow)) yes (λ κs x f. tt), tt)),
      ),
    )
    f.Key.name fn (code.unfolded 𝓤 H 𝓜 𝓡 wired) (λ z are.
    let κ0 = z.0.0.0 in let q0 = z.0.1.0 in let r = z.0.3.0 in let a = z.0.3.1.0 in let cell = z.0.3.1.1.0 in let shelf = z.0.3.1.1.1.0 in
    let h = r.now in let b = r.ref_ptr.0 in let o = r.ref_ptr.1 in
    let At : List Val → List Val → List Val → List Val → W.Ghost = λ us ws cs ds. ((z.0.0, z.0.1, z.0.2, z.0.3, (us, (ws, (cs, (ds, tt))))), z.1) in
    let Runs = λ (us ws cs ds : List Val). WpFn 𝓤 H 𝓣.C 𝓣.Λ fn (us ++ (ws ++ (cs ++ (ds ++ [])))) (W.post (At us ws cs ds)) in
    let Goal = λ (us ws cs ds : List Val). ent 𝓤 (W.pre (At us ws cs ds)) (Runs us ws cs ds) in
    let cs = z.0.4.1.1.0 in let ds = z.0.4.1.1.1.0 in
    subst (λ us. Goal us z.0.4.1.0 cs ds) (sym (mut_Tells (named 0) κ0 R r z.0.4.0 are.0))
    (one_value δ (λ ws. Goal (mut_vals r) ws cs ds) z.0.4.1.0 ((GlobalLaws.the_row_laws.lawful 𝓛).typed a z.0.4.1.0 are.1.0) (λ w good.
    let Own = (MutRef (named 0) κ0 R).own_val r (mut_vals r) in let Handles = GlobalRow.the_row.own_val a (w ∷ []) in
    qed 𝓛 (((‵ (flft κ0 q0) ⊛ ‵ ftrue) ⊛ ‵ Own ⊛ ‵ Handles ⊛ ‵ ((BlockRow.the_row Cell).own_val cell cs) ⊛ ‵ ((BlockRow.the_row ShelfRow).own_val shelf ds) ⊛ ‵ ftrue)
    ∷ raw (fact 𝓤 (h.held ≡ None)) ∷ raw (fact 𝓤 (cell.value ≡ None)) ∷ []) ∵
    move ! (1 ∷ 2 ∷ []) $ heard ! _ (λ closed. heard ! _ (λ empty.
    split ! $ split ! $ move ! (2 ∷ []) $ split ! $ move ! (1 ∷ []) $ split ! $ move ! (1 ∷ []) $ split ! $ move ! (1 ∷ []) $ split ! $ keep ! (0 ∷ 2 ∷ 3 ∷ 4 ∷ 5 ∷ []) $
    tells 𝓛 ShelfRow shelf ds (λ ds_is. move ! (1 ∷ []) $ tells 𝓛 Cell cell cs (λ cs_is.
    regoal ! (λ x. prop (Runs (mut_vals r) (w ∷ []) cs x)) ds_is refl $ regoal ! (λ x. prop (Runs (mut_vals r) (w ∷ []) x (word shelf.at ∷ []))) cs_is refl $
    move ! (1 ∷ []) $ fpick ! (λ hs. in_a_block ! shelf.at (λ p. box_owns (ghosts.dealloc_token hs) ShelfRow p shelf.value) (fst∗ 𝓤 (never 𝓤) (sem 𝓛 (ghosts.dealloc_token hs (bare (lone ShelfRow.mir)) null_ptr))) (λ b' o' e.
    regoal ! (λ p. prop (Runs (mut_vals r) (w ∷ []) (word cell.at ∷ []) (word p ∷ []))) e refl $
    let y = At (mut_vals r) (w ∷ []) (word cell.at ∷ []) (word (block_ptr b' o') ∷ []) in
    enter ! 𝓣.C 𝓣.Λ fn _ (W.post y) $ alloc_all ! (λ l. pass_all ! refl ((tt, tt), (good, (good_word cell.at, (good_word (block_ptr b' o'), tt)))) $
    -- [the definitions' box; the session's; the handle; the reference; its token]
    sets ! (of_opd ! (get_in ! (fld ! refl (stop !)) (sub ! 0 refl (whole !)))) refl (tt, tt) $
    sets ! (of_opd ! (get ! refl)) refl good $ sets ! (of_opd ! (get ! refl)) refl (good_word cell.at) $
    first ! $ blocks ! $ sets_last ! (addr ! (through ! refl (stop !))) refl (tt, tt) $ exec ! 𝓣.C 𝓣.Λ (env fn.locals l) code.Mir.t-5 (at_ret _ (W.post y)) $
    sets ! (of_opd ! (get ! refl)) refl (tt, tt) $
    fsplit ! $ lft_new ! tt (λ α. let κ = α ∷ [] in move ! (1 ∷ []) $
    use1 𝓛 (later (some (λ (γ : ℕ). ‵ ((MutRef (named 0) κ ShelfRow).own_val (record { ref_ptr = (b', o'); ghost_name = γ; now = shelf.value }) (vptr b' o' ∷ [])) ⊛ ‵ (flent κ (Body (mem ShelfRow) b' o' γ)))))
    (lends_ref 𝓛 ShelfRow (named 0) κ shelf.value b' o') $ await ! tt $ pick ! (λ γ. split ! $
    -- [the loan; what gets it back; the token of κ; the right to the block; the session's box; the handle; the reference; its token]
    let loan : MutBor ShelfRow.Denot = record { ref_ptr = (b', o'); ghost_name = γ; now = shelf.value } in
    move ! (4 ∷ []) $ fpick ! (λ hc. rewrite ! 0 (λ x. ‵ (box_owns (ghosts.dealloc_token hc) Cell cell.at x)) empty refl $
    use1 𝓛 (‵ (box_owns (ghosts.dealloc_token hc) (CellRow κ) cell.at None)) (moves 𝓛 static_lft (life κ) hc cell.at) $
    use1 𝓛 (‵ ((BlockRow.the_row (CellRow κ)).own_val (block cell.at None) (word cell.at ∷ []))) (makes 𝓛 (CellRow κ) hc cell.at None) $
    let G = triple_of 𝓛 g.signature (g.spec 𝓛 𝓜.mem 𝓡.returns) in
    let z1 : G.Ghost = (((κ, tt), (full_share, tt), tt, (a, (block cell.at None, (loan, tt))), (w ∷ [], (word cell.at ∷ [], (mut_vals loan, tt)))), tt) in
    nothing ! $ move ! (2 ∷ 0 ∷ []) $ join ! $ move ! (1 ∷ 0 ∷ []) $ join ! $ move ! (4 ∷ 0 ∷ []) $ join ! $ nothing ! $ move ! (3 ∷ 0 ∷ []) $ join ! $ join ! $
    nothing ! $ move ! (1 ∷ 0 ∷ []) $ use2 𝓛 (raw (G.pre z1)) (id⊢ 𝓤 _) $
    calls_at ! (framed 𝓤 H 𝓜 𝓣) G (settle.met 𝓤 𝓛 𝓜 𝓡 (code.calls-saga_c::sessions::settle 𝓡.env wired)) z1 (and_then ! (get ! refl) (and_then ! (get ! refl) (and_then ! (get ! refl) (no_more !)))) (λ v.
    let t : Session = settled a shelf.value.items in
    use1 𝓛 (later (some (λ (k : Block (Option Session)). ((‵ (flft κ full_share) ⊛ ‵ ftrue) ⊛ ‵ ((BlockRow.the_row (CellRow κ)).own_val k (v ∷ []))) ⊛
    some (λ (xs : Lasts g.ended (κ, tt) z1.0.3). ‵ (lasts g.ended (κ, tt) z1.0.3 xs) ⊛ raw (fact 𝓤 (k.value ≡ Some t)))))) (id⊢ 𝓤 _) $
    await ! tt $ pick ! (λ k. split ! $ split ! $ move ! (2 ∷ []) $ pick ! (λ xs. split ! $ drop ! $ heard ! _ (λ settled. move ! (1 ∷ []) $
    tells 𝓛 (CellRow κ) k (v ∷ []) (λ k_is. lands_as ! (ap only k_is) refl (good_word k.at) $
    -- [the session's box; the token of κ; what gets the definitions back; the right to their block; the reference; its token]
    let shelf_at = block_ptr b' o' in
    fpick ! (λ hk. rewrite ! 0 (λ x. ‵ (box_owns (ghosts.dealloc_token hk) (CellRow κ) k.at x)) settled refl $
    move ! (2 ∷ []) $ fpack ! GName (λ x. flent κ (Body (mem ShelfRow) b' o' x)) γ $ move ! (0 ∷ 3 ∷ []) $ fjoin ! $ move ! (1 ∷ 0 ∷ []) $ fjoin ! $
    move ! (1 ∷ []) $ split ! $ move ! (0 ∷ 2 ∷ []) $ fjoin ! $
    fpack ! Handle (λ x. lease_parts κ x k.at shelf_at t) hk $ fpack ! ℕ (λ x. fex Handle (λ x'. lease_parts (x ∷ []) x' k.at shelf_at t)) α $
    move ! (2 ∷ []) $ fsplit3 ! $ move ! (1 ∷ 2 ∷ 5 ∷ []) $ opens ! tt R b o (λ us. move ! (1 ∷ []) $ peeks ! R _ (shows 𝓛 R) h us (λ is. drop ! $
    rewrite ! 0 (λ zs. ‵ (cell_at full_share R.mir zs b o)) (lowers.val_is h us is) refl $
    -- [the cell of the fields; the open borrow, in three entries; the reference's first part; the lease; nothing]
    sets ! (of_opd ! (get_in ! (fld ! refl (stop !)) (sub ! 0 refl (whole !)))) refl (good_ptr k.at) $
    sets ! (of_opd ! (get ! refl)) refl (good_ptr k.at) $ sets ! (of_opd ! (get ! refl)) refl (good_ptr k.at) $
    assigns ! (of_opd ! (get ! refl)) (through ! refl (fld ! refl (stop !))) (store_in ! 0 (sub ! 0 refl (whole !)) (good_ptr k.at)) $
    sets ! (of_opd ! (get ! refl)) refl (tt, tt) $ sets ! (of_opd ! (get ! refl)) refl (tt, tt) $
    assigns ! (of_opd ! (get ! refl)) (through ! refl (fld ! refl (stop !))) (store_in ! 0 (sub ! 1 refl (whole !)) (tt, tt)) $
    let words = vstruct (vcons (ptr_val k.at) (vcons (vptr b' o') vnil)) ∷ [] in let h' = record h { session = k.at; shelf = shelf_at; held = Some t } in
    nothing ! $ feq_i ! (List Val) (vptr b' o' ∷ []) (ptr_val shelf_at ∷ []) refl $ fjoin ! $ feq_i ! (List Val) (ptr_val k.at ∷ []) (ptr_val k.at ∷ []) refl $ fjoin ! $
    feq_i ! (List Val) words words refl $ fjoin ! $
    fpack ! (Valss (RawPtr ∷ RawPtr ∷ [])) (within (shape LeaseRow.the_type) (k.at, (shelf_at, tt)) words) (ptr_val k.at ∷ [], (vptr b' o' ∷ [], tt)) $
    move ! (0 ∷ 6 ∷ []) $ fjoin ! $ move ! (1 ∷ 0 ∷ []) $ closes ! tt R h' words b o $
    sets ! (of_opd ! (unit_lit !)) refl (tt, tt) $ returns ! (look_at ! 0 refl) $ free_all ! refl $ keep ! (3 ∷ 0 ∷ 1 ∷ 2 ∷ []) $
    suffices ! _ (ends_at 𝓛 f.ended stayed c y vunit tt (h', (tt, (tt, (tt, tt)))) (tt, (tt, (tt, (tt, tt))))) $ says ! refl $
    group ! 3 $ nothing ! $ nothing ! $ join ! $ nothing ! $ join ! $ nothing ! $ join ! $ move ! (1 ∷ 0 ∷ []) $ join ! $ nothing ! $ move ! (2 ∷ 0 ∷ []) $ join ! $ frame ! $ frame ! $ feq_i ! _ (vunit ∷ []) _ refl $ done !)))))))))))))))))))))
