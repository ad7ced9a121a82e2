-- The lifetime of a lease ends, and both blocks are given back.
use Rattle.std.proofs.Common.{◌++◌, List, [], ◌∷◌, refl, ap, sym, subst}
use Rattle.std.proofs.raw_atomic.Walks.{proved_at}
use Rattle.std.proofs.alloc.Global.TheLaws as GlobalLaws
use Rattle.std.specs.Prelude.{IsSome, None, Some}
use Rattle.std.specs.Box.Ownership.{box_owns}
use Rattle.std.specs.contracts.alloc.Global as GlobalRow
use Rattle.std.specs.contracts.impls.GlobalAllocator.TheImpl.{ghosts}
use Rattle.saga_c.specs.Leases.{CellRow, ShelfRow, lease_owns, shelf_lent}
use Rattle.saga_c.specs.contracts.blocks.Block as BlockRow
use Rattle.saga_c.specs.contracts.leases.Lease.{the_row as R}
use Rattle.saga_c.specs.contracts.leases.Lease.end as f
use Rattle.saga_c.specs.contracts.sessions.end_session as g
use Rattle.saga_c.specs.contracts.sessions.free_shelf as g'
use Rattle.saga_c.proofs.Cases.{some_of}
use Rattle.saga_c.proofs.Made.{block, good_ptr, good_word, makes, word}
use Rattle.saga_c.proofs.leases.Lease.TheLaws.{lowers}
use Rattle.saga_c.proofs.leases.Lease.end.Code as code
use Rattle.saga_c.proofs.leases.Lease.end.Statement.{statement}
use Rattle.saga_c.proofs.sessions.end_session.Met as end_session
use Rattle.saga_c.proofs.sessions.free_shelf.Met as free_shelf
use base.Fml.{flft, ftrue, fsep}
use base.Fraction.{full_share}
use base.Logic.{ent, fst∗, id⊢, never}
use contract.Monad.{fact}
use contract.Running.{tables}
use denote.Builtin.{unit}
use denote.Exit.{yes}
use denote.Laws.{Copy, shows}
use denote.Memory.{cell_at, lone}
use denote.Param.Steps.{one_value}
use denote.RawPtr.{in_a_block, null_ptr}
use denote.Ref.{MutRef, mut_Tells, mut_vals}
use denote.Signature.{plain}
use denote.Steps.{closes, heard, nothing, only, opens, peeks}
use denote.Struct.Laws.{copy}
use denote.Triple.Call.{calls_at}
use denote.Triple.Clauses.{Lasts, lasts}
use denote.Triple.Spec.{triple_of}
use denote.Triple.Table.{framed}
use denote.Triple.Walked.{Goes-dropped, Goes-ref, Stays, ends_at, says, stay_dropped, stay_ref, walk_of}
use mir.Raw.{raw as bare}
use mir.Syntax.{Ty, named, tcons, tnil, ty_struct, ty_unit}
use mir.Val.{Val, vunit}
use prog.Wp.{WpFn}
use types.ByLocal.{alloc_all, free_all, get, lands_as, look_at, pass_all, sets, through}
use types.Kit.{‵, raw, ◌⊛◌, ◌$◌, ◌∵◌, !, await, done, drop, feq_i, feq_l, fjoin, fpick, frame, fsplit, fsplit3, group, join, keep, later, move, pick, qed, rewrite, some, split, suffices, use1, use2}
use types.Logic.{sem}
use types.Part.{agg, look_in, sub, whole}
use types.Run.{and_then, enter, fld, load, no_more, of_opd, returns, stop, unit_lit}
use types.Tokens.{lent_back, lft_end}

abbrev δ : Ty
δ = ty_struct [] (tcons (ty_struct [] (tcons ty_unit tnil)) tnil)

abbrev stayed : Stays f.ended.signature.params f.ended.kept
stayed = (stay_ref (0 ∷ []) tt (plain (λ _. R)), (stay_dropped (plain (λ _. GlobalRow.the_row)) yes, tt))

pub end_spec : {M : Type 1} → statement M
end_spec 𝓤 𝓛 𝓜 𝓡 wired =
    let H = 𝓛.H in let 𝓣 = tables 𝓤 H 𝓜 𝓡 𝓡.env in let fn = code.function in
    let c = f.clauses 𝓛 𝓜.mem 𝓡.returns in let W = walk_of 𝓛 f.ended stayed c in
    let handles : Copy 𝓛 GlobalRow.the_row = copy GlobalRow.the_type GlobalLaws.the_copy 𝓛 in
    proved_at 𝓛 f.ended stayed c 𝓜 𝓡 (Goes-ref 𝓛 1 0 tt (plain (λ _. R)), (Goes-dropped 𝓛 1 (plain (λ _. GlobalRow.the_row)) yes (λ κs x f. refl), tt))
    f.Key.name fn (code.unfolded 𝓤 H 𝓜 𝓡 wired) (λ z are.
    let κ0 = z.0.0.0 in let q0 = z.0.1.0 in let r = z.0.3.0 in let a = z.0.3.1.0 in let h = r.now in let b = r.ref_ptr.0 in let o = r.ref_ptr.1 in
    let At : List Val → List Val → W.Ghost = λ us ws. ((z.0.0, z.0.1, z.0.2, z.0.3, (us, (ws, tt))), z.1) in
    let Goal = λ (us ws : List Val). ent 𝓤 (W.pre (At us ws)) (WpFn 𝓤 H 𝓣.C 𝓣.Λ fn (us ++ (ws ++ [])) (W.post (At us ws))) in
    subst (λ us. Goal us z.0.4.1.0) (sym (mut_Tells (named 0) κ0 R r z.0.4.0 are.0))
    (one_value δ (λ ws. Goal (mut_vals r) ws) z.0.4.1.0 ((GlobalLaws.the_row_laws.lawful 𝓛).typed a z.0.4.1.0 are.1.0) (λ w good.
    let y = At (mut_vals r) (w ∷ []) in let Own = (MutRef (named 0) κ0 R).own_val r (mut_vals r) in let Handles = GlobalRow.the_row.own_val a (w ∷ []) in
    qed 𝓛 (((‵ (flft κ0 q0) ⊛ ‵ ftrue) ⊛ ‵ Own ⊛ ‵ Handles ⊛ ‵ ftrue) ∷ raw (fact 𝓤 (IsSome h.held)) ∷ []) ∵
    move ! (1 ∷ []) $ heard ! _ (λ held. let s = some_of h.held held in
    split ! $ split ! $ move ! (2 ∷ []) $ split ! $ move ! (1 ∷ []) $ split ! $ keep ! (2 ∷ 3 ∷ 0 ∷ []) $
    enter ! 𝓣.C 𝓣.Λ fn (mut_vals r ++ (w ∷ [])) (W.post y) $ alloc_all ! (λ l. pass_all ! refl ((tt, tt), (good, tt)) $
    fsplit3 ! $ move ! (1 ∷ 2 ∷ 3 ∷ []) $ opens ! tt R b o (λ us.
    move ! (1 ∷ []) $ peeks ! R _ (shows 𝓛 R) h us (λ is. fsplit ! $ move ! (1 ∷ []) $
    rewrite ! 0 (λ x. ‵ (lease_owns h.session h.shelf x)) s.1 refl $ fpick ! (λ α. fpick ! (λ alloc. fsplit ! $ move ! (1 ∷ []) $ fsplit ! $
    let κ = α ∷ [] in let says_word = lowers.val_is h us is in
    -- [the session's box; what gets the definitions back, with the right to their block; the token of κ; what the fields own; their cell; the open borrow, in three entries; the reference's first part; the handle]
    rewrite ! 4 (λ zs. ‵ (cell_at full_share R.mir zs b o)) says_word refl $
    sets ! (of_opd ! (load ! (through ! refl (fld ! refl (stop !))) (look_in ! 4 (sub ! 0 refl (whole !))))) refl (good_ptr h.session) $
    sets ! (of_opd ! (get ! refl)) refl (good_ptr h.session) $
    sets ! (of_opd ! (load ! (through ! refl (fld ! refl (stop !))) (look_in ! 4 (sub ! 1 refl (whole !))))) refl (good_ptr h.shelf) $
    sets ! (of_opd ! (get ! refl)) refl (good_ptr h.shelf) $
    sets ! (agg ! (and_then ! (get ! refl) (no_more !))) refl (good_word h.session) $
    -- end_session(alloc, Block { at: session })
    use1 𝓛 (‵ ((BlockRow.the_row (CellRow κ)).own_val (block h.session (Some s.0)) (word h.session ∷ []))) (makes 𝓛 (CellRow κ) alloc h.session (Some s.0)) $ move ! (9 ∷ []) $
    use1 𝓛 (‵ Handles ⊛ ‵ Handles) (handles.twice a (w ∷ [])) $ split ! $ move ! (0 ∷ 2 ∷ []) $ nothing ! $ move ! (2 ∷ 0 ∷ []) $ join ! $ move ! (1 ∷ 0 ∷ []) $ join ! $
    nothing ! $ move ! (4 ∷ 0 ∷ []) $ join ! $ join ! $
    let G = triple_of 𝓛 g.signature (g.spec 𝓛 𝓜.mem 𝓡.returns) in
    let z1 : G.Ghost = (((κ, tt), (full_share, tt), tt, (a, (block h.session (Some s.0), tt)), (w ∷ [], (word h.session ∷ [], tt))), tt) in
    nothing ! $ move ! (1 ∷ 0 ∷ []) $ use2 𝓛 (raw (G.pre z1)) (id⊢ 𝓤 _) $
    calls_at ! (framed 𝓤 H 𝓜 𝓣) G (end_session.met 𝓤 𝓛 𝓜 𝓡 (code.calls-saga_c::sessions::end_session 𝓡.env wired)) z1 (and_then ! (get ! refl) (and_then ! (get ! refl) (no_more !))) (λ v.
    use1 𝓛 (later (some (λ (u : Unit {0}). ((‵ (flft κ full_share) ⊛ ‵ ftrue) ⊛ ‵ (unit.own_val u (v ∷ []))) ⊛
    some (λ (xs : Lasts g.ended (κ, tt) z1.0.3). ‵ (lasts g.ended (κ, tt) z1.0.3 xs) ⊛ ‵ ftrue)))) (id⊢ 𝓤 _) $
    await ! tt $ pick ! (λ u. split ! $ split ! $ move ! (2 ∷ []) $ pick ! (λ xs. split ! $ drop ! $ drop ! $ move ! (1 ∷ []) $ feq_l ! (λ is_unit. lands_as ! (ap only is_unit) refl (tt, tt) $
    -- the lifetime is over, and the definitions are back
    split ! $ lft_end ! tt $ move ! (3 ∷ []) $
    in_a_block ! h.shelf (λ p. fsep (shelf_lent κ p) (ghosts.dealloc_token alloc (bare (lone ShelfRow.mir)) p)) (fst∗ 𝓤 (never 𝓤) (sem 𝓛 (ghosts.dealloc_token alloc (bare (lone ShelfRow.mir)) null_ptr))) (λ b' o' e.
    fsplit ! $ fpick ! (λ γ. move ! (2 ∷ 0 ∷ []) $ lent_back ! tt $ fpick ! (λ d. fsplit ! $ move ! (0 ∷ 2 ∷ []) $ fjoin ! $
    rewrite ! 0 (λ p. ‵ (box_owns (ghosts.dealloc_token alloc) ShelfRow p d)) (sym e) refl $
    use1 𝓛 (‵ ((BlockRow.the_row ShelfRow).own_val (block h.shelf d) (word h.shelf ∷ []))) (makes 𝓛 ShelfRow alloc h.shelf d) $
    -- free_shelf(alloc, Block { at: shelf })
    sets ! (agg ! (and_then ! (get ! refl) (no_more !))) refl (good_word h.shelf) $
    let G' = triple_of 𝓛 g'.signature (g'.spec 𝓛 𝓜.mem 𝓡.returns) in
    let z2 : G'.Ghost = ((tt, tt, tt, (a, (block h.shelf d, tt)), (w ∷ [], (word h.shelf ∷ [], tt))), tt) in
    move ! (3 ∷ 0 ∷ []) $ nothing ! $ move ! (2 ∷ 0 ∷ []) $ join ! $ move ! (1 ∷ 0 ∷ []) $ join ! $ nothing ! $ join ! $
    nothing ! $ move ! (1 ∷ 0 ∷ []) $ use2 𝓛 (raw (G'.pre z2)) (id⊢ 𝓤 _) $
    calls_at ! (framed 𝓤 H 𝓜 𝓣) G' (free_shelf.met 𝓤 𝓛 𝓜 𝓡 (code.calls-saga_c::sessions::free_shelf 𝓡.env wired)) z2 (and_then ! (get ! refl) (and_then ! (get ! refl) (no_more !))) (λ v'.
    use1 𝓛 (later (some (λ (u' : Unit {0}). (‵ ftrue ⊛ ‵ (unit.own_val u' (v' ∷ []))) ⊛
    some (λ (xs : Lasts g'.ended tt z2.0.3). ‵ (lasts g'.ended tt z2.0.3 xs) ⊛ ‵ ftrue)))) (id⊢ 𝓤 _) $
    await ! tt $ pick ! (λ u'. split ! $ split ! $ drop ! $ feq_l ! (λ is_unit'. pick ! (λ xs'. split ! $ drop ! $ drop ! $ lands_as ! (ap only is_unit') refl (tt, tt) $
    -- [nothing that matters, twice; what the fields own; their cell; the open borrow, in three entries; the reference's first part]
    move ! (2 ∷ []) $ nothing ! $ move ! (1 ∷ 0 ∷ []) $ fjoin ! $ move ! (3 ∷ 0 ∷ 4 ∷ 5 ∷ 6 ∷ []) $
    rewrite ! 0 (λ zs. ‵ (cell_at full_share R.mir zs b o)) (sym says_word) refl $ closes ! tt R (record h { held = None }) us b o $
    sets ! (of_opd ! (unit_lit !)) refl (tt, tt) $ returns ! (look_at ! 0 refl) $ free_all ! refl $ keep ! (5 ∷ 0 ∷ 1 ∷ 2 ∷ []) $
    suffices ! _ (ends_at 𝓛 f.ended stayed c y vunit tt (record h { held = None }, (tt, tt)) (tt, (tt, tt))) $ says ! refl $
    group ! 3 $ nothing ! $ nothing ! $ join ! $ move ! (1 ∷ 0 ∷ []) $ join ! $ nothing ! $ move ! (2 ∷ 0 ∷ []) $ join ! $ frame ! $ frame ! $ feq_i ! _ (vunit ∷ []) _ refl $ done !))))))))))))))))))))
