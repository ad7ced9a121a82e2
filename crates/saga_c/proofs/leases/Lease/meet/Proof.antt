-- A session is lent for one call, for a lifetime that is made for it.
use Rattle.saga_c.proofs.Made.{says_two}
use Rattle.std.proofs.Common.{[], ap, refl, sym, ℕ, ◌∙◌, ◌∷◌, ◌≡◌}
use Rattle.std.proofs.raw_atomic.Walks.{proved}
use base.Fml.{fdead, fex, flent, flft, ftrue}
use base.Fraction.{full_share}
use base.Logic.{fst∗, id⊢, never}
use contract.Monad.{fact}
use contract.Running.{tables}
use denote.Builtin.{unit}
use denote.Laws.{shows}
use denote.Lend.{lends_ref, ref_back}
use denote.Memory.{cell_at, mem, part_at}
use denote.RawPtr.{in_a_block}
use denote.Ref.{MutRef, mut_Tells, mut_vals}
use denote.Signature.{named_lft, plain}
use denote.Steps.{closes, heard, nothing, only, opens, peeks}
use denote.Triple.Call.{calls_at}
use denote.Triple.Clauses.{lasts}
use denote.Triple.Spec.{triple_of}
use denote.Triple.Table.{framed}
use denote.Triple.Walked.{Goes-gave_ref, Goes-ref, Stays, ends_at, gave_ref, says, stay_ref, walk_of}
use mir.Syntax.{named}
use mir.Val.{vptr, vunit}
use types.ByLocal.{alloc_all, env, free_all, get, lands_as, look_at, pass_all, sets, sets_last, through}
use types.Kit.{ !, at_ret, await, done, feq_i, feq_l, fjoin, fpack, fpick, frame, fsplit, fsplit3, group, join, keep, later, move, pick, qed, raw, rewrite, some, split, suffices, use1, use2, use3, ‵, ◌$◌, ◌∵◌, ◌⊛◌}
use types.Logic.{sem}
use types.Part.{look_in, sub, whole}
use types.Run.{addr, and_then, blocks, enter, exec, first, fld, load, no_more, of_opd, returns, stop, unit_lit}
use types.Tokens.{lft_end, lft_new}
use types.SemTy.{Body}
use base.Share.{halves, left, right}
use base.Meet.{meet_within}
use contract.BorrowLft.{⊑_static}
use denote.Memory.{lone}
use denote.RawPtr.{null_ptr}
use mir.Raw.{raw as bare}
use Rattle.saga_c.specs.contracts.sessions.meet as g
use Rattle.saga_c.proofs.sessions.meet.Met.{met}
use Rattle.std.proofs.Common.{MutBor}
use Rattle.std.specs.Prelude.{Some, Option}
use Rattle.saga_c.specs.declared.sessions.Session.{Session}
use Rattle.saga_c.specs.declared.sessions.Call.{Call}
use Rattle.saga_c.specs.Meetings.{IsMet}
use contract.BorrowLft.{meet_⊑_right}
use Rattle.std.specs.declared.alloc.Global.{Global as Handle}
use Rattle.saga_c.specs.Leases.{lease_parts}
use Rattle.std.proofs.Common.{subst}
use Rattle.std.specs.Box.Ownership.{box_owns}
use Rattle.std.specs.contracts.impls.GlobalAllocator.TheImpl.{ghosts}
use Rattle.saga_c.proofs.Cases.{some_of}
use Rattle.saga_c.specs.Leases.{lease_owns, CellRow}
use Rattle.std.specs.Prelude.{IsSome}
use Rattle.saga_c.specs.contracts.leases.Lease.meet as f
use Rattle.saga_c.proofs.leases.Lease.meet.Statement.{statement}
use Rattle.saga_c.proofs.leases.Lease.meet.Code as code
use Rattle.saga_c.specs.contracts.leases.Lease.{the_row as R}
use Rattle.saga_c.specs.contracts.sessions.Call as C
use Rattle.saga_c.proofs.leases.Lease.TheLaws.{lowers}

abbrev stayed : Stays f.ended.signature.params f.ended.kept
stayed = (stay_ref (0 ∷ []) tt (plain (λ _. R)), (gave_ref (1 ∷ []) tt (plain (λ κs. C.the_row (named_lft 4 2 tt κs) (named_lft 4 3 tt κs))), tt))

pub meet_spec : {M : Type 1} → statement M
meet_spec 𝓤 𝓛 𝓜 𝓡 wired =
    let c = f.clauses 𝓛 𝓜.mem 𝓡.returns in let W = walk_of 𝓛 f.ended stayed c in let 𝓣 = tables 𝓤 𝓛.H 𝓜 𝓡 𝓡.env in
    proved 𝓛 f.ended stayed c 𝓜 𝓡 (Goes-ref 𝓛 4 0 tt (plain (λ _. R)), (Goes-gave_ref 𝓛 4 1 tt (plain (λ κs. C.the_row (named_lft 4 2 tt κs) (named_lft 4 3 tt κs))), tt))
    f.Key.name code.function (code.unfolded 𝓤 𝓛.H 𝓜 𝓡 wired)
    (λ κs. (mut_vals, (mut_vals, tt))) (λ κs. (mut_Tells (named 0) κs.0 R, (mut_Tells (named 1) κs.1.0 (C.the_row (named_lft 4 2 tt κs) (named_lft 4 3 tt κs)), tt))) (λ κs qs bounds a _ are.
    let b = a.0.ref_ptr.0 in let o = a.0.ref_ptr.1 in let h = a.0.now in let vs = mut_vals a.0 in let ws = mut_vals a.1.0 in
    let y : W.Ghost = ((κs, qs, bounds, a, (vs, (ws, tt))), tt) in
    let κ0 = κs.0 in let q0 = qs.0 in
    let Tokens = ‵ (flft κs.1.0 qs.1.0) ⊛ ‵ (flft κs.1.1.0 qs.1.1.0) ⊛ ‵ (flft κs.1.1.1.0 qs.1.1.1.0) ⊛ ‵ ftrue in
    let Own0 = ‵ ((MutRef (named 0) κ0 R).own_val a.0 vs) in
    let Own1 = ‵ ((MutRef (named 1) κs.1.0 (C.the_row (named_lft 4 2 tt κs) (named_lft 4 3 tt κs))).own_val a.1.0 ws) in
    qed 𝓛 (((‵ (flft κ0 q0) ⊛ Tokens) ⊛ Own0 ⊛ Own1 ⊛ ‵ ftrue) ∷ raw (fact 𝓤 (IsSome h.held)) ∷ []) ∵
    move ! (1 ∷ []) $ heard ! _ (λ held. let s = some_of h.held held in
    split ! $ split ! $ move ! (2 ∷ []) $ split ! $ move ! (1 ∷ []) $ split ! $ keep ! (2 ∷ 3 ∷ 4 ∷ 0 ∷ []) $
    enter ! _ _ _ _ _ $ alloc_all ! (λ l. pass_all ! refl ((tt, tt), ((tt, tt), tt)) $
    fsplit3 ! $ move ! (1 ∷ 2 ∷ 3 ∷ []) $ opens ! tt R b o (λ us.
    move ! (1 ∷ []) $ peeks ! R _ (shows 𝓛 R) h us (λ is. fsplit ! $ move ! (1 ∷ []) $
    rewrite ! 0 (λ x. ‵ (lease_owns h.session h.shelf x)) s.1 refl $ fpick ! (λ α. fpick ! (λ alloc. fsplit ! $ move ! (1 ∷ []) $ fsplit ! $
    let κ = α ∷ [] in
    in_a_block ! h.session (λ p. box_owns (ghosts.dealloc_token alloc) (CellRow κ) p (Some s.0)) (fst∗ 𝓤 (never 𝓤) (sem 𝓛 (ghosts.dealloc_token alloc (bare (lone (CellRow κ).mir)) null_ptr))) (λ b' o' e. fsplit ! $
    let word = lowers.val_is h us is ∙ ap (λ p. lowers.lowered (record h { session = p }) ∷ []) e in
    rewrite ! 5 (λ zs. ‵ (cell_at full_share R.mir zs b o)) word refl $
    -- [the session; the right to its block; the rest of the lease; the token of κ; what the fields own; their cell; the open borrow, in three entries]
    sets ! (of_opd ! (load ! (through ! refl (fld ! refl (stop !))) (look_in ! 5 (sub ! 0 refl (whole !))))) refl (tt, tt) $
    sets ! (of_opd ! (get ! refl)) refl (tt, tt) $
    first ! $ blocks ! $ sets_last ! (addr ! (through ! refl (stop !))) refl (tt, tt) $
    exec ! 𝓣.C 𝓣.Λ (env code.Mir.locals l) code.Mir.t-4 (at_ret _ (W.post y)) $
    sets ! (of_opd ! (get ! refl)) refl (tt, tt) $ sets ! (addr ! (through ! refl (stop !))) refl (tt, tt) $
    lft_new ! tt (λ β. let κ' = α ∷ β ∷ [] in let half = left full_share in let other = right full_share in
    use1 𝓛 (‵ (flft (β ∷ []) half) ⊛ ‵ (flft (β ∷ []) other)) (𝓛.lfts.lft_cut (β ∷ []) full_share half other (halves full_share)) $ split ! $ move ! (5 ∷ []) $
    use1 𝓛 (‵ (flft κ half) ⊛ ‵ (flft κ other)) (𝓛.lfts.lft_cut κ full_share half other (halves full_share)) $ split ! $ move ! (0 ∷ 2 ∷ []) $
    use2 𝓛 (‵ (flft κ' half)) (𝓛.lfts.lft_meet κ (β ∷ []) half) $ move ! (3 ∷ []) $
    use1 𝓛 (later (some (λ (γ : ℕ). ‵ ((MutRef (named 0) κ' (CellRow κ)).own_val (record { ref_ptr = (b', o'); ghost_name = γ; now = Some s.0 }) (vptr b' o' ∷ [])) ⊛ ‵ (flent κ' (Body (mem (CellRow κ)) b' o' γ)))))
    (lends_ref 𝓛 (CellRow κ) (named 0) κ' (Some s.0) b' o') $ await ! tt $ pick ! (λ γ. split ! $
    -- [the loan; what gets it back; half a token of κ'; the other half of κ's, and of β's; the right to the block; the rest of the lease; ..]
    let loan : MutBor (Option Session) = record { ref_ptr = (b', o'); ghost_name = γ; now = Some s.0 } in
    let G = triple_of 𝓛 g.signature (g.spec 𝓛 𝓜.mem 𝓡.returns) in
    let z : G.Ghost = (((κ', (κ, (κs.1.0, (κs.1.1.0, (κs.1.1.1.0, tt))))), (half, (other, (qs.1.0, (qs.1.1.0, (qs.1.1.1.0, tt))))), (meet_within κ [] (β ∷ []) (⊑_static (β ∷ [])), bounds), (loan, (a.1.0, tt)), (mut_vals loan, (ws, tt))), tt) in
    let Entered = (‵ (flft κ' half) ⊛ ‵ (flft κ other) ⊛ Tokens) ⊛ ‵ ((MutRef (named 0) κ' (CellRow κ)).own_val loan (mut_vals loan)) ⊛ Own1 ⊛ ‵ ftrue in
    move ! (3 ∷ 13 ∷ []) $ join ! $ move ! (3 ∷ 0 ∷ []) $ join ! $
    nothing ! $ move ! (13 ∷ 0 ∷ []) $ join ! $ move ! (2 ∷ 0 ∷ []) $ join ! $ move ! (1 ∷ 0 ∷ []) $ join ! $
    use1 𝓛 (raw (G.pre z)) (qed 𝓛 (Entered ∷ []) ∵ says ! refl $ done !) $
    calls_at ! (framed 𝓤 𝓛.H 𝓜 (tables 𝓤 𝓛.H 𝓜 𝓡 𝓡.env)) G (met 𝓤 𝓛 𝓜 𝓡 (code.calls-saga_c::sessions::meet 𝓡.env wired)) z
    (and_then ! (get ! refl) (and_then ! (get ! refl) (no_more !))) (λ v.
    use1 𝓛 (later (some (λ (u : Unit {0}). ((‵ (flft κ' half) ⊛ ‵ (flft κ other) ⊛ Tokens) ⊛ ‵ (unit.own_val u (v ∷ []))) ⊛
    some (λ (xs : Option Session × (Call × Unit {0})). ‵ (lasts g.ended z.0.0 z.0.3 xs) ⊛ raw (fact 𝓤 (xs.1.0.buffer.ghost_name ≡ a.1.0.now.buffer.ghost_name))
    ⊛ raw (fact 𝓤 (IsMet (Some s.0) xs.0 a.1.0.now.ask a.1.0.now.buffer.now xs.1.0.buffer.now xs.1.0.told)))))) (id⊢ 𝓤 _) $
    await ! tt $ pick ! (λ u. split ! $ split ! $ move ! (2 ∷ []) $ pick ! (λ xs. split ! $ move ! (1 ∷ []) $ split ! $ heard ! _ (λ is_same. heard ! _ (λ is_met.
    -- [what is left of the two references; the tokens; the result; ..]
    let t = some_of xs.0 is_met.some in
    fsplit ! $ move ! (1 ∷ []) $ fsplit ! $ move ! (2 ∷ []) $ fsplit ! $
    -- [the loan's last value; its borrow; what is left of the call; nothing; the tokens; the result; what gets the loan back; the other half of β's; ..]
    move ! (4 ∷ []) $ split ! $ move ! (1 ∷ []) $ split ! $ move ! (2 ∷ []) $
    use1 𝓛 (‵ (flft κ half) ⊛ ‵ (flft (β ∷ []) half)) (𝓛.lfts.lft_unmeet κ (β ∷ []) half) $ split ! $ move ! (0 ∷ 2 ∷ []) $
    use2 𝓛 (‵ (flft κ full_share)) (𝓛.lfts.lft_glue κ full_share half other (halves full_share)) $ move ! (1 ∷ 9 ∷ []) $
    use2 𝓛 (‵ (flft (β ∷ []) full_share)) (𝓛.lfts.lft_glue (β ∷ []) full_share half other (halves full_share)) $ lft_end ! tt $
    use1 𝓛 (‵ (fdead κ')) (𝓛.lfts.dead-incl κ' (β ∷ []) (meet_⊑_right κ (β ∷ []))) $ move ! (0 ∷ 8 ∷ 3 ∷ []) $
    use3 𝓛 (later (‵ (part_at (CellRow κ) full_share xs.0 b' o'))) (ref_back 𝓛 (CellRow κ) κ' γ xs.0 b' o') $ await ! tt $
    rewrite ! 0 (λ x. ‵ (part_at (CellRow κ) full_share x b' o')) t.1 refl $ move ! (0 ∷ 7 ∷ []) $ fjoin ! $
    rewrite ! 0 (λ p. ‵ (box_owns (ghosts.dealloc_token alloc) (CellRow κ) p (Some t.0))) (sym e) refl $ move ! (0 ∷ 7 ∷ []) $ fjoin ! $ move ! (1 ∷ 0 ∷ []) $ fjoin ! $
    fpack ! Handle (λ x. lease_parts κ x h.session h.shelf t.0) alloc $ fpack ! ℕ (λ x. fex Handle (λ x'. lease_parts (x ∷ []) x' h.session h.shelf t.0)) α $
    rewrite ! 0 (λ x. ‵ (lease_owns h.session h.shelf x)) (sym t.1) refl $
    move ! (6 ∷ 0 ∷ []) $ fjoin ! $ rewrite ! 6 (λ zs. ‵ (cell_at full_share R.mir zs b o)) (sym word) refl $
    move ! (6 ∷ 0 ∷ 7 ∷ 8 ∷ 9 ∷ []) $ closes ! tt R (record h { held = xs.0 }) us b o $
    move ! (7 ∷ []) $ feq_l ! (λ is_unit. lands_as ! (ap only is_unit) refl (tt, tt) $
    sets ! (of_opd ! (unit_lit !)) refl (tt, tt) $ returns ! (look_at ! 0 refl) $ free_all ! refl $ keep ! (7 ∷ 0 ∷ 1 ∷ 2 ∷ 3 ∷ 5 ∷ []) $
    suffices ! _ (ends_at 𝓛 f.ended stayed c y vunit tt (record h { held = xs.0 }, (xs.1.0, tt)) (tt, (tt, tt))) $
    says_two ! is_same (subst (λ x. IsMet x xs.0 a.1.0.now.ask a.1.0.now.buffer.now xs.1.0.buffer.now xs.1.0.told) (sym s.1) is_met) $
    group ! 3 $ nothing ! $ move ! (4 ∷ 0 ∷ []) $ join ! $ move ! (1 ∷ 0 ∷ []) $ join ! $ move ! (1 ∷ 2 ∷ []) $ join ! $ frame ! $ frame ! $ feq_i ! _ (vunit ∷ []) _ refl $ done !))))))))))))))))
