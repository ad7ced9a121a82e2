use Rattle.std.proofs.Common.{rules, ◌≡◌, ℕ, ◌<◌, ◌^◌, [], ◌∷◌, length, arith, Option, Some, None, Bool, List, refl, ◌==◌}
use Rattle.std.specs.Prelude.{if◌then◌else◌}
use Rattle.std.specs.BTreeMap.{get}
use Rattle.std.specs.Ordering.{nat_cmp}
use Rattle.saga_history.specs.declared.events.Event.{Event}
use Rattle.saga_audit.specs.declared.chains.Link.{Link}
use Rattle.saga_audit.specs.Groups.{is_in, is_saga}
use Rattle.saga_audit.specs.Sagas.{is_done}
use Rattle.saga_audit.proofs.GroupLemmas.{all_done, all_wait, done_more, finds_both, finds_fit, finds_same, not_done, nothing_found, others_wait}
use Rattle.saga_audit.proofs.audits.find.Goals as goal

pub loop-saga-init : goal.loop-saga-init
loop-saga-init c =
    let mine : ℕ → Bool = is_in c.args.workers c.args.group in
    let heads : ℕ → Option ℕ = get nat_cmp c.in_ok-links.field-0.heads in
    let links : List Link = c.in_ok-links.field-0.links.items in (
      c.in_ok-rows.ensures,
      all_wait c.args.shelf.now mine c.args.events.now links heads c.in_ok-links.ensures,
      nothing_found c.args.shelf.now mine c.args.events.now links heads c.in_ok-links.ensures,
    )

pub join-found-requires : goal.join-found-requires
join-found-requires c =
    let mine : ℕ → Bool = is_in c.args.workers c.args.group in
    let events : List Event = c.args.events.now in
    let links : List Link = c.in_ok-links.field-0.links.items in
    let old : ℕ → Option ℕ = get nat_cmp c.loop-saga.heads in
    let new : ℕ → Option ℕ = get nat_cmp c.pop_first.new.self in
    let saga : ℕ = c.in-Some.saga in
    let had : old saga ≡ Some c.in-Some.head = search rules in
    let taken : (i : ℕ) → new i ≡ (if saga == i then None else old i) = search rules in
    let small : length events < 2 ^ 64 = search rules in
    finds_fit c.args.shelf.now (is_done mine old) (is_saga saga) (is_done mine new) events
    (not_done mine events links old new saga c.in-Some.head c.loop-saga.invariant.1 had taken) (done_more mine events links old new saga c.in-Some.head c.loop-saga.invariant.1 had taken)
    c.loop-saga.found c.in_ok-next.next c.loop-saga.invariant.2 c.in_ok-next.ensures small

pub loop-saga-preserved : goal.loop-saga-preserved
loop-saga-preserved c =
    let mine : ℕ → Bool = is_in c.args.workers c.args.group in
    let events : List Event = c.args.events.now in
    let links : List Link = c.in_ok-links.field-0.links.items in
    let old : ℕ → Option ℕ = get nat_cmp c.loop-saga.heads in
    let new : ℕ → Option ℕ = get nat_cmp c.pop_first.new.self in
    let saga : ℕ = c.in-Some.saga in
    let had : old saga ≡ Some c.in-Some.head = search rules in
    let taken : (i : ℕ) → new i ≡ (if saga == i then None else old i) = search rules in (
      c.loop-saga.invariant.0,
      others_wait mine events links old new saga c.in-Some.head c.loop-saga.invariant.1 had taken,
      rw c.join-found.ensures (finds_both c.args.shelf.now (is_done mine old) (is_saga saga) (is_done mine new) events
          (not_done mine events links old new saga c.in-Some.head c.loop-saga.invariant.1 had taken) (done_more mine events links old new saga c.in-Some.head c.loop-saga.invariant.1 had taken)
          c.loop-saga.found c.in_ok-next.next c.loop-saga.invariant.2 c.in_ok-next.ensures),
    )

no_items : {A : Type 0} (xs : List A) → length xs ≡ 0 → xs ≡ []
no_items [] is = refl
no_items (x ∷ xs) is = absurd (omega (arith, is))

pub returns : goal.returns
returns c =
    let mine : ℕ → Bool = is_in c.args.workers c.args.group in
    let heads : ℕ → Option ℕ = get nat_cmp c.loop-saga.heads in
    let none_left : length c.loop-saga.heads.entries ≡ 0 = search rules in
    let empty : c.loop-saga.heads.entries ≡ [] = no_items c.loop-saga.heads.entries none_left in
    let none : (i : ℕ) → heads i ≡ None = λ i. rw empty refl in
    finds_same c.args.shelf.now (is_done mine heads) mine c.args.events.now (all_done mine heads none) c.loop-saga.found c.loop-saga.invariant.2
