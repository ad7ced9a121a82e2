use Rattle.std.proofs.Common.{rules, ℕ, ◌+◌, ◌<◌, ◌≤◌, ◌^◌, List, arith, length}
use Rattle.saga_def.specs.Contents.{Contents}
use Rattle.saga_history.specs.declared.events.Event.{Event}
use Rattle.saga_audit.specs.Groups.{everything, is_in}
use Rattle.saga_audit.specs.Joins.{is_below}
use Rattle.saga_audit.proofs.AnswerLemmas.{one_answer, yes_exactly}
use Rattle.saga_audit.proofs.GroupLemmas.{below_all, below_apart, below_more, finds_both, finds_fit, finds_same, none_below}
use Rattle.saga_audit.proofs.audits.audit_with.Goals as goal

pub loop-group-init : goal.loop-group-init
loop-group-init g c = (none_below c.args.shelf.now c.args.workers c.args.events.now, c.in_ok-all.ensures)

pub join-found-requires : goal.join-found-requires
join-found-requires g c =
    let shelf : List Contents = c.args.shelf.now in
    let events : List Event = c.args.events.now in
    let w : ℕ = c.args.workers in
    let k : ℕ = c.loop-group.group in
    let small : length events < 2 ^ 64 = search rules in
    finds_fit shelf (is_below w k) (is_in w k) (is_below w (k + 1)) events (below_apart w k) (below_more w k) c.loop-group.found c.in_ok-next.next c.loop-group.invariant.0 c.in_ok-next.ensures small

pub loop-group-preserved : goal.loop-group-preserved
loop-group-preserved g c =
    let shelf : List Contents = c.args.shelf.now in
    let events : List Event = c.args.events.now in
    let w : ℕ = c.args.workers in
    let k : ℕ = c.loop-group.group in (
      rw c.join-found.ensures (finds_both shelf (is_below w k) (is_in w k) (is_below w (k + 1)) events (below_apart w k) (below_more w k) c.loop-group.found c.in_ok-next.next c.loop-group.invariant.0 c.in_ok-next.ensures),
      c.loop-group.invariant.1,
    )

pub answer_of-requires : goal.answer_of-requires
answer_of-requires g c =
    let w : ℕ = c.args.workers in
    let k : ℕ = c.loop-group.group in
    let over : w ≤ k = omega (arith, c.loop-group-test.false) in
    finds_same c.args.shelf.now (is_below w k) everything c.args.events.now (λ i. below_all w k i c.requires.some over) c.loop-group.found c.loop-group.invariant.0

pub returns-clause-same : goal.returns-clause-same
returns-clause-same g c = λ b told. one_answer c.args.shelf.now c.args.events.now c.answer_of.result b c.answer_of.ensures told

pub returns-clause-exact : goal.returns-clause-exact
returns-clause-exact g c = yes_exactly c.args.shelf.now c.args.events.now c.answer_of.result c.answer_of.ensures
