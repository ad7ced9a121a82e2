use Rattle.std.proofs.Common.{rules}
use Rattle.saga_c.proofs.CoordinatorLemmas.{closed, is_let_go, read, stays_open, unread}
use Rattle.saga_c.proofs.coordinators.sagas_open.Goals as goal

pub returns-in-Err-clause-opened : goal.returns-in-Err-clause-opened
returns-in-Err-clause-opened c =
    unread _ c.args.coordinator.now _ _ _ _ _ _ _ c.in-Err.fault c.output_of_fault.result (closed _ c.requires (search rules)) (search rules) (search rules) c.in-Err.ensures.why
    c.output_of_fault.ensures c.give.ensures

pub returns-then-told-eq-OK-clause-opened : goal.returns-then-told-eq-OK-clause-opened
returns-then-told-eq-OK-clause-opened c =
    read _ c.args.coordinator.now _ _ c.args.log _ _ _ c.prepare.new.lease.held c.ask-told.new.lease.held c.ask-told.result (closed _ c.requires (search rules)) (search rules)
    c.ask-told.ensures (stays_open _ _ c.ask-told.result (search rules) (search rules) (search rules))

pub returns-else-told-eq-OK-clause-opened : goal.returns-else-told-eq-OK-clause-opened
returns-else-told-eq-OK-clause-opened c =
    read _ c.args.coordinator.now _ _ c.args.log _ _ _ c.prepare.new.lease.held c.ask-told.new.lease.held c.ask-told.result (closed _ c.requires (search rules)) (search rules)
    c.ask-told.ensures (is_let_go _ _ c.ask-told.result (search rules) (search rules) (search rules))
