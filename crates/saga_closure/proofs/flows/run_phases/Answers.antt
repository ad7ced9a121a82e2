use Rattle.saga_closure.proofs.flows.run_phases.Goals as goal

pub run_phase-requires-clause-at : goal.run_phase-requires-clause-at
run_phase-requires-clause-at c = rw (c.in-Some.is, c.as_slice.ensures.value) at c.in_ok-found.ensures.goal

pub flow_of-requires-clause-reach : goal.flow_of-requires-clause-reach
flow_of-requires-clause-reach c = rw (c.in-None.is, c.as_slice.ensures.value) at c.in_ok-found.ensures.none
