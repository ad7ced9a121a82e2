use Rattle.saga_history.specs.Changes.{past}
use Rattle.saga_history.proofs.LawLemmas.{adoptions_settle, goal_is_kept, undone_in_order}
use Rattle.saga_history.proofs.laws.headline_parts.Goals as goal

pub returns-clause-kept : goal.returns-clause-kept
returns-clause-kept c = goal_is_kept c.args.shelf.now (past c.args.history.now)

pub returns-clause-in_order : goal.returns-clause-in_order
returns-clause-in_order c = undone_in_order c.args.shelf.now (past c.args.history.now)

pub returns-clause-settled : goal.returns-clause-settled
returns-clause-settled c = adoptions_settle c.args.shelf.now c.args.history.now
