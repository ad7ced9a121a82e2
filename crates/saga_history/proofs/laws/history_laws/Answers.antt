use Rattle.saga_history.proofs.PartLemmas.{each_was_allowed, has_one_first, has_no_first}
use Rattle.saga_history.proofs.MergeLemmas.{from_saga_to_history}
use Rattle.saga_history.proofs.laws.history_laws.Goals as goal

pub returns-clause-places : goal.returns-clause-places
returns-clause-places c = each_was_allowed c.args.shelf.now c.args.history.now

pub returns-clause-sagas : goal.returns-clause-sagas
returns-clause-sagas c = from_saga_to_history c.args.shelf.now c.args.history.now

pub returns-clause-first : goal.returns-clause-first
returns-clause-first c = has_one_first c.args.shelf.now c.args.history.now

pub returns-clause-none : goal.returns-clause-none
returns-clause-none c = has_no_first c.args.shelf.now c.args.history.now
