use Rattle.saga_history.proofs.BoundLemmas.{bounds_are_reached}
use Rattle.saga_history.proofs.laws.saga_laws.Goals as goal

pub returns-clause-reached : goal.returns-clause-reached
returns-clause-reached c = bounds_are_reached
