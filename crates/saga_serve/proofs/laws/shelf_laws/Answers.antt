use Rattle.saga_serve.proofs.ShelfLemmas.{legal_longer, log_longer}
use Rattle.saga_serve.proofs.laws.shelf_laws.Goals as goal

pub returns-clause-legal : goal.returns-clause-legal
returns-clause-legal c = legal_longer

pub returns-clause-log : goal.returns-clause-log
returns-clause-log c = log_longer
