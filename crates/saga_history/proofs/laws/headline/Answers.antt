use Rattle.saga_history.proofs.HeadlineLemmas.{headline_holds}
use Rattle.saga_history.proofs.laws.headline.Goals as goal
use Rattle.saga_history.specs.Changes.{past}

pub returns : goal.returns
returns c = headline_holds c.args.shelf.now (past c.args.history.now) c.are_sound.ensures
