use Rattle.saga_history.proofs.DeciderLemmas.{last_decides_turn, last_decides_goal, last_opens, opens_by_openings}
use Rattle.saga_history.proofs.laws.change_laws.Goals as goal

pub returns-clause-turn : goal.returns-clause-turn
returns-clause-turn c = last_decides_turn

pub returns-clause-goal : goal.returns-clause-goal
returns-clause-goal c = last_decides_goal

pub returns-clause-opened : goal.returns-clause-opened
returns-clause-opened c = last_opens

pub returns-clause-openings : goal.returns-clause-openings
returns-clause-openings c = opens_by_openings c.args.history.now
