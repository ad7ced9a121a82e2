use Rattle.saga_draw.proofs.drawings.push_answer.Goals as goal

pub returns-in-Plan : goal.returns-in-Plan
returns-in-Plan c = rw c.in-Plan.is c.push_cost.ensures
