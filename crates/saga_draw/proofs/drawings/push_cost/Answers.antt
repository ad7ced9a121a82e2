use Rattle.saga_draw.proofs.drawings.push_cost.Goals as goal

pub returns : goal.returns
returns c = rw (← c.format-cost.ensures.text) c.push_all.ensures
