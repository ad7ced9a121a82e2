use Rattle.saga_views.proofs.tasks.task_text.Goals as goal

pub returns : goal.returns
returns c = rw (← c.format-attempt.ensures.text, ← c.format-saga.ensures.text, ← c.format-step.ensures.text) c.concat.ensures.ok
