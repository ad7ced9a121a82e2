-- What a script states about a job.
use Rattle.std.specs.Prelude.{◌≡◌, List, true}
use Rattle.saga_history.specs.declared.tasks.Outcome.{Outcome}
use Rattle.saga_desk.specs.Job.{Job}
use Rattle.saga_script.specs.declared.scripts.Script.{Script}
use Rattle.saga_script.specs.Endings.{outcome_of, asks_abort}
use Rattle.saga_script.specs.Statements.{Statement}
use Rattle.saga_script.specs.Questions.{Question, question, ending_of}
use Rattle.saga_script.specs.Table.{ending_in}

-- the question how the job's attempt of its action of its step ends
abbrev pub question_of : Job → Question
question_of job = question job.saga job.name job.is_undo job.attempt

-- a script may return for a job the outcome that it states, and requests an abort if and only if it states one
abbrev pub MayAnswer : Script → Job → Outcome → Type 0
MayAnswer script job outcome = outcome ≡ outcome_of (ending_in script (question_of job))

abbrev pub AsksAbort : Script → Job → Type 0
AsksAbort script job = asks_abort (ending_in script (question_of job)) ≡ true

-- the same, from the statements of a script's text
abbrev pub IsTold : List Statement → Job → Outcome → Type 0
IsTold statements job outcome = outcome ≡ outcome_of (ending_of (question_of job) statements)

abbrev pub IsAbortTold : List Statement → Job → Type 0
IsAbortTold statements job = asks_abort (ending_of (question_of job) statements) ≡ true
