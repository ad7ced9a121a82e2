-- The tokens of requests in canonical form.
use Rattle.std.specs.Prelude.{ℕ, List, ◌++◌, codes, decimal}
use Rattle.saga_history.specs.declared.tasks.Kind.{Kind}
use Rattle.saga_history.specs.declared.tasks.Kind.TheVariants.{Run, Undo}
use Rattle.saga_history.specs.declared.tasks.Outcome.{Outcome}
use Rattle.saga_history.specs.declared.tasks.Outcome.TheVariants.{Done, Void, Failed}

-- the start of a report up to its outcome, without the first character of the object
abbrev pub outcome_text : Outcome → List ℕ
outcome_text Done = codes "\"do\":\"report\",\"outcome\":\"ok\""
outcome_text Void = codes "\"do\":\"report\",\"outcome\":\"void\""
outcome_text Failed = codes "\"do\":\"report\",\"outcome\":\"fail\""

-- the end of a report with its task
abbrev pub kind_text : Kind → List ℕ
kind_text Run = codes ",\"task\":\"run\"}"
kind_text Undo = codes ",\"task\":\"undo\"}"

-- the outcome, the saga and the step of a report, before the rest of the line
abbrev pub told_text : Outcome → ℕ → ℕ → List ℕ → List ℕ
told_text outcome saga step rest =
    outcome_text outcome ++ (codes ",\"saga\":" ++ (decimal saga ++ (codes ",\"step\":" ++ (decimal step ++ rest))))
