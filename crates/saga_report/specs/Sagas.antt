-- The results of the changes of a saga, in addition to its turn, goal and states.
use Rattle.std.specs.Prelude.{ℕ, Bool, true, false, List, [], ◌∷◌, Option, Some, None, count_by}
use Rattle.std.specs.Global.{Global}
use Rattle.std.specs.declared.vec.Vec.{Vec}
use Rattle.saga_def.specs.Order.{member}
use Rattle.saga_case.specs.declared.answers.Answer.{Answer}
use Rattle.saga_case.specs.declared.answers.Answer.TheVariants as answer
use Rattle.saga_history.specs.Changes.{Change, adopts}
use Rattle.saga_report.specs.declared.sagas.Cost.{Cost}
use Rattle.saga_report.specs.declared.sagas.Cost.TheVariants as cost

abbrev pub cost_of_answer : Answer → Cost
cost_of_answer (answer.Plan plan) = cost.Of plan.cost
cost_of_answer (answer.Blocked chain) = cost.Blocked

-- the cost after one change
abbrev pub next_cost : Change → Cost → Cost
next_cost (adopts a) x = cost_of_answer a
next_cost _ x = x

-- the cost of the last adopted answer
abbrev pub cost_of : List Change → Cost
cost_of [] = cost.None
cost_of (c ∷ l) = next_cost c (cost_of l)

abbrev pub is_adoption : Change → Bool
is_adoption (adopts a) = true
is_adoption _ = false

-- the number of adopted answers
abbrev pub plans_of : List Change → ℕ
plans_of l = count_by is_adoption l

-- a step is in this goal; without a goal, each step is
abbrev pub is_in : Option (Vec Bool Global) → ℕ → Bool
is_in None s = true
is_in (Some marks) s = member marks.items s
