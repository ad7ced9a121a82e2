-- What a seat claims: jobs and plans.
use Rattle.std.specs.Prelude.{ℕ, Bool, true, false, List}
use Rattle.saga_history.specs.declared.tasks.Kind.{Kind}
use Rattle.saga_history.specs.declared.tasks.Kind.TheVariants.{Run, Undo}

-- the number of the seat, the saga, the step with its name, whether the job is its compensation, and the attempt
pub record Job : Type 0 where
  pub seat : ℕ
  pub saga : ℕ
  pub step : ℕ
  pub is_undo : Bool
  pub name : List ℕ
  pub attempt : ℕ

-- the job is an action, or a compensation
abbrev pub kind_of : Bool → Kind
kind_of false = Run
kind_of true = Undo

-- the number of the seat, and the saga
pub record PlanJob : Type 0 where
  pub seat : ℕ
  pub saga : ℕ
