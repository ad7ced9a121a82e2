-- The limits of lists.
use Rattle.std.specs.Prelude.{ℕ}

-- the maximum number of sagas in a list
abbrev pub most_sagas : ℕ
most_sagas = 100

-- the number of tasks from which on a list does not continue with another saga
abbrev pub enough_tasks : ℕ
enough_tasks = 100
