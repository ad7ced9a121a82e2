-- The limit of the cost of a step.
use Rattle.std.specs.Prelude.{ℕ, ◌*◌}
use Rattle.saga_def.specs.Limits.{max_price}

-- the maximum cost to keep or to drop a step, if it is a number
abbrev pub max_step_price : ℕ
max_step_price = 2 * max_price
