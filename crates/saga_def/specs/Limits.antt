-- The limits of a definition.
use Rattle.std.specs.Prelude.{ℕ}

-- the maximum number of steps
abbrev pub max_steps : ℕ
max_steps = 1024

-- the maximum number of needs
abbrev pub max_needs : ℕ
max_needs = 8192

-- the maximum number of bytes of a name
abbrev pub max_name : ℕ
max_name = 32

-- the maximum of a cost that is a number
abbrev pub max_price : ℕ
max_price = 1000000000

-- the maximum number of tries of a step, and of its compensation
abbrev pub max_tries : ℕ
max_tries = 9
