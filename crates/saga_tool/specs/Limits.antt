-- The limits of arguments and of standard input.
use Rattle.std.specs.Prelude.{ℕ}

-- the maximum number of workers, and of shards, of a run
abbrev pub max_number : ℕ
max_number = 16

-- the maximum number of bytes of standard input
abbrev pub max_input : ℕ
max_input = 1048576
