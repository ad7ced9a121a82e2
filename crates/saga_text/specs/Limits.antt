-- The limit of a definition file.
use Rattle.std.specs.Prelude.{ℕ}

-- the maximum number of bytes
abbrev pub max_definition : ℕ
max_definition = 1048576
