-- The limit of a script.
use Rattle.std.specs.Prelude.{ℕ}

-- the maximum number of bytes
abbrev pub max_script : ℕ
max_script = 1048576
