-- The limit of a book.
use Rattle.std.specs.Prelude.{ℕ}

-- the maximum number of sagas
abbrev pub max_rows : ℕ
max_rows = 1000
