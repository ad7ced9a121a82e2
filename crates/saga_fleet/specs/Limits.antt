-- The limit of a record.
use Rattle.std.specs.Prelude.{ℕ}

-- the maximum number of bytes of a record's text
abbrev pub max_record : ℕ
max_record = 67108864
