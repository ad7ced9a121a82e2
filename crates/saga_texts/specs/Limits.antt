-- The limits, which are numbers of bytes unless the comment says otherwise.
use Rattle.std.specs.Prelude.{ℕ}

-- of a case, and of an answer
abbrev pub max_certificate : ℕ
max_certificate = 67108864

abbrev pub max_log : ℕ
max_log = 671088640

-- the maximum number of definitions of a run, and of a `drive` that writes its log
abbrev pub max_shelf : ℕ
max_shelf = 64

-- the maximum number of definitions of an audit, and of a `drive` that prints its log lines
abbrev pub max_long_shelf : ℕ
max_long_shelf = 1000
