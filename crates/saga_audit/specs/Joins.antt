-- The joint result for two groups.
use Rattle.std.specs.Prelude.{ℕ, ◌+◌, ◌<◌, ◌^◌, nat_lt, ◌%◌, Bool, if◌then◌else◌}
use Rattle.saga_audit.specs.declared.answers.Tally.{Tally}
use Rattle.saga_audit.specs.declared.answers.Finding.{Finding}
use Rattle.saga_audit.specs.declared.answers.Finding.TheVariants.{Legal, Refused}

-- the sums of two tallies, or the result with the lower index
abbrev pub joined : Finding → Finding → Finding
joined (Legal a) (Legal b) = Legal (record { sagas = a.sagas + b.sagas; ended = a.ended + b.ended; stuck = a.stuck + b.stuck })
joined (Legal a) (Refused q w) = Refused q w
joined (Refused p v) (Legal b) = Refused p v
joined (Refused p v) (Refused q w) = if nat_lt q p then Refused q w else Refused p v

-- the sums fit in a machine word
pub record IsSmall (tally other : Tally) : Type 0 where
  pub sagas : tally.sagas + other.sagas < 2 ^ 64
  pub ended : tally.ended + other.ended < 2 ^ 64
  pub stuck : tally.stuck + other.stuck < 2 ^ 64

abbrev pub Fit : Finding → Finding → Type 0
Fit (Legal a) (Legal b) = IsSmall a b
Fit (Legal a) (Refused q w) = Unit {0}
Fit (Refused p v) b = Unit {0}

-- the sagas of the first groups
abbrev pub is_below : ℕ → ℕ → ℕ → Bool
is_below workers groups i = nat_lt (i % workers) groups
