-- A desk, as contracts see it.
use Rattle.std.specs.Prelude.{ℕ, List}
use Rattle.saga_def.specs.Contents.{Contents}

-- the definitions on its shelf, and the numbers of seats and shards
pub record Desk : Type 0 where
  pub shelf : List Contents
  pub seats : ℕ
  pub shards : ℕ
