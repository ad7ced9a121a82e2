-- A seat, as contracts see it.
use Rattle.std.specs.Prelude.{ℕ, List}
use Rattle.saga_desk.specs.declared.receipts.Receipt.{Receipt}

-- its number, its receipts in order, and the number of its outstanding claims
pub record Seat : Type 0 where
  pub number : ℕ
  pub receipts : List Receipt
  pub claims : ℕ
