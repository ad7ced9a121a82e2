-- Which steps of an order have residual capacity to the sink.
use Rattle.std.specs.Prelude.{ℕ, List, length, slice_index, ◌≡◌, ◌<◌, ◌≤◌, ◌+◌}
use Rattle.saga_closure.specs.declared.nets.Residual.{Residual}
use Rattle.saga_closure.specs.Capacities.{room_at}
use Rattle.saga_closure.specs.Nets.{terms_in}

-- the residual capacity from a step to the sink
abbrev pub room_out : Residual → ℕ → ℕ
room_out r v = room_at r.net.now.caps.now r.on.now ((terms_in r.net.now).count + v)

-- a step of the order, from this index on, with residual capacity to the sink
pub record IsOut (r : Residual) (order : List ℕ) (first v : ℕ) : Type 0 where
  pub inside : v < (terms_in r.net.now).count
  pub some : 0 < room_out r v
  pub listed : (j : ℕ) × (first ≤ j) × (j < length order) × (slice_index order j ≡ v)

-- no step between these indices has residual capacity to the sink
abbrev pub AreDry : Residual → List ℕ → ℕ → ℕ → Type 0
AreDry r order first end = (j : ℕ) → first ≤ j → j < end → room_out r (slice_index order j) ≡ 0
