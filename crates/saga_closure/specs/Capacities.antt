-- Capacities as numbers over a definition's lists, and residual capacities.
use Rattle.std.specs.Prelude.{ℕ, List, length, slice_index, if◌then◌else◌, ◌==◌, ◌≡◌, ◌<◌, ◌+◌, ◌-◌, ◌^◌}
use Rattle.saga_def.specs.Contents.{Contents}
use Rattle.saga_def.specs.declared.steps.Price.{Price}
use Rattle.saga_def.specs.declared.steps.Price.TheVariants as price
use Rattle.saga_case.specs.Terms.{Terms}

-- a cost as a number: 2 ^ 63 stands for never
abbrev pub amount_of : Price → ℕ
amount_of (price.Of amount) = amount
amount_of price.Never = 2 ^ 63

-- the inverse
abbrev pub price_of : ℕ → Price
price_of amount = if amount == 2 ^ 63 then price.Never else price.Of amount

-- the steps and needs of a definition, with the costs to drop the steps and then the costs to keep them, as numbers
abbrev pub terms_by : Contents → List ℕ → Terms
terms_by d caps = record {
  count = length d.steps;
  needs = d.needs;
  leave = λ s. price_of (slice_index caps s);
  stand = λ s. price_of (slice_index caps (length d.steps + s));
}

-- the costs to drop the steps, then the costs to keep them, as numbers
pub record AreCapacities (t : Terms) (caps : List ℕ) : Type 0 where
  pub sized : length caps ≡ t.count + t.count
  pub leave : (s : ℕ) → s < t.count → slice_index caps s ≡ amount_of (t.leave s)
  pub stand : (s : ℕ) → s < t.count → slice_index caps (t.count + s) ≡ amount_of (t.stand s)
  pub leave_small : (s a : ℕ) → s < t.count → t.leave s ≡ price.Of a → a < 2 ^ 63
  pub stand_small : (s a : ℕ) → s < t.count → t.stand s ≡ price.Of a → a < 2 ^ 63

-- a capacity reduced to whether it is unbounded
abbrev pub endless : ℕ → ℕ
endless most = if most == 2 ^ 63 then 2 ^ 63 else 0

-- the residual capacity for a capacity and an amount; 2 ^ 63 means unbounded
abbrev pub room_of : ℕ → ℕ → ℕ
room_of most x = if most == 2 ^ 63 then 2 ^ 63 else most - x

-- the residual capacity of an arc from the source or to the sink
abbrev pub room_at : List ℕ → List ℕ → ℕ → ℕ
room_at caps on arc = room_of (slice_index caps arc) (slice_index on arc)
