-- Flows in the network of a case: from a source to each step, from each step to a sink, and along each need.
use Rattle.std.specs.Prelude.{ℕ, Bool, List, [], ◌∷◌, slice_index, zero, suc, if◌then◌else◌, ◌==◌, ◌≡◌, ◌+◌, ◌<◌, ◌≤◌}
use Rattle.saga_def.specs.declared.steps.Price.{Price}
use Rattle.saga_def.specs.declared.steps.Price.TheVariants.{Of, Never}
use Rattle.saga_def.specs.declared.steps.Need.{Need}
use Rattle.saga_case.specs.Terms.{Terms}

-- the amounts from the source to each step, from each step to the sink, and along each need
pub record Flow : Type 0 where
  pub leave : List ℕ
  pub stand : List ℕ
  pub links : List ℕ

-- an amount is at most a cost; never is unbounded
abbrev pub FitsIn : ℕ → Price → Type 0
FitsIn amount (Of price) = amount ≤ price
FitsIn amount Never = Unit {0}

-- the arc from the source to a step carries at most the cost to drop it, and the arc to the sink at most the cost to
-- keep it
pub record IsWithin (t : Terms) (f : Flow) : Type 0 where
  pub leave : (s : ℕ) → s < t.count → FitsIn (slice_index f.leave s) (t.leave s)
  pub stand : (s : ℕ) → s < t.count → FitsIn (slice_index f.stand s) (t.stand s)

-- the sum of the amounts of the needs that pass a test
unfoldable pub carried : (Need → Bool) → List Need → List ℕ → ℕ
carried test [] links = 0
carried test (need ∷ needs) [] = 0
carried test (need ∷ needs) (amount ∷ links) = (if test need then amount else 0) + carried test needs links

-- the flow to a step from the steps that need it, and the flow from a step to the steps that it needs
abbrev pub into_step : Terms → Flow → ℕ → ℕ
into_step t f s = carried (λ (n : Need). n.on == s) t.needs f.links

abbrev pub out_of_step : Terms → Flow → ℕ → ℕ
out_of_step t f s = carried (λ (n : Need). n.step == s) t.needs f.links

-- at each step the inflow equals the outflow
pub record IsConserved (t : Terms) (f : Flow) : Type 0 where
  pub at_step : (s : ℕ) → s < t.count → slice_index f.leave s + into_step t f s ≡ slice_index f.stand s + out_of_step t f s

-- the sum of a function over the numbers below a limit
unfoldable pub sum_below : ℕ → (ℕ → ℕ) → ℕ
sum_below zero f = 0
sum_below (suc n) f = sum_below n f + f n

-- the value of a flow: the sum of the amounts from the source
abbrev pub value_of : Terms → Flow → ℕ
value_of t f = sum_below t.count (slice_index f.leave)
