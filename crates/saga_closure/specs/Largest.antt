-- A maximum flow of a case, and the steps that the source reaches.
use Rattle.std.specs.Prelude.{ℕ, IsTrue, false, length, slice_index_or, ◌≡◌, ◌<◌, ◌≤◌, ◌+◌, ◌*◌, ◌↔◌}
use Rattle.saga_case.specs.Terms.{Terms}
use Rattle.saga_case.specs.Right.{IsRightChain}
use Rattle.saga_flow.specs.Flows.{IsFlow, HasValue, IsGreatest}
use Rattle.saga_flow.specs.Reached.{Reaches}
use Rattle.saga_flow.specs.Residual.{IsResidual}
use Rattle.saga_flow.specs.Rounds.{IsReachedIn}
use Rattle.saga_flow.specs.Progress.{IsProgress}
use Rattle.saga_flow.specs.declared.rounds.Progress.{Progress}
use Rattle.saga_closure.specs.declared.flows.ClosureFlow.{ClosureFlow}
use Rattle.saga_closure.specs.declared.solutions.Solution.{Solution}
use Rattle.saga_closure.specs.declared.solutions.Solution.TheVariants as solution
use Rattle.saga_closure.specs.CaseNet.{network_of}

-- a flow during the computation of a maximum flow
abbrev pub IsOnTheWay : Terms → Progress → Type 0
IsOnTheWay t p = IsProgress (network_of t).nodes (network_of t).arcs p.on.items p.value p.rounds

-- a maximum flow, in whose residual network the sink is not reached; the number of rounds to it, which is at most its
-- value and at most nodes times arcs; and for each step whether the source reaches it
pub record IsLargest (t : Terms) (f : ClosureFlow) : Type 0 where
  pub flow : IsFlow (network_of t).arcs f.on.items
  pub value : HasValue (network_of t).arcs f.on.items f.value
  pub greatest : IsGreatest (network_of t).arcs f.value
  pub cut : Reaches (IsResidual (network_of t).arcs f.on.items) 0 1 → ⊥
  pub rounds : IsReachedIn (network_of t).arcs f.on.items f.rounds
  pub by_value : f.rounds ≤ f.value
  pub by_size : f.rounds ≤ (t.count + 2) * length (network_of t).arcs
  pub sized : length f.reached.items ≡ t.count
  pub exact : (v : ℕ) → v < t.count → (IsTrue (slice_index_or f.reached.items v false) ↔ Reaches (IsResidual (network_of t).arcs f.on.items) 0 (2 + v))

-- a chain that shows that no set is allowed, or a maximum flow
abbrev pub IsSolution : Terms → Solution → Type 0
IsSolution t (solution.Blocked chain) = IsRightChain t chain.items
IsSolution t (solution.Flow flow) = IsLargest t flow
