-- Properties of the planner's answer, in addition to correctness.
use Rattle.std.specs.Prelude.{ℕ, length, IsTrue, ◌++◌, ◌≡◌, ◌≤◌, ◌+◌, ◌*◌}
use Rattle.saga_def.specs.Order.{Steps, member}
use Rattle.saga_case.specs.declared.answers.Answer.{Answer}
use Rattle.saga_case.specs.declared.answers.Answer.TheVariants.{Plan, Blocked}
use Rattle.saga_case.specs.Terms.{Terms, IsLeast}
use Rattle.saga_flow.specs.Rounds.{IsReachedIn}
use Rattle.saga_closure.specs.CaseNet.{network_of}

-- the first set of steps is contained in the second
abbrev pub IsWithinSet : Steps → Steps → Type 0
IsWithinSet few many = (s : ℕ) → IsTrue (few s) → IsTrue (many s)

-- the kept set of a plan is contained in every minimum-cost set
abbrev pub IsSmallest : Terms → Answer → Type 0
IsSmallest t (Plan plan) = (other : Steps) → IsLeast t other → IsWithinSet (member plan.kept) other
IsSmallest t (Blocked chain) = Unit {0}

-- a plan that keeps no step: pure backward recovery
abbrev pub KeepsNothing : Answer → Type 0
KeepsNothing (Plan plan) = (s : ℕ) → ¬ IsTrue (member plan.kept s)
KeepsNothing (Blocked chain) = ⊥

-- this number of rounds leads to the flow of a plan in the network of the case; a chain takes no round
abbrev pub IsMadeIn : Terms → Answer → ℕ → Type 0
IsMadeIn t (Plan plan) rounds = IsReachedIn (network_of t).arcs (plan.leave ++ (plan.stand ++ plan.links)) rounds
IsMadeIn t (Blocked chain) rounds = rounds ≡ 0

-- at most the number of nodes times the number of arcs
abbrev pub HasFewRounds : Terms → Answer → ℕ → Type 0
HasFewRounds t (Plan plan) rounds = rounds ≤ (t.count + 2) * (2 * t.count + length t.needs)
HasFewRounds t (Blocked chain) rounds = rounds ≡ 0

-- at most as many rounds as the cost of the plan
abbrev pub HasRoundsWithinCost : Answer → ℕ → Type 0
HasRoundsWithinCost (Plan plan) rounds = rounds ≤ plan.cost
HasRoundsWithinCost (Blocked chain) rounds = rounds ≡ 0
