-- Laws of smallest plans and of their rounds, for every case.
use Rattle.std.specs.Prelude.{◌≡◌, ℕ, length}
use Rattle.saga_def.specs.Order.{member}
use Rattle.saga_case.specs.declared.answers.Answer.{Answer}
use Rattle.saga_case.specs.declared.answers.Answer.TheVariants as answer
use Rattle.saga_case.specs.declared.answers.Plan.{Plan}
use Rattle.saga_case.specs.Terms.{Terms, IsLeast}
use Rattle.saga_plan.specs.Planned.{IsSmallest, HasFewRounds, HasRoundsWithinCost}

-- all smallest plans keep the same steps
abbrev pub KeepsOneSet : Terms → Type 0
KeepsOneSet t =
    (p q : Plan) → IsLeast t (member p.kept) → IsLeast t (member q.kept)
    → IsSmallest t (answer.Plan p) → IsSmallest t (answer.Plan q) → (s : ℕ) → member p.kept s ≡ member q.kept s

-- the answer is a plan that costs nothing, or a chain
abbrev pub CostsNothing : Answer → Type 0
CostsNothing (answer.Plan p) = p.cost ≡ 0
CostsNothing (answer.Blocked c) = Unit {0}

-- an answer that costs nothing takes no round; an answer for no steps takes no round
abbrev pub HasNoRoundsForNothing : Answer → Type 0
HasNoRoundsForNothing a = (rounds : ℕ) → CostsNothing a → HasRoundsWithinCost a rounds → rounds ≡ 0

abbrev pub HasNoRoundsForNoSteps : Terms → Answer → Type 0
HasNoRoundsForNoSteps t a =
    (rounds : ℕ) → t.count ≡ 0 → length t.needs ≡ 0 → HasFewRounds t a rounds → rounds ≡ 0
