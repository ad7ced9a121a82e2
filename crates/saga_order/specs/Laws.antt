-- Laws of ranks and of sets of steps, for every definition.
use Rattle.std.specs.Prelude.{ℕ, IsTrue, ◌≡◌, ◌<◌, ◌≤◌}
use Rattle.saga_def.specs.Order.{NeedsDirectly, Steps}
use Rattle.saga_order.specs.Shape.{Shape}
use Rattle.saga_order.specs.Rank.{IsRank}

-- each step has a rank
abbrev pub StepsAreRanked : Shape → Type 0
StepsAreRanked shape = (s : ℕ) → s < shape.count → (rank : ℕ) × IsRank shape.needs s rank

-- a step that needs another has the greater rank
abbrev pub RanksRise : Shape → Type 0
RanksRise shape =
    (a b low high : ℕ) → NeedsDirectly shape.needs b a → IsRank shape.needs a low → IsRank shape.needs b high → low < high

-- a member of the set with the minimum rank of its members, which needs no member
pub record HasFirst (shape : Shape) (set : Steps) : Type 0 where
  pub first : ℕ
  pub within : first < shape.count
  pub in_set : IsTrue (set first)
  pub lowest : (s low high : ℕ) → s < shape.count → IsTrue (set s) → IsRank shape.needs first low → IsRank shape.needs s high → low ≤ high
  pub needs_none : (a : ℕ) → NeedsDirectly shape.needs first a → IsTrue (set a) → ⊥

-- a member of the set with the maximum rank of its members, which no member needs
pub record HasLast (shape : Shape) (set : Steps) : Type 0 where
  pub last : ℕ
  pub within : last < shape.count
  pub in_set : IsTrue (set last)
  pub highest : (s low high : ℕ) → s < shape.count → IsTrue (set s) → IsRank shape.needs s low → IsRank shape.needs last high → low ≤ high
  pub needed_by_none : (b : ℕ) → NeedsDirectly shape.needs b last → IsTrue (set b) → ⊥

-- each nonempty set of steps has a first member; each has a last one
abbrev pub SetsHaveFirst : Shape → Type 0
SetsHaveFirst shape = (set : Steps) (s : ℕ) → s < shape.count → IsTrue (set s) → HasFirst shape set

abbrev pub SetsHaveLast : Shape → Type 0
SetsHaveLast shape = (set : Steps) (s : ℕ) → s < shape.count → IsTrue (set s) → HasLast shape set

-- all first members of a set have the same rank
abbrev pub FirstsShareRank : Shape → Type 0
FirstsShareRank shape =
    (set : Steps) (one other : HasFirst shape set) (i j : ℕ) → IsRank shape.needs one.first i → IsRank shape.needs other.first j → i ≡ j

-- all last members of a set have the same rank
abbrev pub LastsShareRank : Shape → Type 0
LastsShareRank shape =
    (set : Steps) (one other : HasLast shape set) (i j : ℕ) → IsRank shape.needs one.last i → IsRank shape.needs other.last j → i ≡ j
