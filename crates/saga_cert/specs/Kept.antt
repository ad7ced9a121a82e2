-- The list `kept` of a plan: the numbers of the steps that it keeps. It denotes a truth value for each step.
use Rattle.std.specs.Prelude.{ℕ, ◌+◌, List, [], ◌∷◌, Bool, true, false, ◌&&◌, ◌==◌, nat_lt, map, Result, Ok, Err, if◌then◌else◌}
use Rattle.std.specs.List.{list_all, list_any, range_with_len}
use Rattle.saga_json.specs.declared.faults.JsonFault.{JsonFault}
use Rattle.saga_json.specs.declared.faults.JsonFault.TheVariants.{Kept}

-- the same test as `IsStrictlyIncreasing`: each number is below the next
abbrev pub is_increasing : List ℕ → Bool
is_increasing [] = true
is_increasing (a ∷ []) = true
is_increasing (a ∷ b ∷ rest) = nat_lt a b && is_increasing (b ∷ rest)

-- strictly increasing numbers, each below the count
abbrev pub is_kept : ℕ → List ℕ → Bool
is_kept count kept = is_increasing kept && list_all (λ n. nat_lt n count) kept

-- a truth value for each number below the count: true if the number is in the list
abbrev pub marks_of : ℕ → List ℕ → List Bool
marks_of count kept = map (λ step. list_any (λ n. n == step) kept) (range_with_len 0 count)

abbrev pub kept_of : ℕ → List ℕ → Result (List Bool) JsonFault
kept_of count kept = if is_kept count kept then Ok (marks_of count kept) else Err Kept

-- the numbers at which the truth value is true, if the first one has the number `first`
abbrev pub numbers_from : ℕ → List Bool → List ℕ
numbers_from first [] = []
numbers_from first (true ∷ marks) = first ∷ numbers_from (first + 1) marks
numbers_from first (false ∷ marks) = numbers_from (first + 1) marks
