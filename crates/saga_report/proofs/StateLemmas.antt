-- States of steps, those past the end waiting.
use Rattle.std.proofs.Common.{◌≡◌, ℕ, List, [], ◌∷◌, ◌++◌, get_or, refl, zero, suc}

-- one more default at the end changes nothing
pub one_more_default : {X : Type 0} (xs : List X) (d : X) (s : ℕ) → get_or (xs ++ d ∷ []) s d ≡ get_or xs s d
one_more_default [] d zero = refl
one_more_default [] d (suc s) = refl
one_more_default (x ∷ xs) d zero = refl
one_more_default (x ∷ xs) d (suc s) = one_more_default xs d s
