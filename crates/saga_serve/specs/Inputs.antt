-- The buffer of standard input: the bytes that have arrived and are not yet processed.
use Rattle.std.specs.Prelude.{◌≡◌, ◌⊎◌, ℕ, Bool, true, false, List, [], ◌∷◌, ◌++◌}

-- the bytes that are not yet processed; if standard input has ended within a line, a line feed was added to the bytes
pub record Input : Type 0 where
  pub left : List ℕ
  pub ended : Bool

-- more bytes have arrived; or standard input has ended within a line, and its line feed is added; or standard input has
-- ended
abbrev pub Arrives : Bool → Bool → Input → List ℕ → Input → List ℕ → Type 0
Arrives true begun old arrived new arrived_then =
    ((old.ended ≡ false) × (new.ended ≡ false) × (arrived_then ≡ arrived ++ new.left))
    ⊎ ((begun ≡ true) × (old.ended ≡ false) × (new.ended ≡ true) × (new.left ≡ 10 ∷ []) × (arrived_then ≡ arrived))
Arrives false begun old arrived new arrived_then =
    (new.left ≡ []) × (arrived_then ≡ arrived) × (new.ended ≡ old.ended) × ((begun ≡ false) ⊎ (old.ended ≡ true))
