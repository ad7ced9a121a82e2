-- Sums over the arcs: after one amount is set, of shares that are larger, equal or added.
use Rattle.std.proofs.Common.{◌≡◌, ℕ, zero, suc, ◌+◌, ◌<◌, ◌≤◌, List, [], ◌∷◌, Some, length, get_or, set, sum_by, refl, arith}
use Rattle.std.specs.Prelude.{slice_get}
use Rattle.std.proofs.lemmas.Option.{none-some, same_Some}
use Rattle.std.proofs.lemmas.List.Sums.{sum_by-cons}
use Rattle.saga_flow.specs.declared.nets.Arc.{Arc}
use Rattle.saga_flow.specs.Flows.{total}

-- one amount is set
pub total-set : (share : Arc → ℕ → ℕ) (arcs : List Arc) (on : List ℕ) (k x : ℕ) (a : Arc) → slice_get arcs k ≡ Some a → k < length on → total share arcs (set on k x) + share a (get_or on k 0) ≡ total share arcs on + share a x
total-set share [] on k x a at h = absurd (none-some _ at)
total-set share (b ∷ arcs) [] k x a at h = absurd (omega arith)
total-set share (b ∷ arcs) (y ∷ on) zero x a at h = let same : b ≡ a = same_Some _ _ at in rw same (omega arith)
total-set share (b ∷ arcs) (y ∷ on) (suc k) x a at h = omega (arith, total-set share arcs on k x a at (omega arith))

-- each share is at most another
pub total-le : (few many : Arc → ℕ → ℕ) (arcs : List Arc) (on : List ℕ) → ((k : ℕ) (a : Arc) → slice_get arcs k ≡ Some a → few a (get_or on k 0) ≤ many a (get_or on k 0)) → total few arcs on ≤ total many arcs on
total-le few many [] on each = omega arith
total-le few many (a ∷ arcs) [] each = omega arith
total-le few many (a ∷ arcs) (x ∷ on) each =
    omega (arith, each 0 a refl, total-le few many arcs on (λ k b at. each (suc k) b at))

-- each share is as large as another
pub total-same : (one other : Arc → ℕ → ℕ) (arcs : List Arc) (on : List ℕ) → ((k : ℕ) (a : Arc) → slice_get arcs k ≡ Some a → one a (get_or on k 0) ≡ other a (get_or on k 0)) → total one arcs on ≡ total other arcs on
total-same one other [] on each = refl
total-same one other (a ∷ arcs) [] each = refl
total-same one other (a ∷ arcs) (x ∷ on) each =
    omega (arith, each 0 a refl, total-same one other arcs on (λ k b at. each (suc k) b at))

-- the shares of two are added
pub total-add : (one other : Arc → ℕ → ℕ) (arcs : List Arc) (on : List ℕ) → total (λ a x. one a x + other a x) arcs on ≡ total one arcs on + total other arcs on
total-add one other [] on = refl
total-add one other (a ∷ arcs) [] = refl
total-add one other (a ∷ arcs) (x ∷ on) = omega (arith, total-add one other arcs on)

-- no arc has a share
pub total-none : (arcs : List Arc) (on : List ℕ) → total (λ a x. 0) arcs on ≡ 0
total-none [] on = refl
total-none (a ∷ arcs) [] = refl
total-none (a ∷ arcs) (x ∷ on) = omega (arith, total-none arcs on)

-- shares that do not depend on the amounts
pub total-fixed : (share : Arc → ℕ) (arcs : List Arc) (on : List ℕ) → length on ≡ length arcs → total (λ a x. share a) arcs on ≡ sum_by share arcs
total-fixed share [] on sized = refl
total-fixed share (a ∷ arcs) [] sized = absurd (omega arith)
total-fixed share (a ∷ arcs) (x ∷ on) sized =
    omega (arith, total-fixed share arcs on (omega arith), sum_by-cons share a arcs)

-- where no share is larger and the sums are equal, each share is equal
pub total-tight : (few many : Arc → ℕ → ℕ) (arcs : List Arc) (on : List ℕ) → ((k : ℕ) (a : Arc) → slice_get arcs k ≡ Some a → few a (get_or on k 0) ≤ many a (get_or on k 0)) → total many arcs on ≤ total few arcs on → (k : ℕ) (a : Arc) → slice_get arcs k ≡ Some a → k < length on → few a (get_or on k 0) ≡ many a (get_or on k 0)
total-tight few many [] on each tight k a at h = absurd (none-some _ at)
total-tight few many (b ∷ arcs) [] each tight k a at h = absurd (omega arith)
total-tight few many (b ∷ arcs) (x ∷ on) each tight zero a at h =
    let same : b ≡ a = same_Some _ _ at in
    rw (← same) (omega (arith, each 0 b refl, total-le few many arcs on (λ k c q. each (suc k) c q)))
total-tight few many (b ∷ arcs) (x ∷ on) each tight (suc k) a at h =
    total-tight few many arcs on (λ j c q. each (suc j) c q) (omega (arith, each 0 b refl)) k a at (omega arith)
