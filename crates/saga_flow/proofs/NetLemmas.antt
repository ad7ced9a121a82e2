-- What a net's invariant says of each arc.
use Rattle.std.proofs.Common.{◌≡◌, ℕ, zero, suc, ◌<◌, List, [], ◌∷◌, Some}
use Rattle.std.specs.Prelude.{slice_get, IsTrue}
use Rattle.std.proofs.lemmas.Option.{none-some, same_Some}
use Rattle.std.proofs.lemmas.Bool.{and_parts, ltb-true}
use Rattle.saga_flow.specs.declared.nets.Arc.{Arc}
use Rattle.saga_flow.specs.Network.{ends_within}

-- both ends of each arc are nodes
abbrev pub AreEnds : ℕ → List Arc → Type 0
AreEnds nodes arcs = (k : ℕ) (a : Arc) → slice_get arcs k ≡ Some a → (a.from < nodes) × (a.to < nodes)

pub AreEnds-from_test : (nodes : ℕ) (arcs : List Arc) → IsTrue (ends_within nodes arcs) → AreEnds nodes arcs
AreEnds-from_test nodes [] test k a at = absurd (none-some _ at)
AreEnds-from_test nodes (b ∷ arcs) test zero a at =
    let same : b ≡ a = same_Some _ _ at in
    let ends = and_parts _ _ (and_parts _ _ test).0 in
    rw (← same) (ltb-true _ _ ends.0, ltb-true _ _ ends.1)
AreEnds-from_test nodes (b ∷ arcs) test (suc k) a at = AreEnds-from_test nodes arcs (and_parts _ _ test).1 k a at
