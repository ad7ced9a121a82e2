-- Closed sets by direct needs.
use Rattle.std.proofs.Common.{ℕ, List, refl, suc}
use Rattle.std.specs.Prelude.{IsTrue}
use Rattle.saga_def.specs.declared.steps.Need.{Need}
use Rattle.saga_def.specs.Order.{NeedsDirectly, Precedes, Steps, IsClosed}
use Rattle.saga_def.proofs.OrderLemmas.{closed_leads}

-- what a step needs directly precedes it
pub direct_precedes : (needs : List Need) (b a : ℕ) → NeedsDirectly needs b a → Precedes needs a b
direct_precedes needs b a direct = record { between = 0; chain = (a, direct, refl) }

-- a closed set holds what its members need directly
pub closed_direct : (needs : List Need) (set : Steps) → IsClosed needs set → (b a : ℕ) → IsTrue (set b) → NeedsDirectly needs b a → IsTrue (set a)
closed_direct needs set closed b a here direct = closed.holds a b here (direct_precedes needs b a direct)

-- a set that holds what its members need directly is closed
pub closed_from_direct : (needs : List Need) (set : Steps) → ((b a : ℕ) → IsTrue (set b) → NeedsDirectly needs b a → IsTrue (set a)) → IsClosed needs set
closed_from_direct needs set direct = record {
  holds = λ a b here precedes.
      closed_leads needs (λ (s : ℕ). IsTrue (set s)) direct (suc precedes.between) b a here precedes.chain;
}
