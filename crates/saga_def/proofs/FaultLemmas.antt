-- Of the faults of a definition at most one is the first that applies.
use Rattle.std.proofs.Common.{◌≡◌, ◌≢◌, ℕ, List, [], ◌∷◌, ◌⊎◌, inl, inr, refl, sym, ap, ◌∙◌, get_or}
use Rattle.std.specs.Prelude.{codes}
use Rattle.saga_def.specs.Contents.{Contents}
use Rattle.saga_def.specs.Faults.{IsFirstFault, word_of}
use Rattle.saga_def.specs.Laws.{HasOneFault, HasNoFault}
use Rattle.saga_def.specs.Order.{IsAcyclic}
use Rattle.saga_def.specs.Rules.{HasSteps, HasFewSteps, HasFewNeeds, HasGoodNames, HasDistinctNames, HasKnownNeeds, HasSingleNeeds, AllPricesAreSmall, AllTriesAreInRange}
use Rattle.saga_def.specs.Sound.{IsSound}
use Rattle.saga_def.specs.declared.faults.DefFault.{DefFault}
use Rattle.saga_def.specs.declared.faults.DefFault.TheVariants.{Empty, TooManySteps, TooManyNeeds, BadName, DoubleName, UnknownStep, DoubleNeed, PriceTooLarge, TriesOutOfRange, Cycle, OutOfMemory}
use Rattle.saga_def.proofs.FirstLemmas.{IsFirstBroken, AreKept, first_broken_once, none_broken}
use Rattle.saga_def.proofs.OrderLemmas.{cycle_refutes}

-- the rules in the order in which they are looked at, and their words
abbrev rules : Contents → List (Type 0)
rules c =
    HasSteps c ∷ HasFewSteps c ∷ HasFewNeeds c ∷ HasGoodNames c ∷ HasDistinctNames c ∷ HasKnownNeeds c ∷
    HasSingleNeeds c ∷ AllPricesAreSmall c ∷ AllTriesAreInRange c ∷ IsAcyclic c.needs ∷ []

abbrev words : List (List ℕ)
words =
    codes "empty" ∷ codes "too-many-steps" ∷ codes "too-many-needs" ∷ codes "bad-name" ∷ codes "double-name" ∷
    codes "unknown-step" ∷ codes "double-need" ∷ codes "price-too-large" ∷ codes "tries-out-of-range" ∷
    codes "cycle" ∷ []

-- the place of a fault's rule
abbrev place : DefFault → ℕ
place Empty = 0
place TooManySteps = 1
place TooManyNeeds = 2
place BadName = 3
place DoubleName = 4
place UnknownStep = 5
place DoubleNeed = 6
place PriceTooLarge = 7
place TriesOutOfRange = 8
place (Cycle steps) = 9
place OutOfMemory = 10

fault_at : (c : Contents) (f : DefFault) → IsFirstFault c f → (f ≡ OutOfMemory) ⊎ IsFirstBroken (rules c) (place f)
fault_at c Empty w = inr w
fault_at c TooManySteps w = inr (w.0, w.1)
fault_at c TooManyNeeds w = inr (w.0, (w.1, w.2))
fault_at c BadName w = inr (w.0, (w.1, (w.2, w.3)))
fault_at c DoubleName w = inr (w.0, (w.1, (w.2, (w.3, w.4))))
fault_at c UnknownStep w = inr (w.0, (w.1, (w.2, (w.3, (w.4, w.5)))))
fault_at c DoubleNeed w = inr (w.0, (w.1, (w.2, (w.3, (w.4, (w.5, w.6))))))
fault_at c PriceTooLarge w = inr (w.0, (w.1, (w.2, (w.3, (w.4, (w.5, (w.6, w.7)))))))
fault_at c TriesOutOfRange w = inr (w.0, (w.1, (w.2, (w.3, (w.4, (w.5, (w.6, (w.7, w.8))))))))
fault_at c (Cycle steps) w = inr (w.0, (w.1, (w.2, (w.3, (w.4, (w.5, (w.6, (w.7, (w.8, (λ acyclic. cycle_refutes c.needs steps.items w.9 acyclic))))))))))
fault_at c OutOfMemory w = inl refl

word_at : (f : DefFault) → f ≢ OutOfMemory → word_of f ≡ get_or words (place f) []
word_at OutOfMemory ne = absurd (ne refl)
word_at _ ne = refl

-- sound contents keep all of them
all_kept : (c : Contents) → IsSound c → AreKept (rules c)
all_kept c s = (s.some, (s.few_steps, (s.few_needs, (s.names, (s.distinct, (s.known, (s.single, (s.small, (s.tries, (s.acyclic, tt))))))))))

pub has_one_fault : (c : Contents) → HasOneFault c
has_one_fault c e f ne nf we wf =
    elim (fault_at c e we) [
      | inl is ↦ absurd (ne is)
      | inr at ↦ elim (fault_at c f wf) [
        | inl is ↦ absurd (nf is)
        | inr other ↦ word_at e ne
            ∙ (ap (λ n. get_or words n []) (first_broken_once (rules c) (place e) (place f) at other) ∙ sym (word_at f nf))
      ]
    ]

pub has_no_fault : (c : Contents) → HasNoFault c
has_no_fault c sound f w =
    elim (fault_at c f w) [
      | inl is ↦ is
      | inr at ↦ absurd (none_broken (rules c) (place f) (all_kept c sound) at)
    ]
