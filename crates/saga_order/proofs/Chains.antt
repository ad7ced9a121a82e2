-- Facts about chains of needs.
use Rattle.std.proofs.Common.{ℕ, ◌≡◌, ◌<◌, List, zero, suc, subst, sym, refl, inl, inr}
use Rattle.std.specs.Prelude.{◌⊎◌}
use Rattle.std.proofs.lemmas.List.Elements.{All-contains}
use Rattle.saga_def.specs.declared.steps.Need.{Need}
use Rattle.saga_def.specs.Order.{NeedsDirectly, Leads, Precedes}
use Rattle.saga_def.specs.Rules.{AreKnown}

-- a step that needs another directly is preceded by it
pub precedes_direct : (needs : List Need) (b a : ℕ) → NeedsDirectly needs b a → Precedes needs a b
precedes_direct needs b a direct = record { between = zero; chain = (a, direct, refl) }

-- and by all that precede that one
pub precedes_through : (needs : List Need) (b a x : ℕ) → NeedsDirectly needs b a → Precedes needs x a → Precedes needs x b
precedes_through needs b a x direct further = record { between = suc further.between; chain = (a, direct, further.chain) }

-- a chain, and then a chain of at least one need
pub precedes_along : (needs : List Need) (n b c a : ℕ) → Leads needs n b c → Precedes needs a c → Precedes needs a b
precedes_along needs zero b c a here further = subst (λ x. Precedes needs a x) (sym here) further
precedes_along needs (suc n) b c a (d, direct, leads) further =
    precedes_through needs b d a direct (precedes_along needs n d c a leads further)

pub precedes_trans : (needs : List Need) (a b c : ℕ) → Precedes needs a b → Precedes needs b c → Precedes needs a c
precedes_trans needs a b c first second = precedes_along needs (suc second.between) c b a second.chain first

-- the first need of a chain
leads_first : (needs : List Need) (n b x : ℕ) → Leads needs (suc n) b x → (a : ℕ) × NeedsDirectly needs b a × ((x ≡ a) ⊎ Precedes needs x a)
leads_first needs zero b x (a, direct, here) = (a, direct, inl (sym here))
leads_first needs (suc n) b x (a, direct, leads) = (a, direct, inr (record { between = n; chain = leads }))

-- what precedes a step is needed by it, or precedes what it needs
pub precedes_first : (needs : List Need) (b x : ℕ) → Precedes needs x b → (a : ℕ) × NeedsDirectly needs b a × ((x ≡ a) ⊎ Precedes needs x a)
precedes_first needs b x before = leads_first needs before.between b x before.chain

-- both ends of a need are known
pub known_step : (needs : List Need) (count b a : ℕ) → AreKnown needs count → NeedsDirectly needs b a → b < count
known_step needs count b a known direct =
    (All-contains (λ (n : Need). (n.step < count) × (n.on < count)) needs (record { step = b; on = a }) known direct).0

pub known_on : (needs : List Need) (count b a : ℕ) → AreKnown needs count → NeedsDirectly needs b a → a < count
known_on needs count b a known direct =
    (All-contains (λ (n : Need). (n.step < count) × (n.on < count)) needs (record { step = b; on = a }) known direct).1

-- what precedes a step, and the step, are known
pub known_before : (needs : List Need) (count a b : ℕ) → AreKnown needs count → Precedes needs a b → b < count
known_before needs count a b known before = known_step needs count b before.chain.0 known before.chain.1

-- a set that holds, with each step, what it needs directly holds all that a chain leads to
pub held_along : (needs : List Need) (P : ℕ → Type 0) → ((b a : ℕ) → P b → NeedsDirectly needs b a → P a) → (n b a : ℕ) → P b → Leads needs n b a → P a
held_along needs P closed zero b a here leads = subst P leads here
held_along needs P closed (suc n) b a here (c, direct, leads) =
    held_along needs P closed n c a (closed b c here direct) leads
