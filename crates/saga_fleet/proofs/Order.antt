-- At most one reason is the first that applies.
use Rattle.std.proofs.Common.{◌≡◌, ℕ, List, [], ◌∷◌, get_or, refl, sym, ◌∙◌, ap, inl, inr, arith}
use Rattle.std.proofs.lemmas.Bool.{cases_lt}
use Rattle.saga_fleet.specs.declared.reasons.Reason.{Reason}
use Rattle.saga_fleet.specs.declared.reasons.Reason.TheVariants as why
use Rattle.saga_fleet.specs.Order.{IsFirstReason, place_of}

-- the reason at an index of the order
abbrev reason_at : ℕ → Reason
reason_at n = get_or
    (why.EpochNotNext ∷ why.OtherLength ∷ why.NoSuchSession ∷ why.NotIdle ∷ why.NothingSent ∷ why.NothingDone ∷ why.OtherServer ∷ why.OldEpoch
    ∷ why.OtherPlace ∷ why.OtherContent ∷ why.NotShipped ∷ why.NotKnown ∷ why.FewerThanShipped ∷ why.MoreThanWritten ∷ []) n why.EpochNotNext

at_place : (r : Reason) → reason_at (place_of r) ≡ r
at_place why.EpochNotNext = refl
at_place why.OtherLength = refl
at_place why.NoSuchSession = refl
at_place why.NotIdle = refl
at_place why.NothingSent = refl
at_place why.NothingDone = refl
at_place why.OtherServer = refl
at_place why.OldEpoch = refl
at_place why.OtherPlace = refl
at_place why.OtherContent = refl
at_place why.NotShipped = refl
at_place why.NotKnown = refl
at_place why.FewerThanShipped = refl
at_place why.MoreThanWritten = refl

same_place : (r s : Reason) → place_of r ≡ place_of s → r ≡ s
same_place r s e = sym (at_place r) ∙ ap reason_at e ∙ at_place s

pub one_first : (applies : Reason → Type 0) (r s : Reason) → IsFirstReason applies r → IsFirstReason applies s → r ≡ s
one_first applies r s x y = elim (cases_lt (place_of r) (place_of s)) as (λ z. r ≡ s) [
  | inl lt ↦ absurd (y.first r lt x.here)
  | inr ge ↦ elim (cases_lt (place_of s) (place_of r)) as (λ z. r ≡ s) [
    | inl lt ↦ absurd (x.first s lt y.here)
    | inr le ↦ same_place r s (omega (arith, ge, le))
  ]
]
