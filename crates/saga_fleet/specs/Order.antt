-- The order of the reasons. If several conditions of an event fail, the first one in this order is named.
use Rattle.std.specs.Prelude.{ℕ, ◌<◌}
use Rattle.saga_fleet.specs.declared.reasons.Reason.{Reason}
use Rattle.saga_fleet.specs.declared.reasons.Reason.TheVariants as why

-- the index of a reason in the order
abbrev pub place_of : Reason → ℕ
place_of why.EpochNotNext = 0
place_of why.OtherLength = 1
place_of why.NoSuchSession = 2
place_of why.NotIdle = 3
place_of why.NothingSent = 4
place_of why.NothingDone = 5
place_of why.OtherServer = 6
place_of why.OldEpoch = 7
place_of why.OtherPlace = 8
place_of why.OtherContent = 9
place_of why.NotShipped = 10
place_of why.NotKnown = 11
place_of why.FewerThanShipped = 12
place_of why.MoreThanWritten = 13

-- no reason before this one applies
abbrev pub NoneBefore : (Reason → Type 0) → Reason → Type 0
NoneBefore applies reason = (earlier : Reason) → place_of earlier < place_of reason → applies earlier → ⊥

-- the reason applies, and none before it does
pub record IsFirstReason (applies : Reason → Type 0) (reason : Reason) : Type 0 where
  pub here : applies reason
  pub first : NoneBefore applies reason
