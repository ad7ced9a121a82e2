-- The word of each reason.
use Rattle.std.specs.Prelude.{ℕ, List, codes}
use Rattle.saga_fleet.specs.declared.reasons.Reason.{Reason}
use Rattle.saga_fleet.specs.declared.reasons.Reason.TheVariants as why

abbrev pub word_of : Reason → List ℕ
word_of why.EpochNotNext = codes "epoch-not-next"
word_of why.OtherLength = codes "other-length"
word_of why.OtherContent = codes "other-content"
word_of why.NoSuchSession = codes "no-such-session"
word_of why.NotIdle = codes "not-idle"
word_of why.NothingSent = codes "nothing-sent"
word_of why.NothingDone = codes "nothing-done"
word_of why.OtherServer = codes "other-server"
word_of why.OldEpoch = codes "old-epoch"
word_of why.OtherPlace = codes "other-place"
word_of why.NotShipped = codes "not-shipped"
word_of why.NotKnown = codes "not-known"
word_of why.FewerThanShipped = codes "fewer-than-shipped"
word_of why.MoreThanWritten = codes "more-than-written"
