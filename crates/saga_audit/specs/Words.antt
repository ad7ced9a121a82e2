-- The word of each reason.
use Rattle.std.specs.Prelude.{ℕ, List, codes}
use Rattle.saga_audit.specs.declared.reasons.Reason.{Reason}
use Rattle.saga_audit.specs.declared.reasons.Reason.TheVariants as reason

abbrev pub word_of : Reason → List ℕ
word_of reason.DoubleOpen = codes "double-open"
word_of reason.NoSuchDefinition = codes "no-such-definition"
word_of reason.NoSuchSaga = codes "no-such-saga"
word_of reason.NoSuchStep = codes "no-such-step"
word_of reason.NotNow = codes "not-now"
word_of reason.NotTaken = codes "not-taken"
word_of reason.NotPlanning = codes "not-planning"
word_of reason.NotRight = codes "not-right"
