-- The word of each fault and stop.
use Rattle.std.specs.Prelude.{ℕ, List, codes}
use Rattle.saga_core.specs.declared.refusals.OpenRefusal.TheVariants as opening
use Rattle.saga_work.specs.declared.faults.FinishFault.{FinishFault}
use Rattle.saga_work.specs.declared.faults.FinishFault.TheVariants.{Stranger, Missing, Torn}
use Rattle.saga_work.specs.declared.faults.RunFault.{RunFault}
use Rattle.saga_work.specs.declared.faults.RunFault.TheVariants.{Open, Finish, OutOfMemory}
use Rattle.saga_work.specs.declared.faults.Stop.{Stop}
use Rattle.saga_work.specs.declared.faults.Stop.TheVariants as stop

abbrev pub word_of_stop : Stop → List ℕ
word_of_stop stop.OutOfMemory = codes "out-of-memory"
word_of_stop stop.Refused = codes "refused"

abbrev pub word_of_finish : FinishFault → List ℕ
word_of_finish Stranger = codes "stranger"
word_of_finish Missing = codes "missing"
word_of_finish Torn = codes "torn"

abbrev pub word_of_run : RunFault → List ℕ
word_of_run (Open saga opening.NoSuchDefinition) = codes "no-such-definition"
word_of_run (Open saga opening.Full) = codes "full"
word_of_run (Open saga opening.OutOfMemory) = codes "out-of-memory"
word_of_run (Finish fault) = word_of_finish fault
word_of_run OutOfMemory = codes "out-of-memory"
