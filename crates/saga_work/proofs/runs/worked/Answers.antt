use Rattle.std.proofs.Common.{None, Option}
use Rattle.saga_work.specs.Answered.{IsWork}
use Rattle.saga_work.specs.declared.faults.Stop.{Stop}
use Rattle.saga_work.proofs.FaultLemmas.{seated_back}
use Rattle.saga_work.proofs.RunLemmas.{each_gained}
use Rattle.saga_work.proofs.runs.worked.Goals as goal

pub returns-clause-gained : goal.returns-clause-gained
returns-clause-gained g c =
    each_gained {S = Option Stop} IsWork None
    c.args.seats.items c.in_ok-done.done.items c.in_ok-back.back.items c.in_ok-done.ensures.len c.in_ok-done.ensures.each c.in_ok-back.ensures.seats

pub returns-clause-numbers : goal.returns-clause-numbers
returns-clause-numbers g c n seated =
    seated_back {S = Option Stop} IsWork None n
    c.args.seats.items c.in_ok-done.done.items c.in_ok-back.back.items seated c.in_ok-done.ensures.len c.in_ok-done.ensures.each c.in_ok-back.ensures.seats
