use Rattle.std.proofs.Common.{string_bytes}
use Rattle.saga_drive.specs.Drops.{DropsPlans, NoneIsPlanned}
use Rattle.saga_drive.proofs.drops.drop_plans.Given as goal

-- the plans of the sagas so far are dropped, and their lines are there
abbrev pub invariant-loop-saga : goal.invariant-loop-saga
invariant-loop-saga l = DropsPlans l.initial.book l.book (string_bytes l.lines) × NoneIsPlanned l.book l.saga
