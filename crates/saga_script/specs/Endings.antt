-- How an action ends, and which attempts a line names.
use Rattle.std.specs.Prelude.{ℕ, ◌==◌, Bool, true, false, Option, Some, None, nat_lt, if◌then◌else◌}
use Rattle.saga_history.specs.declared.tasks.Outcome.{Outcome}
use Rattle.saga_history.specs.declared.tasks.Outcome.TheVariants as outcome
use Rattle.saga_script.specs.declared.endings.Ending.{Ending}
use Rattle.saga_script.specs.declared.endings.Ending.TheVariants.{Done, Void, Failed, DoneThenAbort}

abbrev pub outcome_of : Ending → Outcome
outcome_of Done = outcome.Done
outcome_of Void = outcome.Void
outcome_of Failed = outcome.Failed
outcome_of DoneThenAbort = outcome.Done

-- the saga is aborted after it
abbrev pub asks_abort : Ending → Bool
asks_abort Done = false
asks_abort Void = false
asks_abort Failed = false
asks_abort DoneThenAbort = true

-- a line applies to the attempt with this number: it names no attempt, which means each, or it names this one
abbrev pub is_attempt : Option ℕ → ℕ → Bool
is_attempt None attempt = true
is_attempt (Some named) attempt = attempt == named

-- the index of an attempt in a row of ten; index 0 is for all attempts that no line can name
abbrev pub place_of : ℕ → ℕ
place_of attempt = if nat_lt attempt 10 then attempt else 0
