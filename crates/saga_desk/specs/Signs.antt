-- The state of a shard that its sign shows to readers without its lock.
use Rattle.saga_core.specs.Book.{Book}
use Rattle.saga_core.specs.Tasks.{AllAreOver, NoTaskIsAllowed}
use Rattle.saga_desk.specs.declared.jobs.Claim.{Claim}
use Rattle.saga_desk.specs.declared.jobs.Claim.TheVariants as claim
use Rattle.saga_desk.specs.declared.signs.Shown.{Shown}
use Rattle.saga_desk.specs.declared.signs.Shown.TheVariants.{Open, Idle, Over}

-- the sign is correct for the book: `Open` claims nothing; with `Idle`, no task is allowed and some saga is neither
-- ended nor stuck; with `Over`, each saga is ended or stuck
abbrev pub Shows : Shown → Book → Type 0
Shows Open b = Unit {0}
Shows Idle b = NoTaskIsAllowed b × (AllAreOver b → ⊥)
Shows Over b = AllAreOver b

-- the state to show after a claim
abbrev pub shown_by : Claim → Shown
shown_by (claim.Run job) = Open
shown_by (claim.Undo job) = Open
shown_by (claim.Plan job case) = Open
shown_by claim.Idle = Idle
shown_by claim.Settled = Over
