-- Whether a row allows a change, and the row after it.
use Rattle.std.specs.Prelude.{◌≡◌, ◌<◌, length, Option, Some, None}
use Rattle.saga_case.specs.Terms.{terms_of}
use Rattle.saga_case.specs.Right.{IsRight}
use Rattle.saga_history.specs.declared.turns.Turn.TheVariants.{Draining, Planning}
use Rattle.saga_history.specs.Changes.{Change, opens, moves, starts_plan, drops_plan, adopts, aborts}
use Rattle.saga_rows.specs.Row.{FitsIn, HasRoom, MayPlan, Row, row_aborting, row_adopting, row_after, row_turning}
use Rattle.saga_rows.specs.Follows.{IsDrained, RowMay, RowMayAbort, row_case}
use Rattle.saga_audit.specs.declared.reasons.Reason.{Reason}
use Rattle.saga_audit.specs.Reasons.{reason_opened}

-- the row allows a change
abbrev pub RowTakes : Row → Change → Type 0
RowTakes row (opens k) = ⊥
RowTakes row (moves s t) = RowMay row s t
RowTakes row starts_plan = MayPlan row
RowTakes row drops_plan = row.turn ≡ Planning
RowTakes row (adopts a) = (row.turn ≡ Planning) × IsRight (terms_of (row_case row)) a
RowTakes row aborts = RowMayAbort row

-- the row allows the change, or does not and why
abbrev pub Decides : Row → Change → Option Reason → Type 0
Decides row c None = RowTakes row c
Decides row c (Some why) = (RowTakes row c → ⊥) × (why ≡ reason_opened row.definition row.turn c)

-- while a plan of the saga is in progress, no step is busy
abbrev pub IsDrainedForPlanning : Row → Type 0
IsDrainedForPlanning row = row.turn ≡ Planning → IsDrained row

-- the row can count or apply the change without an overflow
abbrev pub HasRoomFor : Row → Change → Type 0
HasRoomFor row (moves s t) = (s < length row.definition.steps) × HasRoom row s t
HasRoomFor row (adopts a) = FitsIn row a
HasRoomFor row _ = Unit {0}

-- the row after a change
abbrev pub row_then : Row → Change → Row
row_then row (opens k) = row
row_then row (moves s t) = row_after row s t
row_then row starts_plan = row_turning row Planning
row_then row drops_plan = row_turning row Draining
row_then row (adopts a) = row_adopting row a
row_then row aborts = row_aborting row
