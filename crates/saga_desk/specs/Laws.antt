-- The relation between a merge of receipts and a merge of histories.
use Rattle.std.specs.Prelude.{◌↔◌, List}
use Rattle.saga_history.specs.declared.events.Event.{Event}
use Rattle.saga_history.specs.Merges.{IsMergeOf}
use Rattle.saga_desk.specs.Merges.{IsMerge}

-- the merges by which receipts are compared are the merges of histories that are proved legal
abbrev pub HaveSameMerges : List (List Event) → Type 0
HaveSameMerges histories = (m : List Event) → IsMerge histories m ↔ IsMergeOf histories m
