use Rattle.std.proofs.Common.{◌≡◌, ◌<◌, ◌++◌, ℕ, drop}
use Rattle.std.specs.List.{flat_map, All}
use Rattle.saga_work.specs.Asked.{asked, definitions_in, opening_on, IsOpening}
use Rattle.saga_work.specs.Faults.{AreOnShelf}
use Rattle.saga_work.proofs.opening.open_all.Given as goal

abbrev pub invariant-loop-j : goal.invariant-loop-j
invariant-loop-j g l = All IsOpening l.seat.receipts × ((s : ℕ) → s < l.shards
    → definitions_in (flat_map (opening_on s) l.seat.receipts) ++ definitions_in (asked l.shards s l.j (drop l.j l.asks))
    ≡ definitions_in (asked l.shards s 0 l.asks))
    × (l.seat.number ≡ l.fn.seat.number)
    × AreOnShelf l.desk.shelf l.asks l.j
