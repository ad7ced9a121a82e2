-- The amounts of a flow as numbers, for every stored width.
use Rattle.std.specs.Prelude.{List, ℕ}
use Rattle.saga_case.specs.declared.amounts.Widths.{Widths}
use Rattle.saga_case.specs.declared.amounts.Widths.TheVariants.{Two, Four, Eight}

abbrev pub amounts_in : Widths → List ℕ
amounts_in (Two list) = list.items
amounts_in (Four list) = list.items
amounts_in (Eight list) = list.items
