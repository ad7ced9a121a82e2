use Rattle.std.proofs.Common.{◌≡◌, ◌++◌, map, take}
use Rattle.saga_text.specs.Numbers.{number_in}
use Rattle.saga_text.proofs.numbers.push_needs.Given as goal

abbrev pub invariant-loop-name : goal.invariant-loop-name
invariant-loop-name l =
    l.needs.items ≡ l.initial.needs.items ++ map (λ name. record { step = l.step; on = number_in l.numbers l.count name.now }) (take l.name-index l.names)
