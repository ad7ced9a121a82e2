-- One of the step's residual arcs comes from a step a level lower.
use Rattle.std.proofs.Common.{◌≡◌, ◌∙◌, get_or, arith}
use Rattle.std.proofs.lemmas.List.{get_or_default}
use Rattle.saga_closure.proofs.PathLemmas.{none_lowest}
use Rattle.saga_closure.proofs.paths.came_by.Goals as goal
use Rattle.saga_closure.proofs.paths.came_by.Goals.{After-index}

read : (c : After-index) → c.index.result.now ≡ get_or c.args.found.now.level.items c.args.v 0
read c = c.index.ensures ∙ get_or_default c.args.found.now.level.items c.args.v c.index.result.now 0 (omega (arith, c.requires.inside, c.requires.at.search.sized))

pub unreachable-requires : goal.unreachable-requires
unreachable-requires c =
    let none = rw (c.in-None.is, c.deref.ensures.value, read (goal.at.unreachable-requires c).After-index) at c.step_before.ensures.none in
    none_lowest c.args.residual.now c.args.found.now c.args.goal c.args.v c.requires.at c.requires.inside c.requires.above c.requires.low (none (omega arith))

pub returns-clause-lower : goal.returns-clause-lower
returns-clause-lower c = rw (c.deref.ensures.value, read (goal.at.returns-clause-lower c).After-index) at c.in-Some.ensures.lower
