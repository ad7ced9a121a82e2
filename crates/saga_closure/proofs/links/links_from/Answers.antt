-- What a step needs, and what needs it, stands in the definition's lists.
use Rattle.saga_closure.proofs.NeighbourLemmas.{are_links, has_need}
use Rattle.saga_closure.proofs.links.links_from.Goals as goal

pub returns-then-forward : goal.returns-then-forward
returns-then-forward c =
    let d = c.args.definition.now in
    let placed = rw (← c.needs_of.ensures.value) at c.places_of.ensures.exact in
    rw c.if-forward.true (are_links d.needs _ _ c.args.v _ _ c.needs_of.ensures.sound.single c.needs_of.ensures.sound.known placed.sized placed.each (λ k w at. c.needs_of.ensures.exact.all w (has_need d.needs k c.args.v w at)))

pub returns-else-forward : goal.returns-else-forward
returns-else-forward c =
    let d = c.args.definition.now in
    let placed = rw (← c.needed_by.ensures.value) at c.places_on.ensures.exact in
    rw c.if-forward.false (are_links d.needs _ _ c.args.v _ _ c.needed_by.ensures.sound.single c.needed_by.ensures.sound.known placed.sized placed.each (λ k w at. c.needed_by.ensures.exact.all w (has_need d.needs k w c.args.v at)))
