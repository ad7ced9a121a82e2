-- Where a search finds no goal the flow is a greatest.
use Rattle.std.proofs.Common.{◌∙◌, map, ap, refl}
use Rattle.saga_closure.specs.Layers.{is_level}
use Rattle.saga_closure.specs.Nets.{terms_in}
use Rattle.saga_closure.proofs.ReachLemmas.{largest_is}
use Rattle.saga_closure.proofs.flows.flow_of.Goals as goal

pub returns : goal.returns
returns c =
    largest_is (terms_in c.args.net.now) c.args.progress.on.items c.args.found.now c.args.net.now.known c.requires.reach _ refl (c.in_ok-reached.ensures ∙ ap (map is_level) c.deref.ensures.value) c.requires.network c.requires.progress
