-- The network over a definition's lists.
use Rattle.std.specs.Prelude.{List}
use Rattle.saga_case.specs.Terms.{Terms}
use Rattle.saga_flow.specs.declared.nets.Arc.{Arc}
use Rattle.saga_closure.specs.declared.nets.ClosureNet.{ClosureNet}
use Rattle.saga_closure.specs.Capacities.{terms_by}
use Rattle.saga_closure.specs.CaseNet.{network_of}

abbrev pub terms_in : ClosureNet → Terms
terms_in net = terms_by net.definition.now net.caps.now

abbrev pub arcs_in : ClosureNet → List Arc
arcs_in net = (network_of (terms_in net)).arcs
