-- A residual arc back carries something just where its arc has something.
use Rattle.std.proofs.Common.{get_or}
use Rattle.std.proofs.lemmas.Bool.{lt-ltb, ltb-true}
use Rattle.saga_flow.proofs.ResidualArcLemmas.{back_open, back_some}
use Rattle.saga_flow.proofs.gates.ResidualGate.lets_pass.Goals as goal

pub returns-else-residual : goal.returns-else-residual
returns-else-residual c =
    let arcs = c.args.self.now.arcs.now in
    let on = c.args.self.now.on.now in
    let x = get_or on c.args.residual.arc 0 in (
      λ some. back_open arcs on c.args.residual c.requires c.if-residual.false (ltb-true 0 x some),
      λ carry. lt-ltb 0 x (back_some c.args.residual.forward carry.0 x c.if-residual.false carry.2),
    )
