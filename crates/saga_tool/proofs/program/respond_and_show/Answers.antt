use Rattle.std.proofs.lemmas.Result.{IfOk-weaker}
use Rattle.saga_tool.proofs.program.respond_and_show.Goals as goal

pub returns : goal.returns
returns g c =
    IfOk-weaker c.show.result _ _
    (λ status shown. record { response = c.in_ok-response.response; replies = c.in_ok-response.ensures; shown = shown }) c.show.ensures
