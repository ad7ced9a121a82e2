use Rattle.std.proofs.Common.{inl, map}
use Rattle.std.proofs.lemmas.Result.{IfOk-weaker}
use Rattle.saga_tool.specs.Program.{CommandReplies}
use Rattle.saga_tool.proofs.ReplyLemmas.{its_response}
use Rattle.saga_tool.proofs.program.on_words.Goals as goal

pub returns-in-Ok : goal.returns-in-Ok
returns-in-Ok g c =
    let world = g.W.Outside.world c.args.outside.now in
    let found = c.in-Ok.found in
    IfOk-weaker c.settled.result _ _
    (λ response is. inl (record {
      found = found;
      is = c.in-Ok.ensures.command;
      replies = its_response (CommandReplies world found.given found.name (map (λ s. s.now) found.given.files.items)) c.on_command.result response c.on_command.ensures is;
    })) c.settled.ensures
