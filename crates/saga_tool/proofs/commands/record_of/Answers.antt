use Rattle.std.proofs.Common.{◌∙◌, sym}
use Rattle.saga_tool.proofs.ReplyLemmas.{read_file, read_input}
use Rattle.saga_tool.proofs.commands.record_of.Goals as goal

pub returns-then-eq : goal.returns-then-eq
returns-then-eq g c =
    let reads = read_input (g.W.Outside.world c.args.outside.now) c.args.path.now c.input_of.result (sym c.eq.ensures ∙ c.if-eq.true)
    (c.input_of.ensures.text, c.input_of.ensures.stop) in
    record { text = reads.0; stop = reads.1 }

pub returns-else-eq : goal.returns-else-eq
returns-else-eq g c =
    let reads = read_file (g.W.Outside.world c.args.outside.now) c.args.path.now c.text_of.result (sym c.eq.ensures ∙ c.if-eq.false)
    (c.text_of.ensures.text, c.text_of.ensures.stop) in
    record { text = reads.0; stop = reads.1 }
